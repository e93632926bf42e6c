-- A run that goes on call by call: for the zones of scripts and of sessions.
use Rattle.std.proofs.Common.{◌≡◌, ℕ, ◌-◌, List, [], ◌∷◌, ◌++◌, length, map, Option, None}
use Rattle.std.proofs.Common.{Some, refl, sym, ◌∙◌, ap, arith, append_assoc}
use Rattle.std.proofs.Common.{fold, inl, inr}
use Rattle.std.proofs.lemmas.List.{flat_map_more, Folds.flat_map-map, Sums.fold-append}
use Rattle.std.specs.Prelude.{codes, slice_get, string_bytes}
use Rattle.std.specs.{List.flat_map, Option.option_map_or}
use Rattle.std.proofs.lemmas.Option.{slice_get_cases}
use Rattle.dnssec_key.specs.declared.roll.RollType.{RollType}
use Rattle.dnssec_run.specs.Safe.{blank, position_at, position_of}
use Rattle.dnssec_run.specs.declared.{call.Call.Call, record.Entry.Entry, record.Outcome.Outcome}
use Rattle.dnssec_run.specs.declared.record.{Published.Published, PublishedKey.PublishedKey}
use Rattle.dnssec_run.specs.declared.{record.Reply.Reply, running.Recorder.Recorder}
use Rattle.dnssec_run.specs.{Changes.LeadTo, Changes.TellsApart, Changes.add_of, Published.Id}
use Rattle.dnssec_run.specs.Published.{id_of}
use Rattle.dnssec_run.specs.Recorder.{AreShown, Records, SaysOutcome}
use Rattle.dnssec_run.proofs.{Apart.adds-apart, Recorded.last-list}
use Rattle.dnssec_run.proofs.Recorded.{shown-sets}
use Rattle.dnssec_run.specs.declared.lists.Shown.TheVariants as lists
use Rattle.dnssec_judge.specs.Judge.{Knows}
use Rattle.dnssec_script.specs.declared.{lines.Lines.Lines, statement.Statement.Statement}
use Rattle.dnssec_record.proofs.Made.{Finds, HasMade, all_made, one_made}
use Rattle.dnssec_record.specs.Answer.{IsAnswerOf}
use Rattle.dnssec_record.specs.Courses.{Listing, as_listed, ended_after, ended_by, listed_after}
use Rattle.dnssec_record.specs.Courses.{listed_by, turn_after, turn_of, turns}
use Rattle.dnssec_record.specs.Inner.Zone.{Comes, IsZoneAfter, TakesOn}
use Rattle.dnssec_record.specs.Output.{answers, chain_line, published_text, reply_text, set_line}
use Rattle.dnssec_record.specs.Output.{set_text, sets_text}
use Rattle.dnssec_record.specs.Session.{Closes, Follows}
use Rattle.dnssec_record.specs.declared.courses.{Courses.Courses, Turn.Turn}
use Rattle.dnssec_record.specs.declared.{zone.ZoneState.ZoneState}

-- ---- the text of sets says no more than which keys they have

abbrev ids_text : List Id → List ℕ
ids_text [] = codes "-"
ids_text (id ∷ ids) = id.0 ++ flat_map (λ (i : Id). codes "," ++ i.0) ids

abbrev four_text : List Id → List Id → List Id → List Id → List ℕ
four_text ds dnskey signers zone =
    codes "ds=" ++ ids_text ds ++ codes " dnskey=" ++ ids_text dnskey
    ++ codes " signers=" ++ ids_text signers ++ codes " zone=" ++ ids_text zone ++ codes "\n"

of_ids : (keys : List PublishedKey) → set_text keys ≡ ids_text (map id_of keys)
of_ids [] = refl
of_ids (k ∷ ks) =
    ap (λ t. string_bytes k.reference ++ t)
    (sym (flat_map-map (λ (i : Id). codes "," ++ i.0) id_of ks))

by_ids : (p : Published) → published_text p ≡ four_text (map id_of p.ds.items)
    (map id_of p.dnskey.items) (map id_of p.dnskey_signers.items) (map id_of p.zone_signers.items)
by_ids p =
    let ds = of_ids p.ds.items in let dnskey = of_ids p.dnskey.items in
    let signers = of_ids p.dnskey_signers.items in let zone = of_ids p.zone_signers.items in
    λ i. codes "ds=" ++ ds i ++ codes " dnskey=" ++ dnskey i ++ codes " signers=" ++ signers i
    ++ codes " zone=" ++ zone i ++ codes "\n"

-- the line of the sets says which keys the lists of the last position have
line_is : (entries : List Entry) → set_line entries
    ≡ four_text (position_at entries (length entries)).ds
    (position_at entries (length entries)).dnskey (position_at entries (length entries)).signers
    (position_at entries (length entries)).zone
unfolding position_at
line_is [] = refl
line_is (x ∷ xs) = let last : length (x ∷ xs) - 1 ≡ length xs = omega arith in
    elim ((slice_get_cases (x ∷ xs) (length xs)).1) [
      | inl e ↦ ap (λ n. sets_text (slice_get (x ∷ xs) n)) last ∙ ap sets_text e.2
          ∙ by_ids e.0.published ∙ (λ i.
          let p = option_map_or position_of (sym e.2 i) blank in
          four_text p.ds p.dnskey p.signers p.zone)
      | inr e ↦ absurd (omega (arith, e.0))
    ]

-- so the lists that a recorder makes give that line
pub shown_line : (name : List ℕ) (calls : List Call) (entries : List Entry) (r : Recorder)
    → Records name calls entries r → (sets : Published) → AreShown sets r
    → published_text sets ≡ set_line entries
shown_line name calls entries r so sets shown =
    let last = last-list name calls entries r so in
    by_ids sets ∙ (λ i. four_text ((shown.ds ∙ sym (last lists.Ds)) i)
    ((shown.dnskey ∙ sym (last lists.Dnskey)) i)
    ((shown.dnskey_signers ∙ sym (last lists.DnskeySigners)) i)
    ((shown.zone_signers ∙ sym (last lists.ZoneSigners)) i)) ∙ sym (line_is entries)

-- ---- turns

-- one more call makes one more turn
turns_more : (calls : List Call) (entries : List Entry) (call : Call) (e : Entry)
    → length entries ≡ length calls
    → turns (calls ++ call ∷ []) (entries ++ e ∷ [])
    ≡ turns calls entries ++ turn_after (turn_of call) e.reply ∷ []
turns_more [] [] call e same = refl
turns_more (c ∷ cs) (x ∷ xs) call e same =
    ap (λ ts. turn_after (turn_of c) x.reply ∷ ts) (turns_more cs xs call e (omega arith))
turns_more _ _ call e same = absurd (omega arith)

-- what the turns have made, with one more
folded_more : {A : Type 0} (f : A → Turn → A) (none : A) (calls : List Call) (entries : List Entry)
    (call : Call) (e : Entry) → length entries ≡ length calls
    → fold f none (turns (calls ++ call ∷ []) (entries ++ e ∷ []))
    ≡ f (fold f none (turns calls entries)) (turn_after (turn_of call) e.reply)
folded_more f none calls entries call e same =
    ap (fold f none) (turns_more calls entries call e same)
    ∙ fold-append f none (turns calls entries) (turn_after (turn_of call) e.reply ∷ [])

-- ---- calls

-- before the first call nothing is published
pub none_follows : (name : List ℕ) (zone : ZoneState) → Records name [] [] zone.recorder
    → Knows add_of [] zone.judge → zone.courses.listed.items ≡ []
    → zone.courses.ended.items ≡ [] → IsZoneAfter name [] [] zone
none_follows name zone records knows listed ended = record {
  follows = record { records = records; knows = knows };
  listed = ap (map as_listed) listed;
  ended = ended;
}

-- the entry of an outcome, with what is then published
abbrev pub entry_of : Outcome → Published → Entry
entry_of outcome sets = record {
  reply = outcome.reply;
  moment = outcome.moment;
  mark = outcome.mark;
  published = sets;
}

-- after one more call
pub goes_on : (name : List ℕ) (calls : List Call) (entries : List Entry) (old next : ZoneState)
    (call : Call) (outcome : Outcome) → Follows name calls entries old
    → ((name : List ℕ) (calls : List Call) (entries : List Entry) (e : Entry)
    → SaysOutcome e outcome → AreShown e.published next.recorder
    → Records name calls entries old.recorder
    → Records name (calls ++ call ∷ []) (entries ++ e ∷ []) next.recorder
    × LeadTo add_of next.recorder.changes.items (position_at entries (length entries))
    (position_of e))
    → ((entries : List Entry) (e : Entry) → e.mark ≡ outcome.mark → e.moment ≡ outcome.moment
    → LeadTo add_of next.recorder.changes.items (position_at entries (length entries))
    (position_of e)
    → TellsApart add_of (entries ++ e ∷ []) → Knows add_of entries old.judge
    → Knows add_of (entries ++ e ∷ []) next.judge)
    → Comes Follows name calls entries call next outcome.reply
goes_on name calls entries old next call outcome so records judged =
    let sets = shown-sets next.recorder in
    let e = entry_of outcome sets.0 in
    let went = records name calls entries e (record { reply = refl; mark = refl; moment = refl })
    sets.1 so.records in
    record {
      entry = e;
      stands = record {
        records = went.0;
        knows = judged entries e refl refl went.1 (adds-apart went.0.run) so.knows;
      };
      is_reply = refl;
    }

-- and what its rolls listed, by the turn of the call
pub lists_on : {name : List ℕ} {calls : List Call} {entries : List Entry} {old zone : ZoneState}
    (next : ZoneState) {call : Call} {reply : Reply} → IsZoneAfter name calls entries old
    → Comes Follows name calls entries call zone reply → zone.courses ≡ old.courses
    → next.recorder ≡ zone.recorder → next.judge ≡ zone.judge
    → (turn : Turn) → turn ≡ turn_after (turn_of call) reply
    → map as_listed next.courses.listed.items
    ≡ listed_after (map as_listed zone.courses.listed.items) turn
    → next.courses.ended.items ≡ ended_after zone.courses.ended.items turn
    → Comes IsZoneAfter name calls entries call next reply
lists_on {calls = calls} {entries = entries} next {call = call} so came same recorder judge turn is
    listed ended =
    let e = came.entry in let its = is ∙ ap (turn_after (turn_of call)) (sym came.is_reply) in
    record {
      entry = e;
      stands = record {
        follows = record {
          records = rw recorder came.stands.records;
          knows = rw judge came.stands.knows;
        };
        listed = listed
            ∙ ap (λ (cs : Courses). listed_after (map as_listed cs.listed.items) turn) same
            ∙ ap (λ (ls : List Listing). listed_after ls turn) so.listed
            ∙ ap (listed_after (listed_by calls entries)) its
            ∙ sym (folded_more listed_after [] calls entries call e so.follows.records.run.count);
        ended = ended
            ∙ ap (λ (cs : Courses). ended_after cs.ended.items turn) same
            ∙ ap (λ (rs : List RollType). ended_after rs turn) so.ended
            ∙ ap (ended_after (ended_by calls entries)) its
            ∙ sym (folded_more ended_after [] calls entries call e so.follows.records.run.count);
      };
      is_reply = came.is_reply;
    }

-- ---- answers

-- the calls so far have these answers
abbrev pub Answered : List ℕ → ZoneState → List ℕ → List Call → List Entry → Type 0
Answered text zone name calls entries =
    Follows name calls entries zone × (text ≡ answers entries)

-- one more call, of the next line
pub one_more : {script : List ℕ} {old new : Lines} {found : Option Statement} {s : Statement}
    (text after : List ℕ) (zone next : ZoneState) (reply : Reply)
    → HasMade script old (Answered text zone) → Finds old new found → found ≡ Some s
    → TakesOn Follows s zone next reply → after ≡ text ++ reply_text reply ++ codes "\n"
    → HasMade script new (Answered after next)
one_more text after zone next reply h finds some takes wrote =
    let came = takes.comes h.name h.calls h.entries h.so.0 in let e = came.entry in
    let line = λ (e : Entry). reply_text e.reply ++ codes "\n" in
    let more : answers h.entries ++ line e ≡ answers (h.entries ++ e ∷ []) =
    flat_map_more line [] h.entries e in
    let said : after ≡ answers h.entries ++ line e =
    wrote ∙ append_assoc text (reply_text reply) (codes "\n")
    ∙ ap (λ (r : Reply). text ++ (reply_text r ++ codes "\n")) (sym came.is_reply)
    ∙ ap (λ t. t ++ line e) h.so.1 in
    one_made (Answered text zone) (Answered after next) h takes.call (h.entries ++ e ∷ []) finds
    some takes.is_call (came.stands, said ∙ more)

-- all calls of a script, with the sets and the verdict after their answers
pub all_answered : {script : List ℕ} {old : Lines} (new : Lines) {found : Option Statement}
    (text whole : List ℕ) (zone : ZoneState) → HasMade script old (Answered text zone)
    → Finds old new found → found ≡ None
    → ((name : List ℕ) (calls : List Call) (entries : List Entry)
    → Follows name calls entries zone → (closing : List ℕ) × Closes entries closing
    × (whole ≡ text ++ closing))
    → IsAnswerOf script whole
all_answered new text whole zone h finds none closes =
    let end = closes h.name h.calls h.entries h.so.0 in let verdict = end.1.verdict in
    record {
      name = h.name;
      calls = h.calls;
      entries = h.entries;
      verdict = verdict;
      is_script = all_made (Answered text zone) new h finds none;
      is_run = h.so.0.records.run;
      is_verdict = end.1.is_verdict;
      is_output = end.2 ∙ ap (λ t. t ++ end.0) h.so.1
          ∙ ap (λ t. answers h.entries ++ t) end.1.is_closing
          ∙ sym (append_assoc (answers h.entries) (set_line h.entries) (chain_line verdict));
    }
