-- A zone whose calls are automatic goes on by a call that is said, or by an add; and with one fact
-- more.
use Rattle.std.proofs.Common.{◌≡◌, ◌⊎◌, ℕ, suc, ◌+◌, ◌≤◌, ◌∙◌, ◌++◌, ◌∷◌, List, [], ap, arith}
use Rattle.std.proofs.Common.{filter, inl, inr, length, length-append, map, subst, sym, Bool, true}
use Rattle.std.proofs.Math.Seq.{get_or-append_seam}
use Rattle.std.proofs.lemmas.List.{get_or_append_left, map-append, Elements.filter-append}
use Rattle.dnssec_run.specs.declared.{call.Call.Call, record.Entry.Entry, record.Reply.Reply}
use Rattle.dnssec_run.specs.{Moments.moments_of, Record.call_of, Safe.kind_of}
use Rattle.dnssec_network.specs.Facts.{Before, AreTrue, AreTrueFrom, news_of, same_kind}
use Rattle.dnssec_network.specs.{Network.Network, declared.fact.Fact.Fact}
use Rattle.dnssec_network.proofs.Noted.{true-parts}
use Rattle.dnssec_policy.specs.{declared.policy.Policy.Policy, Automatic.IsSaid, Automatic.is_add}
use Rattle.dnssec_policy.specs.{ByHand.first_by_hand, Todo.Make}
use Rattle.dnssec_policy.proofs.{ByHand.answered, Growing.grows}
use Rattle.dnssec_network.specs.Notes.{NotesParts}
use Rattle.dnssec_policy.specs.Automatic.{Calls.GoesOn, ZoneNotes.HasHighest}
use Rattle.dnssec_policy.specs.declared.automatic.zone_notes.ZoneNotes.{ZoneNotes}
use Rattle.dnssec_policy.specs.Automatic.Zone.{IsAutomaticAfter, IsInTime, IsMade, Says}
use Rattle.dnssec_policy.specs.declared.automatic.zone.AutomaticZone.{AutomaticZone}

-- ---- moments

-- the moments before the last one
in_time-front : (asked : List ℕ) (moment : ℕ) (network : Network)
    → IsInTime (asked ++ moment ∷ []) network → IsInTime asked network
in_time-front asked moment network so n below =
    let long : length (asked ++ moment ∷ []) ≡ length asked + 1 =
    length-append asked (moment ∷ []) in
    subst (λ m. m ≤ network.made (suc n)) (get_or_append_left asked (moment ∷ []) 0 n below)
    (so n (omega arith))

-- and the last one
in_time-last : (asked : List ℕ) (moment n : ℕ) (network : Network) → length asked ≡ n
    → IsInTime (asked ++ moment ∷ []) network → moment ≤ network.made (suc n)
in_time-last asked moment n network is so =
    let long : length (asked ++ moment ∷ []) ≡ length asked + 1 =
    length-append asked (moment ∷ []) in
    subst (λ k. moment ≤ network.made (suc k)) is
    (subst (λ m. m ≤ network.made (suc (length asked))) (get_or-append_seam asked moment [] 0)
    (so (length asked) (omega arith)))

-- ---- one more call

module _ (name : List ℕ) (calls : List Call) (entries : List Entry) (asked : List ℕ) (call : Call)
    (moment : ℕ) (old new : AutomaticZone) (reply : Reply)
    (so : IsAutomaticAfter name calls entries asked old)
    (on : GoesOn name calls entries call new.calls reply)
    (times : new.moments ≡ moments_of (entries ++ on.entry ∷ []))
    (same : new.noted ≡ old.noted) where
  made : ((network : Network) (time : ℕ)
      → AreTrue old.noted.notes.before old.noted.notes.facts network time
      → moment ≤ network.made (suc (length entries))
      → (is_add call ≡ true) ⊎ IsSaid name calls entries network time (length calls) call)
      → IsMade name calls entries asked call moment old new reply
  made said = record {
    entry = on.entry;
    after = record {
      after = on.after;
      moments = times;
      highest = rw same so.highest;
      count = length-append asked (moment ∷ []) ∙ ap (λ n. n + 1) so.count
          ∙ sym (length-append entries (on.entry ∷ []));
      automatic = λ network time are in_time.
          let are' = subst
          (λ (noted : ZoneNotes). AreTrue noted.notes.before noted.notes.facts network time) same
          are in
          grows name calls entries network time call on.entry
          so.after.stands.follows.records.run.count
          (so.automatic network time are' (in_time-front asked moment network in_time))
          (said network time are'
          (in_time-last asked moment (length entries) network so.count in_time));
    };
    is_reply = on.is_reply;
    noted = same;
  }

  pub one-added : is_add call ≡ true → IsMade name calls entries asked call moment old new reply
  one-added is = made (λ network time are clock. inl is)

  pub one-said : (policy : Policy)
      → Says name calls entries policy moment old (Make (call_of call))
      → IsMade name calls entries asked call moment old new reply
  one-said policy says = made (λ network time are clock.
      let count = so.after.stands.follows.records.run.count in
      inr (subst (λ n. IsSaid name calls entries network time n call) count (record {
        policy = policy;
        view = says.view;
        at = says.sees network time are;
        clock = subst (λ m. m ≤ network.made (suc (length entries))) (sym says.now) clock;
        said = answered policy (first_by_hand name calls entries (length entries)) says.view
            (call_of call) says.said;
      })))

-- ---- one more fact

pub fewer-true : (before : Before) (facts more : List Fact) (network : Network) (time : ℕ)
    → AreTrue before (facts ++ more) network time → AreTrue before facts network time
fewer-true before facts more network time are kind =
    let test : Fact → Bool = λ fact. same_kind (kind_of fact.kind) kind in
    let news : news_of kind (facts ++ more) ≡ news_of kind facts ++ news_of kind more =
    ap (map (λ (fact : Fact). fact.news)) (filter-append test facts more)
    ∙ map-append (λ (fact : Fact). fact.news) (filter test facts) (filter test more) in (
      (are kind).0,
      (true-parts network kind time 0 (news_of kind facts) (news_of kind more)
          (subst (AreTrueFrom network kind time 0) news (are kind).1)).0,
    )

pub one-noted : (name : List ℕ) (calls : List Call) (entries : List Entry) (asked : List ℕ)
    (fact : Fact) (old new : AutomaticZone) → IsAutomaticAfter name calls entries asked old
    → new.calls ≡ old.calls → new.moments ≡ old.moments
    → new.noted.notes ≡ record (old.noted.notes) { facts = old.noted.notes.facts ++ fact ∷ [] }
    → (HasHighest old.noted → HasHighest new.noted)
    → IsAutomaticAfter name calls entries asked new
one-noted name calls entries asked fact old new so kept times more highest = record {
  after = rw kept so.after;
  moments = times ∙ so.moments;
  highest = highest so.highest;
  count = so.count;
  automatic = λ network time are.
      so.automatic network time
      (fewer-true old.noted.notes.before old.noted.notes.facts (fact ∷ []) network time
      (subst (λ (notes : NotesParts). AreTrue notes.before notes.facts network time) more are));
}
