-- What was written in two parts is the status.
use Rattle.std.proofs.Common.{◌≡◌, ◌∙◌, ap, List, map, subst, sym, string_bytes, refl, length}
use Rattle.dnssec_base.specs.NameText.{name_text}
use Rattle.dnssec_keyset.specs.KeySet.{KeySetParts}
use Rattle.dnssec_run.specs.Record.{world_at}
use Rattle.std.specs.Prelude.{IsPermutation}
use Rattle.dnssec_record.specs.Courses.{Listing, listed_by}
use Rattle.dnssec_status.specs.Status.{state_json, status_text, zone_json}
use Rattle.dnssec_run.{specs.InOrder.entry_of, proofs.Recorded.shown-published}
use Rattle.dnssec_status.specs.{Inner.Entries.entry_json, Json.array_json}
use Rattle.dnssec_status.specs.{Keys.key_json, Rolls.AreGoing}
use Rattle.dnssec_status.specs.declared.rolls.RollInProgress.{RollInProgress}
use Rattle.dnssec_status.proofs.{Chains.array_read, Listing.same_entries}
use Rattle.std.specs.FinMap as fin
use Rattle.dnssec_status.proofs.status.Goals as goal

pub returns : goal.returns
unfolding status_text zone_json state_json
returns c name calls entries stands =
    let s = c.args.session.now in
    let set = c.keyset-keyset.ensures in
    let same = stands.follows.records.agrees.same in
    let ended = c.ended_early.ensures name calls entries stands in
    let named : string_bytes c.in_ok-zone.zone ≡ name_text s.zone.recorder.keyset.name =
    c.in_ok-zone.ensures.ok
    ∙ ap name_text (c.name.ensures ∙ ap (λ (k : KeySetParts). k.name) set) in
    let listed : entry_json c.in_ok-listings.listings ≡ entry_json (listed_by calls entries) =
    same_entries _ _ (subst (λ (ls : List Listing). IsPermutation ls c.in_ok-listings.listings)
    (c.listed.ensures name calls entries stands) c.in_ok-listings.ensures) in
    let keys : array_json (entry_json c.in_ok-listings.listings) c.deref.result.now
    ≡ array_json (key_json (listed_by calls entries)) (fin.entries s.zone.recorder.keyset.keys) =
    ap (λ json. array_json json c.deref.result.now) listed
    ∙ array_read entry_of (key_json (listed_by calls entries)) c.deref.result.now
    ∙ ap (array_json (key_json (listed_by calls entries)))
    (ap (map entry_of) c.deref.ensures.value ∙ c.in_ok-keys.ensures
    ∙ ap fin.entries (c.keys.ensures.shown ∙ ap (λ (k : KeySetParts). k.keys) set)) in
    record {
      world = world_at name calls entries (length calls);
      is_world = refl;
      verdict = c.verdict.result;
      is_verdict = c.verdict.ensures name calls entries stands;
      sets = c.in-Ok.sets;
      are_published = shown-published name calls entries s.zone.recorder stands.follows.records
          c.in-Ok.sets c.in-Ok.ensures.ok;
      rolls = c.deref-2.result.now;
      are_rolls = subst (λ (rolls : List RollInProgress).
          AreGoing (world_at name calls entries (length calls)).set rolls)
          (sym c.deref-2.ensures.value)
          (subst (λ (k : KeySetParts). AreGoing k c.in_ok-rolls.rolls.items) (set ∙ same)
          (record { all = c.in_ok-rolls.ensures.all; ends = c.in_ok-rolls.ensures.ends }));
      is_text =
          simp (c.in_ok-push_rest.ensures, c.in_ok-push_zone.ensures, c.new-out.ensures.items)
          (simp (named, keys, ended, same));
    }
