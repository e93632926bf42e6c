-- What was found stays the first. Else the next position is as safe as the one before, or there is
-- no DS, or any two sets fit together, or the windows are searched.
use Rattle.dnssec_judge.proofs.Base.{ℕ, ◌∙◌, ◌≡◌, ◌≤◌, ap, AreApart, arith, Bool, Broken, Entry}
use Rattle.dnssec_judge.proofs.Base.{false, is_some, IsVerdictAt, Keys, keys_hold, length, List}
use Rattle.dnssec_judge.proofs.Base.{more, None, Option, or_left, or_right, pairs_hold, refl}
use Rattle.dnssec_judge.proofs.Base.{spans_of, suc, sym, true, Windows, zone_holds}
use Rattle.dnssec_judge.proofs.OneByOne.Kept.{is-none, some-kept, stays-safe, verdict-next}
use Rattle.dnssec_judge.proofs.OneByOne.Pairs.{each, old-fit, pairs-decide}
use Rattle.dnssec_judge.proofs.OneByOne.Spans.{judged, safe}
use Rattle.dnssec_judge.specs.{Inner.Window.Tested, Inner.Windows.Follows, Inner.Windows.KnowsBy}
use Rattle.dnssec_judge.proofs.judging.Windows.go_on.Goals as goal

-- nothing was found yet: the verdict is that at the next position
goes-on : (es : List Entry) (e : Entry) (key : Keys) (old w : Windows) (b : Bool) (tested : ℕ)
    (found : Option Broken) → KnowsBy es key old → Follows (more es e) key w → b ≡ is_some w.found
    → b ≡ false → w.found ≡ old.found → tested ≤ suc (length (more es e))
    → Tested tested w.ds w.dnskey w.zone
    → (w.found ≡ None → IsVerdictAt (more es e) (length (more es e)) found)
    → KnowsBy (more es e) key (record w { tested = tested; found = found })
goes-on es e key old w b tested found h f is isnt same within fit at =
    let none = is-none w.found (sym is ∙ isnt) in record {
      verdict = verdict-next es e found (rw (sym same ∙ none) at h.verdict) (at none);
      follows = record {
        at = f.at;
        steps = f.steps;
        time = f.time;
        fits = f.fits;
        next = f.next;
        within = within;
        ds = f.ds;
        tested = fit;
        dnskey = f.dnskey;
        zone = f.zone;
      };
    }

-- so it is if any two sets fit
fit-on : (es : List Entry) (e : Entry) (key : Keys) (old w : Windows) (b : Bool) (tested : ℕ)
    → KnowsBy es key old → Follows (more es e) key w → b ≡ is_some w.found → b ≡ false
    → w.found ≡ old.found → tested ≤ suc (length (more es e)) → AreApart key
    → pairs_hold keys_hold (spans_of w.ds) (spans_of w.dnskey) ≡ true
    → pairs_hold zone_holds (spans_of w.dnskey) (spans_of w.zone) ≡ true
    → KnowsBy (more es e) key (record w { tested = tested })
fit-on es e key old w b tested h g is isnt same within apart keys zones =
    goes-on es e key old w b tested w.found h g is isnt same within (record {
      keys = λ p q cp cq lt less. (pairs-decide _ _ _).0 keys p q cp cq;
      zones = λ q z cq cz lt less. (pairs-decide _ _ _).0 zones q z cq cz;
    }) (λ none. rw none (safe (more es e) _ (omega arith) key apart w.ds w.dnskey w.zone
    g.ds g.dnskey g.zone true (sym zones) ((each _ (spans_of w.ds)).1 (λ s there. or_right _ _
    ((each _ (spans_of w.ds)).0 keys s there)))))

pub returns-then-is_some : goal.returns-then-is_some
returns-then-is_some c es e key old comes apart taken stays h =
    let f = c.in_ok-follow.ensures in record {
      verdict = rw (f.found, ap (λ (w : Windows). w.found) taken.kept) (some-kept es e old.found
          (ap is_some (ap (λ (w : Windows). w.found) (sym taken.kept)) ∙ ap is_some (sym f.found)
          ∙ sym c.is_some.ensures ∙ c.if-is_some.true) h.verdict);
      follows = f.follows es e key old comes taken h.follows;
    }

pub returns-then-not-is_other : goal.returns-then-not-is_other
returns-then-not-is_other c es e key old comes apart taken stays h =
    let f = c.in_ok-follow.ensures in let g = f.follows es e key old comes taken h.follows in
    let same = f.found ∙ ap (λ (w : Windows). w.found) taken.kept in
    goes-on es e key old c.follow.new.self _ _ _ h g c.is_some.ensures c.if-is_some.false same
    g.within g.tested (λ none. rw none (stays-safe es e (stays c.if-not-is_other.true)
    ((rw (sym same ∙ none) at h.verdict) (length es) (omega arith))))

pub returns-then-are_old-3 : goal.returns-then-are_old-3
returns-then-are_old-3 c es e key old comes apart taken stays h =
    let f = c.in_ok-follow.ensures in let g = f.follows es e key old comes taken h.follows in
    let same = f.found ∙ ap (λ (w : Windows). w.found) taken.kept in let w = c.follow.new.self in
    let ds = c.are_old.ensures c.if-are_old.true g.ds.numbered _ g.ds.spans in
    let zone = c.are_old-then-are_old.ensures c.if-are_old-2.true g.zone.numbered _ g.zone.spans in
    let keys = c.are_old-then-are_old-2.ensures c.if-are_old-3.true g.dnskey.numbered _
    g.dnskey.spans in
    fit-on es e key old w _ _ h g c.is_some.ensures c.if-is_some.false same
    (omega (arith, g.at, c.saturating_add-self.ensures)) apart
    (old-fit _ _ _ _ g.tested.keys ds keys) (old-fit _ _ _ _ g.tested.zones keys zone)

pub returns-then-have_no_keys : goal.returns-then-have_no_keys
returns-then-have_no_keys c es e key old comes apart taken stays h =
    let f = c.in_ok-follow.ensures in let g = f.follows es e key old comes taken h.follows in
    let same = f.found ∙ ap (λ (w : Windows). w.found) taken.kept in let w = c.follow.new.self in
    goes-on es e key old w _ _ _ h g c.is_some.ensures c.if-is_some.false same g.within g.tested
    (λ none. rw none (safe (more es e) _ (omega arith) key apart w.ds w.dnskey w.zone
    g.ds g.dnskey g.zone _ refl ((each _ (spans_of w.ds)).1 (λ s there. or_left _ _
    ((each _ (spans_of w.ds)).0 (sym c.have_no_keys.ensures ∙ c.if-have_no_keys.true) s there)))))

pub returns-then-are_signed : goal.returns-then-are_signed
returns-then-are_signed c es e key old comes apart taken stays h =
    let f = c.in_ok-follow.ensures in let g = f.follows es e key old comes taken h.follows in
    let same = f.found ∙ ap (λ (w : Windows). w.found) taken.kept in let w = c.follow.new.self in
    fit-on es e key old w _ _ h g c.is_some.ensures c.if-is_some.false same
    (omega (arith, g.at, c.saturating_add-self-then-are_signed.ensures)) apart
    (sym (c.new_sets_hold-are_named.ensures g.ds.numbered g.dnskey.numbered _
    g.ds.spans g.dnskey.spans g.tested.keys) ∙ c.if-are_named.true)
    (sym (c.new_sets_hold-are_signed.ensures g.dnskey.numbered g.zone.numbered _
    g.dnskey.spans g.zone.spans g.tested.zones) ∙ c.if-are_signed.true)

pub returns : goal.returns
returns c es e key old comes apart taken stays h =
    let f = c.in_ok-follow.ensures in let g = f.follows es e key old comes taken h.follows in
    let same = f.found ∙ ap (λ (w : Windows). w.found) taken.kept in let w = c.follow.new.self in
    goes-on es e key old w _ _ _ h g c.is_some.ensures c.if-is_some.false same g.within g.tested
    (λ none. rw (c.find_broken-self.ensures, g.at) (judged (more es e) _ (omega arith) key apart
    w.ds w.dnskey w.zone g.ds g.dnskey g.zone c.new_sets_hold-are_signed.result
    (c.new_sets_hold-are_signed.ensures g.dnskey.numbered g.zone.numbered _ g.dnskey.spans
    g.zone.spans g.tested.zones)))
