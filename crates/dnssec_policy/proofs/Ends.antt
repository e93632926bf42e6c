-- A roll is ended, and a key deleted, once all servers give what the last actions wait for.
use Rattle.std.proofs.Common.{◌≡◌, ℕ, ◌≤◌, ap, arith, inl, inr, subst, sym, false, ◌∙◌}
use Rattle.std.proofs.lemmas.{Bool.and_parts, Option.same_Some}
use Rattle.std.specs.{FinMap.get, Prelude.not}
use Rattle.dnssec_key.specs.{Key.all_states, State.is_stale}
use Rattle.dnssec_keyset.specs.KeySet.{KeySetParts}
use Rattle.dnssec_keyset.specs.Step as keyset
use Rattle.dnssec_run.specs.declared.{caches.SetKind.SetKind}
use Rattle.dnssec_run.specs.{Record.call_of, Safe.kind_of}
use Rattle.dnssec_network.specs.{declared.spread.Reach.TheVariants.Everywhere, Facts.AreTrue}
use Rattle.dnssec_network.specs.Network.{Network, NeverGoesBack}
use Rattle.dnssec_network.{specs.Reach.AllGive, proofs.Reached.all-give}
use Rattle.dnssec_policy.specs.Keys.{is_rolled}
use Rattle.dnssec_policy.specs.Laws.{AutomaticDeletionsFollow, AutomaticEndsFollow}
use Rattle.dnssec_policy.specs.{Next.task_of, Todo.Make, declared.policy.Policy.Policy}
use Rattle.dnssec_policy.specs.View.{View, reach_in}
use Rattle.dnssec_policy.proofs.{May.May, PlainCalls.add-is, Said.may, Said.not-so}

may-as : (policy : Policy) (v : View) (c k : keyset.Call) → task_of policy v ≡ Make c → c ≡ k
    → May policy v k
may-as policy v c k said is = subst (May policy v) is (may policy v c said)

-- what is noted to be there at the moment is there since the call
since-call : (v : View) (network : Network) (time made base : ℕ) (kind : SetKind)
    → AreTrue v.before v.facts network time → v.now ≤ made → reach_in v kind base ≡ Everywhere
    → NeverGoesBack network (kind_of kind) base time
    → AllGive network (kind_of kind) base made time
since-call v network time made base kind are clock there back u t from by given =
    all-give v.before v.facts network time are (kind_of kind) base v.now there back u t
    (omega (arith, clock, from)) by given

pub follows : AutomaticEndsFollow
follows name calls entries network time n call roll kind base auto ci is asks last back =
    elim (auto n call ci) [
      | inl a ↦ let other = sym (add-is call a).2 ∙ is in absurd (cc)
      | inr s ↦
          let v = s.view in
          let m = may-as s.policy v (call_of call) (keyset.RollDone roll) s.said is in
          let at : m.1 ≡ base = same_Some m.1 base (sym m.2 ∙ s.at.last roll ∙ last) in
          let there : reach_in v kind base ≡ Everywhere =
          subst (λ b. reach_in v kind b ≡ Everywhere) at (m.3 kind asks) in
          since-call v network time _ base kind s.at.are_true s.clock there back
    ]

pub leaves : AutomaticDeletionsFollow
leaves name calls entries network time n call q auto ci is =
    elim (auto n call ci) [
      | inl a ↦ let other = sym (add-is call a).2 ∙ is in absurd (cc)
      | inr s ↦
          let v = s.view in
          let m = may-as s.policy v (call_of call) (keyset.DeleteKey q) s.said is in
          let k = m.0 in
          let out : is_rolled v.set.rolls k.keytype ≡ false =
          not-so (is_rolled v.set.rolls k.keytype)
          (and_parts (all_states is_stale k.keytype)
          (not (is_rolled v.set.rolls k.keytype)) m.2).1 in (
            (
              k,
              ap (λ (set : KeySetParts). get set.keys q) (sym s.at.set) ∙ m.1,
              ap (λ (set : KeySetParts). is_rolled set.rolls k.keytype) (sym s.at.set) ∙ out,
            ),
            λ roll kind base asks last back.
                since-call v network time _ base kind s.at.are_true s.clock
                (m.3 roll base (s.at.last roll ∙ last) kind asks) back,
          )
    ]
