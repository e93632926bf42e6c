-- The `==` of states and of kinds of keys finds the same, and nothing else.
use Rattle.std.{proofs.Common.◌≡◌, proofs.Common.ap, specs.Bool.Decides, specs.Cmp.booleans_Decides}
use Rattle.std.proofs.lemmas.Bool.{false≢true, Decides.Decides-and, Decides.Decides-like}
use Rattle.dnssec_key.specs.declared.kind.KeyType.TheVariants.{Ksk, Zsk, Csk, Include}
use Rattle.dnssec_key.specs.{State.Flags, Key.first_state, declared.kind.KeyType.KeyType}
use Rattle.dnssec_key.specs.contracts.kind.KeyStatePartialEq.TheImpl as of_states
use Rattle.dnssec_key.specs.contracts.kind.KeyTypePartialEq.TheImpl as of_kinds

-- two states are one if and only if all five flags are
pub alike_states : (s t : Flags) → Decides (of_states.ghosts.eq s t) (s ≡ t)
alike_states s t =
    let flags = Decides-and _ _ (booleans_Decides s.available t.available)
    (Decides-and _ _ (booleans_Decides s.old t.old)
    (Decides-and _ _ (booleans_Decides s.signer t.signer)
    (Decides-and _ _ (booleans_Decides s.present t.present)
    (booleans_Decides s.at_parent t.at_parent)))) in (
      λ h. let e = flags.0 h in λ i. record {
        available = e.0 i;
        old = e.1.0 i;
        signer = e.1.1.0 i;
        present = e.1.1.1.0 i;
        at_parent = e.1.1.1.1 i;
      },
      λ e. flags.1 (cc, (cc, (cc, (cc, cc)))),
    )

-- two keys' kinds are one if and only if the kind and all states are
pub alike_kinds : (k l : KeyType) → Decides (of_kinds.ghosts.eq k l) (k ≡ l)
alike_kinds (Ksk s) (Ksk u) = Decides-like _ (ap Ksk) (ap first_state) (alike_states s u)
alike_kinds (Zsk s) (Zsk u) = Decides-like _ (ap Zsk) (ap first_state) (alike_states s u)
alike_kinds (Csk s t) (Csk u v) =
    Decides-like _ (λ (e : (s ≡ u) × (t ≡ v)). λ i. Csk (e.0 i) (e.1 i))
    (λ e. (cc, cc))
    (Decides-and _ _ (alike_states s u) (alike_states t v))
alike_kinds (Include s) (Include u) =
    Decides-like _ (ap Include) (ap first_state) (alike_states s u)
alike_kinds k l = (λ h. absurd (false≢true h), λ e. absurd (let apart : ⊥ = cc in apart))
