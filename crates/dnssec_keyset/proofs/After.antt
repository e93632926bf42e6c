-- What an accepted call changes fixes the set afterwards: it is the function of the set before and
-- the call.
use Rattle.dnssec_keyset.specs.Step.{Call, AddKey, DeleteKey, RollDone, Reply, Refused, Step, after}
use Rattle.std.proofs.Common.{◌≡◌, ℕ, List, [], ◌∷◌, map, refl, sym, ap, ◌∙◌, arith, subst}
use Rattle.dnssec_keyset.specs.{Step.after_reply, Step.keys_by, KeySet.KeySetParts}
use Rattle.dnssec_zone.proofs.{Counted.get-with, Counted.get-without, Walks.same_keys}
use Rattle.dnssec_zone.proofs.{Quantified.same_key}
use Rattle.dnssec_zone.specs.Keys.{Keys}
use Rattle.dnssec_keyset.proofs.Changes.{Changes}
use Rattle.std.proofs.lemmas.Iterator.Adapters.{option_map_id}
use Rattle.std.specs.{FinMap.find, FinMap.get, FinMap.entries, FinMap.get-entries}
use Rattle.std.specs.{FinMap.get-from_entries, Option.option_map, Ordering.nat_cmp}
use Rattle.std.specs.{Cmp.Lexicographic.slice_cmp, Cmp.Lexicographic.nat_list_cmp_total}
use Rattle.dnssec_key.specs.Key.{KeyParts}

module _ (f : List ℕ → KeyParts → KeyParts) where
  find-by : (es : List (List ℕ × KeyParts)) (q : List ℕ)
      → find (slice_cmp nat_cmp) q (map (λ (e : List ℕ × KeyParts). (e.0, f e.0 e.1)) es)
      ≡ option_map (f q) (find (slice_cmp nat_cmp) q es)
  find-by [] q = refl
  find-by (e ∷ es) q = grind (arith, same_key q e.0, find-by es q)

  -- a look-up after every key went by f
  pub get-keys_by : (keys : Keys) (q : List ℕ) → get (keys_by f keys) q
      ≡ option_map (f q) (get keys q)
  get-keys_by keys q = get-from_entries nat_list_cmp_total
      (map (λ (e : List ℕ × KeyParts). (e.0, f e.0 e.1)) (entries keys)) q
      ∙ find-by (entries keys) q ∙ ap (option_map (f q)) (sym (get-entries keys q))

-- the set afterwards changes as the call does
pub after-changes : (old : KeySetParts) (call : Call) → Changes old call (after call old)
after-changes old (AddKey r key) =
    record { name = refl; rolls = refl; lists = refl; keys = λ q. get-with old.keys r q key }
after-changes old (DeleteKey r) =
    record { name = refl; rolls = refl; lists = refl; keys = get-without old.keys r }
after-changes old (RollDone roll) =
    record { name = refl; rolls = refl; lists = refl; keys = λ q. sym (option_map_id _) }
after-changes old _ =
    record { name = refl; rolls = refl; lists = refl; keys = get-keys_by _ old.keys }

-- the same of a set that is the one afterwards
pub changed : (old new : KeySetParts) (call : Call) → new ≡ after call old → Changes old call new
changed old new call is = subst (Changes old call) (sym is) (after-changes old call)

-- ---- and the other way: what changes fixes the set

same_set : (a b : KeySetParts) → a.name ≡ b.name → ((q : List ℕ) → get a.keys q ≡ get b.keys q)
    → a.rolls ≡ b.rolls → a.lists ≡ b.lists → a ≡ b
same_set a b name keys rolls lists = λ i. record {
  name = name i;
  keys = same_keys a.keys b.keys keys i;
  rolls = rolls i;
  lists = lists i;
}

fixed : (old a b : KeySetParts) (call : Call) → Changes old call a → Changes old call b → a ≡ b
fixed old a b (AddKey r key) h g = same_set a b (h.name ∙ sym g.name)
    (λ q. h.keys q ∙ sym (g.keys q)) (h.rolls ∙ sym g.rolls) (h.lists ∙ sym g.lists)
fixed old a b _ h g = same_set a b (h.name ∙ sym g.name)
    (λ q. h.keys q ∙ sym (g.keys q)) (h.rolls ∙ sym g.rolls) (h.lists ∙ sym g.lists)

-- the set afterwards
pub changes-after : (old new : KeySetParts) (call : Call) → Changes old call new
    → new ≡ after call old
changes-after old new call h = fixed old new (after call old) call h (after-changes old call)

-- ---- the set after an allowed step

pub step-after : (old new : KeySetParts) (call : Call) (reply : Reply) → Step old call reply new
    → new ≡ after_reply reply call old
step-after old new call (Refused cause) h = h.1
step-after old new call _ h = h.2
