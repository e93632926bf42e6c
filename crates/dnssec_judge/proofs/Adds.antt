-- Keys of a run and their numbers.
use Rattle.dnssec_judge.proofs.Base.{ℕ, ◌&&◌, ◌<◌, ◌==◌, ◌∙◌, ◌≡◌, ◌≤◌, add_at, ap, arith, at_list}
use Rattle.dnssec_judge.proofs.Base.{Bool, Change, FEW, get, if◌then◌else◌, IsTable, nat_cmp}
use Rattle.dnssec_judge.proofs.Base.{false, nat_eq, nat_le, nat_tests, None, refl, Shown, Some, sym}
use Rattle.dnssec_judge.proofs.Base.{true}
use Rattle.dnssec_judge.specs.{Adds.Extends, declared.sets.adds.Table.Table}
use Rattle.dnssec_run.specs.Changes.{moves}
use Rattle.std.proofs.lemmas.Option.{none-some, same_Some}

-- a table with the same keys, which are known too
pub table-from : (old new : Table) → ((n : ℕ) → add_at new n ≡ add_at old n)
    → ((n : ℕ) → FEW ≤ n → 0 < add_at old n → get nat_cmp new.by_added (add_at old n) ≡ Some n)
    → IsTable old → IsTable new
table-from old new same known t = record {
  apart = λ m n counts e. t.apart m n (omega (arith, same m, counts)) (sym (same m) ∙ e ∙ same n);
  known = λ n few counts. ap (get nat_cmp new.by_added) (same n)
      ∙ known n few (omega (arith, same n, counts));
}

-- a number that no key had is given to a key that had none
pub grown : (old new : Table) (number added : ℕ) → add_at old number ≡ 0 → add_at new number ≡ added
    → ((n : ℕ) → (n ≡ number → ⊥) → add_at new n ≡ add_at old n)
    → ((at : ℕ) → get nat_cmp new.by_added at
    ≡ (if nat_le FEW number && nat_eq added at then Some number else get nat_cmp old.by_added at))
    → ((n : ℕ) → add_at old n ≡ added → ⊥) → Extends old new
grown old new number added none here others at lacks t = (
  record {
    apart = λ m n counts e.
        grind (arith, others m, others n, lacks m, lacks n, t.apart m n, here, counts, e);
    known = λ n few counts.
        grind (
          arith,
          nat_tests,
          others n,
          at (add_at new n),
          lacks n,
          t.known n,
          here,
          few,
          counts,
        );
  },
  λ n counts. grind (arith, others n, none, counts),
)

-- the number is that of the key which moves
pub moved-bit : (t : Table) → IsTable t → (list : Shown) (c : Change) (number n : ℕ) (was is : Bool)
    → 0 < c.added → add_at t number ≡ c.added → moves list c ≡ true
    → is ≡ (if nat_eq number n then at_list c.shown list else was)
    → is ≡ (if moves list c && (c.added == add_at t n) then at_list c.shown list else was)
moved-bit t table list c number n was is counts at moved e =
    let apart = table.apart number n in grind (arith, nat_tests, apart, counts, at, moved, e)

-- a key that moves comes into a list if the list has it now
pub moves-as : (moves is comes : Bool) → (if moves then Some is else None) ≡ Some comes
    → (moves ≡ true) × (is ≡ comes)
moves-as true is comes e = (refl, same_Some is comes e)
moves-as false is comes e = absurd (none-some comes e)
