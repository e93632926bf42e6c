-- A refusal, an add, a deletion and a setter of a plain list leave both sides alone.
use Rattle.std.proofs.Common.{◌⊎◌, inl, inr, ◌≡◌, ℕ, suc, Bool, true, false, sym, ◌∙◌, ap, List}
use Rattle.std.proofs.Common.{Option, Some, not, subst, arith}
use Rattle.std.proofs.lemmas.Bool.{cases_Bool, cond_both}
use Rattle.std.specs.{Prelude.if◌then◌else◌, Option.option_map, Str.bytes_eq}
use Rattle.std.specs.Cmp.Lexicographic.{bytes_decides}
use Rattle.dnssec_key.specs.declared.roll.RollType.{RollType}
use Rattle.dnssec_run.specs.{declared.record.Mark.TheVariants.Other, Published.Id, Safe.position_at}
use Rattle.dnssec_run.specs.Safe.{is_step}
use Rattle.dnssec_run.proofs.Chain.Tale.{key_at, Tale, World, Key, found, world_at, stamp_of}
use Rattle.dnssec_run.proofs.Chain.Places.{all_ok, real, NoDs}
use Rattle.dnssec_run.proofs.Chain.Same.{SameKind, SameStamps, AlikeBut, AlikeOn, alike-map}
use Rattle.dnssec_run.proofs.Chain.Same.{found-alike, idle-out}
use Rattle.dnssec_run.proofs.Chain.{Tables.Stamp, Facts.sees, Setters.Harmless, Setters.others-idle}
use Rattle.dnssec_run.proofs.Chain.{Rolls.StageFits, Returns.KeepsLists, Invariant.Gentle}
use Rattle.dnssec_zone.proofs.Flags.{SideOf, affects, Stage, has_role, is_idle}
use Rattle.dnssec_zone.specs.{Lists.Lists, Rolls.phase_of}
use Rattle.dnssec_keyset.proofs.Changes.{PutsKey}

-- ---- one reference

-- no key in use, before and after
abbrev pub BothIdle : Option Key → Option Key → Type 0
BothIdle o u = (all_ok is_idle o ≡ true) × (all_ok is_idle u ≡ true)

-- the same key, except in what no wait reads, or none in use
abbrev pub Alike : Option Key → Option Key → Type 0
Alike = AlikeBut SameStamps is_idle

-- a key in use then was there before
pub was_key : (o u : Option Key) → Alike o u → (j : Key) → u ≡ Some j → is_idle j.keytype ≡ false
    → (k : Key) × (o ≡ Some k) × (k.keytype ≡ j.keytype)
    × ((s : Stamp) → stamp_of s k ≡ stamp_of s j)
was_key o u h j e busy = grind arith

same_key : (o : Option Key) → Alike o o
same_key o = grind arith

-- a key is put in or taken out
pub put_alike : (b : Bool) (o x : Option Key) → (b ≡ true → BothIdle o x)
    → Alike o (if b then x else o)
put_alike b o x h = cond_both b x o (Alike o) (λ t. inr (h t)) (λ t. same_key o)

-- a call that changes only keys of other signers, and what no wait reads
pub map_alike : (f : Key → Key) (o : Option Key) → ((k : Key) → o ≡ Some k → Harmless k (f k))
    → Alike o (option_map f o)
map_alike f o h = grind (arith, others-idle, h)

-- ---- all of them

pub record Kept (w v : World) : Type 0 where
  pub rolls : (q : RollType) → v.roll q ≡ w.roll q
  pub keys : (q : List ℕ) → Alike (w.key q) (v.key q)
  pub added : (q : List ℕ) → (v.added q ≡ w.added q) ⊎ BothIdle (w.key q) (v.key q)

pub founds-kept : (w v : World) → Kept w v → (id : Id) → Alike (found w id) (found v id)
founds-kept w v k id = found-alike SameStamps is_idle w v id (k.added id.0) (k.keys id.0)

-- ---- the calls

module _ (tale : Tale) (n : ℕ) where
  abbrev w : World
  w = world_at tale n

  abbrev v : World
  v = world_at tale (suc n)

  -- a key in no use is put in at a reference, or taken out
  pub kept_put : {r : List ℕ} {x : Option Key} {kept : Lists}
      → PutsKey (real tale n).set (real tale (suc n)).set r x kept → BothIdle (w.key r) x
      → ((q : List ℕ) → bytes_eq r q ≡ false → v.added q ≡ w.added q) → Kept w v
  kept_put {r} {x} h idle added = record {
    rolls = λ q. ap (λ rolls. phase_of rolls q) h.rolls;
    keys = λ q. subst (Alike (w.key q)) (sym (h.keys q))
        (put_alike (bytes_eq r q) (w.key q) x (λ t. (was q t, idle.1)));
    added = λ q. elim (cases_Bool (bytes_eq r q)) [
      | inl t ↦ inr (
        was q t,
        ap (all_ok is_idle) (h.keys q ∙ ap (λ b. if b then x else w.key q) t) ∙ idle.1,
      )
      | inr t ↦ inl (added q t)
    ];
  }
    where
      was : (q : List ℕ) → bytes_eq r q ≡ true → all_ok is_idle (w.key q) ≡ true
      was q t = ap (λ q. all_ok is_idle (w.key q)) (sym ((bytes_decides r q).0 t)) ∙ idle.0

  -- keys change only as far as a setter of a plain list may change them
  pub kept_changed : {f : List ℕ → Key → Key} → ((q : RollType) → v.roll q ≡ w.roll q)
      → ((q : List ℕ) (k : Key) → w.key q ≡ Some k → Harmless k (f q k))
      → ((q : List ℕ) → v.key q ≡ option_map (f q) (w.key q))
      → ((q : List ℕ) → v.added q ≡ w.added q) → Kept w v
  kept_changed {f} rolls h keys added = record {
    rolls = rolls;
    keys = λ q. subst (Alike (w.key q)) (sym (keys q)) (map_alike (f q) (w.key q) (h q));
    added = λ q. inl (added q);
  }

module _ (tale : Tale) (n : ℕ) (k : Kept (world_at tale n) (world_at tale (suc n))) where
  pub kept-on : (sd : SideOf) (id : Id) → AlikeOn sd (key_at tale n id) (key_at tale (suc n) id)
  kept-on sd id = alike-map SameStamps SameKind (λ k j s. s.0) is_idle (λ k. not (sees sd k))
      (λ k. idle-out (has_role sd k) k) (key_at tale n id) (key_at tale (suc n) id)
      (founds-kept (world_at tale n) (world_at tale (suc n)) k id)

  pub gentle-kept : (position_at tale.es (suc n)).mark ≡ Other
      → (NoDs tale n → NoDs tale (suc n)) → ((sd : SideOf) → KeepsLists tale sd n)
      → (sd : SideOf) (st : Stage)
      → ((q : RollType) → affects sd q ≡ true → StageFits st q ((world_at tale n).roll q))
      → Gentle tale sd st n
  gentle-kept mark dead lists sd st rolls = record {
    rolls = λ q own. subst (StageFits st q) (sym (k.rolls q)) (rolls q own);
    keys = kept-on sd;
    no_step = λ q own. ap (is_step q) mark;
    dead = dead;
    lists = lists sd;
  }
