-- The machine values of `BoxParts` of a store, and of a `Pointer`. Assumes `Logic`.
use Rattle.std.proofs.Common.{[], refl, ℕ, ◌≡◌}
use Rattle.std.proofs.{ResultValues.and_tt, alloc.Calls.Al, alloc.Calls.Fits}
use Rattle.std.specs.Prelude.{IsSome, None, Option, Some}
use Rattle.std.specs.contracts.impls.GlobalAllocator.TheImpl.{ghosts}
use denote.{Param.layout, RattleType.RattleType}
use lib.Dec.{T}
use mathlib.Core.Bool.{true, ◌&&◌}
use mir.Syntax.{dnil, impl, tnil}
use mir.Val.{Val, WT, has_ty, vcons, vnil, vptr, vstruct}
use Rattle.std.proofs.alloc.Global.TheLaws as heap_laws
use Rattle.std.specs.contracts.alloc.Global as heap
use Rattle.keyset_c.specs.contracts.open_session.OpenSession as store
use Rattle.keyset_c.specs.contracts.box_parts.BoxParts as parts
use Rattle.keyset_c.specs.contracts.pointer.Pointer as pointer

abbrev pub R : RattleType
R = store.the_row

abbrev pub Z : RattleType
Z = heap.the_row

-- the allocator
abbrev pub al : Al
al = record {
  row = Z;
  laws = heap_laws.the_row_laws;
  g = ghosts;
  d = impl [] tnil dnil;
  drops = impl [] tnil dnil;
}

abbrev pub Open : RattleType
Open = parts.the_row R Z ghosts

abbrev pub Shut : RattleType
Shut = pointer.the_row

-- the word of parts, and that of a pointer
abbrev pub both : Val → Val → Val
both v w = vstruct (vcons v (vcons w vnil))

abbrev pub one : Val → Val
one v = vstruct (vcons v vnil)

pub both_good : (b o : ℕ) (h : Val) → Fits al h → T (has_ty (layout Z) h && true)
    × WT (both (vptr b o) h)
both_good b o h fits = (and_tt (has_ty (layout Z) h) fits.0, (tt, (fits.1, tt)))

-- what is there
pub some_is : {A : Type 0} → (o : Option A) → IsSome o → (x : A) × (o ≡ Some x)
some_is None none = cc
some_is (Some x) is = (x, refl)
