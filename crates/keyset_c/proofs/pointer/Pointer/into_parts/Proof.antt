-- `into_parts` puts the allocator beside the pointer again.
use Rattle.std.proofs.Common.{IsSome, List, Option, Some, [], ap, refl, sym, ◌++◌, ◌∙◌, ◌∷◌, ◌≡◌}
use Rattle.std.proofs.alloc.Calls.{Goes-blank, handle_tells}
use Rattle.std.proofs.raw_atomic.Walks.{leaves, proved_at}
use Rattle.std.specs.{Box.Ownership.box_owns, contracts.impls.GlobalAllocator.TheImpl.ghosts}
use Rattle.keyset_c.proofs.Values.{R, Shut, Z, al, both, both_good, one, some_is}
use Rattle.keyset_c.proofs.pointer.Pointer.into_parts.Statement.{statement}
use Rattle.keyset_c.specs.Owned.{chunk, kept_owned}
use Rattle.keyset_c.specs.contracts.pointer.Pointer.into_parts.{Key.name as #self, clauses, ended}
use base.Logic.{SProp, emp, fst∗, never}
use contract.{Monad.fact, Monad.fact_i, Running.tables}
use denote.{Builtin.RawPtr, Exit.yes, Memory.lone, RattleType.Valss, RattleType.owns}
use denote.RawPtr.{Ptr, block_ptr, in_a_block, null_ptr, ptr_val}
use denote.Signature.{plain, types_at}
use denote.{Steps.heard, Steps.nothing, Struct.Owning.shape, Struct.Struct.within}
use denote.Triple.{Entry.alive, Walked.Stays, Walked.stay_dropped, Walked.walk_of}
use mir.{Raw.raw as bare, Syntax.Fn, Val.Val, Val.of_list, Val.vptr, Val.vstruct}
use prog.Wp.{WpFn}
use types.ByLocal.{alloc_all, free_all, get, get_in, look_at, pass_all, sets}
use types.Kit.{ !, by, drop, feq_i, feq_l, fjoin, fpack, fpick, fsplit, keep, move, prop, qed, raw}
use types.Kit.{regoal, rewrite, split, use0, ‵, ◌$◌, ◌∵◌, ◌⊛◌}
use types.{Logic.sem, Part.agg, Part.sub, Part.whole}
use types.Run.{and_then, enter, fld, no_more, of_opd, returns, stop}
use Rattle.keyset_c.specs.contracts.box_parts.BoxParts as parts
use Rattle.keyset_c.proofs.pointer.Pointer.into_parts.Code as compiled

pub into_parts_spec : {M : Type 1} → statement M
into_parts_spec 𝓤 𝓛 𝓜 𝓡 wired =
    let H = 𝓛.H in let En = ended in let c = clauses 𝓛 𝓜.mem 𝓡.returns in
    let fn : Fn = compiled.function in
    let hs : Stays En.signature.params En.kept =
    (stay_dropped (plain (λ _. Shut)) yes, (stay_dropped (plain (λ _. Z)) yes, tt)) in
    let C = (tables 𝓤 H 𝓜 𝓡 𝓡.env).C in let Λ = (tables 𝓤 H 𝓜 𝓡 𝓡.env).Λ in
    proved_at 𝓛 En hs c 𝓜 𝓡 (
      Goes-blank 𝓛 0 (plain (λ _. Shut)) yes (λ κs x f. tt),
      (Goes-blank 𝓛 0 (plain (λ _. Z)) yes (λ κs x f. tt), tt),
    ) #self fn
    (compiled.unfolded 𝓤 H 𝓜 𝓡 wired) (λ z are.
    let Post : Val → SProp 𝓤 = (walk_of 𝓛 En hs c).post z in let a = z.0.3 in let vss = z.0.4 in
    let x = a.0 in let m = a.1.0 in
    qed 𝓛 ((raw (alive 𝓛 En.signature z.0.0 z.0.1)
    ⊛ ‵ (owns (types_at En.signature.params z.0.0) a vss)) ∷ raw (fact 𝓤 (IsSome x.value)) ∷ [])
    ∵ move ! (1 ∷ []) $ heard ! (IsSome x.value) (λ there. split ! $ move ! (1 ∷ []) $
    let found = some_is x.value there in let v = found.0 in
    fsplit ! $ fsplit ! $ fpick ! (λ fields. fsplit ! $ feq_l ! (λ ev. fsplit ! $
    feq_l ! (λ ep. drop ! $
    rewrite ! 0 (λ (y : Option R.Denot). ‵ (kept_owned x.ptr y)) found.1 refl $
    in_a_block ! x.ptr (λ p. box_owns chunk R p v)
    (fst∗ 𝓤 (never 𝓤) (sem 𝓛 (chunk (bare (lone R.mir)) null_ptr))) (λ b o e.
    let ws : vss.0 ≡ one (vptr b o) ∷ [] =
    ev ∙ (λ i. vstruct (of_list ((ep ∙ ap (λ (p : Ptr). ptr_val p ∷ []) e) i ++ [])) ∷ []) in
    move ! (1 ∷ []) $ fsplit ! $
    handle_tells al ! m vss.1.0 (λ h us fits. move ! (2 ∷ 0 ∷ []) $
    regoal ! (λ (us : List Val). prop (WpFn 𝓤 H C Λ fn us Post)) (λ i. ws i ++ (us i ++ [])) refl $
    enter ! C Λ fn (one (vptr b o) ∷ h ∷ []) Post $
    alloc_all ! (λ l. pass_all ! refl ((tt, (tt, tt)), (fits, tt)) $
    sets ! (of_opd ! (get_in ! (fld ! refl (stop !)) (sub ! 0 refl (whole !)))) refl (tt, tt) $
    sets ! (of_opd ! (get ! refl)) refl (tt, tt) $
    sets ! (agg ! (and_then ! (get ! refl) (and_then ! (get ! refl) (no_more !)))) refl
    (both_good b o h fits) $
    returns ! (look_at ! 0 refl) $ free_all ! refl $
    let w : Val = both (vptr b o) h in
    nothing ! $ move ! (2 ∷ 0 ∷ []) $ fjoin ! $
    feq_i ! (List Val) (vptr b o ∷ []) (vptr b o ∷ []) refl $ fjoin ! $
    feq_i ! (List Val) (w ∷ []) (w ∷ []) refl $ fjoin ! $
    fpack ! (Valss (RawPtr ∷ Z ∷ [])) (within (shape (parts.the_type R Z ghosts))
    (block_ptr b o, (m, tt)) (w ∷ [])) (vptr b o ∷ [], (h ∷ [], tt)) $ fjoin ! $
    use0 𝓛 (raw (fact 𝓤 (Some v ≡ x.value)))
    (fact_i 𝓤 (Some v ≡ x.value) (emp 𝓤) (sym found.1)) $ nothing ! $ nothing ! $ nothing ! $
    fjoin ! $ move ! (1 ∷ 0 ∷ []) $ fjoin ! $ keep ! (4 ∷ 0 ∷ 2 ∷ 1 ∷ []) $
    by ! (leaves 𝓛 En hs c z w
    (record { ptr = block_ptr b o; alloc = m; value = v }) (tt, (tt, tt)) (tt, (tt, tt)))))))))))
