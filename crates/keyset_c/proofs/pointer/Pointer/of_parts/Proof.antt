-- `of_parts` keeps only the pointer: the allocator has no bytes.
use Rattle.std.proofs.Common.{List, Some, [], ap, refl, ◌++◌, ◌∙◌, ◌∷◌, ◌≡◌}
use Rattle.std.proofs.{alloc.Calls.Goes-blank, alloc.Calls.handle_tells, raw_atomic.Walks.leaves}
use Rattle.std.{proofs.raw_atomic.Walks.proved_at, specs.Box.Ownership.box_owns}
use Rattle.keyset_c.proofs.Values.{Open, R, al, both, both_good, one}
use Rattle.keyset_c.{proofs.pointer.Pointer.of_parts.Statement.statement, specs.Owned.chunk}
use Rattle.keyset_c.specs.contracts.pointer.Pointer.of_parts.{Key.name as #self, clauses, ended}
use base.{Fml.ftrue, Logic.SProp, Logic.emp, Logic.fst∗, Logic.never}
use contract.{Monad.fact, Monad.fact_i, Running.tables}
use denote.{Builtin.RawPtr, Exit.yes, Memory.lone, RattleType.Valss, RattleType.owns, RawPtr.Ptr}
use denote.{RawPtr.block_ptr, RawPtr.in_a_block, RawPtr.null_ptr, RawPtr.ptr_val, Signature.plain}
use denote.{Signature.types_at, Steps.nothing, Struct.Owning.shape, Struct.Struct.within}
use denote.Triple.{Entry.alive, Walked.Stays, Walked.stay_dropped, Walked.walk_of}
use mir.{Raw.raw as bare, Syntax.Fn, Val.Val, Val.of_list, Val.vptr, Val.vstruct}
use prog.Wp.{WpFn}
use types.ByLocal.{alloc_all, free_all, get, get_in, look_at, pass_all, sets}
use types.Kit.{ !, by, drop, feq_i, feq_l, fjoin, fpack, fpick, fsplit, keep, move, prop, qed, raw}
use types.Kit.{regoal, split, use0, ‵, ◌$◌, ◌∵◌, ◌⊛◌}
use types.{Logic.sem, Part.agg, Part.sub, Part.whole}
use types.Run.{and_then, enter, fld, no_more, of_opd, returns, stop}
use Rattle.keyset_c.specs.contracts.pointer.Pointer as pointer
use Rattle.keyset_c.proofs.pointer.Pointer.of_parts.Code as compiled

pub of_parts_spec : {M : Type 1} → statement M
of_parts_spec 𝓤 𝓛 𝓜 𝓡 wired =
    let H = 𝓛.H in let En = ended in let c = clauses 𝓛 𝓜.mem 𝓡.returns in
    let fn : Fn = compiled.function in
    let hs : Stays En.signature.params En.kept = (stay_dropped (plain (λ _. Open)) yes, tt) in
    let C = (tables 𝓤 H 𝓜 𝓡 𝓡.env).C in let Λ = (tables 𝓤 H 𝓜 𝓡 𝓡.env).Λ in
    proved_at 𝓛 En hs c 𝓜 𝓡 (Goes-blank 𝓛 0 (plain (λ _. Open)) yes (λ κs x f. tt), tt) #self fn
    (compiled.unfolded 𝓤 H 𝓜 𝓡 wired) (λ z are.
    let Post : Val → SProp 𝓤 = (walk_of 𝓛 En hs c).post z in let a = z.0.3 in let vss = z.0.4 in
    let x = a.0 in
    qed 𝓛 ((raw (alive 𝓛 En.signature z.0.0 z.0.1)
    ⊛ ‵ (owns (types_at En.signature.params z.0.0) a vss)) ∷ ‵ ftrue ∷ []) ∵ move ! (1 ∷ []) $
    drop ! $ split ! $ move ! (1 ∷ []) $
    fsplit ! $ fsplit ! $ fpick ! (λ fields. fsplit ! $ feq_l ! (λ ev. fsplit ! $
    feq_l ! (λ ep. fsplit ! $ handle_tells al ! x.alloc fields.1.0 (λ h ea fits.
    move ! (1 ∷ []) $ drop ! $ move ! (1 ∷ []) $
    in_a_block ! x.ptr (λ p. box_owns chunk R p x.value)
    (fst∗ 𝓤 (never 𝓤) (sem 𝓛 (chunk (bare (lone R.mir)) null_ptr))) (λ b o e.
    let ws : vss.0 ≡ both (vptr b o) h ∷ [] =
    ev ∙ (λ i. vstruct (of_list ((ep ∙ ap (λ (p : Ptr). ptr_val p ∷ []) e) i
    ++ (ea i ++ []))) ∷ []) in
    move ! (1 ∷ []) $ drop ! $
    regoal ! (λ (us : List Val). prop (WpFn 𝓤 H C Λ fn us Post)) (λ i. ws i ++ []) refl $
    enter ! C Λ fn (both (vptr b o) h ∷ []) Post $
    alloc_all ! (λ l. pass_all ! refl (both_good b o h fits, tt) $
    sets ! (of_opd ! (get_in ! (fld ! refl (stop !)) (sub ! 0 refl (whole !)))) refl (tt, tt) $
    sets ! (of_opd ! (get ! refl)) refl (tt, tt) $
    sets ! (agg ! (and_then ! (get ! refl) (no_more !))) refl (tt, (tt, tt)) $
    returns ! (look_at ! 0 refl) $ free_all ! refl $
    let v : Val = one (vptr b o) in
    nothing ! $ feq_i ! (List Val) (vptr b o ∷ []) (vptr b o ∷ []) refl $ fjoin ! $
    feq_i ! (List Val) (v ∷ []) (v ∷ []) refl $ fjoin ! $
    fpack ! (Valss (RawPtr ∷ [])) (within (shape pointer.the_type) (block_ptr b o, tt) (v ∷ []))
    (vptr b o ∷ [], tt) $ fjoin ! $ use0 𝓛 (raw (fact 𝓤 (Some x.value ≡ Some x.value)))
    (fact_i 𝓤 (Some x.value ≡ Some x.value) (emp 𝓤) refl) $ nothing ! $ nothing ! $ fjoin ! $
    keep ! (4 ∷ 0 ∷ 2 ∷ 1 ∷ []) $
    by ! (leaves 𝓛 En hs c z v (record { ptr = block_ptr b o; value = Some x.value })
    (tt, tt) (tt, tt)))))))))
