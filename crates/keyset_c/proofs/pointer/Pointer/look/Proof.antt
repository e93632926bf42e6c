-- `look` reads the pointer, and lends what it points to: `Pointer` follows that.
use Rattle.std.proofs.Common.{IsSome, List, Option, [], ap, refl, sym, ◌++◌, ◌∙◌, ◌∷◌, ◌≡◌}
use Rattle.std.proofs.Common.{ℕ}
use Rattle.std.proofs.raw_atomic.Walks.{proved}
use Rattle.std.specs.Box.Ownership.{box_owns}
use Rattle.keyset_c.proofs.Values.{R, Shut, one, some_is}
use Rattle.keyset_c.proofs.pointer.Pointer.look.Statement.{statement}
use Rattle.keyset_c.specs.Lent.{with_kept}
use Rattle.keyset_c.specs.Owned.{chunk, kept_owned}
use Rattle.keyset_c.specs.contracts.pointer.Pointer as pointer
use Rattle.keyset_c.specs.contracts.pointer.Pointer.look.{Key.name as #self, clauses, ended}
use Rattle.keyset_c.proofs.pointer.Pointer.look.Code as compiled
use Rattle.keyset_c.specs.declared.pointer.Pointer.{Pointer}
use seplogic.Ra.Ura.{Ura}
use base.Fml.{Fml, GName, Lft, Share, flft, fsep, ftrue}
use base.{Fraction.full_share, Logic.SProp, Logic.ent, Logic.fst∗, Logic.never, Logic.sep}
use contract.{Monad.fact, Running.tables}
use denote.{Builtin.RawPtr, Exit.no, RattleType.Valss, RattleType.owns}
use denote.Memory.{cell_at, lone, mem, part_at, part_of}
use denote.RawPtr.{Ptr, block_ptr, in_a_block, null_ptr, ptr_val}
use denote.Ref.{MutRef, mut_Tells, mut_vals}
use denote.Signature.{mut_ref_to, plain, types_at}
use denote.{Follow.follows, Follow.lends_Part, Struct.Owning.shape, Struct.Struct.within}
use denote.Steps.{heard, nothing, opens}
use denote.Triple.Walked.{Goes-spent_ref, Stays, ends_at, says, stay_dropped, walk_of}
use mir.{Raw.raw as bare, Syntax.Fn, Syntax.named, Val.Val, Val.of_list, Val.vptr, Val.vstruct}
use types.ByLocal.{alloc_all, env, free_all, get, look_at, pass_all, sets, sets_last, through}
use types.Kit.{ !, at_ret, await, done, drop, feq_i, feq_l, fjoin, fpack, fpick, frame, fsplit}
use types.Kit.{fsplit3, group, join, keep, later, move, pick, qed, raw, rewrite, some, split}
use types.Kit.{split3, suffices, use1, ‵, ◌$◌, ◌∵◌, ◌⊛◌}
use types.{Logic.Logic, Logic.sem, Part.look_in, Part.sub, Part.whole}
use types.Run.{addr, blocks, enter, exec, first, fld, load, of_opd, returns, stop}
use Rattle.std.proofs.alloc.Shapes.{after}

-- all of the pointer but what it keeps
abbrev Rest : (b o rb ro : ℕ) → Fml
Rest b o rb ro = fsep (chunk (bare (lone R.mir)) (block_ptr b o))
    (cell_at full_share Shut.mir (one (vptr b o) ∷ []) rb ro)

-- with it and anything else the pointer keeps that
back : {M : Type 1} {𝓤 : Ura M} (𝓛 : Logic 𝓤) (h : Pointer) (b o rb ro : ℕ) → h.ptr ≡ block_ptr b o
    → (w : R.Denot) → ent 𝓤 (sep 𝓤 (sem 𝓛 ((mem R).own_at w b o)) (sem 𝓛 (Rest b o rb ro)))
    (sem 𝓛 ((mem Shut).own_at (with_kept h w) rb ro))
unfolding part_of
back 𝓛 h b o rb ro at_b w =
    let v : Val = one (vptr b o) in
    qed 𝓛 (‵ (part_at R full_share w b o) ∷ ‵ (Rest b o rb ro) ∷ []) ∵
    move ! (1 ∷ []) $ fsplit ! $ move ! (2 ∷ 0 ∷ []) $ fjoin ! $
    rewrite ! 0 (λ (p : Ptr). ‵ (box_owns chunk R p w)) (sym at_b) refl $
    nothing ! $ feq_i ! (List Val) (vptr b o ∷ []) (ptr_val h.ptr ∷ [])
    (ap (λ (p : Ptr). ptr_val p ∷ []) (sym at_b)) $ fjoin ! $
    feq_i ! (List Val) (v ∷ []) (v ∷ []) refl $ fjoin ! $
    fpack ! (Valss (RawPtr ∷ [])) (within (shape pointer.the_type) (h.ptr, tt) (v ∷ []))
    (vptr b o ∷ [], tt) $ fjoin ! $ move ! (1 ∷ 0 ∷ []) $ fjoin ! $
    fpack ! (List Val) (λ us. fsep (cell_at full_share Shut.mir us rb ro)
    (Shut.own_val (with_kept h w) us)) (v ∷ []) $ done !

pub look_spec : {M : Type 1} → statement M
look_spec 𝓤 𝓛 𝓜 𝓡 wired =
    let H = 𝓛.H in let 𝓣 = tables 𝓤 H 𝓜 𝓡 𝓡.env in let En = ended in
    let c = clauses 𝓛 𝓜.mem 𝓡.returns in let fn : Fn = compiled.function in
    let hs : Stays En.signature.params En.kept =
    (stay_dropped (mut_ref_to (0 ∷ []) tt (plain (λ _. Shut))) no, tt) in
    proved 𝓛 En hs c 𝓜 𝓡 (Goes-spent_ref 𝓛 1 (0 ∷ []) tt (plain (λ _. Shut)), tt) #self fn
    (compiled.unfolded 𝓤 H 𝓜 𝓡 wired) (λ κs. (mut_vals, tt))
    (λ κs. (mut_Tells (named 0) κs.0 Shut, tt)) (λ κs qs bounds a gh are.
    let κ : Lft = κs.0 in let q : Share = qs.0 in let rb : ℕ = a.0.ref_ptr.0 in
    let ro : ℕ = a.0.ref_ptr.1 in let γ : GName = a.0.ghost_name in let h : Pointer = a.0.now in
    let y : (walk_of 𝓛 En hs c).Ghost = ((κs, qs, bounds, a, (vptr rb ro ∷ [], tt)), gh) in
    let Post : Val → SProp 𝓤 = (walk_of 𝓛 En hs c).post y in
    qed 𝓛 (((‵ (flft κ q) ⊛ ‵ ftrue) ⊛ ‵ (owns (types_at En.signature.params κs) a y.0.4))
    ∷ raw (fact 𝓤 (IsSome h.value)) ∷ []) ∵
    move ! (1 ∷ []) $ heard ! (IsSome h.value) (λ there.
    let found = some_is h.value there in let v = found.0 in
    split ! $ split ! $
    enter ! 𝓣.C 𝓣.Λ fn (vptr rb ro ∷ []) Post $
    alloc_all ! (λ l. pass_all ! refl ((tt, tt), tt) $ let Ev = env fn.locals l in
    move ! (2 ∷ []) $ fsplit ! $ fsplit3 ! $ drop ! $ move ! (0 ∷ 1 ∷ 3 ∷ []) $
    opens ! tt Shut rb ro (λ vs.
    move ! (1 ∷ []) $ fsplit ! $ fpick ! (λ fields. fsplit ! $ feq_l ! (λ ev. fsplit ! $
    feq_l ! (λ ep. drop ! $
    rewrite ! 0 (λ (o : Option R.Denot). ‵ (kept_owned h.ptr o)) found.1 refl $
    in_a_block ! h.ptr (λ p. box_owns chunk R p v)
    (fst∗ 𝓤 (never 𝓤) (sem 𝓛 (chunk (bare (lone R.mir)) null_ptr))) (λ b o e.
    let ws : vs ≡ one (vptr b o) ∷ [] =
    ev ∙ (λ i. vstruct (of_list ((ep ∙ ap (λ (p : Ptr). ptr_val p ∷ []) e) i ++ [])) ∷ []) in
    -- [what it keeps; the right to free it; the pointer's cell; the open borrow; obs; auth]
    fsplit ! $ rewrite ! 2 (λ (us : List Val). ‵ (cell_at full_share Shut.mir us rb ro)) ws refl $
    first ! $ blocks ! $
    sets ! (of_opd ! (load ! (through ! refl (fld ! refl (stop !)))
    (look_in ! 2 (sub ! 0 refl (whole !))))) refl (tt, tt) $
    sets ! (of_opd ! (get ! refl)) refl (tt, tt) $
    sets_last ! (addr ! (through ! refl (stop !))) refl (tt, tt) $
    exec ! 𝓣.C 𝓣.Λ Ev (after 1 fn.body) (at_ret Ev Post) $
    sets ! (of_opd ! (get ! refl)) refl (tt, tt) $
    move ! (1 ∷ 2 ∷ []) $ fjoin ! $ move ! (2 ∷ 3 ∷ 4 ∷ 1 ∷ 0 ∷ []) $ group ! 5 $
    use1 𝓛 (later (some (λ (δ : GName).
    ‵ ((MutRef (named 0) κ R).own_val (record { ref_ptr = (b, o); ghost_name = δ; now = v })
    (vptr b o ∷ [])) ⊛ ‵ (flft κ q) ⊛ ‵ (follows Shut R γ δ (with_kept h)))))
    (lends_Part 𝓛 Shut R (with_kept h) (named 0) κ q rb ro b o γ (sem 𝓛 (Rest b o rb ro))
    (back 𝓛 h b o rb ro e) (Shut.coded.code h) (Shut.coded.code h) v) $ await ! tt $
    pick ! (λ δ. returns ! (look_at ! 0 refl) $ free_all ! refl $ keep ! (0 ∷ []) $ split3 ! $
    suffices ! _ (ends_at 𝓛 En hs c y (vptr b o)
    (record { ref_ptr = (b, o); ghost_name = δ; now = v }) (tt, tt) (tt, tt)) $
    nothing ! $ nothing ! $ fjoin ! $ join ! $ nothing ! $ move ! (2 ∷ 0 ∷ []) $ join ! $ join ! $
    frame ! $ says ! (sym found.1) $ done !)))))))))
