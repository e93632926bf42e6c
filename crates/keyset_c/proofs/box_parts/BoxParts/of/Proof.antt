-- `of` takes the box apart, and the parts own what it owned.
use Rattle.std.proofs.BoxSteps.Form.{B, Bx, D, P, R, box_typed, word, τ}
use Rattle.std.proofs.BoxSteps.Steps.{box_in, box_out}
use Rattle.std.proofs.alloc.Calls.{Goes-blank, handle_tells, token}
use Rattle.std.{proofs.raw_atomic.Walks.proved_at, specs.Box.Ownership.box_owns}
use Rattle.keyset_c.specs.contracts.box_parts.BoxParts.of.Key.{name as #self}
use base.{Fml.flft, Fml.fsep, Fml.ftrue, Logic.SProp, Logic.fst∗, Logic.id⊢, Logic.never}
use contract.{BorrowLft.◌⊑◌, Monad.fact, Running.tables, Running.tables_of}
use denote.{Exit.no, Param.bounded, RattleType.RattleType}
use denote.RawPtr.{Ptr, RawPtr, block_ptr, in_a_block, null_ptr, ptr_val}
use denote.{Signature.plain, Steps.heard, Steps.nothing, Steps.only, Struct.Tuple.Tuple}
use denote.Triple.{Call.calls_at, Spec.triple_of, Statement.Contract, Statement.Triple}
use denote.Triple.Walked.{Stays, ends_at, says, stay_dropped, walk_of}
use mathlib.Core.{List.List, List.[], List.◌++◌, List.◌∷◌, Path.ap, Path.refl, Path.◌∙◌, Path.◌≡◌}
use mir.{MapTy.inst_fn, Raw.raw as bare, Syntax.Args, Syntax.Fn, Syntax.a_type, Syntax.dcons}
use mir.{Syntax.dnil, Val.Val, Val.of_list, Val.vstruct}
use prog.Wp.{Tables, WpFn}
use sound.WpLaws.{fm_of}
use types.ByLocal.{alloc_all, free_all, get, get_in, lands_as, look_at, pass_all, sets}
use types.Kit.{ !, Item, await, done, drop, feq_l, fjoin, fpick, fsplit, join, later, move, pick}
use types.Kit.{prop, qed, raw, regoal, rewrite, some, split, split3, suffices, use1, ‵, ◌$◌, ◌∵◌}
use types.{Kit.◌⊛◌, Logic.sem, Part.agg, Part.sub, Part.whole}
use types.Run.{and_then, enter, fld, no_more, of_opd, returns, stop}
use Rattle.keyset_c.specs.contracts.box_parts.BoxParts as parts
use Rattle.std.specs.contracts.boxed.Box.into_raw_with_allocator as Ra
use Rattle.std.proofs.boxed.Box.into_raw_with_allocator.Symbol as raw_sym
use Rattle.std.proofs.boxed.Box.into_raw_with_allocator.Met as raw_met
use Rattle.keyset_c.specs.contracts.box_parts.BoxParts.of as F
use Rattle.keyset_c.proofs.box_parts.BoxParts.of.Statement as stated
use Rattle.keyset_c.proofs.box_parts.BoxParts.of.Code as code

pub of_spec : {M : Type 1} → stated.statement M
unfolding tables_of
of_spec 𝓤 𝓛 𝓜 𝓡 wired X Z LX LZ g d dd dx allocator md glue =
    let E : Bx = record {
      row = X;
      laws = LX;
      al = record { row = Z; laws = LZ; g = g; d = d; drops = dd };
    } in
    let H = 𝓛.H in let En = F.ended X Z g d dd dx in
    let c = F.clauses X Z g d dd dx 𝓛 𝓜.mem 𝓡.returns in
    let gs : Args = bounded (a_type ∷ a_type ∷ []) (X, (Z, tt))
    (dcons d (dcons dd (dcons dx dnil))) in
    let fn : Fn = inst_fn gs code.function in
    let To : RattleType = parts.the_row (R E) (P E) g in
    let hs : Stays En.signature.params En.kept = (stay_dropped (plain (λ _. B E)) no, tt) in
    let 𝓣 : Tables 𝓤 H = tables_of 𝓤 H 𝓜 (tables 𝓤 H 𝓜 𝓡 𝓡.env) in
    let Opens : Contract 𝓤 = triple_of 𝓛 (Ra.signature X Z g d dd dx)
    (Ra.spec X Z g d dd dx 𝓛 𝓜.mem 𝓡.returns) in
    let kn : Triple 𝓤 (𝓣.C (raw_sym.name gs)) Opens = raw_met.met 𝓤 𝓛 𝓜 𝓡
    (code.calls-std_alloc::boxed::Box::into_raw_with_allocator 𝓡.env wired) X Z LX LZ g d dd dx
    allocator md glue in
    proved_at 𝓛 En hs c 𝓜 𝓡 (Goes-blank 𝓛 2 (plain (λ _. B E)) no (λ κs x f. tt), tt) (#self gs) fn
    (code.unfolded 𝓤 H 𝓜 𝓡 wired (X, (Z, tt)) d dd dx) (λ z are.
    let κs = z.0.0 in let qs = z.0.1 in let v = z.0.3.0 in let a = v.alloc in
    let Post : Val → SProp 𝓤 = (walk_of 𝓛 En hs c).post z in
    let ts : Item 𝓤 = ‵ (flft κs.0 qs.0) ⊛ ‵ (flft κs.1.0 qs.1.0) ⊛ ‵ ftrue in
    let alive : Item 𝓤 = raw (fact 𝓤 (κs.0 ⊑ E.row.lives))
    ⊛ raw (fact 𝓤 (κs.1.0 ⊑ E.al.row.lives)) ⊛ ‵ ftrue in
    qed 𝓛 ((ts ⊛ ‵ (fsep ((B E).own_val v z.0.4.0) ftrue)) ∷ alive ∷ []) ∵ split ! $
    move ! (1 ∷ []) $ fsplit ! $
    box_out E ! v z.0.4.0 (λ b o hv e ws fa. box_in E ! v b o v.value e refl $
    let w = word E hv b o in
    let y : Opens.Ghost = ((κs, qs, tt, (v, tt), (w ∷ [], tt)), tt) in
    regoal ! (λ (us : List Val). prop (WpFn 𝓤 H 𝓣.C 𝓣.Λ fn us Post)) (λ i. ws i ++ []) refl $
    enter ! 𝓣.C 𝓣.Λ fn (w ∷ []) Post $
    alloc_all ! (λ ls. pass_all ! refl (box_typed E hv b o fa, tt) $
    sets ! (of_opd ! (get ! refl)) refl (box_typed E hv b o fa) $
    fjoin ! $ move ! (1 ∷ 0 ∷ []) $ join ! $ join ! $ use1 𝓛 (raw (Opens.pre y)) (id⊢ 𝓤 _) $
    calls_at ! (fm_of 𝓤 H 𝓛.laws 𝓣) Opens kn y (and_then ! (get ! refl) (no_more !)) (λ u.
    use1 𝓛 (later (some (λ (r : Ptr × E.al.row.Denot).
    (ts ⊛ ‵ ((Tuple (RawPtr ∷ P E ∷ [])).own_val r (u ∷ [])))
    ⊛ some (λ (_ : (Unit {0} × (Unit {0} × Unit {0})) × Unit {0}).
    ‵ (fsep (fsep ftrue (fsep ftrue ftrue)) ftrue)
    ⊛ (raw (fact 𝓤 (r.1 ≡ a)) ⊛ ‵ (box_owns (token E.al a) (R E) r.0 v.value)))))) (id⊢ 𝓤 _) $
    await ! tt $ pick ! (λ r. split ! $ move ! (1 ∷ []) $ pick ! (λ _. split3 ! $ drop ! $
    heard ! (r.1 ≡ a) (λ ea.
    in_a_block ! r.0 (λ p. box_owns (token E.al a) (R E) p v.value)
    (fst∗ 𝓤 (never 𝓤) (sem 𝓛 (token E.al a (bare (τ E)) null_ptr))) (λ b' o' e'.
    move ! (1 ∷ []) $ split ! $ move ! (1 ∷ []) $ fpick ! (λ vss. fsplit ! $
    feq_l ! (λ eu. fsplit ! $ feq_l ! (λ ep. fsplit ! $
    rewrite ! 0 (λ (s : E.al.row.Denot). ‵ (E.al.row.own_val s vss.1.0)) ea refl $
    handle_tells E.al ! a vss.1.0 (λ hw eh fw.
    let d : D E = record { ptr = block_ptr b' o'; alloc = a; value = v.value } in
    let made : To.Denot = record { ptr = block_ptr b' o'; alloc = a; value = v.value } in
    lands_as ! (ap only (eu ∙ (λ j. vstruct
    (of_list ((ep ∙ ap (λ (p : Ptr). ptr_val p ∷ []) e') j ++ (eh j ++ []))) ∷ []))) refl
    (box_typed E hw b' o' fw) $
    sets ! (of_opd ! (get_in ! (fld ! refl (stop !)) (sub ! 0 refl (whole !)))) refl (tt, tt) $
    sets ! (of_opd ! (get_in ! (fld ! refl (stop !)) (sub ! 1 refl (whole !)))) refl fw $
    sets ! (of_opd ! (get ! refl)) refl fw $
    sets ! (agg ! (and_then ! (get ! refl) (and_then ! (get ! refl) (no_more !)))) refl
    (box_typed E hw b' o' fw) $ returns ! (look_at ! 0 refl) $ free_all ! refl $
    -- [the handle; true; the tokens; the value with its token]
    move ! (3 ∷ []) $ fsplit ! $ box_in E ! d b' o' v.value refl refl $
    use1 𝓛 (‵ (To.own_val made (word E hw b' o' ∷ []))) (id⊢ 𝓤 _) $ move ! (1 ∷ []) $ drop ! $
    suffices ! _ (ends_at 𝓛 En hs c z (word E hw b' o') made ((tt, (tt, tt)), tt)
    (tt, tt)) $ says ! refl $
    nothing ! $ nothing ! $ fjoin ! $ join ! $ move ! (1 ∷ 0 ∷ []) $ join ! $
    done !))))))))))))
