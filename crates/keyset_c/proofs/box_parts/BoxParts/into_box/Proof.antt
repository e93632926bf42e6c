-- `into_box` hands what the parts own to `from_raw`.
use Rattle.std.proofs.BoxSteps.Form.{B, Bx, D, P, R, args, box_ty, box_typed, word}
use Rattle.std.proofs.BoxSteps.Steps.{box_in, box_out}
use Rattle.std.proofs.{alloc.Calls.Goes-blank, raw_atomic.Walks.proved_at}
use Rattle.keyset_c.specs.contracts.box_parts.BoxParts.into_box.Key.{name as #self}
use base.{Fml.flft, Fml.fsep, Fml.ftrue, Logic.SProp, Logic.id⊢}
use contract.{BorrowLft.◌⊑◌, Monad.fact, Running.tables, Running.tables_of}
use denote.{Exit.no, RattleType.RattleType, RawPtr.block_ptr, Signature.plain}
use denote.Steps.{heard, nothing, only}
use denote.Triple.{Call.calls_at_last, Spec.triple_of, Statement.Contract, Statement.Triple}
use denote.Triple.Walked.{Stays, ends_at, says, stay_dropped, walk_of}
use lib.Dec.{T}
use mathlib.Core.List.{List, [], ◌++◌, ◌∷◌}
use mathlib.Core.Path.{ap, refl, subst, sym, ◌≡◌}
use mir.{MapTy.inst_fn, Syntax.Body, Syntax.Fn, Syntax.assign, Syntax.copy, Syntax.place}
use mir.{Syntax.return, Syntax.rv_opd, Syntax.seq, Val.Val, Val.WT, Val.has_ty, Val.vptr}
use prog.Wp.{Tables, WpFn}
use sound.WpLaws.{fm_of}
use types.ByLocal.{alloc_all, env, free_all, get, get_in, lands_last, look_at, pass_all, sets}
use types.Kit.{ !, Item, at_ret, await, done, drop, feq_i, fjoin, fsplit, join, later, move, pick}
use types.Kit.{prop, qed, raw, regoal, rewrite, some, split, split3, suffices, use1, ‵, ◌$◌, ◌∵◌}
use types.{Kit.◌⊛◌, Part.sub, Part.whole}
use types.Run.{and_then, blocks, enter, exec, first, fld, no_more, of_opd, returns, stop}
use Rattle.keyset_c.specs.contracts.box_parts.BoxParts as parts
use Rattle.std.specs.contracts.boxed.Box.from_raw as Fr
use Rattle.std.proofs.boxed.Box.from_raw.Symbol as raw_sym
use Rattle.std.proofs.boxed.Box.from_raw.Met as raw_met
use Rattle.keyset_c.specs.contracts.box_parts.BoxParts.into_box as F
use Rattle.keyset_c.proofs.box_parts.BoxParts.into_box.Statement as stated
use Rattle.keyset_c.proofs.box_parts.BoxParts.into_box.Code as code

abbrev rest : Body
rest = seq (assign (place 0 []) (rv_opd (copy (place 4 [])))) return

pub into_box_spec : {M : Type 1} → stated.statement M
unfolding tables_of
into_box_spec 𝓤 𝓛 𝓜 𝓡 wired X Z LX LZ g d dd allocator md =
    let E : Bx = record {
      row = X;
      laws = LX;
      al = record { row = Z; laws = LZ; g = g; d = d; drops = dd };
    } in
    let H = 𝓛.H in let En = F.ended X Z g d dd in
    let c = F.clauses X Z g d dd 𝓛 𝓜.mem 𝓡.returns in
    let fn : Fn = inst_fn (args E) code.function in
    let From : RattleType = parts.the_row (R E) (P E) g in
    let hs : Stays En.signature.params En.kept = (stay_dropped (plain (λ _. From)) no, tt) in
    let 𝓣 : Tables 𝓤 H = tables_of 𝓤 H 𝓜 (tables 𝓤 H 𝓜 𝓡 𝓡.env) in
    let Shuts : Contract 𝓤 = triple_of 𝓛 (Fr.signature X Z g d dd)
    (Fr.spec X Z g d dd 𝓛 𝓜.mem 𝓡.returns) in
    let kn : Triple 𝓤 (𝓣.C (raw_sym.name (args E))) Shuts = raw_met.met 𝓤 𝓛 𝓜 𝓡
    (code.calls-std_alloc::boxed::Box::from_raw 𝓡.env wired) X Z LX LZ g d dd allocator md in
    proved_at 𝓛 En hs c 𝓜 𝓡 (Goes-blank 𝓛 2 (plain (λ _. From)) no (λ κs x f. tt), tt)
    (#self (args E)) fn (code.unfolded 𝓤 H 𝓜 𝓡 wired (X, (Z, tt)) d dd) (λ z are.
    let κs = z.0.0 in let qs = z.0.1 in let a = z.0.3.0.alloc in let x = z.0.3.0.value in
    let Post : Val → SProp 𝓤 = (walk_of 𝓛 En hs c).post z in
    let v : D E = record { ptr = z.0.3.0.ptr; alloc = a; value = x } in
    let ts : Item 𝓤 = ‵ (flft κs.0 qs.0) ⊛ ‵ (flft κs.1.0 qs.1.0) ⊛ ‵ ftrue in
    let in_x : Item 𝓤 = raw (fact 𝓤 (κs.0 ⊑ E.row.lives)) in
    let in_a : Item 𝓤 = raw (fact 𝓤 (κs.1.0 ⊑ E.al.row.lives)) in
    qed 𝓛 ((ts ⊛ ‵ (fsep ((B E).own_val v z.0.4.0) ftrue)) ∷ (in_x ⊛ in_a ⊛ ‵ ftrue) ∷ [])
    ∵ split ! $ move ! (1 ∷ []) $ fsplit ! $
    box_out E ! v z.0.4.0 (λ b o hv e ws fa. fjoin ! $
    let w = word E hv b o in
    let y : Shuts.Ghost =
    ((κs, qs, tt, (a, (block_ptr b o, tt)), (hv ∷ [], (vptr b o ∷ [], tt))), x) in
    regoal ! (λ (us : List Val). prop (WpFn 𝓤 H 𝓣.C 𝓣.Λ fn us Post)) (λ i. ws i ++ []) refl $
    enter ! 𝓣.C 𝓣.Λ fn (w ∷ []) Post $
    alloc_all ! (λ ls. pass_all ! refl (box_typed E hv b o fa, tt) $
    sets ! (of_opd ! (get_in ! (fld ! refl (stop !)) (sub ! 0 refl (whole !)))) refl (tt, tt) $
    sets ! (of_opd ! (get_in ! (fld ! refl (stop !)) (sub ! 1 refl (whole !)))) refl fa $
    first ! $ blocks ! $ sets ! (of_opd ! (get ! refl)) refl fa $
    move ! (4 ∷ []) $ split3 ! $ move ! (2 ∷ []) $ drop ! $ move ! (1 ∷ 2 ∷ []) $ join ! $
    move ! (1 ∷ 0 ∷ []) $ join ! $
    -- [what it requires; the handle; true; the tokens]
    move ! (2 ∷ []) $ feq_i ! (List Val) (vptr b o ∷ []) (vptr b o ∷ []) refl $ fjoin ! $
    move ! (2 ∷ 0 ∷ []) $ fjoin ! $ move ! (2 ∷ 0 ∷ []) $ join ! $ join ! $
    use1 𝓛 (raw (Shuts.pre y)) (id⊢ 𝓤 _) $
    calls_at_last ! (fm_of 𝓤 H 𝓛.laws 𝓣) Shuts kn y
    (and_then ! (get ! refl) (and_then ! (get ! refl) (no_more !))) (λ u.
    use1 𝓛 (later (some (λ (r : D E). (ts ⊛ ‵ ((B E).own_val r (u ∷ [])))
    ⊛ some (λ (_ : Unit {0} × (Unit {0} × Unit {0})). ‵ (fsep ftrue (fsep ftrue ftrue))
    ⊛ (raw (fact 𝓤 (r.value ≡ x)) ⊛ raw (fact 𝓤 (r.alloc ≡ a))))))) (id⊢ 𝓤 _) $
    await ! tt $ pick ! (λ r. split ! $ move ! (1 ∷ []) $ pick ! (λ _. split3 ! $ drop ! $
    heard ! (r.value ≡ x) (λ same. drop ! $ split ! $ move ! (1 ∷ []) $
    box_out E ! r (u ∷ []) (λ b' o' hw e' wu fw. box_in E ! r b' o' r.value e' refl $
    rewrite ! 0 (λ (us : List Val). ‵ ((B E).own_val r us)) (sym wu) refl $
    let typed : T (has_ty (box_ty E) u) × WT u =
    subst (λ (s : Val). T (has_ty (box_ty E) s) × WT s) (sym (ap only wu))
    (box_typed E hw b' o' fw) in
    lands_last ! refl typed $ exec ! 𝓣.C 𝓣.Λ (env fn.locals ls) rest
    (at_ret (env fn.locals ls) Post) $
    sets ! (of_opd ! (get ! refl)) refl typed $ returns ! (look_at ! 0 refl) $ free_all ! refl $
    suffices ! _ (ends_at 𝓛 En hs c z u r ((tt, (tt, tt)), tt) (tt, tt)) $
    says ! same $
    nothing ! $ nothing ! $ fjoin ! $ join ! $ move ! (1 ∷ 0 ∷ []) $ join ! $ done !))))))))
