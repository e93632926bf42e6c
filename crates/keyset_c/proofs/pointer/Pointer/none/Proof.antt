-- `none` keeps nothing, and its pointer is null.
use Rattle.std.proofs.Common.{List, None, Option, [], lit<, refl, ◌∷◌, ◌≡◌}
use Rattle.std.proofs.raw_atomic.Walks.{leaves, proved_at}
use Rattle.keyset_c.proofs.{Values.R, Values.one, pointer.Pointer.none.Statement.statement}
use Rattle.keyset_c.specs.contracts.pointer.Pointer.none.{Key.name as #self, clauses, ended}
use base.{Fml.ftrue, Logic.SProp, Logic.emp}
use contract.{Monad.fact, Monad.fact_i, Running.tables}
use denote.{Builtin.RawPtr, RattleType.Valss, RattleType.owns, RawPtr.null_ptr, RawPtr.ptr_val}
use denote.{Signature.types_at, Steps.nothing, Struct.Owning.shape, Struct.Struct.within}
use denote.Triple.{Entry.alive, Walked.walk_of}
use mir.{Syntax.Fn, Val.Val}
use types.ByLocal.{alloc_all, free_all, look_at, pass_all, sets}
use types.Kit.{ !, by, drop, feq_i, fjoin, fpack, keep, move, qed, raw, split, use0, ‵, ◌$◌, ◌∵◌}
use types.{Kit.◌⊛◌, Part.agg, Run.and_then, Run.enter, Run.lit, Run.no_more, Run.returns}
use Rattle.keyset_c.specs.contracts.pointer.Pointer as pointer
use Rattle.keyset_c.proofs.pointer.Pointer.none.Code as compiled

pub none_spec : {M : Type 1} → statement M
none_spec 𝓤 𝓛 𝓜 𝓡 wired =
    let H = 𝓛.H in let En = ended in let c = clauses 𝓛 𝓜.mem 𝓡.returns in
    let fn : Fn = compiled.function in
    let C = (tables 𝓤 H 𝓜 𝓡 𝓡.env).C in let Λ = (tables 𝓤 H 𝓜 𝓡 𝓡.env).Λ in
    proved_at 𝓛 En tt c 𝓜 𝓡 tt #self fn (compiled.unfolded 𝓤 H 𝓜 𝓡 wired) (λ z are.
    let Post : Val → SProp 𝓤 = (walk_of 𝓛 En tt c).post z in let a = z.0.3 in let vss = z.0.4 in
    let Same : Type 0 = ◌≡◌ {A = Option R.Denot} None None in
    qed 𝓛 ((raw (alive 𝓛 En.signature z.0.0 z.0.1)
    ⊛ ‵ (owns (types_at En.signature.params z.0.0) a vss)) ∷ ‵ ftrue ∷ []) ∵ move ! (1 ∷ []) $
    drop ! $ split ! $
    enter ! C Λ fn [] Post $
    alloc_all ! (λ l. pass_all ! refl tt $
    sets ! (agg ! (and_then ! (lit ! tt) (no_more !))) refl (tt, (record { fits = lit< tt }, tt)) $
    returns ! (look_at ! 0 refl) $ free_all ! refl $
    let v : Val = one (ptr_val null_ptr) in
    nothing ! $ nothing ! $ feq_i ! (List Val) (ptr_val null_ptr ∷ []) (ptr_val null_ptr ∷ [])
    refl $ fjoin ! $ feq_i ! (List Val) (v ∷ []) (v ∷ []) refl $ fjoin ! $
    fpack ! (Valss (RawPtr ∷ [])) (within (shape pointer.the_type) (null_ptr, tt) (v ∷ []))
    (ptr_val null_ptr ∷ [], tt) $ fjoin ! $
    use0 𝓛 (raw (fact 𝓤 Same)) (fact_i 𝓤 Same (emp 𝓤) refl) $ nothing ! $
    keep ! (3 ∷ 0 ∷ 2 ∷ 1 ∷ []) $
    by ! (leaves 𝓛 En tt c z v (record { ptr = null_ptr; value = None }) tt
    tt)))
