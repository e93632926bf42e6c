-- Each piece takes the reader to the next place, or its fault stands first: for `from_str`.
use Rattle.std.proofs.Common.{◌≡◌, List, sym, ap, subst, ◌∙◌, length, arith, ℕ}
use Rattle.std.proofs.lemmas.{List.nil_from_length, Result.err_from_is_err_and}
use Rattle.dnssec_base.specs.Inner.Pieces.{IsPiece}
use Rattle.dnssec_base.specs.declared.name.piece.NamePiece.{NamePiece}
use Rattle.dnssec_base.specs.declared.name.piece.NamePiece.TheVariants.{Dot, Byte}
use Rattle.dnssec_base.proofs.Reading.{reads_start, reads_dot, reads_byte, empty_label, over_limit}
use Rattle.dnssec_base.proofs.Reading.{reads_end}
use Rattle.dnssec_base.proofs.name.read.read.Goals as goal

-- the piece at the front of the text, by what the code found it to be
piece_is : (found piece : NamePiece) (rest text after : List ℕ) → found ≡ piece → rest ≡ text
    → IsPiece found text after
    → IsPiece piece rest after
piece_is found piece rest text after e f is =
    let P : NamePiece → Type 0 = λ p. IsPiece p rest after in
    let Q : List ℕ → Type 0 = λ t. IsPiece found t after in
    subst P e (subst Q (sym f) is)

pub pieces-init : goal.pieces-init
pieces-init c = reads_start _ _ c.new-draft.ensures.labels c.new-draft.ensures.label

pub returns-in-Dot-clause-err : goal.returns-in-Dot-clause-err
returns-in-Dot-clause-err c =
    empty_label _ c.pieces.draft c.pieces.rest.now _ c.requires.other c.pieces.invariant
    (piece_is _ Dot _ _ _ c.in-Dot.is c.in-Some.ensures.cases.0 c.in_ok-piece.ensures.ok)
    (nil_from_length _ (sym c.label_len.ensures ∙ c.if-label_len-eq0.true))

pub returns-in_err-push-in-Byte-clause-err : goal.returns-in_err-push-in-Byte-clause-err
returns-in_err-push-in-Byte-clause-err c =
    let p = err_from_is_err_and c.from_residual-in_err-push-in-Byte.result
    c.from_residual-in_err-push-in-Byte.ensures.1 in
    rw (p.1, p.2) (over_limit _ c.pieces.draft c.pieces.rest.now _ c.in-Byte.byte _
    c.requires.other c.pieces.invariant
    (piece_is _ (Byte c.in-Byte.byte) _ _ _ c.in-Byte.is c.in-Some.ensures.cases.0
    c.in_ok-piece.ensures.ok)
    c.in_err-push-in-Byte.ensures.limit)

pub pieces-preserved-in-Dot-2 : goal.pieces-preserved-in-Dot-2
pieces-preserved-in-Dot-2 c =
    reads_dot _ c.pieces.draft _ _ c.pieces.rest.now c.pieces.invariant
    (piece_is _ Dot _ _ _ c.in-Dot.is c.in-Some.ensures.cases.0 c.in_ok-piece.ensures.ok)
    (λ e. c.if-label_len-eq0.false (c.label_len.ensures ∙ ap length e))
    c.end_label.ensures.labels c.end_label.ensures.label

pub pieces-preserved : goal.pieces-preserved
pieces-preserved c =
    reads_byte _ c.pieces.draft _ c.in-Byte.byte _ c.pieces.rest.now c.pieces.invariant
    (piece_is _ (Byte c.in-Byte.byte) _ _ _ c.in-Byte.is c.in-Some.ensures.cases.0
    c.in_ok-piece.ensures.ok)
    (omega arith) c.in_ok-push-in-Byte.ensures.room c.in_ok-push-in-Byte.ensures.labels
    c.in_ok-push-in-Byte.ensures.label

pub returns-clause-ok : goal.returns-clause-ok
returns-clause-ok c =
    reads_end _ c.pieces.draft c.pieces.rest.now c.requires.some
    (nil_from_length _ c.in_default.ensures.cases) c.pieces.invariant
