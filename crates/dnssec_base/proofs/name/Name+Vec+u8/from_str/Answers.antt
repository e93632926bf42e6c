-- What the reader answers is what `from_str` promises of the text, from the empty text on.
use Rattle.std.proofs.Common.{◌≡◌, ◌≢◌, ◌==◌, [], List, false, ℕ, sym, ap, subst, ◌∙◌, length}
use Rattle.std.proofs.Common.{eqb-true, rules}
use Rattle.dnssec_base.specs.Inner.Draft.{IsRead}
use Rattle.dnssec_base.proofs.Reading.{empty_text, read_spells}
use Rattle.dnssec_base.proofs.name.Name+Vec+u8.from_str.Goals as goal

-- a text that is not empty
some_text : (text : List ℕ) → false ≡ (length text == 0) → text ≢ []
some_text text e empty = cc (e, ap (λ t. length t == 0) empty)

pub returns-then-is_empty-clause-fault : goal.returns-then-is_empty-clause-fault
returns-then-is_empty-clause-fault c other = empty_text _ (eqb-true _ 0 (sym c.if-is_empty.ensures))

pub returns-in_err-octets-2-clause-memory : goal.returns-in_err-octets-2-clause-memory
returns-in_err-octets-2-clause-memory c memory =
    (subst (λ text. IsRead text c.in_ok-draft.draft) c.as_bytes.ensures.value
    c.in_ok-draft.ensures.ok).faultless

pub returns-clause-name : goal.returns-clause-name
returns-clause-name c =
    read_spells _ _ c.in_ok-draft.draft (some_text _ c.if-is_empty.ensures)
    (subst (λ text. IsRead text c.in_ok-draft.draft) c.as_bytes.ensures.value
    c.in_ok-draft.ensures.ok)
    (c.in_ok-octets-2.ensures.items ∙ c.finish.ensures)

pub returns-in_err-octets-clause-memory : goal.returns-in_err-octets-clause-memory
returns-in_err-octets-clause-memory c = search rules
