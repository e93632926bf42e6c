-- What a run of the script promises of the bytes that the vector took, said of the front of `out`.
use Rattle.std.proofs.Common.{Err, List, Some, [], ap, rules, sym, ℕ, ◌++◌, ◌∙◌, ◌≡◌}
use Rattle.std.specs.Io.KnownBytes.{Appends}
use Rattle.keyset_c.proofs.keyset_answer.Goals as goal

-- a vector without bytes took those that are handed out as this text
took : {V : Type 0} (items : V → List ℕ) {before made after vector : V} {bytes text : List ℕ}
    → before ≡ made → items made ≡ [] → bytes ≡ items vector → vector ≡ after → text ≡ bytes
    → Appends (Some (items before)) (Some (items after)) text
took items {text = text} is empty same inner written =
    sym (written ∙ same ∙ ap items inner)
    ∙ ap (λ front. front ++ text) (sym (ap items is ∙ empty))

pub returns-in-Ok-clause-safe : goal.returns-in-Ok-clause-safe
returns-in-Ok-clause-safe c = λ answered a.
    (rw c.new-input.ensures.inner at c.in-Ok.ensures.safe) _ a
    (took (λ v. v.items) c.new-output.ensures.inner c.new.ensures.items c.deref.ensures.value
    c.into_inner.ensures (c.hand_out.ensures.written answered))

pub returns-in-Ok-clause-chain : goal.returns-in-Ok-clause-chain
returns-in-Ok-clause-chain c = λ answered a.
    (rw c.new-input.ensures.inner at c.in-Ok.ensures.chain) _ a
    (took (λ v. v.items) c.new-output.ensures.inner c.new.ensures.items c.deref.ensures.value
    c.into_inner.ensures (c.hand_out.ensures.written answered))

pub returns-in-Err-Malformed-clause-malformed : goal.returns-in-Err-Malformed-clause-malformed
returns-in-Err-Malformed-clause-malformed c = λ _.
    let line = c.in-Err-Malformed.line in
    rw c.new-input.ensures.inner at (c.in-Err-Malformed.ensures.malformed line
    (ap Err c.in-Err-Malformed.field-0-is))

pub returns : goal.returns
returns c = search rules
