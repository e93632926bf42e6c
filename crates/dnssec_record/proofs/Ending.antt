-- The output of a plain list ends with the line `chain safe`, for the clauses of `run_script`.
use Rattle.std.proofs.Common.{◌≡◌, ℕ, List, ◌++◌, Option, Some, None, IfSome, refl, sym, ap, ◌∙◌}
use Rattle.std.proofs.Common.{append_assoc}
use Rattle.std.specs.Prelude.{codes, slice_get, length, ◌-◌}
use Rattle.dnssec_run.specs.declared.record.{Entry.Entry, Published.Published}
use Rattle.dnssec_run.proofs.Chain.Trust.{chain-holds}
use Rattle.dnssec_judge.{specs.declared.verdict.Broken.Broken, proofs.Verdicts.Laws.plain-passes}
use Rattle.dnssec_record.specs.Answer.{EndsSafe, IsSafeAnswer}
use Rattle.dnssec_record.specs.Output.{answers, output, published_text, set_line, set_text}
use Rattle.dnssec_record.specs.Output.{sets_text}

-- it ends with a line feed
abbrev IsEnded : List ℕ → Type 0
IsEnded text = (front : List ℕ) × (text ≡ front ++ codes "\n")

published-ended : (p : Published) → IsEnded (published_text p)
published-ended p = (
  codes "ds=" ++ set_text p.ds.items ++ codes " dnskey=" ++ set_text p.dnskey.items
      ++ codes " signers=" ++ set_text p.dnskey_signers.items
      ++ codes " zone=" ++ set_text p.zone_signers.items,
  simp append_assoc,
)

sets-ended : (entry : Option Entry) → IsEnded (sets_text entry)
sets-ended None = (codes "ds=- dnskey=- signers=- zone=-", refl)
sets-ended (Some entry) = published-ended entry.published

ends-safe : (entries : List Entry) (verdict : Option Broken) → verdict ≡ None
    → (front : List ℕ) × (output entries verdict ≡ front ++ codes "\nchain safe\n")
ends-safe entries verdict none =
    let sets : IsEnded (set_line entries) = sets-ended (slice_get entries (length entries - 1)) in
    let said = answers entries in (
      said ++ sets.0,
      ap (output entries) none
          ∙ ap (λ line. said ++ line ++ codes "chain safe\n") sets.1
          ∙ ap (λ t. t ++ codes "chain safe\n") (sym (append_assoc said sets.0 (codes "\n")))
          ∙ append_assoc (said ++ sets.0) (codes "\n") (codes "chain safe\n"),
    )

-- ---- the clauses

pub stays-safe : (left old new : Option (List ℕ))
    → IfSome left (λ script. IsSafeAnswer script old new)
stays-safe None old new = tt
stays-safe (Some script) old new = λ text a taken. chain-holds a.name a.calls a.entries a.is_run

pub last-line-safe : (left old new : Option (List ℕ))
    → IfSome left (λ script. EndsSafe script old new)
last-line-safe None old new = tt
last-line-safe (Some script) old new = λ text a taken plain.
    let none = plain-passes a.name a.calls a.entries (chain-holds a.name a.calls a.entries a.is_run)
    plain a.verdict a.is_verdict in
    let ends = ends-safe a.entries a.verdict none in
    (ends.0, a.is_output ∙ ends.1)
