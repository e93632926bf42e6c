-- Nothing changes unasked: clauses of `run` on what its replies ask of the operator.
--
-- | Clause    | Law              | Lemma              | Files                                     |
-- |-----------|------------------|--------------------|-------------------------------------------|
-- | `changes` | `ChangesAsAsked` | `changes-as-asked` | Actions, Changes; and `same-shown` of     |
-- |           |                  |                    | `Positions`, beside this folder           |
-- | `retires` | `RetiresAsAsked` | `retires-as-asked` | Actions, Reports                          |
--
-- `Actions` has the finite facts: what each column asks for, and what it changes.
pub mod Actions
pub mod Changes
pub mod Reports
