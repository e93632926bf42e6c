-- What is so of what a session keeps is so of the session.
use Rattle.std.proofs.Common.{List, Option, Some, string_bytes, ℕ, ◌≡◌}
use Rattle.keyset_c.specs.Answered.{AtLength}
use Rattle.keyset_c.specs.Sessions.{Calls, CallsLine, IfOpen, Keeps}
use Rattle.keyset_c.specs.declared.open_session.OpenSession.{OpenSession}

module _ {old : Option OpenSession} {kept : OpenSession} (is : old ≡ Some kept) where
  pub keeps : {Is : OpenSession → Type 0} → Is kept → Keeps Is old
  keeps so = record { kept = kept; is = is; so = so }

  -- the same under a condition, also of a text of some length
  pub keeps_if : {S : Type 0} {Is : OpenSession → Type 0} → (S → Is kept) → S → Keeps Is old
  keeps_if so s = keeps (so s)

  pub keeps_at : {S : Type 0} {Is : OpenSession → List ℕ → Type 0} {n : ℕ}
      → (S → AtLength (Is kept) n) → S → AtLength (λ text. Keeps (λ it. Is it text) old) n
  keeps_at at s = ((at s).0, keeps (at s).1, (at s).2)

-- what comes of a line for what a session keeps comes of it for the session
module _ {old new : Option OpenSession} {before after : OpenSession} {line : List ℕ}
    (was : old ≡ Some before) (is : new ≡ Some after) where
  pub if_open : {S : Type 0} {Comes : OpenSession → List ℕ → OpenSession → Type 0}
      → (S → Comes before line after) → S → IfOpen Comes old line new
  if_open comes s = record {
    before = before;
    is_before = was;
    after = after;
    is_after = is;
    comes = comes s;
  }

  pub calls : {text : List ℕ} → CallsLine before line after → string_bytes after.answer ≡ text
      → Calls old new line text
  unfolding if_open
  calls comes is_said = record { called = if_open (λ it. it) comes; is_said = is_said }
