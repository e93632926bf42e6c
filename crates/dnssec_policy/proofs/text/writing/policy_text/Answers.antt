-- The text that is written is read as the policy.
use Rattle.std.proofs.Common.{ap, rules, string_bytes, ◌≡◌, ◌∙◌}
use Rattle.dnssec_script.specs.Script.{lines_of}
use Rattle.dnssec_policy.specs.Text.{Reading.policy_of, Writing.policy_text}
use Rattle.dnssec_policy.proofs.Texts.Back.{text-back}
use Rattle.dnssec_policy.proofs.text.writing.policy_text.Goals as goal

pub returns-clause-read : goal.returns-clause-read
returns-clause-read c = λ so.
    let is : string_bytes c.push_policy.new.text ≡ policy_text c.args.policy.now = search rules in
    ap (λ t. policy_of (lines_of t)) is ∙ text-back c.args.policy.now so
