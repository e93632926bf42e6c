-- The texts of causes.
use Rattle.std.specs.Prelude.{ℕ, ◌++◌, List, codes, decimal}
use Rattle.dnssec_key.specs.Texts.{roll_name}
use Rattle.dnssec_policy.specs.declared.why.Why.{Why}
use Rattle.dnssec_policy.specs.declared.why.Why.TheVariants as why

-- why something isn't done that a policy wants
abbrev pub why_text : Why → List ℕ
why_text (why.NoStep roll) = codes "the last step of " ++ (roll_name roll ++ codes " isn't known")
why_text (why.TtlTooLong roll) = roll_name roll ++ codes " has to report a TTL of more than 32 bits"
why_text (why.NoStamp roll) = codes "a key lacks the stamp for the wait of " ++ roll_name roll
why_text (why.PastTime roll) =
    codes "the wait of " ++ (roll_name roll ++ codes " ends after all time")
why_text (why.NoLastWait roll) =
    codes "the second wait of " ++ (roll_name roll ++ codes " isn't known")
why_text (why.Barred roll) = roll_name roll ++ codes " may not begin beside the rolls in progress"
why_text why.OldKeyInUse = codes "a key is on its way out, and no roll takes it out"
why_text (why.ByHand at) = codes "call " ++ (decimal at ++ codes " was made by hand")
