-- What to do next, as a line.
use Rattle.std.specs.Prelude.{ℕ, ◌++◌, List, [], ◌∷◌, codes, decimal}
use Rattle.std.specs.List.{flat_map}
use Rattle.dnssec_key.specs.declared.roll.{RollType.RollType, Half.Half}
use Rattle.dnssec_key.specs.declared.roll.Half.TheVariants.{First, Second}
use Rattle.dnssec_key.specs.Texts.{roll_name}
use Rattle.dnssec_keyset.specs.Step as keyset
use Rattle.dnssec_network.specs.Text.{Due.first_second, Lines.kind_name}
use Rattle.dnssec_policy.specs.declared.policy.KeyRole.{KeyRole}
use Rattle.dnssec_policy.specs.declared.policy.KeyRole.TheVariants.{Ksk, Zsk, Csk}
use Rattle.dnssec_policy.specs.{declared.why.Why.Why, Texts.why_text}
use Rattle.dnssec_policy.specs.Todo.{Make, NeedKey, NotBefore, Publish, Rest, Stuck, Todo, Watch}

abbrev pub role_name : KeyRole → List ℕ
role_name Ksk = codes "ksk"
role_name Zsk = codes "zsk"
role_name Csk = codes "csk"

abbrev pub report_name : Half → List ℕ
report_name First = codes "report1 "
report_name Second = codes "report2 "

abbrev pub wait_name : Half → List ℕ
wait_name First = codes "wait1 "
wait_name Second = codes "wait2 "

-- references with commas between them, or `-` for none
abbrev pub list_text : List (List ℕ) → List ℕ
list_text [] = codes "-"
list_text (q ∷ qs) = q ++ flat_map (λ r. codes "," ++ r) qs

abbrev pub start_text : RollType → List (List ℕ) → List (List ℕ) → ℕ → List ℕ
start_text roll old new seconds =
    codes "start " ++ roll_name roll ++ codes " " ++ list_text old ++ codes " " ++ list_text new
    ++ codes " " ++ decimal seconds

-- the line of a script that makes the call at this second since 1970; no other call is ever said
abbrev pub call_line : keyset.Call → ℕ → List ℕ
call_line (keyset.Report roll half ttl t) seconds =
    report_name half ++ roll_name roll ++ codes " " ++ decimal ttl ++ codes " " ++ decimal seconds
call_line (keyset.Wait roll half t) seconds =
    wait_name half ++ roll_name roll ++ codes " " ++ decimal seconds
call_line (keyset.RollDone roll) seconds = codes "done " ++ roll_name roll
call_line (keyset.StartRoll roll old new t) seconds =
    start_text roll old new seconds
call_line (keyset.DeleteKey q) seconds = codes "delete " ++ q
call_line _ seconds = []

-- why nothing is done: something is in the way, or the zone is as the policy wants it
abbrev pub stuck_text : Why → List ℕ
stuck_text why = codes "nothing: " ++ why_text why

abbrev pub wanted_text : List ℕ
wanted_text = codes "nothing: the zone is as the policy wants it"

-- what to do at this second, by a policy of this algorithm
abbrev pub todo_line : ℕ → Todo → ℕ → List ℕ
todo_line algorithm (Make call) seconds = call_line call seconds
todo_line algorithm (Publish kind) seconds = codes "publish " ++ kind_name kind
todo_line algorithm (NeedKey role) seconds =
    codes "key " ++ role_name role ++ codes " " ++ decimal algorithm
todo_line algorithm (Watch kind) seconds = codes "watch " ++ kind_name kind
-- the first second that isn't before the moment
todo_line algorithm (NotBefore moment) seconds = codes "until " ++ decimal (first_second moment)
todo_line algorithm (Stuck why) seconds = stuck_text why
todo_line algorithm Rest seconds = wanted_text
