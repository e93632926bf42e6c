-- What statuses mean, as texts.
use Rattle.std.specs.Prelude.{ℕ, List, codes, if◌then◌else◌, ◌==◌}

abbrev pub status_text : ℕ → List ℕ
status_text status =
    if status == 0 then codes "answered" else (
    if status == 1 then codes "malformed" else (
    if status == 3 then codes "out of memory" else (
    if status == 4 then codes "short of room" else (
    if status == 5 then codes "the session is closed" else (
    if status == 6 then codes "the session is open" else (
    if status == 7 then codes "no such call yet" else (
    if status == 8 then codes "seen before it was published" else (
    if status == 9 then codes "moment before the last one" else (
    if status == 10 then codes "refused" else (
    if status == 11 then codes "published before its call" else (
    if status == 12 then codes "out of memory in a call: the session is closed" else (
    if status == 13 then codes "the policy, the script or the notes are refused" else (
    if status == 14 then codes "the session forgoes notes" else (
    codes "no such status"))))))))))))))
