-- ASCII is text.
use Rattle.std.proofs.lemmas.Str.{IsUtf8-from_ascii}
use Rattle.dnssec_script.proofs.fields.ascii.Goals as goal

pub from_utf8_unchecked-requires : goal.from_utf8_unchecked-requires
from_utf8_unchecked-requires c = IsUtf8-from_ascii c.args.text.now c.if-not-is_ascii.ensures.cases
