use Rattle.std.proofs.Common.{rules}
use Rattle.dnssec_key.proofs.setting.Setting.suits.Goals as goal

pub returns-after-matches : goal.returns-after-matches
returns-after-matches c = search rules
