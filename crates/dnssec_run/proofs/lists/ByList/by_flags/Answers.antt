use Rattle.std.proofs.Common.{arith}
use Rattle.dnssec_run.proofs.ListBits.{by-flags, or-fits}
use Rattle.dnssec_run.proofs.lists.ByList.by_flags.Goals as goal

pub invariant_of-result : goal.invariant_of-result
invariant_of-result c = grind (arith, or-fits)

pub returns : goal.returns
returns c = by-flags c.args.ds c.args.dnskey c.args.dnskey_signers c.args.zone_signers
