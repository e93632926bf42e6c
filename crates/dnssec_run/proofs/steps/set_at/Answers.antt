-- The set of an entry is that of its position.
use Rattle.std.proofs.Common.{◌∙◌, arith, refl}
use Rattle.std.proofs.lemmas.Option.{slice_get_past, slice_get_read}
use Rattle.dnssec_run.specs.Safe.{kind_of}
use Rattle.dnssec_run.proofs.Since.{set-none, set-of, set-past}
use Rattle.dnssec_run.proofs.steps.set_at.Goals as goal

pub returns-in_default : goal.returns-in_default
returns-in_default c =
    set-none c.args.entries.now (kind_of c.args.kind) c.args.position
    (omega (arith, c.in_default.ensures))

pub returns-in-Some-get : goal.returns-in-Some-get
returns-in-Some-get c =
    c.of.ensures
    ∙ set-of c.args.entries.now (kind_of c.args.kind) c.args.position c.in-Some.index
    c.in-Some-get.entry.now (omega (arith, c.in-Some.ensures))
    (let item = c.in-Some-get.ensures.lookup in
    slice_get_read c.args.entries.now _ c.in-Some.index c.in-Some-get.entry.now refl item.3.0
    item.1)

pub returns-in-None : goal.returns-in-None
returns-in-None c =
    set-past c.args.entries.now (kind_of c.args.kind) c.args.position c.in-Some.index
    (omega (arith, c.in-Some.ensures))
    (slice_get_past c.args.entries.now c.in-Some.index (omega (arith, c.in-None.ensures.lookup.3)))
