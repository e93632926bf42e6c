-- Each label adds its part of the printed text: for what a name displays.
use Rattle.std.proofs.Common.{true, refl, sym, ◌∙◌, rules}
use Rattle.std.proofs.Output.{has_written_append}
use Rattle.dnssec_base.proofs.PrintedLabels.{first_label, next_label}
use Rattle.dnssec_base.proofs.name.NameVecU8Display.fmt.Goals as goal

pub labels-init : goal.labels-init
labels-init g c =
    let split = first_label c.args.self.now c.in-Some.first.now c.in-Some.rest.now
    c.as_slice.ensures.wire.labels c.in-Some.ensures.label (sym c.as_slice.ensures.bytes
    ∙ c.in-Some.ensures.split) in
    record {
      labels = split.0;
      written = λ plain. (_, c.in_ok-write.ensures.writes plain (refl {a = true}), split.1);
    }

pub labels-preserved : goal.labels-preserved
labels-preserved g c =
    let split = next_label c.labels.rest.now c.in-Some-split_label.label.now
    c.in-Some-split_label.after.now
    c.labels.invariant.labels c.in-Some-split_label.ensures.label
    c.in-Some-split_label.ensures.split in
    record {
      labels = split.0;
      written = λ plain. let before = c.labels.invariant.written plain in
          (_, has_written_append _ _ _ _ _ _ before.1 (search rules), split.1 before.0 ∙ before.2);
    }

pub returns-in_default-clause-writes : goal.returns-in_default-clause-writes
returns-in_default-clause-writes g c = search rules
