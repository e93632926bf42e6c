-- The entries so far are the record of the calls so far, and the list has room for the rest.
use Rattle.std.proofs.Common.{◌≡◌, ◌+◌, ◌≤◌, ◌++◌, length}
use Rattle.std.specs.{Prelude.vec_capacity, Vec.Iter.into_iter_items, Vec.Iter.into_iter_len}
use Rattle.dnssec_run.specs.Recorder.{Records}
use Rattle.dnssec_run.proofs.runs.run.Given as goal

abbrev pub invariant-loop-call : goal.invariant-loop-call
invariant-loop-call l = record {
  left : l.yielded ++ into_iter_items l.call-iterator ≡ into_iter_items l.initial.call-iterator;
  count : into_iter_len l.call-iterator ≡ length (into_iter_items l.call-iterator);
  records : Records l.fn.name l.yielded l.entries.items l.recorder;
  room : length l.yielded + length (into_iter_items l.call-iterator) ≤ vec_capacity l.entries;
}
