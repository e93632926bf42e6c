-- Each turn of the loop adds the entry of one line.
use Rattle.std.proofs.Common.{List, ◌++◌, ◌∷◌, [], ◌∙◌, ap, subst, sym}
use Rattle.dnssec_run.specs.{Record.world_at, Recorder.Records, declared.record.Entry.Entry}
use Rattle.dnssec_record.proofs.Made.{all_made, fault_made, none_made, one_made}
use Rattle.dnssec_record.proofs.script.record_script.Goals as goal

pub loop-entries-init : goal.loop-entries-init
loop-entries-init c =
    none_made _ _ c.in_ok-name.ensures.ok
    (subst (λ es. Records c.in_ok-name.name [] es c.new-recorder.result)
    (sym c.new-entries.ensures.items) c.new-recorder.ensures)

pub loop-entries-preserved : goal.loop-entries-preserved
loop-entries-preserved c =
    let at = c.loop-entries in let h = at.invariant in let made = c.in-Ok.ensures in
    one_made _ _ h made.call [] c.in_ok-statement.ensures.ok c.in-Some.is made.is_call
    (subst (λ es. Records h.name (h.calls ++ made.call ∷ []) es c.make.new.recorder)
    (sym {A = List Entry} c.in_ok-push.ensures.items)
    (made.records h.name h.calls at.entries.items h.so))

pub returns-clause-ok : goal.returns-clause-ok
returns-clause-ok c =
    let at = c.loop-entries in let h = at.invariant in record {
      name = h.name;
      calls = h.calls;
      is_script = all_made _ _ h c.in_ok-statement.ensures.ok c.in_default.is;
      is_run = h.so.run;
      is_set = c.into_keyset.ensures ∙ h.so.agrees.same
          ∙ ap (λ n. (world_at h.name h.calls at.entries.items n).set) (sym h.so.run.count);
    }

pub returns-in_err-statement-clause-err : goal.returns-in_err-statement-clause-err
returns-in_err-statement-clause-err c =
    fault_made _ _ c.loop-entries.invariant c.from_residual-in_err-statement.result
    c.from_residual-in_err-statement.ensures.1 c.in_err-statement.ensures.err
