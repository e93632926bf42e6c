-- Each turn of the loop makes the call of one line.
use Rattle.std.proofs.Common.{◌≢◌, subst, sym}
use Rattle.std.proofs.lemmas.List.Elements.{All-nil, All-push}
use Rattle.dnssec_base.specs.declared.error.Error.TheVariants.{OutOfMemory}
use Rattle.dnssec_run.specs.declared.record.Reply.TheVariants.{Refused}
use Rattle.dnssec_record.proofs.Made.{all_made, fault_made, memory_made, none_made, one_made}
use Rattle.dnssec_record.proofs.Sessions.{advances}
use Rattle.dnssec_record.proofs.session.Session.resume_with_moments.Goals as goal

pub loop-moments-init : goal.loop-moments-init
loop-moments-init c =
    none_made _ _ c.in_ok-name.ensures.ok (
      c.in_ok-session.ensures,
      All-nil (λ entry. entry.reply ≢ Refused OutOfMemory),
      c.new-moments.ensures,
    )

pub loop-moments-preserved : goal.loop-moments-preserved
loop-moments-preserved c =
    let h = c.loop-moments.invariant in let made = c.in_ok-reply.ensures in
    let next = advances _ (made.comes h.name h.calls h.entries h.so.0) c.fit.ensures in
    one_made _ _ h made.call _ c.in_ok-statement.ensures.ok c.in-Some.is made.is_call (
      next.stands,
      All-push (λ entry. entry.reply ≢ Refused OutOfMemory) h.entries next.entry h.so.1
          (subst (λ reply. reply ≢ Refused OutOfMemory) (sym next.is_reply)
          c.in_ok-check_memory.ensures.ok),
      c.in_ok-add.ensures.ok h.entries next.entry h.so.2
          (c.latest.ensures h.name _ _ next.stands),
    )

pub returns-clause-ok : goal.returns-clause-ok
returns-clause-ok c =
    let h = c.loop-moments.invariant in record {
      resumes = record {
        entries = h.entries;
        stands = record {
          name = h.name;
          calls = h.calls;
          is_script = all_made _ _ h c.in_ok-statement.ensures.ok c.in_default.is;
          stands = h.so.0;
        };
        had_memory = h.so.1;
      };
      moments = h.so.2;
    }

pub returns-in_err-add-clause-err : goal.returns-in_err-add-clause-err
returns-in_err-add-clause-err c =
    memory_made c.loop-moments.invariant _ c.from_residual-in_err-add.ensures.1

pub returns-in_err-reply-clause-err : goal.returns-in_err-reply-clause-err
returns-in_err-reply-clause-err c =
    memory_made c.loop-moments.invariant _ c.from_residual-in_err-reply.ensures.1

pub returns-in_err-check_memory-clause-err : goal.returns-in_err-check_memory-clause-err
returns-in_err-check_memory-clause-err c =
    memory_made c.loop-moments.invariant _ c.from_residual-in_err-check_memory.ensures.1

pub returns-in_err-statement-clause-err : goal.returns-in_err-statement-clause-err
returns-in_err-statement-clause-err c =
    fault_made _ _ c.loop-moments.invariant c.from_residual-in_err-statement.result
    c.from_residual-in_err-statement.ensures.1 c.in_err-statement.ensures.err
