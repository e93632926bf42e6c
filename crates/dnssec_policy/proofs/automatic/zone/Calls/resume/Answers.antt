-- Each turn of the loop makes the call of one line.
use Rattle.std.proofs.Common.{◌≡◌, ◌≢◌, ◌++◌, ◌∷◌, [], ℕ, List, Option, Some, subst, sym}
use Rattle.std.proofs.lemmas.List.Elements.{All-nil, All-push}
use Rattle.dnssec_base.specs.declared.error.Error.TheVariants.{OutOfMemory}
use Rattle.dnssec_record.specs.Session.{StandsAfter}
use Rattle.dnssec_run.specs.Moments.{latest_of, moments_of}
use Rattle.dnssec_run.specs.declared.{call.Call.Call, record.Entry.Entry}
use Rattle.dnssec_run.specs.declared.record.Reply.{Reply, TheVariants.Refused}
use Rattle.dnssec_script.specs.declared.{lines.Lines.Lines, statement.Statement.Statement}
use Rattle.dnssec_record.proofs.Made.{Finds, HasMade, all_made, one_made}
use Rattle.dnssec_policy.specs.{Automatic.Calls.Takes, declared.automatic.zone.Calls.Calls}
use Rattle.dnssec_policy.proofs.automatic.zone.Calls.resume.Invariants.{Stand}
use Rattle.dnssec_policy.proofs.automatic.zone.Calls.resume.Goals as goal

-- one more line, whose call isn't refused for lack of memory, and whose moment is added
made_more : {script : List ℕ} {before : Lines} {after : Lines} {found : Option Statement}
    {s : Statement} {old new : Calls} {reply : Reply} {latest : ℕ} (times more : List ℕ)
    (h : HasMade script before (Stand old times))
    → Finds before after found → found ≡ Some s → Takes s old new reply
    → reply ≢ Refused OutOfMemory
    → ((name : List ℕ) (calls : List Call) (entries : List Entry)
    → StandsAfter name calls entries new.session → latest ≡ latest_of entries)
    → ((entries : List Entry) (entry : Entry) → times ≡ moments_of entries
    → latest ≡ latest_of (entries ++ entry ∷ []) → more ≡ moments_of (entries ++ entry ∷ []))
    → HasMade script after (Stand new more)
made_more times more h next some made other last adds =
    let on = made.goes_on h.name h.calls h.entries h.so.0 in
    one_made _ _ h made.call _ next some made.is_call (
      on.after,
      All-push (λ entry. entry.reply ≢ Refused OutOfMemory) h.entries on.entry h.so.1
          (subst (λ reply. reply ≢ Refused OutOfMemory) (sym on.is_reply) other),
      adds h.entries on.entry h.so.2 (last _ _ _ on.after.stands),
    )

pub loop-moments-init : goal.loop-moments-init
loop-moments-init c = record {
  name = c.in_ok-name.name;
  calls = [];
  read = c.in_ok-name.ensures.ok;
  entries = [];
  so = (
    c.in_ok-calls.ensures,
    All-nil (λ entry. entry.reply ≢ Refused OutOfMemory),
    c.new-moments.ensures,
  );
}

pub loop-moments-preserved-in_ok-check_memory : goal.loop-moments-preserved-in_ok-check_memory
loop-moments-preserved-in_ok-check_memory c =
    made_more _ _ c.loop-moments.invariant c.in_ok-statement.ensures.ok c.in-Some.is
    c.in_ok-reply.ensures c.in_ok-check_memory.ensures.ok c.latest.ensures c.in_ok-add.ensures.ok

pub loop-moments-preserved : goal.loop-moments-preserved
loop-moments-preserved c =
    made_more _ _ c.loop-moments.invariant c.in_ok-statement.ensures.ok c.in-Some.is
    c.in_ok-reply.ensures c.in_ok-check_memory.ensures.ok c.latest.ensures c.in_ok-add.ensures.ok

pub returns : goal.returns
returns c =
    let h = c.loop-moments.invariant in record {
      name = h.name;
      calls = h.calls;
      entries = h.entries;
      is_script = all_made _ _ h c.in_ok-statement.ensures.ok c.in_default.is;
      after = h.so.0;
      had_memory = h.so.1;
      moments = h.so.2;
    }
