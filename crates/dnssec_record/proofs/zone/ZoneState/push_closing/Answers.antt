-- The sets, and then the verdict.
use Rattle.std.proofs.Common.{◌++◌, ◌∙◌, ap, append_assoc, string_bytes}
use Rattle.dnssec_run.specs.Changes.{add_of}
use Rattle.dnssec_record.specs.Output.{chain_line, published_text}
use Rattle.dnssec_record.proofs.Running.{shown_line}
use Rattle.dnssec_record.proofs.zone.ZoneState.push_closing.Goals as goal

pub returns : goal.returns
returns c name calls entries so =
    let old = string_bytes c.args.text.now in let verdict = c.verdict.result in
    let sets = c.in-Ok.published in let line = chain_line verdict in (
      published_text sets ++ line,
      record {
        verdict = verdict;
        is_verdict = c.verdict.ensures add_of entries so.knows;
        is_closing = ap (λ t. t ++ line) (shown_line name calls entries _ so.records sets
            c.in-Ok.ensures.ok);
      },
      c.in_ok-push_chain_line.ensures ∙ ap (λ t. t ++ line) c.in_ok-push_published.ensures
          ∙ append_assoc old (published_text sets) line,
    )
