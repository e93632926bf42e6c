-- The state is what is known.
use Rattle.std.proofs.Common.{◌∙◌, ℕ, Option, ap, refl, subst, sym}
use Rattle.std.proofs.lemmas.Result.{IfOk-weaker}
use Rattle.dnssec_run.specs.Record.{world_at}
use Rattle.dnssec_network.specs.{Facts.AreTrue, Notes.NotesParts}
use Rattle.dnssec_policy.specs.{Code.view_of, Next.answer_of, declared.state.State.State}
use Rattle.dnssec_policy.specs.{declared.ttls.HighestTtls.HighestTtls, Ttls.highest_of, Ttls.ttl_in}
use Rattle.dnssec_policy.proofs.automatic.zone.AutomaticZone.next.Goals as goal

pub returns : goal.returns
returns c =
    let state : State = record {
      keyset = c.keyset.result;
      steps = c.steps.result;
      last_waits = c.args.self.now.calls.last_waits;
      by_hand = c.args.self.now.calls.by_hand;
      notes = c.notes.result;
      highest = c.highest.result.now;
      moment = c.args.moment;
    } in
    IfOk-weaker c.next.result _ _ (λ next said name calls entries so high.
    let stands = so.stands in
    record {
      view = view_of state said.0;
      sees = λ network time are. record {
        set = c.keyset.ensures ∙ stands.follows.records.agrees.same
            ∙ ap (λ k. (world_at name calls entries k).set) (sym stands.follows.records.run.count);
        step = λ roll. c.steps.ensures name calls entries stands roll;
        last = so.lasts;
        end = said.1;
        highest = λ kind. ap (λ (h : HighestTtls). ttl_in h kind) c.highest.ensures ∙ high kind
            ∙ ap (λ (n : NotesParts). highest_of n.before n.facts kind) (sym c.notes.ensures);
        are_true = subst (λ (n : NotesParts). AreTrue n.before n.facts network time)
            (sym c.notes.ensures) are;
      };
      now = refl;
      said = ap (λ (at : Option ℕ). answer_of c.args.policy.now at (view_of state said.0))
          (sym so.first)
          ∙ sym said.2;
    }) c.next.ensures
