-- The state is what is known.
use Rattle.dnssec_run.specs.Record.{call_of}
use Rattle.dnssec_policy.{specs.Code.view_of, proofs.ByHand.answered}
use Rattle.dnssec_policy.proofs.laws.answers_are_said.Goals as goal

pub returns : goal.returns
returns c = λ name calls entries network time s end policy call knows says is clock. record {
  policy = policy;
  view = view_of s end;
  at = record {
    set = knows.set;
    step = λ roll. knows.steps roll;
    last = knows.lasts;
    end = says;
    highest = knows.highest;
    are_true = knows.are_true;
  };
  clock = clock;
  said = answered policy s.by_hand.at (view_of s end) (call_of call) is;
}
