-- What was handed out, or is too long, is the status.
use Rattle.std.proofs.Common.{ap, length, sym, ◌∙◌}
use Rattle.keyset_c.proofs.sessions.say_status.Goals as goal

pub returns-in-Ok-clause-answered : goal.returns-in-Ok-clause-answered
returns-in-Ok-clause-answered c = λ written name calls entries stands.
    rw (c.hand_out.ensures.written written, c.deref.ensures.value)
    (c.in-Ok.ensures name calls entries stands)

pub returns-in-Ok-clause-needed : goal.returns-in-Ok-clause-needed
returns-in-Ok-clause-needed c = λ short. (
  c.in-Ok.text.items,
  c.in-Ok.ensures,
  ap length (sym c.deref.ensures.value) ∙ sym c.hand_out.ensures.length,
)
