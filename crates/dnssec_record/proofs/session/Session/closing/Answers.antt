-- They are all of the text.
use Rattle.std.proofs.Common.{◌++◌, ◌∙◌, ap, subst, sym}
use Rattle.dnssec_record.specs.Session.{Closes}
use Rattle.dnssec_record.proofs.session.Session.closing.Goals as goal

pub returns : goal.returns
returns c name calls entries so =
    let closed = c.in_ok-push_closing.ensures name calls entries so.follows in
    subst (Closes entries)
    (sym (closed.2 ∙ ap (λ t. t ++ closed.0) c.new-text.ensures.bytes)) closed.1
