-- By the latest end alone, or by the last of the ends that are counted.
use Rattle.std.proofs.Common.{◌≡◌, rules, subst, true}
use Rattle.std.specs.Prelude.{IfSome, is_some}
use Rattle.dnssec_zone.specs.{Inner.Ends.AreEndsOf, Inner.Reported.over_by, Inner.Reported.moved}
use Rattle.dnssec_zone.proofs.{Ended.ends-changed, Ended.last-latest, Latest.latest-moved}
use Rattle.dnssec_zone.proofs.wait_end.ReportedWait.follow.Goals as goal

pub returns-in-None : goal.returns-in-None
returns-in-None c = λ some k l was now m n r found is old.
    let wait = c.args.self.now in
    let known : is_some (moved c.args.before c.args.after wait.over) ≡ true = search rules in (
      rw c.moved-self.ensures (latest-moved (over_by wait) m n r k l found is c.args.before
          c.args.after wait.over was now known old.0),
      search rules,
    )

pub returns-in-Ok : goal.returns-in-Ok
returns-in-Ok c = λ some k l was now m n r found is old.
    let f = over_by c.args.self.now in
    let counted : AreEndsOf f m c.in-Some.ends =
    subst (λ o. IfSome o (AreEndsOf f m)) c.in-Some.is old.1 in
    let ends = c.exchange.new.self in
    let had = c.in-Ok.ensures.had counted.had in
    let known : AreEndsOf f n ends = ends-changed f m n r k l found is c.in-Some.ends ends had
    (λ end later. rw (was, now) (c.in-Ok.ensures.number end later)) counted in
    (last-latest f n ends known _ (c.last-self.ensures had), known)
