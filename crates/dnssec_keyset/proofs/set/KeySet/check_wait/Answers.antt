-- A wait is answered by its end. To keep that changes no key.
use Rattle.std.proofs.Common.{refl, subst, ◌∙◌, arith}
use Rattle.std.specs.Prelude.{IfNone}
use Rattle.dnssec_zone.specs.Wait.{LacksStamp}
use Rattle.dnssec_keyset.proofs.Replies.{end-shown, ttl-shown, left-now}
use Rattle.dnssec_keyset.proofs.set.KeySet.check_wait.Goals as goal

pub returns-then-now-end-clause-reply : goal.returns-then-now-end-clause-reply
returns-then-now-end-clause-reply c =
    let a = c.args in
    let now = c.as_nanos-now.ensures ∙ c.from.ensures in
    let at = end-shown a.half a.rolltype c.self.inside a.self.now c.self.view_is _ _
    c.in-Some.ensures c.in-Some-find_wait.ensures.over in
    rw (at.0, at.1.early a.now.now (omega (arith, now, c.if-now-end.true)))
    (c.left_until.result, refl, c.left_until.ensures ∙ left-now _ _ now)

pub returns-in_default-find_wait-clause-reply : goal.returns-in_default-find_wait-clause-reply
returns-in_default-find_wait-clause-reply c =
    let a = c.args in
    let lacks = subst (λ o. IfNone o (LacksStamp a.rolltype a.half c.in-Some.ttl
    c.self.inside.keys)) c.in_default-find_wait.is c.find_wait.ensures.missing in
    rw (
      ttl-shown a.half a.rolltype c.self.inside a.self.now c.self.view_is _
          c.in-Some.ensures,
      ← c.self.view_is,
      lacks a.now.now,
    ) refl

pub returns-clause-reply : goal.returns-clause-reply
returns-clause-reply c =
    let a = c.args in
    let now = c.as_nanos-now.ensures ∙ c.from.ensures in
    let at = end-shown a.half a.rolltype c.self.inside a.self.now c.self.view_is _ _
    c.in-Some.ensures c.in-Some-find_wait.ensures.over in
    rw (at.0, at.1.over a.now.now (omega (arith, now, c.if-now-end.false))) refl
