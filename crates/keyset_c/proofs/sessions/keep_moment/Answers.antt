-- The moment is that of the last call.
use Rattle.std.proofs.Common.{[], ap, is_some, refl, subst, sym, ◌++◌, ◌∷◌}
use Rattle.std.proofs.lemmas.Result.{on_ok_weaker}
use Rattle.keyset_c.specs.Sessions.{AreOf}
use Rattle.keyset_c.proofs.sessions.keep_moment.Goals as goal

pub returns-in-Some-clause-ok : goal.returns-in-Some-clause-ok
returns-in-Some-clause-ok c = on_ok_weaker c.add.result (λ adds name calls entries entry stands.
    record {
      are = λ was.
          adds entries entry (subst (λ o. AreOf o entries) c.in-Some.is was)
          (c.latest.ensures name calls _ stands);
      still = sym (ap is_some c.in-Some.is);
    }) c.add.ensures.ok

pub returns-in-None-clause-ok : goal.returns-in-None-clause-ok
returns-in-None-clause-ok c = λ name calls entries entry stands.
    record {
      are = λ was. subst (λ o. AreOf o (entries ++ entry ∷ [])) (sym c.in-None.is) tt;
      still = refl;
    }
