-- What a start asks of its new keys. Whether a new key serves depends only on its kind.
use Rattle.std.specs.Prelude.{◌≡◌, ℕ, Bool, ◌||◌, ◌&&◌, not, Option, None, Some, List}
use Rattle.std.specs.Prelude.{if◌then◌else◌}
use Rattle.dnssec_base.specs.declared.error.Error.{Error, TheVariants.WrongKeyState}
use Rattle.dnssec_key.specs.Key.{KeyParts, all_states}
use Rattle.dnssec_key.specs.State.{is_fresh}
use Rattle.dnssec_zone.specs.declared.check.NewKeys.{NewKeys}
use Rattle.dnssec_zone.specs.Start.{Want, PresentKsk, KskAtParent, PresentZsk, PresentKskRole}
use Rattle.dnssec_zone.specs.Start.{PresentZskRole, serves_as_new, some_listed}

-- a new key of one of the kinds serves
abbrev pub some_serves : NewKeys → Want → Bool
some_serves keys PresentKsk = keys.ksk
some_serves keys KskAtParent = keys.ksk
some_serves keys PresentZsk = keys.zsk
some_serves keys PresentKskRole = keys.ksk || keys.csk
some_serves keys PresentZskRole = keys.zsk || keys.csk

-- the kinds are those of the listed keys, as far as a start asks
abbrev pub AreOf : (List ℕ → Option KeyParts) → List (List ℕ) → NewKeys → Type 0
AreOf at qs keys = (w : Want) → some_serves keys w ≡ some_listed (serves_as_new w) at qs

-- a new key has to be fresh, and not listed before
abbrev pub freshness_fault : KeyParts → Bool → Option Error
freshness_fault k taken =
    if all_states is_fresh k.keytype && not taken then None else Some WrongKeyState
