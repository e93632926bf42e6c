-- The chain of trust, as tests of lists of keys.
use Rattle.std.specs.Prelude.{Bool, true, false, ◌&&◌, List, [], ◌∷◌}
use Rattle.std.specs.List.{list_any}
use Rattle.dnssec_run.specs.{Origins.same_id, Published.Id}

abbrev pub is_in : List Id → Id → Bool
is_in ids k = list_any (λ other. same_id other k) ids

-- a key named by the DS set is in the DNSKEY set and signs it
abbrev pub trusts_keys : List Id → List Id → List Id → Bool
trusts_keys ds dnskey signers = list_any (λ k. is_in dnskey k && is_in signers k) ds

-- a key of the DNSKEY set signs the zone; the signers are few, the set may be large
abbrev pub trusts_zone : List Id → List Id → Bool
trusts_zone dnskey zone = list_any (is_in dnskey) zone

abbrev pub is_none : List Id → Bool
is_none [] = true
is_none (k ∷ ks) = false
