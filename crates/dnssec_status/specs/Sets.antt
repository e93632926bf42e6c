-- The verdict and the published sets of a status.
use Rattle.std.specs.Prelude.{ℕ, List, ◌++◌, Option, Some, None, codes, decimal, string_bytes}
use Rattle.dnssec_run.specs.declared.record.Published.{Published}
use Rattle.dnssec_run.specs.declared.record.PublishedKey.{PublishedKey}
use Rattle.dnssec_judge.specs.declared.verdict.Broken.{Broken}
use Rattle.dnssec_status.specs.Json.{array_json, text_json}

-- the verdict, with the positions of the first sets without a chain
unfoldable pub chain_json : Option Broken → List ℕ
chain_json None = codes "{\"safe\":true,\"at\":null,\"ds\":null,\"dnskey\":null,\"zone\":null}"
chain_json (Some b) =
    codes "{\"safe\":false,\"at\":" ++ decimal b.at ++ codes ",\"ds\":" ++ decimal b.ds
    ++ codes ",\"dnskey\":" ++ decimal b.dnskey ++ codes ",\"zone\":" ++ decimal b.zone
    ++ codes "}"

-- a key of a set, by its reference
abbrev pub published_json : PublishedKey → List ℕ
published_json k = text_json (string_bytes k.reference)

-- the four sets
unfoldable pub sets_json : Published → List ℕ
sets_json p =
    codes "{\"ds\":" ++ array_json published_json p.ds.items
    ++ codes ",\"dnskey\":" ++ array_json published_json p.dnskey.items
    ++ codes ",\"signers\":" ++ array_json published_json p.dnskey_signers.items
    ++ codes ",\"zone\":" ++ array_json published_json p.zone_signers.items ++ codes "}"
