-- When a record may begin in a zone that is signed already.
use Rattle.std.proofs.{Common.arith, Common.inl, Common.inr, lemmas.Bool.cases_lt}
use Rattle.dnssec_run.proofs.Chain.History.{not_in_empty}
use Rattle.dnssec_network.specs.SignedBefore.{SameEverywhereSuffices, WiderSetsHaveChain}

-- an older version is over, and the others are those of the position `first`
pub same_everywhere_suffices : SameEverywhereSuffices
same_everywhere_suffices entries network since same within made kind v held =
    let given = held.given in
    elim (cases_lt held.since since) [
      | inl lt ↦
          let gone = rw given.2 at (same.over kind given.0 held.since given.1 lt) in
          absurd (omega (arith, gone, held.lasts, lt))
      | inr le ↦
          let is = rw given.2 at (same.equal kind given.0 held.since given.1 le held.got) in
          record {
            begun = rw is (omega arith);
            recorded = rw is within;
            made = rw is made;
          }
    ]

pub wider_sets_have_chain : WiderSetsHaveChain
wider_sets_have_chain s time ds dnskey signers zone find a keys signed = elim a.some [
  | inl none ↦ inl none
  | inr first ↦
      elim (find a.version keys.version signed.version a.held keys.held signed.held) [
        | inl none ↦ absurd (not_in_empty first.0 (rw none at first.1))
        | inr c ↦ inr (
          (s.public c.0.0, a.has c.0.0 c.0.1, keys.has c.0.0 c.0.2, keys.signed c.0.0 c.0.3),
          (s.public c.1.0, keys.has c.1.0 c.1.1, signed.has c.1.0 c.1.2),
        )
      ]
]
