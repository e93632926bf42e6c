-- The session goes on, and so do the last second waits.
use Rattle.std.proofs.Common.{◌+◌, ◌++◌, ◌∷◌, ◌≡◌, ◌∙◌, [], ap, arith, length, length-append, sym}
use Rattle.dnssec_keyset.specs.KeySet.{KeySetParts}
use Rattle.dnssec_run.specs.Record.{world_at}
use Rattle.dnssec_policy.specs.ByHand.{is_by_hand}
use Rattle.dnssec_policy.proofs.automatic.zone.Calls.make.Goals as goal

pub returns : goal.returns
returns c name calls entries after =
    let next = c.in_ok-reply.ensures name calls entries after.stands in
    let long : length (entries ++ next.entry ∷ []) ≡ length entries + 1 =
    length-append entries (next.entry ∷ []) in
    let at = c.calls-at.ensures name (calls ++ c.args.call ∷ []) (entries ++ next.entry ∷ [])
    next.stands in
    let set : c.keyset.result.now ≡ (world_at name calls entries (length entries)).set =
    c.keyset.ensures ∙ after.stands.follows.records.agrees.same
    ∙ ap (λ k. (world_at name calls entries k).set) (sym after.stands.follows.records.run.count) in
    let is_by_hand = ap (λ (set : KeySetParts). is_by_hand set c.args.call) (sym set)
    ∙ sym c.is_by_hand-is_by_hand.ensures in
    record {
      entry = next.entry;
      after = record {
        stands = next.stands;
        lasts = c.after-self.ensures.follows calls entries c.args.call next.entry
            after.stands.follows.records.run.count after.lasts (sym c.second_wait-wait.ensures)
            next.is_reply (omega arith);
        first = c.after-self-2.ensures name calls entries c.args.call next.entry
            after.stands.follows.records.run.count after.first is_by_hand next.is_reply
            (omega arith);
      };
      is_reply = next.is_reply;
    }
