-- From the start of a roll to its early end: for the clause `undoes`.
use Rattle.dnssec_keyset.proofs.{Changes.Changes, Accepted.ends_early, Laws.no_cause}
use Rattle.dnssec_keyset.specs.KeySet.{KeySetParts}
use Rattle.std.proofs.lemmas.Bool.{cases_lt, cases_Bool, or_parts, false_from_ne_true, true≢false}
use Rattle.std.proofs.lemmas.{Bool.and_from, Iterator.Adapters.option_map_id}
use Rattle.std.proofs.lemmas.Option.{same_Some, slice_get_within}
use Rattle.std.proofs.Common.{◌≡◌, ℕ, zero, suc, ◌<◌, ◌≤◌, ◌⊎◌, inl, inr, Bool, true, false, ◌&&◌}
use Rattle.std.proofs.Common.{◌||◌, refl, sym, ◌∙◌, ap, subst, arith, List, length, Some}
use Rattle.std.specs.{Option.option_map, FinMap.get}
use Rattle.dnssec_run.specs.EarlyEnds.{HasSameFlags, IsUntouched, Undoes, UndoesStarts, touches}
use Rattle.dnssec_run.specs.Record.{IsRun, call_of, world_at}
use Rattle.dnssec_run.proofs.Chain.Tale.{CanStart, early-end-parts, seen}
use Rattle.dnssec_run.proofs.EarlyEnds.Keys.{HasKind, all-tied, kept_in, key-step, lists-step}
use Rattle.dnssec_run.proofs.EarlyEnds.Keys.{phase-before, tied, undone_facts}
use Rattle.dnssec_run.proofs.Premise.{DoesAt, start-made, start_of}
use Rattle.dnssec_run.proofs.WholeRolls.Replies.{outcome, world_of, did-made}
use Rattle.dnssec_run.{proofs.Laws.made-at, proofs.Laws.stays-sound, specs.declared.call.Call.Call}
use Rattle.dnssec_run.specs.{declared.record.Entry.Entry, WholeRolls.IsAccepted}
use Rattle.dnssec_run.proofs.Chain.{Allowed.can_start, Lists.is_listed-filter, Rolls.same-same}
use Rattle.dnssec_run.proofs.{Chain.OneKey.may_there, Effects.end-kind, Effects.start-kind}
use Rattle.dnssec_key.specs.declared.roll.{RollType.RollType, RollState.TheVariants.Propagation1}
use Rattle.dnssec_key.specs.{Key.KeyParts, RollTable.after_early_end, RollTable.after_start}
use Rattle.dnssec_key.specs.declared.kind.KeyType.{KeyType}
use Rattle.dnssec_zone.specs.Start.{is_listed, lists_kind, side_of}
use Rattle.dnssec_zone.specs.{Lists.has_kept_key, Rolls.phase_of}
use Rattle.dnssec_zone.proofs.Flags.{ended, may_start, started}
use Rattle.dnssec_keyset.specs.Step as keyset
use Rattle.dnssec_zone.specs.Wait as waits

module _ {name : List ℕ} {calls : List Call} {entries : List Entry}
    (run : IsRun name calls entries) (s : ℕ) (roll : RollType) (olds news : List (List ℕ)) (now : ℕ)
    (st : IsAccepted calls entries s (keyset.StartRoll roll olds news now)) where
  abbrev set_at : ℕ → KeySetParts
  set_at n = (world_at name calls entries n).set

  abbrev old : KeySetParts
  old = set_at s

  started_so : (keyset.clearance old (keyset.StartRoll roll olds news now) ≡ waits.Clear)
      × Changes old (keyset.StartRoll roll olds news now) (set_at (suc s))
  started_so = did-made run s (keyset.StartRoll roll olds news now) st.0 st.1

  -- no start of the roll is accepted before n
  abbrev NoStart : ℕ → Type 0
  NoStart n = (m : ℕ) → s < m → m < n → DoesAt start_of calls entries m roll → ⊥

  module _ (q : List ℕ) where
    abbrev is_old : Bool
    is_old = is_listed olds q

    abbrev is_new : Bool
    is_new = is_listed news q

    -- a listed key is there, and of a kind that the roll may list
    began : (is_old || is_new) ≡ true → (k : KeyParts) × (get old.keys q ≡ Some k)
        × ((may_start roll is_old is_new k.keytype && tied k.keytype) ≡ true)
    began l = elim (cases_Bool is_old) [
      | inl t ↦ let x = can.old_is q t in (x.0, x.1, may x.0 x.1)
      | inr t ↦ let x = can.new_is q (rw t at l) in (x.0, x.1, may x.0 x.1)
    ]
      where
        can : CanStart roll (seen (world_of old)) olds news
        can = can_start (world_of old) roll olds news (no_cause _ started_so.0)

        may : (k : KeyParts) → get old.keys q ≡ Some k
            → (may_start roll is_old is_new k.keytype && tied k.keytype) ≡ true
        may k e = and_from _ _ (may_there roll _ olds news can q k e) (all-tied run s q k e)

    -- ---- from the start on

    abbrev Untouched : ℕ → Type 0
    Untouched n = IsUntouched calls entries s n q

    untouched-next : (n : ℕ) → Untouched n
        → ((d : keyset.Call) → touches d q ≡ true → IsAccepted calls entries n d → ⊥)
        → Untouched (suc n)
    untouched-next n u none m d after below t a = elim (cases_lt m n) [
      | inl lt ↦ u m d after lt t a
      | inr ge ↦ none d t
          (subst (λ m. IsAccepted calls entries m d) {x = m} {y = n} (omega arith) a)
    ]

    -- the key is untouched, and it and the lists are as the start left them
    record Left (n : ℕ) (set : KeySetParts) : Type 0 where
      untouched : Untouched n
      lists : kept_in roll q set ≡ (is_old && has_kept_key old.keys q, is_new)
      key : (l : (is_old || is_new) ≡ true)
          → HasKind set q (started roll is_old is_new (began l).0.keytype)

    -- or it was touched, and is listed no more
    abbrev Standing : ℕ → KeySetParts → Type 0
    Standing n set = Left n set ⊎ ((Untouched n → ⊥) × (kept_in roll q set ≡ (false, false)))

    standing-first : Left (suc s) (set_at (suc s))
    standing-first =
        let m = started_so.1 in
        record {
          untouched = λ m c after below. absurd (omega arith);
          lists = rw (m.lists, same-same roll)
              (λ i. (is_listed-filter (has_kept_key old.keys) olds q i, is_new));
          key = λ l. let k = began l in (
            after_start roll now is_old is_new k.0,
            m.keys q ∙ ap (option_map (after_start roll now is_old is_new)) k.1,
            start-kind roll now is_old is_new k.0,
          );
        }

    -- a call that doesn't touch the key
    passed : (n : ℕ) → Standing n (set_at n)
        → kept_in roll q (set_at (suc n)) ≡ kept_in roll q (set_at n)
        → ((t : KeyType) → HasKind (set_at n) q t → lists_kind (side_of roll) t ≡ true
        → HasKind (set_at (suc n)) q t)
        → ((d : keyset.Call) → touches d q ≡ true → IsAccepted calls entries n d → ⊥)
        → Standing (suc n) (set_at (suc n))
    passed n before same keeps none = elim before [
      | inl h ↦ inl (record {
        untouched = untouched-next n h.untouched none;
        lists = same ∙ h.lists;
        key = λ l. let k = began l in keeps _ (h.key l)
            ((undone_facts roll is_old is_new k.0.keytype k.2).1 l);
      })
      | inr g ↦ inr (λ u. g.0 (λ m d after below. u m d after (omega arith)), same ∙ g.1)
    ]

    standing : (n : ℕ) → s < n → n ≤ length entries → NoStart n
        → phase_of (set_at n).rolls roll ≡ Some Propagation1 → Standing n (set_at n)
    standing zero later within none spreads = absurd (omega arith)
    standing (suc n) later within none spreads = elim (cases_lt s n) [
      | inl lt ↦
          let before = standing n lt (omega arith) (λ m after below. none m after (omega arith)) in
          let x = made-at run n within in
          let c = call_of x.0 in
          elim (outcome run n x.0 x.1 x.2 x.3) [
            | inl y ↦ passed n (before (rw y.1 at spreads)) (ap (kept_in roll q) y.1)
                (λ t h own. rw y.1 h) (λ d hit a. true≢false (cc (x.3)))
            | inr d ↦
                let was = phase-before roll (set_at n) (set_at (suc n)) spreads c d.2
                (λ is. none n lt (omega arith) (record {
                  call = x.0;
                  entry = x.1;
                  call_is = x.2;
                  entry_is = x.3;
                  accepted = d.0;
                  roll_is = is;
                })) in
                let lists = lists-step roll q (set_at n) (set_at (suc n)) c d.2 was.1 in
                elim (cases_Bool (touches c q)) [
                  | inl t ↦ inr (
                    λ u. u n c lt (omega arith) t (
                      record {
                        made = x.0;
                        entry = x.1;
                        made_is = x.2;
                        entry_is = x.3;
                        call_is = refl;
                      },
                      d.0,
                    ),
                    rw t at lists,
                  )
                  | inr t ↦ passed n (before was.0) (rw t at lists)
                      (λ k h own. key-step roll (set_at n) (set_at (suc n))
                      (stays-sound run n (omega arith)).rolls was.0 q k h own c d.1 d.2 d.3 was.1 t)
                      (λ d hit a. true≢false (cc (x.2)))
                ]
          ]
      | inr ge ↦ let same : s ≡ n = omega arith in
          subst (λ n. Standing (suc n) (set_at (suc n))) same (inl standing-first)
    ]

  -- ---- the early end

  module _ (n : ℕ) (later : s < n)
      (end : IsAccepted calls entries n (keyset.AbortRoll roll)) (none : NoStart n) where
    abbrev here : KeySetParts
    here = set_at n

    abbrev Own : List ℕ → Type 0
    Own q = ((is_listed olds q || is_listed news q) ≡ true) × IsUntouched calls entries s n q

    -- what it does to a key
    abbrev back : Bool × Bool → KeyParts → KeyParts
    back b = after_early_end roll b.0 b.1

    abbrev was : List ℕ → Bool × Bool
    was q = kept_in roll q here

    ended_so : (keyset.clearance here (keyset.AbortRoll roll) ≡ waits.Clear)
        × Changes here (keyset.AbortRoll roll) (set_at (suc n))
    ended_so = did-made run n (keyset.AbortRoll roll) end.0 end.1

    stands : (q : List ℕ) → Standing q n here
    stands q = standing q n later within none (ends_early _ (no_cause _ ended_so.0))
      where
        within : n ≤ length entries
        within = let lt = slice_get_within entries n end.0.entry end.0.entry_is in omega arith

    own_flags : (q : List ℕ) (own : Own q) → Left q n here
        → HasSameFlags (world_at name calls entries s) (world_at name calls entries (suc n)) q
    own_flags q own h =
        let x = began q own.0 in
        let y = h.key own.0 in
        let kept = rw x.1 at h.lists in (
          x.0,
          back (was q) y.0,
          x.1,
          ended_so.1.keys q ∙ ap (option_map (back (was q))) y.1,
          end-kind roll (was q).0 (was q).1 y.0 ∙ (λ i. ended roll (kept i).0 (kept i).1 (y.2 i))
              ∙ (undone_facts roll (is_listed olds q) (is_listed news q) x.0.keytype x.2).0,
        )

    -- a key that isn't its own is listed no more
    unlisted : (q : List ℕ) → (Own q → ⊥) → was q ≡ (false, false)
    unlisted q out = elim (stands q) [
      | inl h ↦
          let none = or_parts _ _ (false_from_ne_true (is_listed olds q || is_listed news q)
          (λ l. out (l, h.untouched))) in
          h.lists ∙ (λ i. (none.0 i && has_kept_key old.keys q, none.1 i))
      | inr g ↦ g.1
    ]

    undoes-start : Undoes roll Own (world_at name calls entries s) (world_at name calls entries n)
        (world_at name calls entries (suc n))
    undoes-start = record {
      flags = λ q own. elim (stands q) [
        | inl h ↦ own_flags q own h
        | inr g ↦ absurd (g.0 own.1)
      ];
      others = λ q out. ended_so.1.keys q
          ∙ ap (λ b. option_map (back b) (get here.keys q)) (unlisted q out)
          ∙ option_map_id (get here.keys q);
      alone = λ q k j there is.
          let made : j ≡ record k { keytype = ended roll (was q).0 (was q).1 k.keytype } =
          same_Some _ _ (sym is ∙ ended_so.1.keys q ∙ ap (option_map (back (was q))) there)
          ∙ early-end-parts roll (was q).0 (was q).1 k in
          subst (λ j. j ≡ record k { keytype = j.keytype }) (sym made) refl;
      rolls = ended_so.1.rolls;
    }

pub undoes-starts : {name : List ℕ} {calls : List Call} {entries : List Entry}
    → IsRun name calls entries → UndoesStarts name calls entries
undoes-starts {calls = calls} {entries = entries} run s n roll olds news now later st end none =
    undoes-start run s roll olds news now st n later end
    (λ m after before a. none m after before (start-made calls entries m roll a))
