-- Every call on a roll is barred, early or clear alike if the roll sees the same, down to the
-- longest time that is left.
use Rattle.std.proofs.Common.{◌≡◌, ℕ, Bool, true, false, not, List, [], ◌∷◌, ◌++◌, Some, None, refl}
use Rattle.dnssec_zone.specs.Start.{algorithms_within, has_algorithm, is_listed, lists_kind}
use Rattle.dnssec_zone.specs.Start.{new_entry_fault, new_fault, old_entry_fault, old_fault, side_of}
use Rattle.dnssec_zone.specs.Start.{some_listed, Want, conflict, is_met, serves_as_kept}
use Rattle.dnssec_zone.specs.Wait.{lacks_stamp, time_left, longest_left, ttl_in, barred_by}
use Rattle.dnssec_zone.proofs.Quantified.{some_entry-found, some_entry-none, some_key-entry}
use Rattle.dnssec_keyset.proofs.Exchange.Seen.{Alike, SameFor, alike-found, asked, same-sym}
use Rattle.std.proofs.{Common.sym, Common.ap, Common.◌∙◌, Common.arith}
use Rattle.std.proofs.{lemmas.Bool.Decides.nat_tests, lemmas.Bool.and_left}
use Rattle.dnssec_zone.specs.Refusals.{early_end_refusal, end_refusal, report_refusal}
use Rattle.dnssec_zone.specs.{Start.serves_as_new, Start.wants, Wait.wait_in_phase, Keys.some_entry}
use Rattle.dnssec_zone.specs.{Keys.some_key, Rolls.phase_of}
use Rattle.std.specs.{Prelude.Option, Prelude.◌||◌, Prelude.◌&&◌, Prelude.nat_eq, List.list_all}
use Rattle.std.specs.{List.list_any, Option.option_map_or, Option.option_or, Cmp.both_ways}
use Rattle.std.specs.{FinMap.get}
use Rattle.dnssec_key.specs.{declared.kind.KeyType.KeyType, declared.roll.RollType.RollType}
use Rattle.dnssec_key.specs.declared.roll.Half.{Half}
use Rattle.dnssec_key.specs.Key.{KeyParts}
use Rattle.dnssec_zone.proofs.Longest.{above, longest-same}
use Rattle.dnssec_base.specs.declared.error.Error.TheVariants.{WrongKeyType}
use Rattle.dnssec_keyset.specs.{Step.start_refusal, Step.Call, Step.clearance, KeySet.KeySetParts}
use Rattle.dnssec_keyset.proofs.Moves.{IsOn, Starts, Reports, Waits, Ends, EndsEarly}
use Rattle.dnssec_keyset.proofs.Sides.{checks-others}

-- ---- what is asked about a key, and about the keys of a list or a set

module _ (b : RollType) where
  old-entry : (o p : Option KeyParts) → Alike b o p → old_entry_fault b o ≡ old_entry_fault b p
  old-entry o p alike = grind arith

  new-entry : (taken : Bool) (o p : Option KeyParts) → Alike b o p → new_entry_fault b o taken
      ≡ new_entry_fault b p taken
  new-entry taken = asked b (λ o. new_entry_fault b o taken) (Some WrongKeyType)
      (λ k e. grind (arith, e))

  by-algorithm : (f : ℕ → Bool) (d : Bool) (o p : Option KeyParts) → Alike b o p
      → option_map_or (λ (k : KeyParts). f k.algorithm) o d
      ≡ option_map_or (λ (k : KeyParts). f k.algorithm) p d
  by-algorithm f d o p alike = grind arith

  by-kind : (f : KeyType → Bool)
      → ((t : KeyType) → lists_kind (side_of b) t ≡ false → f t ≡ false)
      → (o p : Option KeyParts) → Alike b o p
      → option_map_or (λ (k : KeyParts). f k.keytype) o false
      ≡ option_map_or (λ (k : KeyParts). f k.keytype) p false
  by-kind f off = asked b (λ o. option_map_or (λ (k : KeyParts). f k.keytype) o false) false
      (λ k. off k.keytype)

  module _ (s t : KeySetParts) (same : SameFor b s t) where
    old-same : (olds : List (List ℕ)) → old_fault b (get s.keys) olds
        ≡ old_fault b (get t.keys) olds
    old-same [] = refl
    old-same (q ∷ qs) = λ i. option_or (old-entry _ _ (same.keys q) i) (old-same qs i)

    new-same : (olds earlier news : List (List ℕ)) → new_fault b (get s.keys) olds earlier news
        ≡ new_fault b (get t.keys) olds earlier news
    new-same olds earlier [] = refl
    new-same olds earlier (q ∷ qs) =
        λ i. option_or (new-entry (is_listed olds q || is_listed earlier q) _ _ (same.keys q) i)
        (new-same olds (earlier ++ q ∷ []) qs i)

    has-same : (qs : List (List ℕ)) (n : ℕ) → has_algorithm (get s.keys) qs n
        ≡ has_algorithm (get t.keys) qs n
    has-same qs n = λ i. list_any (λ q. by-algorithm (λ m. nat_eq m n) false _ _ (same.keys q) i) qs

    within-same : (qs others : List (List ℕ)) → algorithms_within (get s.keys) qs others
        ≡ algorithms_within (get t.keys) qs others
    within-same qs others = λ i. list_all (λ q.
        (by-algorithm (has_algorithm (get s.keys) others) true _ _ (same.keys q)
        ∙ (λ j. option_map_or (λ k. has-same others k.algorithm j) (get t.keys q) true)) i) qs

    listed-same : (f : KeyType → Bool)
        → ((x : KeyType) → lists_kind (side_of b) x ≡ false → f x ≡ false) → (qs : List (List ℕ))
        → some_listed f (get s.keys) qs ≡ some_listed f (get t.keys) qs
    listed-same f off qs = λ i. list_any (λ q. by-kind f off _ _ (same.keys q) i) qs

-- some key passes in one set only if one does in the other, if only keys of the roll's kinds pass
module _ (b : RollType) (p : List ℕ → KeyParts → Bool)
    (off : (q : List ℕ) (k : KeyParts) → lists_kind (side_of b) k.keytype ≡ false → p q k ≡ false)
  where
    goes : (s t : KeySetParts) → SameFor b s t → some_entry p s.keys ≡ true
        → some_entry p t.keys ≡ true
    goes s t same e =
        let one = some_entry-found p s.keys e in
        grind (
          arith,
          one.3,
          off one.0 one.1,
          some_entry-none p t.keys one.0 one.1,
          alike-found b _ _ one.1 (same.keys one.0) one.2,
        )

    entry-same : (s t : KeySetParts) → SameFor b s t → some_entry p s.keys ≡ some_entry p t.keys
    entry-same s t same = both_ways _ _ (goes s t same) (goes t s (same-sym b s t same))

key-same : (b : RollType) (p : KeyParts → Bool)
    → ((k : KeyParts) → lists_kind (side_of b) k.keytype ≡ false → p k ≡ false)
    → (s t : KeySetParts) → SameFor b s t → some_key p s.keys ≡ some_key p t.keys
key-same b p off s t same = some_key-entry p s.keys ∙ entry-same b (λ q. p) (λ q. off) s t same
    ∙ sym (some_key-entry p t.keys)

-- ---- a start has to leave the same

module _ (s t : KeySetParts) (olds news : List (List ℕ)) (b : RollType) (same : SameFor b s t)
  where
    met : (want : Want) → ((x : KeyType) → lists_kind (side_of b) x ≡ false
        → (serves_as_new want x ≡ false) × (serves_as_kept want x ≡ false))
        → is_met s.keys olds news want ≡ is_met t.keys olds news want
    met want others = λ i.
        listed-same b s t same (serves_as_new want) (λ x e. (others x e).0) news i
        || entry-same b (λ q k. serves_as_kept want k.keytype && not (is_listed olds q))
        (λ q k e. and_left _ _ (others k.keytype e).1) s t same i

    suits : (ws : List Want) → ((x : KeyType) → lists_kind (side_of b) x ≡ false
        → list_all (λ w. not (serves_as_new w x) && not (serves_as_kept w x)) ws ≡ true)
        → list_all (is_met s.keys olds news) ws ≡ list_all (is_met t.keys olds news) ws
    suits [] others = refl
    suits (w ∷ ws) others =
        rw (met w (λ x e. grind (arith, others x e)), suits ws (λ x e. grind (arith, others x e)))

conflict-same : (b : RollType) (s t : KeySetParts) → SameFor b s t → conflict b s.rolls
    ≡ conflict b t.rolls
unfolding conflict
conflict-same b s t same = rw (same.phase, same.conflicts)

start-same : (b : RollType) (s t : KeySetParts) (olds news : List (List ℕ)) → SameFor b s t
    → start_refusal b s olds news ≡ start_refusal b t olds news
start-same b s t olds news same =
    rw (
      conflict-same b s t same,
      old-same b s t same olds,
      new-same b s t same olds [] news,
      within-same b s t same olds news,
      within-same b s t same news olds,
      -- a key that the roll doesn't change serves for nothing that its start asks
      suits s t olds news b same (wants b) (λ x other. grind arith),
    )

-- ---- a wait gets the same answer

longest-alike : (b : RollType) (half : Half) (ttl now : ℕ) (s t : KeySetParts) → SameFor b s t
    → longest_left b half ttl now s.keys ≡ longest_left b half ttl now t.keys
longest-alike b half ttl now s t same = longest-same (time_left b half ttl now) _ _ (λ n.
    key-same b (above (time_left b half ttl now) n)
    (λ k e. grind (arith, nat_tests, checks-others b half k.keytype e)) s t same)

wait-same : (b : RollType) (half : Half) (o : Option ℕ) (now : ℕ) (s t : KeySetParts)
    → SameFor b s t → wait_in_phase b half o now s.keys ≡ wait_in_phase b half o now t.keys
wait-same b half None now s t same = refl
wait-same b half (Some ttl) now s t same =
    rw (
      key-same b (lacks_stamp b half) (λ k e. grind (arith, checks-others b half k.keytype e)) s t
          same,
      longest-alike b half ttl now s t same,
    )

-- ---- each call on a roll is barred or cleared the same

pub clearance-same : (b : RollType) (s t : KeySetParts) (call : Call) → IsOn b call
    → SameFor b s t → clearance s call ≡ clearance t call
clearance-same b s t call (Starts olds news now) same =
    ap barred_by (start-same b s t olds news same)
clearance-same b s t call (Reports half ttl now) same =
    ap (λ o. barred_by (report_refusal half o)) same.phase
clearance-same b s t call (Waits half now) same =
    ap (λ o. wait_in_phase b half (ttl_in half o) now s.keys) same.phase
    ∙ wait-same b half (ttl_in half (phase_of t.rolls b)) now s t same
clearance-same b s t call Ends same = ap (λ o. barred_by (end_refusal o)) same.phase
clearance-same b s t call EndsEarly same = ap (λ o. barred_by (early_end_refusal o)) same.phase
