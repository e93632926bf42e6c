-- What tests of numbers say of the keys that they stand for.
use Rattle.dnssec_judge.proofs.Base.{[], ℕ, ◌&&◌, ◌||◌, ◌∷◌, ◌≡◌, any-key, AreApart, arith}
use Rattle.dnssec_judge.proofs.Base.{CachedSet, Contains, Decides-like, has_bit, has_none, Id}
use Rattle.dnssec_judge.proofs.Base.{is_in, is_none, Keys, List, Means, MeansSet, meet, meet_three}
use Rattle.dnssec_judge.proofs.Base.{Numbered, refl, same_from_decides, sets_have_chain, Stands}
use Rattle.dnssec_judge.proofs.Base.{subst, true, trusts_keys, trusts_zone, zero}
use Rattle.dnssec_judge.proofs.Lists.{in-list}
use Rattle.dnssec_judge.proofs.Words.{meet-decides, meet-three-decides, none-decides}
use Rattle.std.proofs.{lemmas.Bool.false_from_ne_true, lemmas.Bool.Decides.Decides-and}

-- what bits stand for stays, if the keys keep their numbers
pub means-on : (key other : Keys) (words : List ℕ) (keys : List Id)
    → ((n : ℕ) (k : Id) → has_bit words n ≡ true → Stands key n k → Stands other n k)
    → Means key words keys → Means other words keys
means-on key other words keys on h = record {
  members = λ n b. (let k = h.members n b in (k.0, k.1, on n k.0 b k.2));
  all = λ k c. (let n = h.all k c in (n.0, n.1, on n.0 k n.1 n.2));
}

module _ (key : Keys) (apart : AreApart key) where
  -- a number of a set is that of its key
  same-member : (words : List ℕ) (ks : List Id) (n : ℕ) (k : Id) → Means key words ks
      → has_bit words n ≡ true → Stands key n k → Contains ks k
  same-member words ks n k h b e =
      let m = h.members n b in subst (Contains ks) (apart.one n m.0 k m.2 e) m.1

  same-number : (words : List ℕ) (ks : List Id) (n : ℕ) (k : Id) → Means key words ks
      → Contains ks k → Stands key n k → has_bit words n ≡ true
  same-number words ks n k h c e =
      let m = h.all k c in subst (λ i. has_bit words i ≡ true) (apart.apart m.0 n k m.2 e) m.1

  pub zone-means : (q z : List ℕ) (keys zone : List Id) → Means key q keys → Means key z zone
      → meet q z ≡ trusts_zone keys zone
  zone-means q z keys zone h g =
      same_from_decides (meet q z) (trusts_zone keys zone) (Decides-like _
      (λ s. (let k = g.members s.0 s.2 in (k.0, k.1, same-member q keys s.0 k.0 h s.1 k.2)))
      (λ s. (let n = g.all s.0 s.1 in (n.0, same-number q keys n.0 s.0 h s.2 n.2, n.1)))
      (meet-decides q z)) (any-key (is_in keys) (Contains keys) (in-list keys) zone)

  pub keys-mean : (p q s : List ℕ) (ds keys signers : List Id) → Means key p ds → Means key q keys
      → Means key s signers → meet_three p q s ≡ trusts_keys ds keys signers
  keys-mean p q s ds keys signers f h g =
      same_from_decides (meet_three p q s) (trusts_keys ds keys signers) (Decides-like _
      (λ x. (let k = f.members x.0 x.1 in (
        k.0,
        k.1,
        (
          same-member q keys x.0 k.0 h x.2 k.2,
          same-member s signers x.0 k.0 g x.3 k.2,
        ),
      )))
      (λ x. (let n = f.all x.0 x.1 in (
        n.0,
        n.1,
        same-number q keys n.0 x.0 h x.2.0 n.2,
        same-number s signers n.0 x.0 g x.2.1 n.2,
      )))
      (meet-three-decides p q s)) (any-key (λ k. is_in keys k && is_in signers k)
      (λ k. Contains keys k × Contains signers k)
      (λ k. Decides-and _ _ (in-list keys k) (in-list signers k)) ds)

  -- there is no key if there is no number
  pub none-means : (p : List ℕ) (keys : List Id) → Means key p keys → has_none p ≡ is_none keys
  none-means p [] h = (none-decides p).1 (λ n b. (let k = h.members n b in omega (arith, k.1.1)))
  none-means p (k ∷ ks) h =
      let n = h.all k (zero, omega arith, refl) in
      false_from_ne_true (has_none p) (λ e. (none-decides p).0 e n.0 n.1)

  pub chain-means : (p q z : Numbered) (ds dnskey zone : CachedSet) → MeansSet key p ds
      → MeansSet key q dnskey → MeansSet key z zone
      → sets_have_chain p q z ≡ (is_none ds.0 || (trusts_keys ds.0 dnskey.0 dnskey.1
      && trusts_zone dnskey.0 zone.0))
  chain-means p q z ds dnskey zone f g h i =
      none-means p.0 ds.0 f.0 i
      || (keys-mean p.0 q.0 q.1 ds.0 dnskey.0 dnskey.1 f.0 g.0 g.1 i
      && zone-means q.0 z.0 dnskey.0 zone.0 g.0 h.0 i)
