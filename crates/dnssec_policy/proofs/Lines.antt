-- The line of a call that is said is read as that call, also after the lines of its script.
use Rattle.std.proofs.Common.{◌≡◌, ℕ, suc, ◌≤◌, ◌*◌, ◌∙◌, inl, inr, true, List}
use Rattle.std.proofs.Common.{[], ◌∷◌, Some, length, refl, sym, subst, ap, arith}
use Rattle.std.proofs.{Math.Bool.or-true, lemmas.Bool.true≢false, lemmas.Option.none-some}
use Rattle.std.specs.Prelude.{◌||◌, Ok, slice_get}
use Rattle.std.specs.Cmp.Lexicographic.{bytes_decides, slice_cmp}
use Rattle.std.specs.{FinMap.entries as entries_of, FinMap.get-empty, Ordering.nat_cmp}
use Rattle.std.specs.Str.{bytes_eq}
use Rattle.dnssec_key.specs.declared.roll.RollType.{RollType}
use Rattle.dnssec_zone.specs.Start.{is_listed}
use Rattle.dnssec_keyset.{specs.KeySet.KeySetParts, proofs.Changes.Changes}
use Rattle.dnssec_keyset.specs.Step as keyset
use Rattle.dnssec_run.specs.declared.{call.Call.Call, record.Entry.Entry}
use Rattle.dnssec_run.specs.Record.{IsRun, call_of, reference_added, world_at}
use Rattle.dnssec_run.proofs.Effects.{adds, came}
use Rattle.dnssec_script.specs.Script.{IsLineOf, IsScript, is_reference}
use Rattle.dnssec_script.proofs.Added.{added-named}
use Rattle.dnssec_record.proofs.Sessions.{script_more}
use Rattle.dnssec_policy.specs.declared.policy.KeyRole.{KeyRole}
use Rattle.dnssec_policy.specs.declared.policy.KeyRole.TheVariants.{Csk, Ksk, Zsk}
use Rattle.dnssec_policy.specs.declared.policy.{Policy.Policy, Scheme.Scheme}
use Rattle.dnssec_policy.specs.declared.policy.Scheme.TheVariants.{SingleType, Split}
use Rattle.dnssec_policy.specs.Automatic.Said.{AnswersGoOn, CanNameKeys, SaidLinesAreRead}
use Rattle.dnssec_policy.specs.Automatic.{Said.ScriptsNameKeys, Lines.todo_line}
use Rattle.dnssec_policy.specs.Keys.{goes, new_keys, references_where, role_of, roles_of}
use Rattle.dnssec_policy.specs.View.{View}
use Rattle.dnssec_policy.proofs.Accepted.{old-goes, one-new, two-new}
use Rattle.dnssec_policy.proofs.{ByHand.answered, May.May, Said.may, May.IsStart}
use Rattle.dnssec_policy.proofs.PlainCalls.{each-set}
use Rattle.dnssec_policy.proofs.Texts.Calls.{AreNamed, IsSaidAt, call-back}

-- ---- the references of a call that is said

all-named : (qs : List (List ℕ)) → ((q : List ℕ) → is_listed qs q ≡ true → is_reference q ≡ true)
    → AreNamed qs
all-named [] each = refl
all-named (q ∷ qs) each =
    let here = each q (ap (λ b. b || is_listed qs q) ((bytes_decides q q).1 refl)) in
    let rest = all-named qs
    (λ r l. each r (ap (λ b. bytes_eq r q || b) l ∙ or-true (bytes_eq r q))) in
    rw (here, rest) refl

module _ (policy : Policy) (v : View) (names : CanNameKeys v.set) where
  olds-named : (roll : RollType) → AreNamed (references_where (goes roll) (entries_of v.set.keys))
  olds-named roll = all-named _ (λ q l.
      let w = old-goes policy v.set roll q l in names q w.0 w.1)

  one-named : (role : KeyRole) (news : List (List ℕ))
      → new_keys policy v.set.keys (role ∷ []) ≡ Ok news → AreNamed news
  one-named role news e =
      let x = one-new policy v.set role news e in
      subst AreNamed x.1 (rw (names x.0 x.2.key x.2.at) refl)

  by-scheme : (scheme : Scheme) (news : List (List ℕ))
      → new_keys policy v.set.keys (roles_of scheme) ≡ Ok news → AreNamed news
  by-scheme SingleType news e = one-named Csk news e
  by-scheme (Split k z) news e =
      let x = two-new policy v.set Ksk Zsk news e in
      subst AreNamed x.2 (rw (names x.0 x.3.key x.3.at, names x.1 x.4.key x.4.at) refl)

  news-named : (roll : RollType) (olds news : List (List ℕ)) → IsStart policy v roll olds news
      → AreNamed news
  news-named roll olds news s = elim s.by [
    | inl c ↦ by-scheme policy.scheme news c.news_are
    | inr r ↦ one-named (role_of roll) news r.news_are
  ]

  said-at : (c : keyset.Call) (n : ℕ) → v.now ≡ n * 1_000_000_000 → May policy v c → IsSaidAt c n
  said-at (keyset.Report roll half ttl t) n now m = (m.0 ∙ now, m.7)
  said-at (keyset.Wait roll half t) n now m = m.0 ∙ now
  said-at (keyset.RollDone roll) n now m = tt
  said-at (keyset.StartRoll roll olds news t) n now m = (
    m.0 ∙ now,
    subst AreNamed (sym m.1.olds_are) (olds-named roll),
    news-named roll olds news m.1,
  )
  said-at (keyset.DeleteKey q) n now m = names q m.0 m.1
  said-at _ n now m = absurd m

pub are-read : SaidLinesAreRead
are-read policy by_hand view call seconds now small names is =
    call-back call seconds small (said-at policy view names (call_of call) seconds now
    (may policy view (call_of call) (answered policy by_hand view (call_of call) is)))

-- ---- the keys of a script

adds-at : (c : keyset.Call) (q : List ℕ) → adds c q ≡ true → reference_added c ≡ Some q
adds-at (keyset.AddKey r k) q t = ap Some ((bytes_decides r q).0 t)
adds-at _ q t = absurd (true≢false (sym t))

module _ (script : List ℕ) {name : List ℕ} {calls : List Call} {entries : List Entry}
    (is : IsScript script name calls) (run : IsRun name calls entries) where
  abbrev set_at : ℕ → KeySetParts
  set_at n = (world_at name calls entries n).set

  next-named : (n : ℕ) (c : Call) → slice_get calls n ≡ Some c
      → Changes (set_at n) (call_of c) (set_at (suc n)) → CanNameKeys (set_at n)
      → CanNameKeys (set_at (suc n))
  next-named n c ci m h q k at =
      elim (came (set_at n) (set_at (suc n)) (call_of c) m q k at) [
        | inl a ↦ added-named script name calls is n c ci q (adds-at (call_of c) q a.0)
        | inr b ↦ h q b.0 b.1
      ]

  named-at : (n : ℕ) → n ≤ length entries → CanNameKeys (set_at n)
  unfolding world_at
  named-at = each-set run CanNameKeys
      (λ q k at. absurd (none-some k (sym (get-empty (slice_cmp nat_cmp) q) ∙ at)))
      (λ n c ci clear m. next-named n c ci m)

pub names : ScriptsNameKeys
names script name calls entries n is run within = named-at script is run n within

-- ---- an answer

pub goes-on : AnswersGoOn
goes-on policy script notes seconds line a network time call small are is =
    let sees = a.sees network time are in
    let named = subst CanNameKeys (sym sees.set)
    (names script a.name a.calls a.entries (length a.entries) a.is_script a.is_run (omega arith)) in
    let read = are-read policy _ a.view call seconds a.now small named is in
    let says = ap (λ todo. todo_line policy.algorithm todo seconds) is in
    script_more _ a.name a.calls line call a.is_script
    (subst (λ line. IsLineOf line call) (sym (a.is_line ∙ says)) read)
