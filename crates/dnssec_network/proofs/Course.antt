-- A course of sixteen calls: a KSK and a ZSK come in by an algorithm roll, and by a second one
-- those of another algorithm come in for them. It is a run. For `WholeSets`.
use Rattle.std.proofs.Common.{◌≡◌, ℕ, suc, ◌+◌, ◌*◌, ◌<◌, ◌^◌, T, max, fold, nat_eq}
use Rattle.std.proofs.Common.{List, [], ◌∷◌, ◌++◌, map, length, take, None, Some, true, false}
use Rattle.std.proofs.Common.{refl, arith, Global, String, Bor}
use Rattle.std.specs.{FinMap.find, FinMap.is_sorted, List.list_any}
use Rattle.dnssec_key.specs.declared.kind.KeyType.TheVariants.{Ksk, Zsk}
use Rattle.dnssec_key.specs.declared.kind.Available.TheVariants.{Available}
use Rattle.dnssec_key.specs.declared.roll.Action.TheVariants.{CreateCdsRrset, RemoveCdsRrset}
use Rattle.dnssec_key.specs.declared.roll.Action.TheVariants.{ReportDnskeyPropagated}
use Rattle.dnssec_key.specs.declared.roll.Action.TheVariants.{ReportDsPropagated}
use Rattle.dnssec_key.specs.declared.roll.Action.TheVariants.{ReportRrsigPropagated}
use Rattle.dnssec_key.specs.declared.roll.Action.TheVariants.{UpdateDnskeyRrset, UpdateDsRrset}
use Rattle.dnssec_key.specs.declared.roll.Action.TheVariants.{UpdateRrsig, WaitDnskeyPropagated}
use Rattle.dnssec_key.specs.declared.roll.{Action.TheVariants.WaitRrsigPropagated, Half.Half}
use Rattle.dnssec_key.specs.declared.roll.Half.TheVariants.{First, Second}
use Rattle.dnssec_key.specs.declared.roll.RollState.TheVariants.{CacheExpire1, CacheExpire2}
use Rattle.dnssec_key.specs.declared.roll.RollState.TheVariants.{Done, Propagation1, Propagation2}
use Rattle.dnssec_key.specs.declared.roll.RollType.TheVariants.{AlgorithmRoll}
use Rattle.dnssec_key.specs.Key.{KeyParts, new_key, new_state}
use Rattle.dnssec_key.specs.RollTable.{after_expiry, after_report, after_start, after_wait}
use Rattle.dnssec_key.specs.RollTable.{cache_expire, column}
use Rattle.dnssec_zone.specs.Start.{PresentKskRole, PresentZskRole, is_listed, new_fault}
use Rattle.dnssec_zone.specs.Start.{old_fault, serves_as_new, some_listed, texts}
use Rattle.dnssec_zone.specs.Wait.{lacks_stamp, time_left}
use Rattle.dnssec_keyset.specs.Step as keyset
use Rattle.dnssec_run.specs.declared.call.Call.{Call}
use Rattle.dnssec_run.specs.declared.call.Call.TheVariants.{AddKeyKsk, AddKeyZsk, CacheExpired1}
use Rattle.dnssec_run.specs.declared.call.Call.TheVariants.{CacheExpired2, Propagation1Complete}
use Rattle.dnssec_run.specs.declared.call.Call.TheVariants.{Propagation2Complete, RollDone}
use Rattle.dnssec_run.specs.declared.call.Call.TheVariants.{StartRoll}
use Rattle.dnssec_run.specs.declared.record.{Entry.Entry, Published.Published}
use Rattle.dnssec_run.specs.declared.record.{PublishedKey.PublishedKey, Reply.Reply}
use Rattle.dnssec_run.specs.{Record.added_by, Record.call_of, WholeRolls.propagation}
use Rattle.dnssec_run.specs.declared.record.Reply.TheVariants as reply
use Rattle.dnssec_network.proofs.CallByCall.{Entries, Reached, Shows, add-clear, begun, by}
use Rattle.dnssec_network.proofs.CallByCall.{ended, entry_of, goes-on, held, named, order, rolled}
use Rattle.dnssec_network.proofs.CallByCall.{shows, start-clear, wait-clear}

-- ---- the list

module _ (heap : Global) (name : List ℕ) (one other : ℕ) where
  -- the references, in the order of their bytes: a KSK `d` and a ZSK `c` of the one algorithm, a
  -- KSK `b` and a ZSK `a` of the other
  abbrev pub a : String Global
  a = named heap 97 (omega arith)

  abbrev pub b : String Global
  b = named heap 98 (omega arith)

  abbrev pub c : String Global
  c = named heap 99 (omega arith)

  abbrev pub d : String Global
  d = named heap 100 (omega arith)

  abbrev pub lent : {X : Type 0} → X → Bor X
  lent x = record { ref_ptr = (0, 0); now = x }

  abbrev pub firsts : List (List ℕ)
  firsts = (100 ∷ []) ∷ (99 ∷ []) ∷ []

  abbrev pub seconds : List (List ℕ)
  seconds = (98 ∷ []) ∷ (97 ∷ []) ∷ []

  abbrev pub slice : List (List ℕ) → Bor (List (Bor (List ℕ)))
  slice qs = lent (map (λ (q : List ℕ). lent q) qs)

  abbrev pub second : ℕ → ℕ
  second n = n * 1_000_000_000

  abbrev pub add_d : Call
  add_d = AddKeyKsk d None one 1 0 Available

  abbrev pub add_c : Call
  add_c = AddKeyZsk c None one 2 0 Available

  abbrev pub add_b : Call
  add_b = AddKeyKsk b None other 3 0 Available

  abbrev pub add_a : Call
  add_a = AddKeyZsk a None other 4 0 Available

  abbrev starts : List (List ℕ) → List (List ℕ) → ℕ → Call
  starts olds news n = StartRoll AlgorithmRoll (slice olds) (slice news) (second n)

  abbrev reports : Half → ℕ → Call
  reports First n = Propagation1Complete AlgorithmRoll 1 (second n)
  reports Second n = Propagation2Complete AlgorithmRoll 1 (second n)

  abbrev waits : Half → ℕ → Call
  waits First n = CacheExpired1 AlgorithmRoll (second n)
  waits Second n = CacheExpired2 AlgorithmRoll (second n)

  abbrev ends : Call
  ends = RollDone AlgorithmRoll

  -- what follows the start of a roll, a call a second
  abbrev rest_calls : ℕ → List Call
  rest_calls n =
      reports First n ∷ waits First (n + 1) ∷ reports Second (n + 2) ∷ waits Second (n + 3)
      ∷ ends ∷ []

  abbrev pub calls : List Call
  calls = add_d ∷ add_c ∷ add_b ∷ add_a ∷ starts [] firsts 5 ∷ rest_calls 6
      ++ starts firsts seconds 11 ∷ rest_calls 12

  -- ---- what each leaves published

  abbrev pub key : ℕ → String Global → PublishedKey
  key n reference = record { added = n; reference = reference }

  abbrev pub sets : (ds dnskey signers zone : List PublishedKey) → length ds < 2 ^ 63
      → length dnskey < 2 ^ 63 → length signers < 2 ^ 63 → length zone < 2 ^ 63 → Published
  sets ds dnskey signers zone p q r s = record {
    ds = held heap ds p;
    dnskey = held heap dnskey q;
    dnskey_signers = held heap signers r;
    zone_signers = held heap zone s;
  }

  abbrev pub nothing : Published
  nothing = sets [] [] [] [] (omega arith) (omega arith) (omega arith) (omega arith)

  abbrev pub come_in : Published
  come_in = sets [] (key 2 c ∷ key 1 d ∷ []) (key 1 d ∷ []) (key 2 c ∷ []) (omega arith)
      (omega arith) (omega arith) (omega arith)

  abbrev pub of_one : Published
  of_one = sets (key 1 d ∷ []) (key 2 c ∷ key 1 d ∷ []) (key 1 d ∷ []) (key 2 c ∷ [])
      (omega arith) (omega arith) (omega arith) (omega arith)

  abbrev pub all_keys : List PublishedKey
  all_keys = key 4 a ∷ key 3 b ∷ key 2 c ∷ key 1 d ∷ []

  abbrev pub of_both : Published
  of_both = sets (key 1 d ∷ []) all_keys (key 3 b ∷ key 1 d ∷ []) (key 4 a ∷ key 2 c ∷ [])
      (omega arith) (omega arith) (omega arith) (omega arith)

  abbrev pub turned : Published
  turned = sets (key 3 b ∷ []) all_keys (key 3 b ∷ key 1 d ∷ []) (key 4 a ∷ key 2 c ∷ [])
      (omega arith) (omega arith) (omega arith) (omega arith)

  abbrev pub of_other : Published
  of_other = sets (key 3 b ∷ []) (key 4 a ∷ key 3 b ∷ []) (key 3 b ∷ []) (key 4 a ∷ [])
      (omega arith) (omega arith) (omega arith) (omega arith)

  -- ---- what each answers

  abbrev pub asked_first : Reply
  asked_first = reply.Actions (held heap (UpdateDnskeyRrset ∷ UpdateRrsig ∷ ReportDnskeyPropagated
      ∷ ReportRrsigPropagated ∷ []) (omega arith))

  abbrev pub asked_between : Reply
  asked_between = reply.Actions (held heap (CreateCdsRrset ∷ UpdateDsRrset ∷ ReportDsPropagated
      ∷ []) (omega arith))

  abbrev pub asked_last : Reply
  asked_last = reply.Actions (held heap (RemoveCdsRrset ∷ UpdateDnskeyRrset ∷ UpdateRrsig
      ∷ WaitDnskeyPropagated ∷ WaitRrsigPropagated ∷ []) (omega arith))

  abbrev pub none_asked : Reply
  none_asked = reply.Actions (held heap [] (omega arith))

  abbrev pub entry : Call → Reply → Published → Entry
  entry call answer p = entry_of name call answer p

  -- what follows the start of a roll, of which the calls leave these sets in turn
  abbrev rest_entries : ℕ → Published → Published → Published → List Entry
  rest_entries n p q r = entry (reports First n) none_asked p
      ∷ entry (waits First (n + 1)) asked_between q
      ∷ entry (reports Second (n + 2)) none_asked q
      ∷ entry (waits Second (n + 3)) asked_last r
      ∷ entry ends none_asked r
      ∷ []

  abbrev pub entries : List Entry
  entries = entry add_d reply.Done nothing
      ∷ entry add_c reply.Done nothing
      ∷ entry add_b reply.Done nothing
      ∷ entry add_a reply.Done nothing
      ∷ entry (starts [] firsts 5) asked_first come_in
      ∷ rest_entries 6 come_in of_one of_one
      ++ entry (starts firsts seconds 11) asked_first of_both
      ∷ rest_entries 12 of_both turned of_other

  -- ---- the keys after each

  abbrev pub ksk : ℕ → ℕ → KeyParts
  ksk algorithm tag = new_key None (Ksk (new_state true)) algorithm tag 0

  abbrev pub zsk : ℕ → ℕ → KeyParts
  zsk algorithm tag = new_key None (Zsk (new_state true)) algorithm tag 0

  abbrev keys4 : Entries
  keys4 = (97 ∷ [], zsk other 4) ∷ (98 ∷ [], ksk other 3) ∷ (99 ∷ [], zsk one 2)
      ∷ (100 ∷ [], ksk one 1) ∷ []

  abbrev started : List (List ℕ) → List (List ℕ) → ℕ → List ℕ → KeyParts → KeyParts
  started olds news n q = after_start AlgorithmRoll (second n)
      (is_listed (texts (slice olds).now) q) (is_listed (texts (slice news).now) q)

  abbrev reported : Half → ℕ → List ℕ → KeyParts → KeyParts
  reported half n q = after_report AlgorithmRoll half (second n)

  abbrev waited : Half → ℕ → List ℕ → KeyParts → KeyParts
  waited half n q = after_wait AlgorithmRoll half (second n)

  -- after what follows the start of a roll
  abbrev rest_keys : ℕ → Entries → Entries
  rest_keys n es = by name (waited Second (n + 3)) (by name (reported Second (n + 2))
      (by name (waited First (n + 1)) (by name (reported First n) es)))

  abbrev pub keys5 : Entries
  keys5 = by name (started [] firsts 5) keys4

  abbrev pub keys11 : Entries
  keys11 = by name (started firsts seconds 11) (rest_keys 6 keys5)

  -- where each reference was added
  abbrev pub added4 : List ℕ → ℕ
  added4 = added_by 4 add_a reply.Done (added_by 3 add_b reply.Done
      (added_by 2 add_c reply.Done (added_by 1 add_d reply.Done (λ q. 0))))

  -- ---- one more call, whatever came before

  -- an add, after which nothing is published yet
  add : {cs : List Call} {so_far : List Entry} {es : Entries} {added : List ℕ → ℕ} (x : Call)
      (q : List ℕ) (k : KeyParts) → Reached name cs so_far es None added
      → call_of x ≡ keyset.AddKey q k → T (is_sorted order es)
      → list_any (λ j. nat_eq j.key_tag k.key_tag) (map (λ e. e.1) es) ≡ false
      → find order q es ≡ None
      → Shows name nothing ((q, k) ∷ es) (added_by (suc (length cs)) x reply.Done added)
      → Reached name (cs ++ x ∷ []) (so_far ++ entry x reply.Done nothing ∷ []) ((q, k) ∷ es) None
      (added_by (suc (length cs)) x reply.Done added)
  add {cs = cs} {so_far = so_far} {es = es} {added = added} x q k at is up apart none shown =
      let more : List ℕ → ℕ = added_by (suc (length cs)) x reply.Done added in
      goes-on name cs so_far es None added x reply.Done nothing ((q, k) ∷ es) None at.lists more at
      refl (rw is (add-clear name es q k.key_tag up apart none)) (rw is refl) (rw is refl)
      (rw is refl) (shows name nothing ((q, k) ∷ es) None at.lists more shown)

  -- a wait is over if no key lacks its stamp, and no time is left
  abbrev IsOver : Half → ℕ → Entries → Type 0
  IsOver half n es = (list_any (lacks_stamp AlgorithmRoll half) (map (λ e. e.1) es) ≡ false)
      × (fold max 0 (map (time_left AlgorithmRoll half 1 (second n)) (map (λ e. e.1) es)) ≡ 0)

  abbrev asked_after : Half → Reply
  asked_after First = asked_between
  asked_after Second = asked_last

  module _ {cs : List Call} {so_far : List Entry} {es : Entries} (up : T (is_sorted order es))
      (p : Published) (n : ℕ) where
    -- a start lists keys that it may list, and brings in a KSK and a ZSK
    start : (olds news : List (List ℕ)) → Reached name cs so_far es None added4
        → (old_fault AlgorithmRoll (λ q. find order q es) (texts (slice olds).now) ≡ None)
        × (new_fault AlgorithmRoll (λ q. find order q es) (texts (slice olds).now) []
        (texts (slice news).now) ≡ None)
        × (some_listed (serves_as_new PresentKskRole) (λ q. find order q es)
        (texts (slice news).now) ≡ true)
        × (some_listed (serves_as_new PresentZskRole) (λ q. find order q es)
        (texts (slice news).now) ≡ true)
        → Shows name p (by name (started olds news n) es) added4
        → Reached name (cs ++ starts olds news n ∷ [])
        (so_far ++ entry (starts olds news n) asked_first p ∷ []) (by name (started olds news n) es)
        (Some Propagation1) added4
    unfolding column
    start olds news at may shown =
        rolled name cs so_far es None added4 (starts olds news n) asked_first p (Some Propagation1)
        (started olds news n) at up refl
        (λ lists. start-clear name es lists (texts (slice olds).now) (texts (slice news).now)
        (second n) may.0 may.1 may.2 may.3) refl (λ lists. refl) (λ lists. refl) shown

    report : (half : Half) → Reached name cs so_far es (Some (propagation half)) added4
        → Shows name p (by name (reported half n) es) added4
        → Reached name (cs ++ reports half n ∷ [])
        (so_far ++ entry (reports half n) none_asked p ∷ []) (by name (reported half n) es)
        (Some (cache_expire half 1)) added4
    unfolding column
    report First at shown = rolled name cs so_far es (Some Propagation1) added4 (reports First n)
        none_asked p (Some (CacheExpire1 1)) (reported First n) at up refl (λ lists. refl) refl
        (λ lists. refl) (λ lists. refl) shown
    report Second at shown = rolled name cs so_far es (Some Propagation2) added4 (reports Second n)
        none_asked p (Some (CacheExpire2 1)) (reported Second n) at up refl (λ lists. refl) refl
        (λ lists. refl) (λ lists. refl) shown

    wait : (half : Half) → Reached name cs so_far es (Some (cache_expire half 1)) added4
        → IsOver half n es → Shows name p (by name (waited half n) es) added4
        → Reached name (cs ++ waits half n ∷ [])
        (so_far ++ entry (waits half n) (asked_after half) p ∷ []) (by name (waited half n) es)
        (Some (after_expiry half)) added4
    unfolding column
    wait First at over shown = rolled name cs so_far es (Some (CacheExpire1 1)) added4
        (waits First n) asked_between p (Some Propagation2) (waited First n) at up refl
        (λ lists. wait-clear name First 1 (second n) es up over.0 over.1) refl (λ lists. refl)
        (λ lists. refl) shown
    wait Second at over shown = rolled name cs so_far es (Some (CacheExpire2 1)) added4
        (waits Second n) asked_last p (Some Done) (waited Second n) at up refl
        (λ lists. wait-clear name Second 1 (second n) es up over.0 over.1) refl (λ lists. refl)
        (λ lists. refl) shown

  -- ---- the run

  -- one element after another
  abbrev on : {X : Type 0} → List X → List X → List X
  on xs [] = xs
  on xs (y ∷ ys) = on (xs ++ y ∷ []) ys

  -- what follows the start of a roll, if its waits are over and each call leaves its sets
  module _ (cs : List Call) (so_far : List Entry) (es : Entries) (n : ℕ) where
    abbrev at_report1 : Entries
    at_report1 = by name (reported First n) es

    abbrev at_wait1 : Entries
    at_wait1 = by name (waited First (n + 1)) at_report1

    abbrev at_report2 : Entries
    at_report2 = by name (reported Second (n + 2)) at_wait1

    rest : (p q r : Published) → Reached name cs so_far es (Some Propagation1) added4
        → T (is_sorted order es) → Shows name p at_report1 added4
        → IsOver First (n + 1) at_report1 → Shows name q at_wait1 added4
        → Shows name q at_report2 added4 → IsOver Second (n + 3) at_report2
        → Shows name r (rest_keys n es) added4
        → Reached name (on cs (rest_calls n)) (on so_far (rest_entries n p q r)) (rest_keys n es)
        None added4
    rest p q r at up shown1 over1 shown2 shown3 over2 shown4 =
        let report1 = report up p n First at shown1 in
        let wait1 = wait shown1.0 q (n + 1) First report1 over1 shown2 in
        let report2 = report shown2.0 q (n + 2) Second wait1 shown3 in
        let wait2 = wait shown3.0 r (n + 3) Second report2 over2 shown4 in
        ended name _ _ (rest_keys n es) added4 none_asked r wait2 refl refl (λ lists. refl) shown4

  pub run5 : Reached name (take 5 calls) (take 5 entries) keys5 (Some Propagation1) added4
  unfolding column
  run5 =
      let one_key = add add_d (100 ∷ []) (ksk one 1) (begun name) refl tt refl refl
      (tt, refl, refl, refl, refl) in
      let two_keys = add add_c (99 ∷ []) (zsk one 2) one_key refl tt refl refl
      (tt, refl, refl, refl, refl) in
      let three_keys = add add_b (98 ∷ []) (ksk other 3) two_keys refl tt refl refl
      (tt, refl, refl, refl, refl) in
      let four_keys = add add_a (97 ∷ []) (zsk other 4) three_keys refl tt refl refl
      (tt, refl, refl, refl, refl) in
      start tt come_in 5 [] firsts four_keys (refl, refl, refl, refl) (tt, refl, refl, refl, refl)

  run10 : Reached name (take 10 calls) (take 10 entries) (rest_keys 6 keys5) None added4
  unfolding column
  run10 = rest (take 5 calls) (take 5 entries) keys5 6 come_in of_one of_one run5 tt
      (tt, refl, refl, refl, refl) (refl, refl) (tt, refl, refl, refl, refl)
      (tt, refl, refl, refl, refl) (refl, refl) (tt, refl, refl, refl, refl)

  pub run11 : Reached name (take 11 calls) (take 11 entries) keys11 (Some Propagation1) added4
  unfolding column
  run11 = start {cs = take 10 calls} {so_far = take 10 entries} {es = rest_keys 6 keys5} tt of_both
      11 firsts seconds run10 (refl, refl, refl, refl) (tt, refl, refl, refl, refl)

  pub run16 : Reached name calls entries (rest_keys 12 keys11) None added4
  unfolding column
  run16 = rest (take 11 calls) (take 11 entries) keys11 12 of_both turned of_other run11 tt
      (tt, refl, refl, refl, refl) (refl, refl) (tt, refl, refl, refl, refl)
      (tt, refl, refl, refl, refl) (refl, refl) (tt, refl, refl, refl, refl)
