-- The text of a policy is read as that policy.
use Rattle.std.proofs.Common.{◌≡◌, ℕ, suc, ◌≤◌, ◌/◌, ◌∙◌, ◌++◌, ◌∷◌, ◌==◌, ◌&&◌, List, []}
use Rattle.std.proofs.Common.{Option, None, Some, IfSome, Ok, ap, append_assoc, arith, codes, not}
use Rattle.std.proofs.Common.{Bool, decimal, refl, sym, true}
use Rattle.std.{proofs.lemmas.List.Folds.list_all-append, specs.List.list_all}
use Rattle.dnssec_script.specs.Script.{lines_of}
use Rattle.dnssec_policy.specs.declared.policy.{KeyRole.KeyRole, Policy.Policy, Term.Term}
use Rattle.dnssec_policy.specs.declared.policy.KeyRole.TheVariants.{Ksk, Zsk, Csk}
use Rattle.dnssec_policy.specs.declared.policy.{KskMethod.KskMethod, Scheme.Scheme}
use Rattle.dnssec_policy.specs.declared.policy.Scheme.TheVariants.{Split, SingleType}
use Rattle.dnssec_policy.specs.declared.policy.ZskMethod.{ZskMethod}
use Rattle.dnssec_policy.specs.declared.text.wish.{PolicyDraft.PolicyDraft, WishWord.WishWord}
use Rattle.dnssec_policy.specs.Text.Reading.{line_after, of_draft, of_first, policy_of, read_from}
use Rattle.dnssec_policy.specs.Text.{Reading.wish_said, Wishes.no_wish, Wishes.word_name}
use Rattle.dnssec_policy.specs.Text.Writing.{HasNoOther, IsNumber, IsSayable, IsSayableRenewal}
use Rattle.dnssec_policy.specs.Text.Writing.{IsSecond, first_line, lifetime_text, number_line}
use Rattle.dnssec_policy.specs.Text.Writing.{once_text, policy_text, renewal_text, renewals_text}
use Rattle.dnssec_policy.specs.Text.Writing.{rolls_text}
use Rattle.dnssec_policy.proofs.Texts.Cut.{AllLack, lack-append, lacks, lines-back, text-append}
use Rattle.dnssec_policy.proofs.Texts.{Cut.text_of, Numbers.digits-lack, Steps.one-more}
use Rattle.dnssec_policy.proofs.Texts.Wishing.{bare, bare_first, deletion-back, first-back}
use Rattle.dnssec_policy.proofs.Texts.Wishing.{lifetime-back, once-back, rolls-back, word-back}
use Rattle.dnssec_policy.specs.declared.text.wish.WishWord.TheVariants as word

-- ---- the lines of the text

-- a line that stands only if something is said
abbrev said_lines : (ℕ → List ℕ) → Option ℕ → List (List ℕ)
said_lines line None = []
said_lines line (Some n) = line n ∷ []

abbrev lifetime_line : KeyRole → ℕ → List ℕ
lifetime_line role n = bare (word.Lifetime role) n

abbrev once_line : KeyRole → ℕ → List ℕ
once_line role t = bare (word.Once role) (t / 1_000_000_000)

abbrev renewal_lines : KeyRole → Term → List (List ℕ)
renewal_lines role r =
    said_lines (lifetime_line role) r.lifetime ++ said_lines (once_line role) r.once

abbrev renewals_lines : Policy → Scheme → List (List ℕ)
renewals_lines p (Split k z) = renewal_lines Ksk p.ksk ++ renewal_lines Zsk p.zsk
renewals_lines p SingleType = renewal_lines Csk p.ksk

abbrev further_lines : Policy → List (List ℕ)
further_lines p = renewals_lines p p.scheme ++ bare word.DeleteAfter p.delete_after ∷ []

-- ---- the text is that of these lines

bare-text : (w : WishWord) (n : ℕ) → number_line w n ≡ text_of (bare w n ∷ [])
bare-text w n = ap (λ t. t ++ 10 ∷ []) (append_assoc (word_name w) (32 ∷ []) (decimal n))

lifetime-text : (role : KeyRole) (o : Option ℕ)
    → lifetime_text role o ≡ text_of (said_lines (lifetime_line role) o)
lifetime-text role None = refl
lifetime-text role (Some n) = bare-text (word.Lifetime role) n

once-text : (role : KeyRole) (o : Option ℕ)
    → once_text role o ≡ text_of (said_lines (once_line role) o)
once-text role None = refl
once-text role (Some t) = bare-text (word.Once role) (t / 1_000_000_000)

renewal-text : (role : KeyRole) (r : Term) → renewal_text role r ≡ text_of (renewal_lines role r)
renewal-text role r =
    (λ i. lifetime-text role r.lifetime i ++ once-text role r.once i)
    ∙ sym (text-append (said_lines (lifetime_line role) r.lifetime)
    (said_lines (once_line role) r.once))

renewals-text : (p : Policy) (scheme : Scheme)
    → renewals_text p scheme ≡ text_of (renewals_lines p scheme)
renewals-text p (Split k z) =
    (λ i. renewal-text Ksk p.ksk i ++ renewal-text Zsk p.zsk i)
    ∙ sym (text-append (renewal_lines Ksk p.ksk) (renewal_lines Zsk p.zsk))
renewals-text p SingleType = renewal-text Csk p.ksk

first-text : (p : Policy) (rest : List ℕ)
    → first_line p ++ rest ≡ bare_first p ++ 10 ∷ rest
first-text p rest =
    let d = decimal p.algorithm in let s = rolls_text p.scheme in
    append_assoc (((codes "policy " ++ d) ++ codes " ") ++ s) (10 ∷ []) rest
    ∙ ap (λ t. (codes "policy " ++ t) ++ 10 ∷ rest) (append_assoc d (32 ∷ []) s)

whole-text : (p : Policy) → policy_text p ≡ text_of (bare_first p ∷ further_lines p)
whole-text p =
    let more = renewals_text p p.scheme in
    let end = number_line word.DeleteAfter p.delete_after in
    append_assoc (first_line p) more end ∙ first-text p (more ++ end)
    ∙ ap (λ t. bare_first p ++ 10 ∷ t)
    ((λ i. renewals-text p p.scheme i ++ bare-text word.DeleteAfter p.delete_after i)
    ∙ sym (text-append (renewals_lines p p.scheme) (bare word.DeleteAfter p.delete_after ∷ [])))

-- ---- no line has a line feed

both : {x y : Bool} → x ≡ true → y ≡ true → (x && y) ≡ true
both {x = x} {y = y} e f = rw (e, f) refl

bare-lacks : (w : WishWord) (n : ℕ) → IsNumber n → lacks 10 (bare w n)
bare-lacks w n small = lack-append 10 (word_name w) (32 ∷ decimal n) (word-back w).1
    (digits-lack 10 n (omega arith) (omega arith))

all-append : (xs ys : List (List ℕ)) → AllLack xs → AllLack ys → AllLack (xs ++ ys)
all-append xs ys e f =
    list_all-append (λ line. list_all (λ b. not (b == 10)) line) xs ys ∙ both e f

lifetime-lacks : (role : KeyRole) (o : Option ℕ) → IfSome o IsNumber
    → AllLack (said_lines (lifetime_line role) o)
lifetime-lacks role None so = refl
lifetime-lacks role (Some n) so = both (bare-lacks (word.Lifetime role) n so) refl

second-small : (t : ℕ) → IsSecond t → IsNumber (t / 1_000_000_000)
second-small t (second, small, is) = omega arith

once-lacks : (role : KeyRole) (o : Option ℕ) → IfSome o IsSecond
    → AllLack (said_lines (once_line role) o)
once-lacks role None so = refl
once-lacks role (Some t) so =
    both (bare-lacks (word.Once role) (t / 1_000_000_000) (second-small t so)) refl

renewal-lacks : (role : KeyRole) (r : Term) → IsSayableRenewal r
    → AllLack (renewal_lines role r)
renewal-lacks role r so = all-append (said_lines (lifetime_line role) r.lifetime)
    (said_lines (once_line role) r.once) (lifetime-lacks role r.lifetime so.0)
    (once-lacks role r.once so.1)

renewals-lack : (p : Policy) (scheme : Scheme) → IsSayableRenewal p.ksk → HasNoOther p scheme
    → AllLack (renewals_lines p scheme)
renewals-lack p (Split k z) ksk zsk =
    all-append (renewal_lines Ksk p.ksk) (renewal_lines Zsk p.zsk) (renewal-lacks Ksk p.ksk ksk)
    (renewal-lacks Zsk p.zsk zsk)
renewals-lack p SingleType ksk zsk = renewal-lacks Csk p.ksk ksk

first-lacks : (p : Policy) → p.algorithm ≤ 255 → lacks 10 (bare_first p)
first-lacks p small =
    lack-append 10 (codes "policy ") (decimal p.algorithm ++ 32 ∷ rolls_text p.scheme) refl
    (lack-append 10 (decimal p.algorithm) (32 ∷ rolls_text p.scheme)
    (digits-lack 10 p.algorithm (omega arith) (omega arith)) (rolls-back p.scheme).0)

pub all-lack : (p : Policy) → IsSayable p → AllLack (bare_first p ∷ further_lines p)
all-lack p so = both (first-lacks p so.algorithm)
    (all-append (renewals_lines p p.scheme) (bare word.DeleteAfter p.delete_after ∷ [])
    (renewals-lack p p.scheme so.ksk so.zsk)
    (both (bare-lacks word.DeleteAfter p.delete_after so.delete_after) refl))

-- ---- reading the lines

-- what is said so far
abbrev so_far : Option ℕ → Option ℕ → Option ℕ → Option ℕ → PolicyDraft
so_far l o m q = record {
  ksk = record { lifetime = l; once = o };
  zsk = record { lifetime = m; once = q };
  delete_after = None;
}

-- a line that stands only if something is said is read as that
step : (scheme : Scheme) (line : ℕ → List ℕ) (d : Option ℕ → PolicyDraft) (P : ℕ → Type 0)
    (o : Option ℕ) → IfSome o P
    → ((m n : ℕ) → P n → line_after scheme m (d None) (line n) ≡ Ok (d (Some n)))
    → (n : ℕ) (rest : List (List ℕ))
    → (m : ℕ) × (read_from scheme n (d None) (said_lines line o ++ rest)
    ≡ read_from scheme m (d o) rest)
step scheme line d P None so each n rest = (n, refl)
step scheme line d P (Some k) so each n rest =
    (suc n, one-more scheme n (d None) (d (Some k)) (line k) rest (each n k so))

-- the last line
last : (scheme : Scheme) (l o m q : Option ℕ) (n k : ℕ) → IsNumber n
    → read_from scheme k (so_far l o m q) (bare word.DeleteAfter n ∷ [])
    ≡ Ok (record (so_far l o m q) { delete_after = Some n })
unfolding read_from
last scheme l o m q n k small =
    one-more scheme k (so_far l o m q) (record (so_far l o m q) { delete_after = Some n })
    (bare word.DeleteAfter n) [] (ap (wish_said scheme k (so_far l o m q)) (deletion-back n small))

split-back : (k : KskMethod) (z : ZskMethod) (p : Policy) → IsSayableRenewal p.ksk
    → IsSayableRenewal p.zsk → IsNumber p.delete_after
    → read_from (Split k z) 2 no_wish
    ((renewal_lines Ksk p.ksk ++ renewal_lines Zsk p.zsk)
    ++ bare word.DeleteAfter p.delete_after ∷ [])
    ≡ Ok (record (so_far p.ksk.lifetime p.ksk.once p.zsk.lifetime p.zsk.once) {
      delete_after = Some p.delete_after;
    })
split-back k z p ksk zsk small =
    let scheme = Split k z in
    let la = said_lines (lifetime_line Ksk) p.ksk.lifetime in
    let lb = said_lines (once_line Ksk) p.ksk.once in
    let lc = said_lines (lifetime_line Zsk) p.zsk.lifetime in
    let ld = said_lines (once_line Zsk) p.zsk.once in
    let end = bare word.DeleteAfter p.delete_after ∷ [] in
    let a = step scheme (lifetime_line Ksk) (λ o. so_far o None None None) IsNumber p.ksk.lifetime
    ksk.0 (λ m n is. ap (wish_said scheme m (so_far None None None None))
    (lifetime-back Ksk n is)) 2 (lb ++ (lc ++ (ld ++ end))) in
    let b = step scheme (once_line Ksk) (λ o. so_far p.ksk.lifetime o None None) IsSecond p.ksk.once
    ksk.1 (λ m n is. ap (wish_said scheme m (so_far p.ksk.lifetime None None None))
    (once-back Ksk n is)) a.0 (lc ++ (ld ++ end)) in
    let c = step scheme (lifetime_line Zsk) (λ o. so_far p.ksk.lifetime p.ksk.once o None) IsNumber
    p.zsk.lifetime zsk.0
    (λ m n is. ap (wish_said scheme m (so_far p.ksk.lifetime p.ksk.once None None))
    (lifetime-back Zsk n is)) b.0 (ld ++ end) in
    let d = step scheme (once_line Zsk) (λ o. so_far p.ksk.lifetime p.ksk.once p.zsk.lifetime o)
    IsSecond p.zsk.once zsk.1
    (λ m n is. ap (wish_said scheme m (so_far p.ksk.lifetime p.ksk.once p.zsk.lifetime None))
    (once-back Zsk n is)) c.0 end in
    let parts : ((la ++ lb) ++ (lc ++ ld)) ++ end ≡ la ++ (lb ++ (lc ++ (ld ++ end))) =
    append_assoc (la ++ lb) (lc ++ ld) end ∙ append_assoc la lb ((lc ++ ld) ++ end)
    ∙ ap (λ t. la ++ (lb ++ t)) (append_assoc lc ld end) in
    ap (read_from scheme 2 no_wish) parts ∙ a.1 ∙ b.1 ∙ c.1 ∙ d.1
    ∙ last scheme p.ksk.lifetime p.ksk.once p.zsk.lifetime p.zsk.once p.delete_after d.0 small

single-back : (p : Policy) → IsSayableRenewal p.ksk → IsNumber p.delete_after
    → read_from SingleType 2 no_wish
    (renewal_lines Csk p.ksk ++ bare word.DeleteAfter p.delete_after ∷ [])
    ≡ Ok (record (so_far p.ksk.lifetime p.ksk.once None None) {
      delete_after = Some p.delete_after;
    })
single-back p ksk small =
    let la = said_lines (lifetime_line Csk) p.ksk.lifetime in
    let lb = said_lines (once_line Csk) p.ksk.once in
    let end = bare word.DeleteAfter p.delete_after ∷ [] in
    let a = step SingleType (lifetime_line Csk) (λ o. so_far o None None None) IsNumber
    p.ksk.lifetime ksk.0
    (λ m n is. ap (wish_said SingleType m (so_far None None None None)) (lifetime-back Csk n is)) 2
    (lb ++ end) in
    let b = step SingleType (once_line Csk) (λ o. so_far p.ksk.lifetime o None None) IsSecond
    p.ksk.once ksk.1
    (λ m n is. ap (wish_said SingleType m (so_far p.ksk.lifetime None None None))
    (once-back Csk n is)) a.0 end in
    ap (read_from SingleType 2 no_wish) (append_assoc la lb end) ∙ a.1 ∙ b.1
    ∙ last SingleType p.ksk.lifetime p.ksk.once None None p.delete_after b.0 small

-- ---- all of it

lines-read : (p : Policy) (scheme : Scheme) → p.scheme ≡ scheme → IsSayableRenewal p.ksk
    → HasNoOther p scheme → IsNumber p.delete_after
    → of_draft (p.algorithm, scheme) (read_from scheme 2 no_wish
    (renewals_lines p scheme ++ bare word.DeleteAfter p.delete_after ∷ [])) ≡ Ok p
lines-read p (Split k z) is ksk zsk small =
    ap (of_draft (p.algorithm, Split k z)) (split-back k z p ksk zsk small)
    ∙ (λ i. Ok (record p { scheme = sym is i }))
lines-read p SingleType is ksk zsk small =
    ap (of_draft (p.algorithm, SingleType)) (single-back p ksk small)
    ∙ (λ i. Ok (record p { scheme = sym is i; zsk = sym zsk i }))

pub text-back : (p : Policy) → IsSayable p → policy_of (lines_of (policy_text p)) ≡ Ok p
text-back p so =
    ap (λ t. policy_of (lines_of t)) (whole-text p)
    ∙ ap policy_of (lines-back (bare_first p) (further_lines p) (all-lack p so))
    ∙ ap (λ o. of_first o (further_lines p)) (first-back p so.algorithm)
    ∙ lines-read p p.scheme refl so.ksk so.zsk so.delete_after
