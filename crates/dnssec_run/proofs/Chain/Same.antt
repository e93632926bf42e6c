-- What a test can't tell apart: a key before a call and after it, if the call changed nothing that
-- matters, or the key doesn't matter before or after.
use Rattle.std.proofs.Common.{◌≡◌, ◌⊎◌, Bool, true, false, not, ◌&&◌, sym, ◌∙◌, ap, arith, Option}
use Rattle.std.proofs.Common.{None, Some}
use Rattle.std.{specs.Option.option_map, proofs.Math.Bool.and-false}
use Rattle.dnssec_key.specs.declared.kind.KeyType.{KeyType}
use Rattle.dnssec_zone.proofs.Flags.{SideOf, Stage, flags_fit, is_idle, idle-fits, unseen-fits}
use Rattle.dnssec_run.specs.Published.{Id}
use Rattle.dnssec_run.proofs.Chain.Tale.{World, Key, found, if_some, stamp_of}
use Rattle.dnssec_run.proofs.Chain.{Tables.Stamp, Places.all_ok, Facts.Seen, Facts.sees}

-- the same flags; and the stamps that a wait reads
abbrev pub SameKind : Key → Key → Type 0
SameKind k j = k.keytype ≡ j.keytype

abbrev pub SameStamps : Key → Key → Type 0
SameStamps k j = (k.keytype ≡ j.keytype) × ((s : Stamp) → stamp_of s k ≡ stamp_of s j)

-- two keys that are so, or none
abbrev pub Both : (Key → Key → Type 0) → Option Key → Option Key → Type 0
Both S None None = Unit {0}
Both S (Some k) (Some j) = S k j
Both S _ _ = ⊥

-- or ones that don't matter
abbrev pub AlikeBut : (Key → Key → Type 0) → (KeyType → Bool) → Option Key → Option Key → Type 0
AlikeBut S idle o u = Both S o u ⊎ ((all_ok idle o ≡ true) × (all_ok idle u ≡ true))

pub ok-map : (p q : KeyType → Bool) → ((k : KeyType) → p k ≡ true → q k ≡ true) → (o : Option Key)
    → all_ok p o ≡ true → all_ok q o ≡ true
ok-map p q f o e = grind (arith, f)

pub alike-map : (S T : Key → Key → Type 0) → ((k j : Key) → S k j → T k j)
    → (p q : KeyType → Bool) → ((k : KeyType) → p k ≡ true → q k ≡ true) → (o u : Option Key)
    → AlikeBut S p o u → AlikeBut T q o u
alike-map S T f p q g o u h = grind (arith, f, g)

-- turned round
pub alike-round : (S : Key → Key → Type 0) → ((k j : Key) → S k j → S j k)
    → (idle : KeyType → Bool) (o u : Option Key) → AlikeBut S idle o u → AlikeBut S idle u o
alike-round S f idle o u h = grind (arith, f)

-- a key that matters after it was there before
pub was_there : (S : Key → Key → Type 0) (idle : KeyType → Bool) (o u : Option Key)
    → AlikeBut S idle o u → (j : Key) → u ≡ Some j → idle j.keytype ≡ false
    → (k : Key) × (o ≡ Some k) × S k j
was_there S idle o u h j e busy = grind arith

-- a call that maps a key, and leaves it as it was if it passes
pub map_but : (S : Key → Key → Type 0) (p idle : KeyType → Bool)
    → ((k : KeyType) → p k ≡ false → idle k ≡ true) → (f : Key → Key) (o : Option Key)
    → ((k : Key) → o ≡ Some k → (p (f k).keytype ≡ p k.keytype)
    × (p k.keytype ≡ true → S k (f k))) → AlikeBut S idle o (option_map f o)
map_but S p idle blind f o h = grind (arith, blind, h)

-- ---- at a key of a record

-- alike at a reference, and added by the same call if it matters
pub found-alike : (S : Key → Key → Type 0) (idle : KeyType → Bool) (w v : World) (id : Id)
    → ((v.added id.0 ≡ w.added id.0)
    ⊎ ((all_ok idle (w.key id.0) ≡ true) × (all_ok idle (v.key id.0) ≡ true)))
    → AlikeBut S idle (w.key id.0) (v.key id.0) → AlikeBut S idle (found w id) (found v id)
found-alike S idle w v id added h = grind arith

-- what doesn't pass, or is idle, isn't both
pub idle-out : (b : Bool) (k : KeyType) → is_idle k ≡ true → not (b && not (is_idle k)) ≡ true
idle-out b k e = ap (λ i. not (b && not i)) e ∙ ap not (and-false b)

pub failed-out : (p : KeyType → Bool) (k : KeyType) → p k ≡ false
    → not (p k && not (is_idle k)) ≡ true
failed-out p k e = ap (λ b. not (b && not (is_idle k))) e

-- ---- on a side

-- a side can't tell them apart
abbrev pub AlikeOn : SideOf → Option Key → Option Key → Type 0
AlikeOn sd = AlikeBut SameKind (λ k. not (sees sd k))

pub alike-on-round : (sd : SideOf) (o u : Option Key) → AlikeOn sd o u → AlikeOn sd u o
alike-on-round sd = alike-round SameKind (λ k j e. sym e) (λ k. not (sees sd k))

-- what is seen after it was there before
pub was-seen : (sd : SideOf) (o u : Option Key) → AlikeOn sd o u → (j : Key) → u ≡ Some j
    → sees sd j.keytype ≡ true → (k : Key) × (o ≡ Some k) × (k.keytype ≡ j.keytype)
was-seen sd o u h j e t = was_there SameKind (λ k. not (sees sd k)) o u h j e (ap not t)

pub some-was : (sd : SideOf) (p : KeyType → Bool) → Seen sd p → (o u : Option Key)
    → AlikeOn sd o u → if_some p u ≡ true → if_some p o ≡ true
some-was sd p seen o u h e = grind (arith, seen)

pub fits-still : (sd : SideOf) (st : Stage) (o u : Option Key) → AlikeOn sd o u
    → all_ok (flags_fit sd st) o ≡ true → all_ok (flags_fit sd st) u ≡ true
fits-still sd st o u h e = grind (arith, unseen-fits, idle-fits)
