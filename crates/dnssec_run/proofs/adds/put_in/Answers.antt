-- A key stands at its place, and all others as before.
use Rattle.std.proofs.Common.{◌≡◌, ◌∙◌, ap, map, refl, rules, string_bytes, slice_set, subst}
use Rattle.std.proofs.lemmas.Fn.{always_returns_same}
use Rattle.std.specs.{FinMap.Entries.put as put_by, List.insert}
use Rattle.dnssec_run.specs.{declared.lists.Known.Known, Adds.listed_of}
use Rattle.dnssec_run.proofs.OneKey.{IsFound, IsMissed, put-ascending, put-found, puts, replaces}
use Rattle.dnssec_run.proofs.{OneKey.ids, OneKey.stands, Positions.order}
use Rattle.dnssec_run.proofs.adds.put_in.Goals as goal

replaced : (c : goal.After-drop-index_mut)
    → map listed_of (slice_set c.args.keys.now.items c.in-Ok.place
    record { listing = c.args.listing; reference = c.args.reference })
    ≡ put_by order (string_bytes c.args.reference) c.args.listing (ids c.args.keys.now.items)
replaced c =
    let q = string_bytes c.args.reference in
    let found = subst (λ keys. IsFound q keys c.in-Ok.place) c.deref.ensures.value (
      c.in-Ok.ensures.bound,
      c.in-Ok.ensures.position (stands q)
          (always_returns_same _ _ _ (λ a r f k. (search rules, search rules))),
    ) in
    replaces q c.args.keys.now.items c.in-Ok.place c.args.listing _ found.0 found.1 refl c.requires

pub returns-in-Ok-clause-ascending : goal.returns-in-Ok-clause-ascending
returns-in-Ok-clause-ascending c =
    put-ascending (string_bytes c.args.reference) _ _ c.args.listing (replaced c) c.requires

pub returns-in-Ok-clause-put : goal.returns-in-Ok-clause-put
returns-in-Ok-clause-put c =
    put-found (string_bytes c.args.reference) _ _ c.args.listing (replaced c)

inserted : (c : goal.In_ok-insert-in-Err) → map listed_of c.insert.new.self.items
    ≡ put_by order (string_bytes c.args.reference) c.args.listing (ids c.args.keys.now.items)
inserted c =
    let q = string_bytes c.args.reference in
    let place = c.in-Err.place in
    let key : Known = record { listing = c.args.listing; reference = c.args.reference } in
    let missed = subst (λ keys. IsMissed q keys place) c.deref.ensures.value (
      c.in-Err.ensures.bound,
      c.in-Err.ensures.position (stands q)
          (always_returns_same _ _ _ (λ a r f k. (search rules, search rules))),
    ) in
    puts q c.args.keys.now.items _ place c.args.listing key missed
    (c.in_ok-insert-in-Err.ensures.items ∙ ap (λ keys. insert keys place key)
    c.in_ok-reserve_exact-in-Err.ensures.items) refl c.requires

pub returns-in_ok-insert-in-Err-clause-ascending : goal.returns-in_ok-insert-in-Err-clause-ascending
returns-in_ok-insert-in-Err-clause-ascending c =
    put-ascending (string_bytes c.args.reference) _ _ c.args.listing (inserted c) c.requires

pub returns-in_ok-insert-in-Err-clause-put : goal.returns-in_ok-insert-in-Err-clause-put
returns-in_ok-insert-in-Err-clause-put c =
    put-found (string_bytes c.args.reference) _ _ c.args.listing (inserted c)
