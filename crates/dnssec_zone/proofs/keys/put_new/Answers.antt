-- The entry is that of the reference, in this map, and the key is written at it.
use Rattle.std.proofs.Common.{◌≡◌, Some, string_bytes, sym, ap, subst, ◌∙◌, rules}
use Rattle.std.proofs.lemmas.Map.Text.{hash_map_updates_text}
use Rattle.std.specs.HashMap.{get_by_text, Entry.entry_map_ref, Entry.map_with_value}
use Rattle.dnssec_zone.proofs.keys.put_new.Goals as goal

pub returns-in-Vacant-clause-ok : goal.returns-in-Vacant-clause-ok
returns-in-Vacant-clause-ok c q =
    let entry = c.in_ok-place.field-0 in
    let key = c.args.key in
    let here = sym (subst (λ e. (entry_map_ref e).ghost_name ≡ c.entry-arg-1.given)
    c.in-Vacant.is c.in_ok-place.ensures.same_map) in
    let written = c.map-in-Vacant-2-1.given.1 here
    ∙ ap (map_with_value _) c.insert.ensures.value
    ∙ ap (λ e. map_with_value e key) (sym c.in-Vacant.is) in
    ap (λ m. get_by_text m q) written
    ∙ hash_map_updates_text (string_bytes c.args.pubref) c.args.map.now (map_with_value entry key)
    (Some key) (c.in_ok-place.ensures.update.0 key) q

pub returns-in-Occupied-clause-err : goal.returns-in-Occupied-clause-err
returns-in-Occupied-clause-err c = search rules
