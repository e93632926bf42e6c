-- The names that most proofs cite, passed on from one place. Declares nothing.
pub use Rattle.dnssec_base.specs.contracts.time.UnixTimeOrd.TheImpl.{cmp-value}
pub use Rattle.dnssec_judge.specs.Adds.{AreNumbered, IsAfter, IsTable, add_at}
pub use Rattle.dnssec_judge.specs.Bits.{all_at, common_at, drafted, has_bit, has_none, in_word}
pub use Rattle.dnssec_judge.specs.Bits.{meet, meet_three}
pub use Rattle.dnssec_judge.specs.Chained.{is_in, is_none, trusts_keys, trusts_zone}
pub use Rattle.dnssec_judge.specs.Inner.Floor.{floor_by, over_by}
unfoldable pub use Rattle.dnssec_judge.specs.Inner.Floor.{floor_up_to}
pub use Rattle.dnssec_judge.specs.Inner.Reports.{floor_with, over_all}
pub use Rattle.dnssec_judge.specs.Inner.Search.{IsChained, IsVerdictAt, has_chain}
pub use Rattle.dnssec_judge.specs.Inner.Spans.{Begins, IsWithin, Tiles, all_in, came, latest}
pub use Rattle.dnssec_judge.specs.Inner.Spans.{new_hold, noted, pairs_hold, trimmed}
pub use Rattle.dnssec_judge.specs.Inner.Window.{IsChanged, Watches, floor_at, in_window, spans_of}
pub use Rattle.dnssec_judge.specs.Inner.Windows.{AreSame, NoneBefore, is_in_use, last_set, next_set}
pub use Rattle.dnssec_judge.specs.Judge.{Knows}
pub use Rattle.dnssec_judge.specs.Numbers.{AreApart, Keys, Means, MeansSet, Stands}
pub use Rattle.dnssec_judge.specs.Reading.{AreTold, is_told}
pub use Rattle.dnssec_judge.specs.Sets.{Numbered, holds, keys_hold, sets_have_chain, zone_holds}
pub use Rattle.dnssec_judge.specs.Verdict.{ComesBefore, IsBroken, IsFirstBroken, IsVerdict}
pub use Rattle.dnssec_judge.specs.declared.judging.Judge.{Judge}
pub use Rattle.dnssec_judge.specs.declared.sets.adds.TheConstants.{FEW}
pub use Rattle.dnssec_judge.specs.declared.verdict.Broken.{Broken}
pub use Rattle.dnssec_judge.specs.declared.window.Window.{Window}
pub use Rattle.dnssec_judge.specs.declared.window.pairs.Link.TheVariants.{Named, Signed}
pub use Rattle.dnssec_judge.specs.declared.window.pairs.Link.{Link}
pub use Rattle.dnssec_judge.specs.declared.window.spans.Span.{Span}
pub use Rattle.dnssec_judge.specs.declared.judging.Windows.{Windows}
pub use Rattle.dnssec_run.proofs.Leads.{any-key}
pub use Rattle.dnssec_run.proofs.OneMore.{count, more, position-kept, position-new, steps, time-new}
pub use Rattle.dnssec_run.proofs.Since.{same-id, same-set}
pub use Rattle.dnssec_run.specs.Changes.{LeadTo, TellsApart, add_of, has_after, list_at}
pub use Rattle.dnssec_run.specs.Lists.{at_list}
pub use Rattle.dnssec_run.specs.Origins.{CachedSet, same_id, set_at}
unfoldable pub use Rattle.dnssec_run.specs.Origins.{origin}
pub use Rattle.dnssec_run.specs.Published.{Id, id_of}
pub use Rattle.dnssec_run.specs.Safe.{Dnskey, Ds, HasChain, IsGone, IsSafe, MayBeCached, Position}
pub use Rattle.dnssec_run.specs.Safe.{SetKind, ZoneSigners, is_step, kind_of, position_of}
unfoldable pub use Rattle.dnssec_run.specs.Safe.{base_below, position_at, time_at}
pub use Rattle.dnssec_run.specs.Steps.{AreStepsOf, step_of}
pub use Rattle.dnssec_run.specs.declared.lists.Change.{Change}
pub use Rattle.dnssec_run.specs.declared.lists.Shown.{Shown}
pub use Rattle.dnssec_run.specs.declared.record.Entry.{Entry}
pub use Rattle.dnssec_run.specs.declared.record.Mark.{Mark}
pub use Rattle.dnssec_zone.proofs.Quantified.{list_any-map}
pub use Rattle.std.proofs.Common.{Bool, List, None, Option, Some, [], ap, arith, drop, false}
pub use Rattle.std.proofs.Common.{get_or, inl, inr, length, map, refl, rules, subst, suc, sym, take}
pub use Rattle.std.proofs.Common.{tests, true, zero, ℕ, ◌%◌, ◌++◌, ◌+◌, ◌-◌, ◌/◌, ◌<◌, ◌∙◌, ◌∷◌}
pub use Rattle.std.proofs.Common.{◌≡◌, ◌≤◌}
pub use Rattle.std.proofs.lemmas.Bool.Decides.{Decides-at, Decides-like, nat_tests}
pub use Rattle.std.proofs.lemmas.Bool.Decides.{not_from_Decides, same_from_decides}
pub use Rattle.std.proofs.lemmas.Bool.{cases_lt, cond-false, cond-true, le-ltb, lt-ltb, or_left}
pub use Rattle.std.proofs.lemmas.Bool.{or_right, true≢false}
pub use Rattle.std.proofs.lemmas.Grind.{common_steps, elements}
pub use Rattle.std.proofs.lemmas.Iterator.Search.{any_from_yields_List}
pub use Rattle.std.proofs.lemmas.Iterator.{YieldsList-from_slice}
pub use Rattle.std.proofs.lemmas.List.{drop_more, get_or_past, take_all, take_more}
pub use Rattle.std.proofs.lemmas.Nat.Bits.{bit_at-lt, bit_at-zero, bit_at_and}
pub use Rattle.std.specs.BTreeMap.{get}
pub use Rattle.std.specs.Bool.{Decides}
pub use Rattle.std.specs.Int.Bits.{bit_and}
pub use Rattle.std.specs.Int.{bit_at}
pub use Rattle.std.specs.List.{All, Contains, list_all}
pub use Rattle.std.specs.Option.{option_map}
pub use Rattle.std.specs.Ordering.{nat_cmp, ord_min}
pub use Rattle.std.specs.Prelude.{if◌then◌else◌, is_some, max, nat_eq, nat_le, nat_lt, not}
pub use Rattle.std.specs.Prelude.{unwrap_or, vec_len, ◌&&◌, ◌==◌, ◌||◌}
