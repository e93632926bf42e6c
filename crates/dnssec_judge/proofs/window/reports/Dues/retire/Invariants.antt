-- The reports so far are in the floor, or wait.
use Rattle.dnssec_judge.proofs.Base.{ℕ, ◌≡◌, ◌≤◌, drop, floor_with, length, max, over_all, take}
use Rattle.dnssec_judge.specs.Inner.Reports.{IsNoneBefore}
use Rattle.dnssec_judge.proofs.window.reports.Dues.retire.Given as goal

abbrev pub invariant-loop-place : goal.invariant-loop-place
invariant-loop-place l = record {
  none : l.self.next ≡ 0;
  within : l.kept ≤ l.place;
  len : length l.self.list.items ≡ length l.initial.self.list.items;
  dues : (t : ℕ) → l.time ≤ t → max (floor_with l.risen (take l.kept l.self.list.items) t)
      (over_all (drop l.place l.self.list.items) t)
      ≡ floor_with l.floor l.initial.self.list.items t;
  next : IsNoneBefore l.next (take l.kept l.self.list.items);
  wait : over_all (take l.kept l.self.list.items) l.time ≡ 0;
}
