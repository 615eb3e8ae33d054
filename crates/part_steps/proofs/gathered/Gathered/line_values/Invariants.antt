use Rattle.std.proofs.Common.{◌≡◌, ◌-◌, ◌≤◌, length, map}
use Rattle.std.specs.List.{range_with_len}
use Rattle.tuple_values.specs.Strips.{line_spot}
use Rattle.part_steps.specs.After.{value_of}
use Rattle.part_steps.specs.Gathered.{after_of}
use Rattle.part_steps.proofs.gathered.Gathered.line_values.Given as goal

-- the values of the elements so far
abbrev pub invariant-loop-line : goal.invariant-loop-line
invariant-loop-line l = record {
  few : length l.values.items ≤ l.count;
  values : l.values.items ≡ map (λ k. value_of (after_of l.self) (line_spot l.line k)) (range_with_len 0 (length l.values.items));
}

abbrev pub decreases-loop-line : goal.decreases-loop-line
decreases-loop-line l = l.count - length l.values.items
