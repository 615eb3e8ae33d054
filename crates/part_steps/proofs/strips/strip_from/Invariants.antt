use Rattle.std.proofs.Common.{◌≡◌, ℕ, ◌+◌, ◌-◌, ◌*◌, ◌<◌, ◌≤◌}
use Rattle.std.specs.Prelude.{slice_index}
use Rattle.part_steps.proofs.strips.strip_from.Given as goal

-- so many tuples go by equal steps, up to the last, which lies in the row
abbrev pub invariant-loop-count : goal.invariant-loop-count
invariant-loop-count l = record {
  some : 1 ≤ l.count;
  few : l.count ≤ l.most;
  within : l.last ≤ l.end;
  last : l.last ≡ l.first + (l.count - 1) * l.step;
  at : (k : ℕ) → k < l.count → slice_index l.run (l.from + k) ≡ l.first + k * l.step;
}

abbrev pub decreases-loop-count : goal.decreases-loop-count
decreases-loop-count l = l.most - l.count
