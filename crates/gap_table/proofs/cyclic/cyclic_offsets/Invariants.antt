use Rattle.std.proofs.Common.{◌-◌, ◌≡◌, ◌+◌, ◌*◌, ◌%◌, ◌≤◌, ◌<◌, map, ℕ}
use Rattle.std.specs.List.{range_with_len}
use Rattle.gap_table.proofs.cyclic.cyclic_offsets.Given as goal

abbrev pub invariant-loop-residue : goal.invariant-loop-residue
invariant-loop-residue g l = (n : ℕ) × record {
  residue : l.residue ≡ l.distance % l.divisor + n * l.divisor;
  offset : l.offset ≡ (l.initial.offset + n * l.inverse) % l.period;
  offsets : l.offsets.items ≡ map (λ i. (l.initial.offset + i * l.inverse) % l.period) (range_with_len 0 n);
  each : (i : ℕ) → i < n → l.distance % l.divisor + i * l.divisor < l.block;
  few : n ≤ l.residue;
  within : n ≤ l.block;
  steps : l.steps ≡ l.fn.steps + 2 * n;
}

abbrev pub decreases-loop-residue : goal.decreases-loop-residue
decreases-loop-residue g l = l.block - l.residue
