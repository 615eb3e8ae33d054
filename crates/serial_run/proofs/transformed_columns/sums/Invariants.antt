use Rattle.std.proofs.Common.{◌≡◌}
use Rattle.serial_run.specs.TransformedValues.{sums_of}
use Rattle.serial_run.proofs.PrefixSums.{sum_of}
use Rattle.serial_run.proofs.transformed_columns.sums.Given as goal

-- the sums so far, and the last of them
abbrev pub invariant-loop-place : goal.invariant-loop-place
invariant-loop-place l = record {
  made : l.values.items ≡ sums_of l.elements l.place;
  last : l.sum ≡ sum_of l.elements l.place;
}
