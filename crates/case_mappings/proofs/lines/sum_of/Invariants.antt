use Rattle.std.proofs.Common.{◌≡◌, ◌≤◌, ◌+◌, ◌*◌, sum, drop}
use Rattle.mappings.specs.declared.limits.TheConstants.{MAX_BLOCK}
use Rattle.case_mappings.proofs.lines.sum_of.Given as goal

-- the sizes so far and those that are left come to the sum of all; no size is great
abbrev pub invariant-loop-size : goal.invariant-loop-size
invariant-loop-size l = (l.sum + sum (drop l.size-index l.sizes) ≡ sum l.sizes) × (l.sum ≤ l.size-index * MAX_BLOCK)
