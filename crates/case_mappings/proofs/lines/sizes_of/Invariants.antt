use Rattle.std.proofs.Common.{◌≡◌, ◌≤◌, length, All}
use Rattle.mappings.specs.declared.limits.TheConstants.{MAX_BLOCK}
use Rattle.case_mappings.proofs.lines.sizes_of.Given as goal

-- as many sizes as numbers so far, each of which may be one
abbrev pub invariant-loop-number : goal.invariant-loop-number
invariant-loop-number l = (length l.sizes.items ≡ l.number-index) × All (λ size. size ≤ MAX_BLOCK) l.sizes.items
