use Rattle.std.proofs.Common.{◌≡◌, ◌≤◌, ◌*◌, drop}
use Rattle.hpf_base.specs.ElementOrder.{product}
use Rattle.array_meaning.specs.declared.limits.TheConstants.{MAX_TUPLES}
use Rattle.term_values.proofs.spaces.size.Given as goal

-- where the extents that are left aren't 0, none is
abbrev pub invariant-loop-n : goal.invariant-loop-n
invariant-loop-n l = 1 ≤ product (drop l.n-index l.ns) → 1 ≤ product l.ns

abbrev pub invariant-loop-n-2 : goal.invariant-loop-n-2
invariant-loop-n-2 l = (product l.ns ≡ l.count * product (drop l.n-index l.ns)) × (1 ≤ product (drop l.n-index l.ns)) × (1 ≤ l.count) × (l.count ≤ MAX_TUPLES)
