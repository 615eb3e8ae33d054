use Rattle.std.proofs.Common.{◌≡◌, ◌≤◌, ◌*◌, drop}
use Rattle.hpf_base.specs.ElementOrder.{product}
use Rattle.array_meaning.specs.declared.limits.TheConstants.{MAX_TUPLES}
use Rattle.pair_cases.proofs.spaces.are_few.Given as goal

abbrev pub invariant-loop-extent : goal.invariant-loop-extent
invariant-loop-extent l = (product l.extents ≡ l.count * product (drop l.extent-index l.extents)) × (l.count ≤ MAX_TUPLES)
