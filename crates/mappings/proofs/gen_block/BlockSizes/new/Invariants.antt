use Rattle.std.proofs.Common.{◌≡◌, ◌+◌, map}
use Rattle.std.specs.List.{range_with_len}
use Rattle.mappings.specs.GenBlock.{size_before}
use Rattle.mappings.proofs.gen_block.BlockSizes.new.Given as goal

abbrev pub invariant-loop-size : goal.invariant-loop-size
invariant-loop-size l = (l.end ≡ size_before l.fn.sizes.items l.size-index)
    × (l.ends.items ≡ map (λ c. size_before l.fn.sizes.items (c + 1)) (range_with_len 0 l.size-index))
