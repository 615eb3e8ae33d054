use Rattle.std.proofs.Common.{◌≡◌, nat_le, nat_lt, sym, ◌∙◌, ap, subst, rules}
use Rattle.std.proofs.lemmas.List.Sorted.{IsPartitionPoint-from_clause, IsPartitionedBy-ltb}
use Rattle.std.specs.List.{position_or_len}
use Rattle.std.specs.List.Sorted.{IsNonDecreasing}
use Rattle.mappings.specs.GenBlock.{block_ends}
use Rattle.mappings.proofs.GenBlocks.{block_ends-rise, first_at_point}
use Rattle.mappings.proofs.gen_block.BlockSizes.owner.Goals as goal

pub returns : goal.returns
returns c =
    let ends : c.deref.result.now ≡ block_ends c.args.self.now = c.deref.ensures.value ∙ c.self.invariant.0 ∙ ap block_ends c.self.view_is in
    let point = IsPartitionPoint-from_clause (λ x. nat_lt x c.args.position) c.deref.result.now c.partition_point.result c.partition_point.ensures.partitioned
    (IsPartitionedBy-ltb (λ x. x) c.deref.result.now c.args.position (subst IsNonDecreasing (sym ends) (block_ends-rise c.args.self.now))) (λ a r f' k. search rules) in
    first_at_point c.args.position c.deref.result.now c.partition_point.result c.partition_point.ensures.bound point
    ∙ ap (λ xs. position_or_len (nat_le c.args.position) xs) ends
