use Rattle.std.proofs.Common.{◌≡◌, ◌+◌, ◌<◌, length, get_or, sym, ◌∙◌, ap, arith}
use Rattle.mappings.specs.GenBlock.{size_before}
use Rattle.mappings.proofs.GenBlocks.{size_before-more, length-block_ends, get-block_ends}
use Rattle.mappings.proofs.gen_block.BlockSizes.before.Goals as goal

pub index-requires : goal.index-requires
index-requires c = omega (arith, c.requires, ap length c.self.view_is, ap length c.self.invariant.0, length-block_ends c.self.inside.sizes.items)

-- the last position of its block
end_is : (c : goal.After-row_known-2-1) → c.index.result.now ≡ size_before c.self.inside.sizes.items c.args.node + c.index-2.result.now
end_is c =
    let within : c.args.node < length c.self.inside.sizes.items = omega (arith, c.requires, ap length c.self.view_is) in
    c.index.ensures ∙ ap (λ xs. get_or xs c.args.node c.index.result.now) c.self.invariant.0
    ∙ get-block_ends c.self.inside.sizes.items c.args.node c.index.result.now within
    ∙ size_before-more c.self.inside.sizes.items c.args.node c.index-2.result.now within
    ∙ ap (λ n. size_before c.self.inside.sizes.items c.args.node + n) (sym c.index-2.ensures)

pub overflow_sub-result : goal.overflow_sub-result
overflow_sub-result c = omega (arith, end_is c)

pub returns : goal.returns
returns c = omega (arith, end_is c, ap (λ xs. size_before xs c.args.node) c.self.view_is)
