use Rattle.std.proofs.Common.{◌≡◌, ◌+◌, ◌*◌, ◌≤◌, length, get_or, ◌∙◌, ap, arith}
use Rattle.std.proofs.Math.Nat.{mul-le-mul_right}
use Rattle.hpf_base.specs.declared.limits.TheConstants.{MAX_NODES}
use Rattle.mappings.specs.declared.limits.TheConstants.{MAX_BLOCK}
use Rattle.mappings.specs.GenBlock.{size_before}
use Rattle.mappings.proofs.GenBlocks.{size_before-small, length-block_ends, get-block_ends}
use Rattle.mappings.proofs.gen_block.BlockSizes.end.Goals as goal

pub index-requires : goal.index-requires
index-requires c = omega (arith, c.requires, ap length c.self.view_is, ap length c.self.invariant.0, length-block_ends c.self.inside.sizes.items)

end_is : (c : goal.After-row_known-1) → c.index.result.now ≡ size_before c.self.inside.sizes.items (c.args.node + 1)
end_is c =
    c.index.ensures ∙ ap (λ xs. get_or xs c.args.node c.index.result.now) c.self.invariant.0
    ∙ get-block_ends c.self.inside.sizes.items c.args.node c.index.result.now (omega (arith, c.requires, ap length c.self.view_is))

pub returns-clause-value : goal.returns-clause-value
returns-clause-value c = end_is c ∙ ap (λ xs. size_before xs (c.args.node + 1)) c.self.view_is

pub returns-clause-small : goal.returns-clause-small
returns-clause-small c =
    let sum = size_before-small MAX_BLOCK c.self.inside.sizes.items (c.args.node + 1) c.self.invariant.2 in
    let few : length c.self.inside.sizes.items * MAX_BLOCK ≤ MAX_NODES * MAX_BLOCK = mul-le-mul_right MAX_BLOCK c.self.invariant.1 in
    omega (arith, sum, few, end_is c)
