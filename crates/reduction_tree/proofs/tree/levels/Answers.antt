use Rattle.std.proofs.Common.{◌≡◌, ◌≤◌, ◌^◌, sym, arith}
use Rattle.reduction_tree.proofs.RoundsUp.{levels_is}
use Rattle.reduction_tree.proofs.tree.levels.Goals as goal

pub returns-then-nodes-pow-clause-value : goal.returns-then-nodes-pow-clause-value
returns-then-nodes-pow-clause-value c =
    let enough : c.args.nodes ≤ 2 ^ c.loop-level.level = omega arith in
    sym (levels_is c.args.nodes c.loop-level.level enough c.loop-level.invariant)

pub returns-clause-value : goal.returns-clause-value
returns-clause-value c =
    let few = c.ranges.nodes.fits in
    let done : c.loop-level.level ≡ 32 = omega arith in
    sym (levels_is c.args.nodes 32 (omega arith) (λ k lt. c.loop-level.invariant k (omega arith)))
