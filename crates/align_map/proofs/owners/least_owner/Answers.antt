use Rattle.std.proofs.Common.{◌≡◌, Some, map, false, sym, ◌∙◌, arith, length}
use Rattle.std.proofs.lemmas.Bool.{both_ways}
use borrow.Author.Count.{below_more}
use Rattle.mappings.specs.Alignment.{owns}
use Rattle.hpf_base.specs.ElementOrder.{product}
use Rattle.align_map.proofs.OwnerLaws.{find-range, has_owner}
use Rattle.align_map.proofs.owners.least_owner.Goals as goal

pub returns-then-owns-clause-value : goal.returns-then-owns-clause-value
returns-then-owns-clause-value c =
    find-range (owns c.args.map.now c.args.index.now) 0 (product c.args.map.now.grid) c.loop-node.node (omega arith)
    (omega (arith, c.loop-node-test.true, c.node_count-node-end.ensures.value)) (λ k from below. c.loop-node.invariant k below)
    (sym c.owns.ensures ∙ c.if-owns.true)

pub loop-node-preserved : goal.loop-node-preserved
loop-node-preserved c =
    below_more (λ k. owns c.args.map.now c.args.index.now k ≡ false) c.loop-node.node c.loop-node.invariant (sym c.owns.ensures ∙ c.if-owns.false)

pub unreachable-requires : goal.unreachable-requires
unreachable-requires c =
    let owner = has_owner c.args.map.now (length c.args.index.now) (map Some c.args.index.now) c.node_count-node-end.ensures.valid c.requires.mapping c.requires.inside in
    both_ways (owns c.args.map.now c.args.index.now owner.0)
    (c.loop-node.invariant owner.0 (omega (arith, owner.1, c.node_count-node-end.ensures.value, c.loop-node-test.false))) owner.2
