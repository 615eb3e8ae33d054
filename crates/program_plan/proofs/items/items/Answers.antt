use Rattle.std.proofs.Common.{List, ◌+◌, ◌∷◌, drop, map, arith, refl, ap}
use Rattle.expression_rules.proofs.Lists.{drop_item}
use Rattle.syntax_tree.specs.declared.stmt.Item.{Item}
use Rattle.syntax_tree.specs.Statement as syntax
use Rattle.array_meaning.specs.Resolution.{item_of}
use Rattle.resolved_program.specs.Resolved.{item}
use Rattle.resolved_program.proofs.Made.{joined_all, joined_next, one_more}
use Rattle.program_plan.proofs.items.items.Goals as goal

pub loop-one-preserved : goal.loop-one-preserved
loop-one-preserved c =
    let all = λ (l : List Item). map (item_of c.args.names.now) (map syntax.item_of l) in
    joined_next all c.args.listed.now c.loop-one.one-index c.one-item.result (map item c.loop-one.items.items) (map item c.push.new.self.items) _ (all c.args.listed.now)
    (drop_item c.args.listed.now c.loop-one.one-index c.one-item.result c.loop-one-test.true c.one-item.is)
    (one_more item c.loop-one.items.items c.push.new.self.items c.in_ok-item.item c.in_ok-push.ensures.items)
    (ap (λ i. i ∷ all (drop (c.loop-one.one-index + 1) c.args.listed.now)) c.in_ok-item.ensures) c.loop-one.invariant

pub returns : goal.returns
returns c =
    joined_all (λ (l : List Item). map (item_of c.args.names.now) (map syntax.item_of l)) c.args.listed.now c.loop-one.one-index (map item c.loop-one.items.items) _ (omega arith) refl c.loop-one.invariant
