use Rattle.std.proofs.Common.{List, ◌+◌, [], ◌∷◌, drop, map, arith, refl, ap}
use Rattle.expression_rules.proofs.Lists.{drop_item}
use Rattle.syntax_tree.specs.declared.stmt.Header.{Header}
use Rattle.syntax_tree.specs.Statement.{axis}
use Rattle.array_meaning.specs.Resolution.{control_of}
use Rattle.resolved_program.specs.Resolved.{control}
use Rattle.resolved_program.proofs.Made.{joined_all, joined_next, one_more}
use Rattle.program_plan.proofs.controls.controls.Goals as goal

pub loop-x-preserved : goal.loop-x-preserved
loop-x-preserved c =
    let all = λ (l : List Header). map (control_of c.args.names.now []) (map axis l) in
    joined_next all c.args.axes.now c.loop-x.x-index c.x-item.result (map control c.loop-x.controls.items) (map control c.push.new.self.items) _ (all c.args.axes.now)
    (drop_item c.args.axes.now c.loop-x.x-index c.x-item.result c.loop-x-test.true c.x-item.is)
    (one_more control c.loop-x.controls.items c.push.new.self.items c.in_ok-one.one c.in_ok-push.ensures.items)
    (ap (λ i. i ∷ all (drop (c.loop-x.x-index + 1) c.args.axes.now)) c.in_ok-one.ensures) c.loop-x.invariant

pub returns : goal.returns
returns c =
    joined_all (λ (l : List Header). map (control_of c.args.names.now []) (map axis l)) c.args.axes.now c.loop-x.x-index (map control c.loop-x.controls.items) _ (omega arith) refl c.loop-x.invariant
