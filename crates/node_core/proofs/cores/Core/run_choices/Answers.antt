use Rattle.std.proofs.Common.{◌∙◌}
use Rattle.node_core.specs.CoreView.{state}
use Rattle.node_core.proofs.Rounds.{choices-go, stops, step-length}
use Rattle.node_core.proofs.cores.Core.run_choices.Goals as goal

pub loop-node-preserved : goal.loop-node-preserved
loop-node-preserved g c = (
  choices-go g.N.PhasedNode.steps (state c.args.self.now) (state c.loop-node.self) (state c.step.new.self) c.args.choices.now c.loop-node.node-index _
      c.in_ok-step.field-0 c.loop-node-test.true c.loop-node.invariant.0 c.in_ok-step.ensures.step,
  step-length g.N.PhasedNode.steps (state c.loop-node.self) (state c.step.new.self) _ c.in_ok-step.field-0 c.in_ok-step.ensures.step ∙ c.loop-node.invariant.1,
)

pub returns-in_err-step-clause-err : goal.returns-in_err-step-clause-err
returns-in_err-step-clause-err g c =
    stops g.N.PhasedNode.steps c.from_residual.result c.args.self.now c.loop-node.self c.step.new.self c.args.choices.now c.loop-node.node-index _
    c.loop-node-test.true c.loop-node.invariant.0 c.in_err-step.ensures.same c.in_err-step.ensures.wants
