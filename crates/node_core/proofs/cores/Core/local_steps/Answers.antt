use Rattle.std.proofs.Common.{refl}
use Rattle.node_core.proofs.Rounds.{wants-local}
use Rattle.node_core.proofs.PhaseSteps.{local-goes}
use Rattle.node_core.proofs.cores.Core.local_steps.Goals as goal

pub loop-node-preserved : goal.loop-node-preserved
loop-node-preserved g c =
    local-goes g.N.PhasedNode.steps c.args.number c.args.self.now c.loop-node.self c.step.new.self c.in-Some.node.0 c.in_ok-step.field-0
    c.in-Some.ensures.some.1 c.in_ok-step.ensures.step c.in_ok-step.ensures.left c.loop-node.invariant

pub returns-clause-none : goal.returns-clause-none
returns-clause-none g c = c.in_default.ensures.none refl

pub returns-in_err-step-clause-wants : goal.returns-in_err-step-clause-wants
returns-in_err-step-clause-wants g c =
    wants-local g.N.PhasedNode.steps c.from_residual.result c.loop-node.self c.step.new.self _ c.in_err-step.ensures.same c.in_err-step.ensures.wants
