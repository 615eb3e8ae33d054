-- The step is that of the fields, and the number of moves left follows it.
use Rattle.node_core.specs.CoreView.{state}
use Rattle.node_core.specs.CoreLists.{lists}
use Rattle.node_law.proofs.OneMovesLeft.{left-made}
use Rattle.node_core.proofs.Stepping.{left-clause, not_ready-clause, ended-clause, stays-clause, same-clause, state-of}
use Rattle.node_core.proofs.cores.Core.step.Goals as goal

pub invariant_of-self-inside : goal.invariant_of-self-inside
invariant_of-self-inside g c = (left-made g.N.PhasedNode.steps _ c.step_in.ensures.core.reached, tt)

pub returns-clause-left : goal.returns-clause-left
returns-clause-left g c =
    left-clause g.N.PhasedNode.steps (lists c.self.inside.nodes.items c.self.inside.queues.items)
    (lists c.step_in.new.nodes.items c.step_in.new.queues.items) c.self.inside.left c.self-1.given.0 c.args.self.now c.self.view_is
    c.self.invariant.reached c.args.node.0 c.step_in.result c.step_in.ensures.step

pub returns-clause-not_ready : goal.returns-clause-not_ready
returns-clause-not_ready g c =
    not_ready-clause g.N.PhasedNode.steps (lists c.self.inside.nodes.items c.self.inside.queues.items)
    (lists c.step_in.new.nodes.items c.step_in.new.queues.items) (state c.args.self.now) (state-of _ _ c.self.view_is) c.self.invariant.reached
    c.args.node.0 c.step_in.result c.requires c.step_in.ensures.step

pub returns-clause-ended : goal.returns-clause-ended
returns-clause-ended g c =
    ended-clause g.N.PhasedNode.steps (lists c.self.inside.nodes.items c.self.inside.queues.items)
    (lists c.step_in.new.nodes.items c.step_in.new.queues.items) (state c.args.self.now) (state-of _ _ c.self.view_is) c.self.invariant.reached
    c.args.node.0 c.step_in.result c.requires c.step_in.ensures.step

pub returns-clause-stays : goal.returns-clause-stays
returns-clause-stays g c =
    stays-clause g.N.PhasedNode.steps (lists c.self.inside.nodes.items c.self.inside.queues.items)
    (lists c.step_in.new.nodes.items c.step_in.new.queues.items) c.self.inside.left c.self-1.given.0 c.args.self.now c.self.view_is
    c.self.invariant.reached c.step_in.result c.step_in.ensures.stays

pub returns-clause-same : goal.returns-clause-same
returns-clause-same g c =
    same-clause g.N.PhasedNode.steps (lists c.self.inside.nodes.items c.self.inside.queues.items)
    (lists c.step_in.new.nodes.items c.step_in.new.queues.items) c.self.inside.left c.self-1.given.0 c.args.self.now c.self.view_is
    c.self.invariant.reached c.step_in.result c.step_in.ensures.same
