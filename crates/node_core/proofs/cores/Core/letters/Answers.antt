use Rattle.std.proofs.Common.{inl, inr, refl}
use Rattle.node_core.specs.declared.stage.Stage.TheVariants.{Sends, Takes}
use Rattle.node_core.proofs.PhaseSteps.{letters-go, letters-ready, letters-passed}
use Rattle.node_core.proofs.cores.Core.letters.Goals as goal

pub loop-node-preserved : goal.loop-node-preserved
loop-node-preserved g c =
    elim c.in-Some.ensures.some.1 [
      | inl can ↦
          letters-go g.N.PhasedNode.steps c.args.number c.args.self.now c.loop-node.self c.step.new.self c.in-Some.node.0 c.in-Ok.field-0 Sends can
          c.in-Ok.ensures.step c.in-Ok.ensures.left c.loop-node.invariant
      | inr can ↦
          letters-go g.N.PhasedNode.steps c.args.number c.args.self.now c.loop-node.self c.step.new.self c.in-Some.node.0 c.in-Ok.field-0 Takes can
          c.in-Ok.ensures.step c.in-Ok.ensures.left c.loop-node.invariant
    ]

pub returns-clause-ready : goal.returns-clause-ready
returns-clause-ready g c =
    letters-ready g.N.PhasedNode.steps c.args.number c.args.self.now c.loop-node.self c.requires.empty c.requires.next c.requires.none
    c.loop-node.invariant (c.in_default.ensures.none refl)

pub returns-clause-passed : goal.returns-clause-passed
returns-clause-passed g c =
    letters-passed g.N.PhasedNode.steps c.args.number c.args.self.now c.loop-node.self c.requires.empty c.requires.next c.requires.none
    c.loop-node.invariant (c.in_default.ensures.none refl)
