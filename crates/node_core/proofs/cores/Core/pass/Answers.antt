use Rattle.node_law.proofs.UnderWay.{next-phased}
use Rattle.node_core.specs.CoreView.{state}
use Rattle.node_core.proofs.Rounds.{runs-trans}
use Rattle.node_core.proofs.PhaseSteps.{pass-less}
use Rattle.node_core.proofs.cores.Core.pass.Goals as goal

pub returns-in_err-local_steps-clause-ready : goal.returns-in_err-local_steps-clause-ready
returns-in_err-local_steps-clause-ready g c = record {
  empty = c.local_steps.ensures.empty;
  phased = next-phased g.N.PhasedNode.steps c.args.number c.local_steps.new.self.lists.nodes c.local_steps.ensures.next;
}

pub returns-clause-reached : goal.returns-clause-reached
returns-clause-reached g c =
    runs-trans g.N.PhasedNode.steps (state c.args.self.now) (state c.local_steps.new.self) (state c.letters.new.self)
    c.local_steps.ensures.advances.runs c.letters.ensures.advances.runs

pub returns-clause-less : goal.returns-clause-less
returns-clause-less g c =
    pass-less g.N.PhasedNode.steps c.args.number c.args.self.now c.local_steps.new.self c.letters.new.self c.requires.there c.letters.ensures.passed
    c.local_steps.ensures.advances c.letters.ensures.advances
