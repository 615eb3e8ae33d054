use Rattle.node_core.specs.CoreView.{state}
use Rattle.node_core.proofs.Rounds.{runs-trans, runs-length, ends-last}
use Rattle.node_core.proofs.PhaseSteps.{ready-alike}
use Rattle.node_core.proofs.cores.Core.run_lockstep.Goals as goal

pub loop-self-preserved : goal.loop-self-preserved
loop-self-preserved g c = (
  c.pass.ensures.ready,
  runs-trans g.N.PhasedNode.steps (state c.args.self.now) (state c.loop-self.self) (state c.pass.new.self) c.loop-self.invariant.1 c.pass.ensures.reached,
)

pub returns-in_err-pass-clause-reached : goal.returns-in_err-pass-clause-reached
returns-in_err-pass-clause-reached g c =
    runs-trans g.N.PhasedNode.steps (state c.args.self.now) (state c.loop-self.self) (state c.pass.new.self) c.loop-self.invariant.1 c.pass.ensures.reached

pub returns-in_err-pass-clause-alike : goal.returns-in_err-pass-clause-alike
returns-in_err-pass-clause-alike g c =
    ready-alike g.N.PhasedNode.steps c.args.self.now c.pass.new.self c.requires.ready.empty c.pass.ensures.ready.empty
    (runs-trans g.N.PhasedNode.steps (state c.args.self.now) (state c.loop-self.self) (state c.pass.new.self) c.loop-self.invariant.1 c.pass.ensures.reached)

pub returns-in_err-pass-clause-count : goal.returns-in_err-pass-clause-count
returns-in_err-pass-clause-count g c =
    runs-length g.N.PhasedNode.steps (state c.args.self.now) (state c.pass.new.self)
    (runs-trans g.N.PhasedNode.steps (state c.args.self.now) (state c.loop-self.self) (state c.pass.new.self) c.loop-self.invariant.1 c.pass.ensures.reached)

pub returns-clause-last : goal.returns-clause-last
returns-clause-last g c =
    ends-last g.N.PhasedNode.steps (state c.args.self.now) (state c.loop-self.self) c.loop-self.invariant.1 (c.finished.ensures.0 c.loop-self-test.false)

pub returns-clause-alike : goal.returns-clause-alike
returns-clause-alike g c = ready-alike g.N.PhasedNode.steps c.args.self.now c.loop-self.self c.requires.ready.empty c.loop-self.invariant.0.empty c.loop-self.invariant.1

pub returns-clause-count : goal.returns-clause-count
returns-clause-count g c = runs-length g.N.PhasedNode.steps (state c.args.self.now) (state c.loop-self.self) c.loop-self.invariant.1
