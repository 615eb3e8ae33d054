use Rattle.node_core.specs.CoreView.{state}
use Rattle.node_core.proofs.Rounds.{runs-trans, runs-length, ends-last}
use Rattle.node_core.proofs.cores.Core.run_rotation.Goals as goal

pub loop-self-preserved : goal.loop-self-preserved
loop-self-preserved g c = runs-trans g.N.PhasedNode.steps (state c.args.self.now) (state c.loop-self.self) (state c.round.new.self) c.loop-self.invariant c.round.ensures.reached

pub returns-in_err-round-clause-reached : goal.returns-in_err-round-clause-reached
returns-in_err-round-clause-reached g c =
    runs-trans g.N.PhasedNode.steps (state c.args.self.now) (state c.loop-self.self) (state c.round.new.self) c.loop-self.invariant
    c.round.ensures.reached

pub returns-clause-last : goal.returns-clause-last
returns-clause-last g c =
    ends-last g.N.PhasedNode.steps (state c.args.self.now) (state c.loop-self.self) c.loop-self.invariant (c.finished.ensures.0 c.loop-self-test.false)

pub returns-clause-count : goal.returns-clause-count
returns-clause-count g c = runs-length g.N.PhasedNode.steps (state c.args.self.now) (state c.loop-self.self) c.loop-self.invariant

pub returns-in_err-round-clause-count : goal.returns-in_err-round-clause-count
returns-in_err-round-clause-count g c =
    runs-length g.N.PhasedNode.steps (state c.args.self.now) (state c.round.new.self)
    (runs-trans g.N.PhasedNode.steps (state c.args.self.now) (state c.loop-self.self) (state c.round.new.self) c.loop-self.invariant
    c.round.ensures.reached)
