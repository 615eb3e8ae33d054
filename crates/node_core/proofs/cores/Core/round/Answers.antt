use Rattle.std.proofs.Common.{◌≡◌, ◌≤◌, arith, ap, subst, length}
use Rattle.node_law.specs.Reached.{IsReached}
use Rattle.node_core.specs.CoreView.{state, CoreView}
use Rattle.node_core.proofs.Rounds.{wants-local, round-goes, round-ends}
use Rattle.node_core.proofs.cores.Core.round.Goals as goal

pub loop-index-preserved : goal.loop-index-preserved
loop-index-preserved g c =
    round-goes g.N.PhasedNode.steps c.args.self.now c.loop-index.self c.step.new.self c.loop-index.index c.in_ok-step.field-0 c.loop-index.invariant
    c.in_ok-step.ensures.step c.in_ok-step.ensures.left c.in_ok-step.ensures.stays

pub returns-clause-less : goal.returns-clause-less
returns-clause-less g c =
    let n : length c.self.inside.nodes.items ≡ length c.args.self.now.lists.nodes = ap (λ (x : CoreView g.row.N.Denot g.row.N-Mail.Denot). length x.lists.nodes) c.self.view_is in
    let le : length c.args.self.now.lists.nodes ≤ c.loop-index.index = omega (arith, c.self.inside.nodes.ok.0) in
    round-ends g.N.PhasedNode.steps c.args.self.now c.loop-index.self c.loop-index.index c.loop-index.invariant le
    (subst (λ (x : CoreView g.row.N.Denot g.row.N-Mail.Denot). IsReached g.N.PhasedNode.steps (state x)) c.self.view_is c.self.invariant.reached) c.requires

pub returns-in_err-step-clause-wants : goal.returns-in_err-step-clause-wants
returns-in_err-step-clause-wants g c =
    wants-local g.N.PhasedNode.steps c.from_residual.result c.loop-index.self c.step.new.self _ c.in_err-step.ensures.same c.in_err-step.ensures.wants
