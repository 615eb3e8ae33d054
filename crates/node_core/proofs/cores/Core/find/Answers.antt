use Rattle.std.proofs.Common.{◌≡◌, ℕ, ◌<◌, inl, inr, length, sym, ap, subst, arith}
use Rattle.std.proofs.lemmas.Bool.{cases_eq}
use Rattle.std.proofs.lemmas.Option.{slice_get_within}
use Rattle.node_core.specs.CoreView.{state, CoreView}
use Rattle.node_core.specs.Stage.{CanStep}
use Rattle.node_core.proofs.cores.Core.find.Goals as goal

pub loop-index-preserved : goal.loop-index-preserved
loop-index-preserved g c = λ k lt can. elim (cases_eq c.loop-index.index k) [
  | inl e ↦ (let t = c.can_step.ensures.1 (subst (λ (q : ℕ). CanStep g.N.PhasedNode.steps c.args.number c.args.stage (state c.args.self.now) q) (sym e) can) in cc)
  | inr d ↦ c.loop-index.invariant k (omega arith) can
]

pub returns-clause-none : goal.returns-clause-none
returns-clause-none g c = λ e p can.
    let n : length c.self.inside.nodes.items ≡ length c.args.self.now.lists.nodes = ap (λ (x : CoreView g.row.N.Denot g.row.N-Mail.Denot). length x.lists.nodes) c.self.view_is in
    let lt : p < length c.args.self.now.lists.nodes = slice_get_within c.args.self.now.lists.nodes p can.0 can.1 in
    c.loop-index.invariant p (omega (arith, c.self.inside.nodes.ok.0)) can
