use Rattle.std.proofs.Common.{◌≡◌, sym, ◌∙◌, ⊎_elim}
use Rattle.hpf_base.specs.declared.node.NodeId.{NodeId}
use Rattle.reduction_tree.specs.declared.tree.TreeAct.TheVariants.{Idle, Take}
use Rattle.tree_steps.proofs.Acting.{sends-to, sends-to-none}
use Rattle.tree_steps.proofs.rounds.target_of.Goals as goal

pub returns-in-Send-clause-value : goal.returns-in-Send-clause-value
returns-in-Send-clause-value c =
    sends-to c.args.nodes c.args.round c.args.id c.requires.inside c.requires.going c.in-Send.target (sym c.tree_act.ensures ∙ c.in-Send.is)

pub returns-in-Idle : goal.returns-in-Idle
returns-in-Idle c = record {
  value = sends-to-none c.args.nodes c.args.round c.args.id c.requires.inside c.requires.going
      (λ q is.
      let sends = c.tree_act.ensures ∙ is in
      ⊎_elim (λ (idle : c.tree_act.result ≡ Idle). cc) (λ (taken : (p : NodeId) × (c.tree_act.result ≡ Take p)). let h = taken.1 in cc) c.in-Idle.is);
  below = tt;
}
