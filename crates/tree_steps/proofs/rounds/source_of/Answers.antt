use Rattle.std.proofs.Common.{◌≡◌, sym, ◌∙◌, ⊎_elim}
use Rattle.hpf_base.specs.declared.node.NodeId.{NodeId}
use Rattle.reduction_tree.specs.declared.tree.TreeAct.TheVariants.{Idle, Send}
use Rattle.tree_steps.proofs.Acting.{takes-from, takes-from-none}
use Rattle.tree_steps.proofs.rounds.source_of.Goals as goal

pub returns-in-Take-clause-value : goal.returns-in-Take-clause-value
returns-in-Take-clause-value c =
    takes-from c.args.nodes c.args.round c.args.id c.requires.inside c.requires.going c.in-Take.source (sym c.tree_act.ensures ∙ c.in-Take.is)

pub returns-in-Idle : goal.returns-in-Idle
returns-in-Idle c = record {
  value = takes-from-none c.args.nodes c.args.round c.args.id c.requires.inside c.requires.going
      (λ p is.
      let takes = c.tree_act.ensures ∙ is in
      ⊎_elim (λ (idle : c.tree_act.result ≡ Idle). cc) (λ (sent : (q : NodeId) × (c.tree_act.result ≡ Send q)). let h = sent.1 in cc) c.in-Idle.is);
  below = tt;
}
