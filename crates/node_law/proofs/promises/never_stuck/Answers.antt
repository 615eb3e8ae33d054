use Rattle.std.proofs.Common.{inl, inr}
use Rattle.node_law.proofs.NeverStuck.{not_stuck}
use Rattle.node_law.proofs.promises.never_stuck.Goals as goal

pub returns-clause-enabled : goal.returns-clause-enabled
returns-clause-enabled g c ns run choices = not_stuck g.N.PhasedNode.steps ns run choices

pub returns-clause-not_stuck : goal.returns-clause-not_stuck
returns-clause-not_stuck g c ns run choices = λ stuck. elim (not_stuck g.N.PhasedNode.steps ns run choices) [
  | inl done ↦ stuck.0 done
  | inr some ↦ stuck.1 some.0 some.1
]
