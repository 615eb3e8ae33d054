use Rattle.std.proofs.Common.{inl, inr}
use Rattle.node_core.proofs.cores.Core.next_letter.Goals as goal

pub returns-in-None-clause-none : goal.returns-in-None-clause-none
returns-in-None-clause-none g c = λ e p can. elim can [ inl sends ↦ c.find.ensures.none c.in-None.is p sends | inr takes ↦ c.find-in-None.ensures.none e p takes ]
