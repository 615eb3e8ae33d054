-- An action's kind and its value hang together, so both are replaced at once.
use Rattle.construct_rules.proofs.roles.whole_role.Goals as goal

pub returns-in-Where : goal.returns-in-Where
returns-in-Where c = rw c.in-Where.is

pub returns-in-Forall : goal.returns-in-Forall
returns-in-Forall c = rw c.in-Forall.is
