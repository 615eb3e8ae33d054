use Rattle.machine_steps.specs.Node.{is_after, positioned_values, values_positioned}
use Rattle.std.proofs.Common.{None, Some, ap, arith, if◌then◌else◌, sym}
use Rattle.std.proofs.lemmas.Bool.{le-ltb}
use Rattle.tree_folds.proofs.Picked.{values-joined}
use Rattle.tree_folds.proofs.Positions.{places-joined, positions-back}
use Rattle.tree_folds.proofs.promises.law_of_positions.Goals as goal

pub returns-clause-goes_round : goal.returns-clause-goes_round
returns-clause-goes_round c a b = sym (values-joined is_after 0 (λ q. None) positioned_values values_positioned positions-back a b)

pub returns-clause-last : goal.returns-clause-last
returns-clause-last c a b own = places-joined a b own

pub returns-clause-first : goal.returns-clause-first
returns-clause-first c x y same = ap (λ b. if b then Some y else Some x) (le-ltb x.at y.at (omega (arith, same)))
