use Rattle.machine_steps.specs.Machine.{is_before}
use Rattle.machine_steps.specs.Node.{kept_values, values_kept}
use Rattle.code_meaning.specs.FaultValues.{fault_values}
use Rattle.std.proofs.Common.{None}
use Rattle.tree_folds.proofs.Faults.{faults-back, first-kept, keys-joined}
use Rattle.tree_folds.proofs.Picked.{values-joined}
use Rattle.tree_folds.proofs.promises.law_of_faults.Goals as goal
use Rattle.std.proofs.Common.{sym}

pub returns-clause-goes_round : goal.returns-clause-goes_round
returns-clause-goes_round c a b = sym (values-joined is_before 0 (λ q. None) (kept_values fault_values) (values_kept fault_values) faults-back a b)

pub returns-clause-least : goal.returns-clause-least
returns-clause-least c number a b own = keys-joined number a b own

pub returns-clause-first : goal.returns-clause-first
returns-clause-first c x y same alike = first-kept x y same alike
