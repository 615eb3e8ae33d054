use Rattle.std.proofs.Common.{◌≡◌, bytes_eq, drop}
use Rattle.std.specs.Prelude.{◌&&◌, ◌||◌, not}
use Rattle.std.specs.List.{list_all}
use Rattle.op_tables.specs.contracts.join.JoinPartialEq.TheImpl.{eq-value}
use Rattle.nest_check.proofs.nest_names.all_fit.Given as goal

abbrev pub invariant-loop-one : goal.invariant-loop-one
invariant-loop-one l =
    (l.all && list_all (λ p. not (bytes_eq l.variable p.variable) || eq-value.it l.operator p.operator) (drop l.one-index l.operators))
    ≡ list_all (λ p. not (bytes_eq l.variable p.variable) || eq-value.it l.operator p.operator) l.operators
