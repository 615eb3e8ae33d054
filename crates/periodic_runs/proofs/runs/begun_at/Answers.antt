use Rattle.std.proofs.Common.{rules, ◌≡◌, ◌≤◌, ◌-◌, leb, arith, true, false, length, get_or}
use Rattle.std.specs.List.Sorted.{IsPartitionPoint}
use Rattle.std.proofs.lemmas.Bool.{leb-false, leb-true}
use Rattle.std.proofs.lemmas.List.Sorted.{IsPartitionPoint-from_clause, IsPartitionedBy-leb}
use Rattle.periodic_runs.specs.Runs.{first_of, no_run}
use Rattle.periodic_runs.proofs.RunLaws.{last-begun}
use Rattle.periodic_runs.proofs.runs.begun_at.Goals as goal

pub returns-clause-last : goal.returns-clause-last
returns-clause-last c =
    let runs = c.args.runs.now in
    let number = c.args.number in
    let count = c.partition_point.result in
    let point : IsPartitionPoint (λ r. leb r.first number ≡ true) (λ r. leb r.first number ≡ false) runs count =
    IsPartitionPoint-from_clause (λ r. leb r.first number) runs count c.partition_point.ensures.partitioned
    (IsPartitionedBy-leb first_of runs number c.requires) (λ a r f' k. search rules) in
    last-begun no_run runs number count no_run c.partition_point.ensures.bound (λ k below. leb-true _ number (point.0 k no_run (omega arith) below))
    (λ k from inside. leb-false _ number (point.1 k no_run from inside))

pub returns-then-runs-count-clause-last : goal.returns-then-runs-count-clause-last
returns-then-runs-count-clause-last c =
    let runs = c.args.runs.now in
    let number = c.args.number in
    last-begun no_run runs number (length runs) no_run (omega arith)
    (λ k below.
    let upto : (get_or runs k no_run).first ≤ (get_or runs (length runs - 1) no_run).first = c.requires k (length runs - 1) no_run (omega (arith, below)) (omega (arith, below)) in
    omega (arith, upto, c.if-runs-count.true))
    (λ k from inside. omega (arith, from, inside))
