use Rattle.std.proofs.Common.{◌≡◌, drop}
use Rattle.std.specs.List.{list_any}
use Rattle.array_meaning.specs.Forall.{depends_on}
use Rattle.forall_conditions.specs.Linears.{linear_of}
use Rattle.forall_conditions.proofs.one_to_one.has_factor.Given as goal

abbrev pub invariant-loop-x : goal.invariant-loop-x
invariant-loop-x l = list_any (λ x. depends_on l.k (linear_of x)) l.xs ≡ list_any (λ x. depends_on l.k (linear_of x)) (drop l.x-index l.xs)
