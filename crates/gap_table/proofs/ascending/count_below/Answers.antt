use Rattle.std.proofs.Common.{◌≡◌, nat_lt, ℕ, ◌<◌, ◌≤◌, suc, ◌⊎◌, inl, inr, List, get_or, arith, rules}
use Rattle.std.specs.List.Sorted.{IsStrictlyIncreasing, IsNonDecreasingBy}
use Rattle.std.proofs.lemmas.Bool.{cases_lt}
use Rattle.std.proofs.lemmas.Map.Keys.{sorted_from_strictly_increasing, below_from_sorted}
use Rattle.std.proofs.lemmas.List.Sorted.{IsPartitionPoint-from_clause, IsPartitionedBy-leb}
use Rattle.gap_table.proofs.ascending.count_below.Goals as goal

falls_nowhere : (xs : List ℕ) → IsStrictlyIncreasing xs → IsNonDecreasingBy suc xs
falls_nowhere xs rises i j d upto inside = by_case (cases_lt i j)
  where
    by_case : (i < j) ⊎ (j ≤ i) → suc (get_or xs i d) ≤ suc (get_or xs j d)
    by_case (inl h) = let b : get_or xs i d < get_or xs j d = below_from_sorted xs i j d (sorted_from_strictly_increasing xs rises) h inside in omega (arith, b)
    by_case (inr h) = let e : i ≡ j = omega (arith, h, upto) in rw e (omega arith)

pub returns-clause-point : goal.returns-clause-point
returns-clause-point c = IsPartitionPoint-from_clause (λ x. nat_lt x c.args.bound) c.args.numbers.now c.partition_point.result c.partition_point.ensures.partitioned
    (IsPartitionedBy-leb suc c.args.numbers.now c.args.bound (falls_nowhere c.args.numbers.now c.requires)) (λ a r f' k. search rules)
