-- Of a promise.
-- The tuples that a node computes, by the places of each axis.
use Rattle.std.specs.Prelude.{◌≡◌, ℕ, ◌<◌, ◌==◌, Bool, true, List, [], map, Option, Some, None}
use Rattle.std.specs.List.{list_any}
use Rattle.hpf_base.specs.ElementOrder.{product}
use Rattle.axis_products.specs.Products.{combined, number_at, places_at}
use Rattle.axis_products.specs.Tests.{ArePlaces, Test, holds}

-- the numbers of the tuples with a place of each list, in tuple order
abbrev pub listed_tuples : List ℕ → Option (List (List ℕ)) → List ℕ
listed_tuples ns None = []
listed_tuples ns (Some lists) = map (number_at ns) (combined lists)

-- these are the places of what the node computes, and each node that computes such a tuple is one of those beside it
pub record IsOwn (computes : (node tuple : ℕ) → Bool) (nodes : ℕ) (ns : List ℕ) (id : ℕ) (lists : Option (List (List ℕ))) (beside : List ℕ) : Type 0 where
  pub test : Test
  pub places : ArePlaces test ns lists
  pub own : (t : ℕ) → t < product ns → computes id t ≡ holds test (places_at ns t)
  pub others : (t other : ℕ) → t < product ns → other < nodes → computes id t ≡ true → computes other t ≡ true → list_any (λ n. n == other) beside ≡ true
