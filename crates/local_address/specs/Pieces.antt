-- Of a promise.
-- No public clause cites this file.
-- What a node owns along each dimension of an array, as its piece keeps it.
use Rattle.std.specs.Prelude.{◌≢◌, ℕ, ◌+◌, ◌≤◌, ◌<◌, ℤ, pos, ◌+ℤ◌, unsigned_abs, Bool, cond, List, [], ◌∷◌, All, AllPairs, filter, length, map, take}
use Rattle.std.specs.List.Sorted.{IsStrictlyIncreasing}
use Rattle.hpf_base.specs.declared.limits.TheConstants.{MAX_BOUND, MAX_ELEMENTS, MAX_RANK}
use Rattle.hpf_base.specs.ElementOrder.{product}
use Rattle.mappings.specs.declared.mapping.Mapping.{Mapping}
use Rattle.local_address.specs.Runs.{along, subscripts, tuples}

-- the subscripts at these places, from 0, of a dimension with this lower bound
abbrev pub subscripts_at : ℤ → List ℕ → List ℤ
subscripts_at lower places = map (λ place. lower +ℤ pos place) places

-- places of a dimension with this lower bound, ascending
pub record ArePlaces (lower : ℤ) (places : List ℕ) : Type 0 where
  pub bound : unsigned_abs lower ≤ MAX_BOUND
  pub ascends : IsStrictlyIncreasing places
  pub below : All (λ place. place < MAX_ELEMENTS) places

-- what a node owns along each dimension, from the one with this number on
abbrev pub owned_along : Mapping → ℕ → ℕ → List ℤ → List ℕ → List (List ℤ)
owned_along mapping node dim [] extents = []
owned_along mapping node dim (lower ∷ lowers) [] = []
owned_along mapping node dim (lower ∷ lowers) (extent ∷ extents) =
    filter (along mapping node dim) (subscripts lower extent) ∷ owned_along mapping node (dim + 1) lowers extents

-- the tuples of one of each list, where the node owns any
abbrev pub tuples_where : Bool → List (List ℤ) → List (List ℤ)
tuples_where agrees xss = cond agrees (tuples xss) []

-- lists of subscripts of an array: not too many tuples of the first ones, and no tuple twice
pub record AreDimensions (xss : List (List ℤ)) : Type 0 where
  pub rank : length xss ≤ MAX_RANK
  pub few : (k : ℕ) → product (map length (take k xss)) ≤ MAX_ELEMENTS
  pub apart : AllPairs (λ x y. x ≢ y) (tuples xss)
