-- Of the claim.
-- Array-element order: the elements of an array in the order of their subscripts, the first fastest (Fortran 95, 6.2.2.2).
use Rattle.std.specs.Prelude.{◌≡◌, ℕ, ◌*◌, ◌<◌, ℤ, pos, ◌+ℤ◌, ◌≤ℤ◌, ◌<ℤ◌, unsigned_abs, length, slice_index_or, List, [], ◌∷◌, map}
use Rattle.std.specs.List.{flat_map, range_with_len}
use Rattle.hpf_base.specs.declared.index.Shape.{Shape}

-- the number of elements of an array with these extents
abbrev pub product : List ℕ → ℕ
product [] = 1
product (extent ∷ extents) = extent * product extents

-- all tuples of places, from 0 in each dimension, in array-element order
abbrev pub places : List ℕ → List (List ℕ)
places [] = [] ∷ []
places (extent ∷ extents) = flat_map (λ rest. map (λ place. place ∷ rest) (range_with_len 0 extent)) (places extents)

-- the subscripts of the element at these places, where the dimensions begin at these lower bounds
abbrev pub index_at : List ℤ → List ℕ → List ℤ
index_at [] place = []
index_at (lower ∷ lowers) [] = []
index_at (lower ∷ lowers) (place ∷ places) = (lower +ℤ pos place) ∷ index_at lowers places

abbrev pub extents_of : Shape → List ℕ
extents_of shape = map unsigned_abs shape.extent

-- all elements of an array, in array-element order
abbrev pub elements : Shape → List (List ℤ)
elements shape = map (index_at shape.lower) (places (extents_of shape))

-- the subscripts name an element: one for each dimension, and inside its bounds (Fortran 95, 6.2.2)
pub record IsInside (shape : Shape) (index : List ℤ) : Type 0 where
  pub rank : length index ≡ length shape.lower
  pub lower : (k : ℕ) → k < length index → slice_index_or shape.lower k (pos 0) ≤ℤ slice_index_or index k (pos 0)
  pub upper : (k : ℕ) → k < length index → slice_index_or index k (pos 0) <ℤ (slice_index_or shape.lower k (pos 0) +ℤ slice_index_or shape.extent k (pos 0))
