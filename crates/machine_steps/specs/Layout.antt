-- Of the claim.
-- How the elements of an array or of a copy lie on the nodes, and what a node holds of them.
use Rattle.std.specs.Prelude.{ℕ, zero, suc, ◌+◌, ◌<◌, ◌≡◌, Bool, true, false, ◌&&◌, List, [], ◌∷◌, length, map, if◌then◌else◌, ℤ, Option, Some, None, nat_lt, slice_index_or}
use Rattle.std.specs.List.{flat_map, range_with_len}
use Rattle.hpf_base.specs.declared.index.Shape.{Shape}
use Rattle.mappings.specs.declared.mapping.Mapping.{Mapping}
use Rattle.mappings.specs.Alignment.{owns}
use Rattle.hpf_base.specs.ElementOrder.{elements, extents_of, product}
use Rattle.storage.specs.Storage.{Storage, Spot}

-- the shape of an array or of a copy, and where its elements lie now
pub record Layout : Type 0 where
  pub shape : Shape
  pub mapping : Mapping

-- its number of elements
unfoldable pub size_of : Layout → ℕ
size_of layout = product (extents_of layout.shape)

-- the subscripts of the element at a position, from 0, in array element order (Fortran 95, 6.2.2.2)
abbrev pub element_index : Shape → ℕ → List ℤ
element_index shape at = slice_index_or (elements shape) at []

-- whether a node owns a position: one of an element that the mapping gives it. No law on runs looks in here: they hold whoever owns what,
-- and where an element has several owners
unfoldable pub owned_by : Layout → ℕ → ℕ → Bool
owned_by layout node at = nat_lt at (size_of layout) && owns layout.mapping (element_index layout.shape at) node

-- where a row has no layout, it has no elements, and none is owned
abbrev pub by_none : ℕ → ℕ → Bool
by_none node at = false

-- who owns the positions of a row
abbrev pub owned_in : List Layout → ℕ → ℕ → ℕ → Bool
owned_in [] row = by_none
owned_in (layout ∷ layouts) zero = owned_by layout
owned_in (layout ∷ layouts) (suc row) = owned_in layouts row

abbrev pub owns_spot : List Layout → ℕ → Spot → Bool
owns_spot layouts node spot = owned_in layouts spot.row node spot.at

-- the first number of so many from lo on that passes; 0 where none does
abbrev pub first : (ℕ → Bool) → ℕ → ℕ → ℕ
first P lo zero = 0
first P lo (suc len) = if P lo then lo else first P (lo + 1) len

-- of so many nodes the owner of an element with the least number
abbrev pub least_owner_of : ℕ → List Layout → Spot → ℕ
least_owner_of count layouts spot = first (λ node. owns_spot layouts node spot) 0 count

-- the numbers of elements of the rows
abbrev pub sizes : List Layout → List ℕ
sizes layouts = map size_of layouts

-- the element, where its row has one at that position
abbrev pub in_bounds : List Layout → Option Spot → Option Spot
in_bounds layouts None = None
in_bounds layouts (Some spot) = if nat_lt spot.at (slice_index_or (sizes layouts) spot.row 0) then Some spot else None

-- ---- pieces

-- the values whose positions pass, where the first stands at lo
abbrev pub values_at : (ℕ → Bool) → ℕ → List ℤ → List ℤ
values_at P lo [] = []
values_at P lo (v ∷ vs) = if P lo then v ∷ values_at P (lo + 1) vs else values_at P (lo + 1) vs

-- how many of so many positions from lo on pass
abbrev pub count_passing : (ℕ → Bool) → ℕ → ℕ → ℕ
count_passing P lo zero = 0
count_passing P lo (suc len) = if P lo then suc (count_passing P (lo + 1) len) else count_passing P (lo + 1) len

-- a node's piece of a row: the elements that it owns, in array element order
abbrev pub piece : (ℕ → ℕ → Bool) → ℕ → List ℤ → List ℤ
piece owner node row = values_at (owner node) 0 row

-- the local address of an element: its place in the piece, from 0
abbrev pub address : List Layout → ℕ → Spot → ℕ
address layouts node spot = count_passing (owned_in layouts spot.row node) 0 spot.at

-- a node's pieces of all rows
abbrev pub pieces : List Layout → ℕ → Storage → Storage
pieces layouts node [] = []
pieces [] node (row ∷ rows) = piece by_none node row ∷ pieces [] node rows
pieces (layout ∷ layouts) node (row ∷ rows) = piece (owned_by layout) node row ∷ pieces layouts node rows

-- every position has an owner among so many nodes
abbrev pub IsDealt : ℕ → Layout → Type 0
IsDealt count layout = (at : ℕ) → at < size_of layout → (node : ℕ) × (node < count) × (owned_by layout node at ≡ true)

-- the elements lie in blocks, one node's after another's: any values of theirs are the nodes' pieces in a row
abbrev pub IsInBlocks : ℕ → Layout → Type 0
IsInBlocks count layout = (row : List ℤ) → length row ≡ size_of layout → flat_map (λ node. piece (owned_by layout) node row) (range_with_len 0 count) ≡ row

-- every element has one
abbrev pub AreOwned : ℕ → List Layout → Type 0
AreOwned count layouts = (spot : Spot) → spot.at < slice_index_or (sizes layouts) spot.row 0 → (node : ℕ) × (node < count) × (owns_spot layouts node spot ≡ true)
