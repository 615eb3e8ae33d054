-- Of the claim.
-- Who sends which elements to whom.
use Rattle.std.specs.Prelude.{ℕ, zero, suc, ◌+◌, ◌==◌, Bool, true, false, ◌&&◌, ◌||◌, not, List, [], ◌∷◌, ◌++◌, map, filter, Option, Some, None, ℤ, pos, if◌then◌else◌}
use Rattle.std.specs.List.{range_with_len}
use Rattle.storage.specs.Storage.{Spot}
use Rattle.storage.specs.Storage.{is_same_spot}
use Rattle.machine_steps.specs.Layout.{Layout, sizes, owns_spot, least_owner_of, in_bounds}
use Rattle.machine_steps.specs.Instr.{Tuples}

-- all elements of rows of these sizes, row by row, each in array element order
abbrev pub spots_from : ℕ → List ℕ → List Spot
spots_from row [] = []
spots_from row (size ∷ sizes) = map (λ at. record { row = row; at = at }) (range_with_len 0 size) ++ spots_from (row + 1) sizes

abbrev pub all_spots : List Layout → List Spot
all_spots layouts = spots_from 0 (sizes layouts)

-- ---- parts

-- what is read at so many tuples, and which node computes which of them
pub record Part : Type 0 where
  pub tuples : ℕ
  pub reads : ℕ → List (Option Spot)
  pub computes : (node tuple : ℕ) → Bool

-- the owners of the element that is assigned compute the tuple; where there is none, node 0 does
abbrev pub computes_left : List Layout → ℕ → Option Spot → Bool
computes_left layouts node None = node == 0
computes_left layouts node (Some spot) = owns_spot layouts node spot

abbrev pub par_part : {F : Type 0} → List Layout → Tuples F → (List ℤ → ℕ → Option Spot) → List ℤ → Part
par_part layouts tuples left slots = record {
  tuples = tuples.count slots;
  reads = tuples.reads slots;
  computes = λ node t. computes_left layouts node (in_bounds layouts (left slots t));
}

-- the least owner of an element, and node 0 where there is none
abbrev pub least_or_zero : ℕ → List Layout → Option Spot → ℕ
least_or_zero count layouts None = 0
least_or_zero count layouts (Some spot) = least_owner_of count layouts spot

abbrev pub first_read : List (Option Spot) → Option Spot
first_read [] = None
first_read (read ∷ reads) = read

-- the node that computes a tuple of a reduction: the least owner of the first element that is read
abbrev pub computing_node : {F : Type 0} → ℕ → List Layout → Tuples F → List ℤ → ℕ → ℕ
computing_node count layouts tuples slots t = least_or_zero count layouts (in_bounds layouts (first_read (tuples.reads slots t)))

abbrev pub reduce_part : {F : Type 0} → ℕ → List Layout → Tuples F → List ℤ → Part
reduce_part count layouts tuples slots = record {
  tuples = tuples.count slots;
  reads = tuples.reads slots;
  computes = λ node t. computing_node count layouts tuples slots t == node;
}

-- node 0 gathers what is printed
abbrev pub gather_part : (List ℤ → ℕ) → (List ℤ → ℕ → Option Spot) → List ℤ → Part
gather_part tuples element slots = record {
  tuples = tuples slots;
  reads = λ t. element slots t ∷ [];
  computes = λ node t. node == 0;
}

-- all nodes fetch one element
abbrev pub fetch_part : Spot → Part
fetch_part spot = record { tuples = 1; reads = λ t. Some spot ∷ []; computes = λ node t. true }

-- ---- messages

abbrev pub names_spot : List (Option Spot) → Spot → Bool
names_spot [] spot = false
names_spot (None ∷ reads) spot = names_spot reads spot
names_spot (Some s ∷ reads) spot = is_same_spot s spot || names_spot reads spot

abbrev pub any_below : (ℕ → Bool) → ℕ → Bool
any_below P zero = false
any_below P (suc n) = P n || any_below P n

-- the element is read at a tuple that the node computes, whatever the mask
abbrev pub needs : Part → ℕ → Spot → Bool
needs part node spot = any_below (λ t. part.computes node t && names_spot (part.reads t) spot) part.tuples

-- all elements that q needs, that q doesn't own and whose least owner is p
abbrev pub message : ℕ → List Layout → Part → ℕ → ℕ → List Spot
message count layouts part p q = filter (λ spot. needs part q spot && (not (owns_spot layouts q spot) && (least_owner_of count layouts spot == p))) (all_spots layouts)

-- a redistribution: all elements that q owns after and not before, and whose least owner before is p
abbrev pub remap_message : ℕ → (old new : List Layout) → ℕ → ℕ → List Spot
remap_message count old new p q = filter (λ spot. owns_spot new q spot && (not (owns_spot old q spot) && (least_owner_of count old spot == p))) (all_spots old)

-- there is a message where there are elements
abbrev pub has_any : {A : Type 0} → List A → Bool
has_any [] = false
has_any (x ∷ xs) = true

-- the value of an element, by the elements of a message and the values sent for them; 0 where it isn't one of them
abbrev pub lookup : List Spot → List ℤ → Spot → ℤ
lookup [] values spot = pos 0
lookup (s ∷ spots) [] spot = pos 0
lookup (s ∷ spots) (v ∷ values) spot = if is_same_spot s spot then v else lookup spots values spot
