-- Of a promise.
-- Lists of elements, and what a node sends another.
use Rattle.std.specs.Prelude.{◌≡◌, ℕ, ◌==◌, ◌&&◌, ◌||◌, not, nat_lt, Bool, false, List, Option, Some, None, slice_index_or}
use Rattle.std.specs.List.{list_any}
use Rattle.storage.specs.Storage.{Spot, is_same_spot}
use Rattle.machine_steps.specs.Layout.{Layout, sizes, owns_spot, least_owner_of}

-- the element is one of the list
abbrev pub is_among : List Spot → Spot → Bool
is_among spots spot = list_any (λ s. is_same_spot s spot) spots

-- the same elements, however often and in whatever order
abbrev pub SameAmong : (before after : List Spot) → Type 0
SameAmong before after = (spot : Spot) → is_among after spot ≡ is_among before spot

-- one element more, and else the same
abbrev pub OneMore : Spot → (before after : List Spot) → Type 0
OneMore spot before after = (s : Spot) → is_among after s ≡ (is_same_spot spot s || is_among before s)

-- the read is of this element
abbrev pub is_named : Option Spot → Spot → Bool
is_named None spot = false
is_named (Some s) spot = is_same_spot s spot

-- it is an element, the target doesn't own it, and its least owner is the source
abbrev pub is_sent : ℕ → List Layout → (from to : ℕ) → Spot → Bool
is_sent nodes layouts from to spot =
    nat_lt spot.at (slice_index_or (sizes layouts) spot.row 0) && (not (owns_spot layouts to spot) && (least_owner_of nodes layouts spot == from))
