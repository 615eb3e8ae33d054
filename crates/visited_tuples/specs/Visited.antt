-- Of a promise.
-- The tuples at which a node takes or sends what references name.
use Rattle.std.specs.Prelude.{◌≡◌, ℕ, ◌<◌, ◌==◌, ◌⊎◌, All, Bool, true, false, List, map, Some, slice_get}
use Rattle.std.specs.List.{list_any}
use Rattle.hpf_base.specs.ElementOrder.{product}
use Rattle.storage.specs.Storage.{Spot}
use Rattle.machine_steps.specs.Layout.{Layout, owns_spot}
use Rattle.machine_steps.specs.Message.{names_spot}
use Rattle.message_elements.specs.Elements.{is_sent}
use Rattle.courses.specs.References.{Named, named_spot}

-- tuples that the node computes, among them all at which something is read that it doesn't own
pub record IsTaking (computes : (node tuple : ℕ) → Bool) (layouts : List Layout) (ns : List ℕ) (rs : List Named) (id : ℕ) (tuples : List ℕ) : Type 0 where
  pub below : All (λ t. t < product ns) tuples
  pub own : All (λ t. computes id t ≡ true) tuples
  pub every : (t : ℕ) (spot : Spot) → t < product ns → computes id t ≡ true → names_spot (map (named_spot ns t) rs) spot ≡ true
      → owns_spot layouts id spot ≡ false → list_any (λ v. v == t) tuples ≡ true

-- tuples, among them all at which the node sends something that is named by one of the references
pub record IsSending (computes : (node tuple : ℕ) → Bool) (nodes : ℕ) (layouts : List Layout) (ns : List ℕ) (rs : List Named) (id : ℕ) (tuples : List ℕ) : Type 0 where
  pub below : All (λ t. t < product ns) tuples
  pub every : (t other : ℕ) (spot : Spot) → t < product ns → other < nodes → computes other t ≡ true → names_spot (map (named_spot ns t) rs) spot ≡ true
      → is_sent nodes layouts id other spot ≡ true → list_any (λ v. v == t) tuples ≡ true

-- the same of one reference
pub record IsSendingOf (computes : (node tuple : ℕ) → Bool) (nodes : ℕ) (layouts : List Layout) (ns : List ℕ) (r : Named) (id : ℕ) (tuples : List ℕ) : Type 0 where
  pub below : All (λ t. t < product ns) tuples
  pub every : (t other : ℕ) (spot : Spot) → t < product ns → other < nodes → computes other t ≡ true → named_spot ns t r ≡ Some spot
      → is_sent nodes layouts id other spot ≡ true → list_any (λ v. v == t) tuples ≡ true

-- the rows lie alike, and the subscripts are the same at each tuple
pub record AreAlike (layouts : List Layout) (l r : Named) : Type 0 where
  pub rows : slice_get layouts r.row ≡ slice_get layouts l.row
  pub dims : r.dims ≡ l.dims
  pub courses : r.courses ≡ l.courses

-- each node that computes a tuple owns what the reference names there
abbrev pub IsHeld : (computes : (node tuple : ℕ) → Bool) → List Layout → List ℕ → Named → Type 0
IsHeld computes layouts ns r = (t : ℕ) (spot : Spot) → t < product ns → named_spot ns t r ≡ Some spot
    → (node : ℕ) → computes node t ≡ true → owns_spot layouts node spot ≡ true

-- each node that computes a tuple owns what the references name there, but for what these few name
abbrev pub Suffice : (computes : (node tuple : ℕ) → Bool) → List Layout → List ℕ → (rs few : List Named) → Type 0
Suffice computes layouts ns rs few = (t : ℕ) (spot : Spot) → t < product ns → names_spot (map (named_spot ns t) rs) spot ≡ true
    → (names_spot (map (named_spot ns t) few) spot ≡ true) ⊎ ((node : ℕ) → computes node t ≡ true → owns_spot layouts node spot ≡ true)
