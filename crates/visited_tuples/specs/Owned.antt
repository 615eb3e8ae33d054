-- Of a promise.
-- Where a node owns what a reference names, by how the rows lie.
use Rattle.std.specs.Prelude.{◌≡◌, ℕ, ◌<◌, ◌||◌, not, true, false, List, Option, Some, None, slice_get}
use Rattle.machine_steps.specs.Layout.{Layout, owned_by, size_of}
use Rattle.axis_products.specs.Tests.{Test}
use Rattle.courses.specs.Owners.{IsLaidOut, bounds_test, held_test}
use Rattle.courses.specs.References.{Named}

abbrev pub owns_in : Option Layout → ℕ → Named → Test
owns_in None node r = record { always = false; at = λ axis place. true }
owns_in (Some layout) node r = held_test r layout node

-- what is named is in bounds, and the node's
abbrev pub owns_named : List Layout → ℕ → Named → Test
owns_named layouts node r = owns_in (slice_get layouts r.row) node r

-- what is named is the node's, if anything is named: at a place out of bounds nothing is
abbrev pub owns_if_in : Option Layout → ℕ → Named → Test
owns_if_in None node r = owns_in None node r
owns_if_in (Some layout) node r = record {
  always = (held_test r layout node).always;
  at = λ axis place. not ((bounds_test r.dims r.courses).at axis place) || (held_test r layout node).at axis place;
}

abbrev pub owns_if_named : List Layout → ℕ → Named → Test
owns_if_named layouts node r = owns_if_in (slice_get layouts r.row) node r

-- the row lies as the reference takes it
abbrev pub Lies : List ℕ → List Layout → Named → Type 0
Lies ns layouts r = (layout : Layout) × IsLaidOut ns layouts r layout

-- it does, and the node owns all of its elements
abbrev pub OwnsRow : List ℕ → List Layout → ℕ → Named → Type 0
OwnsRow ns layouts node r = (layout : Layout) × IsLaidOut ns layouts r layout × ((at : ℕ) → at < size_of layout → owned_by layout node at ≡ true)
