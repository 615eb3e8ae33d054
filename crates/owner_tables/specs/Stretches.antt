-- Of private clauses.
-- Elements at equal distances that have the same owners, by the dimensions of the array. Only private contracts cite it.
use Rattle.std.specs.Prelude.{◌≡◌, ℕ, ◌+◌, ◌*◌, ◌<◌, ◌≤◌, List}
use Rattle.hpf_base.specs.ElementOrder.{product}
use Rattle.periodic_runs.specs.declared.runs.Place.{Place}
use Rattle.owner_tables.specs.Columns.{ColumnView, address_at, extents_along, parts_at, place_of}

-- a place of a dimension and so many others, each `step` places after the one before, add the same, and their ranks lie `apart`
abbrev pub AreEven : List Place → (number step others apart : ℕ) → Type 0
AreEven places number step others apart = (k : ℕ) → k ≤ others
    → ((place_of places (number + k * step)).part ≡ (place_of places number).part)
    × ((place_of places (number + k * step)).rank ≡ (place_of places number).rank + k * apart)

-- the element at a position and so many others, each `step` positions after the one before, have the same least owner, and lie `apart` in the
-- piece of a node that owns them
pub record IsStretch (columns : List ColumnView) (node at step others apart : ℕ) : Type 0 where
  pub inside : (k : ℕ) → k ≤ others → at + k * step < product (extents_along columns)
  pub parts : (k : ℕ) → k ≤ others → parts_at columns (at + k * step) ≡ parts_at columns at
  pub addresses : (k : ℕ) → k ≤ others → address_at node columns (at + k * step) ≡ address_at node columns at + k * apart
