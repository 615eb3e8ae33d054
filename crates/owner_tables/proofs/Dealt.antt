-- Rows whose elements have owners, one after the other.
use Rattle.std.proofs.Common.{◌≡◌, ℕ, ◌+◌, ◌<◌, ◌≤◌, true, List, get_or, sym, ◌∙◌, ap, arith, ◌⊎◌, inl, inr}
use Rattle.std.proofs.lemmas.Bool.{cases_lt}
use Rattle.storage.specs.Storage.{Spot}
use Rattle.machine_steps.specs.Layout.{IsDealt, Layout, owned_by, owned_in, owns_spot, size_of, sizes}
use Rattle.owner_tables.specs.Views.{TableView}

-- each element of the first rows has an owner
abbrev pub AreOwnedBelow : ℕ → ℕ → List Layout → Type 0
AreOwnedBelow rows nodes layouts = (spot : Spot) → spot.row < rows → spot.at < get_or (sizes layouts) spot.row 0 → (node : ℕ) × (node < nodes) × (owns_spot layouts node spot ≡ true)

module _ (nodes : ℕ) (layouts : List Layout) where
  -- one row more
  pub row-more : (row : ℕ) (table : TableView) → table.nodes ≡ nodes → size_of table.layout ≡ get_or (sizes layouts) row 0 → owned_by table.layout ≡ owned_in layouts row
      → IsDealt table.nodes table.layout → AreOwnedBelow row nodes layouts → AreOwnedBelow (row + 1) nodes layouts
  row-more row table many size owned dealt so_far spot below at = by_row (cases_lt spot.row row)
    where
      by_row : (spot.row < row) ⊎ (row ≤ spot.row) → (node : ℕ) × (node < nodes) × (owns_spot layouts node spot ≡ true)
      by_row (inl less) = so_far spot less at
      by_row (inr more) =
          let here : spot.row ≡ row = omega (arith, below, more) in
          let inside : spot.at < size_of table.layout = omega (arith, at, size, ap (λ r. get_or (sizes layouts) r 0) here) in
          let owner = dealt spot.at inside in
          (owner.0, omega (arith, owner.1, many), (λ i. owned_in layouts (here i) owner.0 spot.at) ∙ (λ i. (sym owned) i owner.0 spot.at) ∙ owner.2)
