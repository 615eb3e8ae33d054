-- New mappings of the first rows.
use Rattle.std.proofs.Common.{◌≡◌, ℕ, zero, suc, true, List, [], ◌∷◌, Option, Some, None, take, refl, ◌∙◌, ap}
use Rattle.std.proofs.lemmas.Bool.{and_from, and_parts}
use Rattle.std.specs.List.{list_all, slice_get}
use Rattle.mappings.specs.declared.mapping.Mapping.{Mapping}
use Rattle.machine_steps.specs.Instr.{Remapping}
use Rattle.machine_steps.specs.Layout.{Layout, size_of, sizes}
use Rattle.machine_steps.specs.Machine.{remapped, with_mapping}
use Rattle.node_code.specs.Instructions.{NewMapping}
use Rattle.owner_tables.specs.Views.{TableView}
use Rattle.node_program.specs.Fits.{fits_row, is_shaped_by, shapes_of}

-- ---- they have as many elements as before

mapped-sizes : (layouts : List Layout) (row : ℕ) (mapping : Mapping) → sizes (with_mapping layouts row mapping) ≡ sizes layouts
unfolding size_of
mapped-sizes [] row mapping = refl
mapped-sizes (layout ∷ layouts) zero mapping = refl
mapped-sizes (layout ∷ layouts) (suc row) mapping = ap (λ ns. size_of layout ∷ ns) (mapped-sizes layouts row mapping)

pub remapped-sizes : (new : List Remapping) (layouts : List Layout) → sizes (remapped new layouts) ≡ sizes layouts
remapped-sizes [] layouts = refl
remapped-sizes (first ∷ new) layouts = remapped-sizes new (with_mapping layouts first.row first.mapping) ∙ mapped-sizes layouts first.row first.mapping

-- ---- what fits all rows fits the first of them

row-taken : (table : Option TableView) (n : ℕ) (layouts : List Layout) (k : ℕ) → is_shaped_by table (slice_get (shapes_of layouts) k) ≡ true
    → is_shaped_by table (slice_get (shapes_of (take n layouts)) k) ≡ true
row-taken None n layouts k fits = refl
row-taken (Some table) zero layouts k fits = refl
row-taken (Some table) (suc n) [] k fits = refl
row-taken (Some table) (suc n) (l ∷ layouts) zero fits = fits
row-taken (Some table) (suc n) (l ∷ layouts) (suc k) fits = row-taken (Some table) n layouts k fits

pub fits-taken : (tables : List TableView) (n : ℕ) (layouts : List Layout) (new : List NewMapping) → list_all (fits_row tables (shapes_of layouts)) new ≡ true
    → list_all (fits_row tables (shapes_of (take n layouts))) new ≡ true
fits-taken tables n layouts [] fits = refl
fits-taken tables n layouts (first ∷ new) fits =
    let parts = and_parts (fits_row tables (shapes_of layouts) first) (list_all (fits_row tables (shapes_of layouts)) new) fits in
    and_from _ _ (row-taken (slice_get tables first.map) n layouts first.array parts.0) (fits-taken tables n layouts new parts.1)
