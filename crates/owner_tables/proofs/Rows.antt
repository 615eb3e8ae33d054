-- The layouts of the rows.
use Rattle.std.proofs.Common.{◌≡◌, ℕ, zero, suc, ◌<◌, List, [], ◌∷◌, get_or, set, length, map, refl, sym, ◌∙◌, ap, arith, IfSome}
use Rattle.std.proofs.lemmas.List.{get_or-map, length-map, map-set}
use Rattle.std.specs.List.{slice_get}
use Rattle.machine_steps.specs.Machine.{with_mapping}
use Rattle.machine_steps.specs.Layout.{Layout, owned_by, owned_in, size_of, sizes}
use Rattle.owner_tables.specs.Views.{OwnersView, TableView}

pub row-size : (layouts : List Layout) (row : ℕ) (d : Layout) → row < length layouts → size_of (get_or layouts row d) ≡ get_or (sizes layouts) row 0
row-size [] row d within = absurd (omega arith)
row-size (l ∷ ls) zero d within = refl
row-size (l ∷ ls) (suc row) d within = row-size ls row d (omega arith)

pub row-owned : (layouts : List Layout) (row : ℕ) (d : Layout) → row < length layouts → owned_by (get_or layouts row d) ≡ owned_in layouts row
row-owned [] row d within = absurd (omega arith)
row-owned (l ∷ ls) zero d within = refl
row-owned (l ∷ ls) (suc row) d within = row-owned ls row d (omega arith)

-- ---- the tables

abbrev with_row : ℕ → Layout → OwnersView → OwnersView
with_row row layout v = record { layouts = set v.layouts row layout; nodes = v.nodes }

abbrev seen : List TableView → ℕ → OwnersView
seen tables nodes = record { layouts = map (λ t. t.layout) tables; nodes = nodes }

pub rows-many : (tables : List TableView) (nodes : ℕ) (v : OwnersView) → seen tables nodes ≡ v → length v.layouts ≡ length tables
rows-many tables nodes v is = ap (λ w. length w.layouts) (sym is) ∙ length-map tables (λ t. t.layout)

pub row-set : (tables : List TableView) (nodes row : ℕ) (table : TableView) (v : OwnersView) → seen tables nodes ≡ v
    → seen (set tables row table) nodes ≡ with_row row table.layout v
row-set tables nodes row table v is =
    ap (λ (ls : List Layout). let w : OwnersView = record { layouts = ls; nodes = nodes } in w) (map-set (λ t. t.layout) tables row table) ∙ ap (with_row row table.layout) is

pub row-layout : (tables : List TableView) (nodes row : ℕ) (table : TableView) (v : OwnersView) (d : Layout) → seen tables nodes ≡ v → row < length v.layouts
    → table ≡ get_or tables row table → table.layout ≡ get_or v.layouts row d
row-layout tables nodes row table v d is within at =
    let many : length v.layouts ≡ length tables = rows-many tables nodes v is in
    ap (λ t. t.layout) at ∙ sym (get_or-map (λ t. t.layout) tables row table d (omega (arith, within, many)))
    ∙ ap (λ w. get_or w.layouts row d) is

-- a layout of the row's shape gives its mapping; a row that isn't there gets none
pub mapping-set : (layouts : List Layout) (row : ℕ) (layout : Layout) → IfSome (slice_get layouts row) (λ l. l.shape ≡ layout.shape)
    → set layouts row layout ≡ with_mapping layouts row layout.mapping
mapping-set [] row layout same = refl
mapping-set (l ∷ ls) zero layout same = ap (λ shape. record { shape = shape; mapping = layout.mapping } ∷ ls) (sym same)
mapping-set (l ∷ ls) (suc row) layout same = ap (λ rest. l ∷ rest) (mapping-set ls row layout same)
