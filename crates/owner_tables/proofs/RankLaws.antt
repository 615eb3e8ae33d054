-- What the ranks of places say of the places between two.
use Rattle.std.proofs.Common.{◌≡◌, ℕ, zero, suc, ◌+◌, ◌*◌, ◌/◌, ◌<◌, ◌≤◌, ◌⊎◌, inl, inr, ◌==◌, Bool, true, false, cond, ℤ, pos, ◌+ℤ◌, All, List, [], ◌∷◌, Option, Some, None, get_or, length, map, replicate, refl, sym, ◌∙◌, ap, subst, arith}
use Rattle.std.proofs.Math.Nat.{mul-div_cancel, mul-le-mul}
use Rattle.std.proofs.lemmas.Bool.{cases_lt, eqb-true}
use Rattle.std.proofs.lemmas.List.Elements.{All-cons, All-head, All-tail}
use Rattle.std.proofs.lemmas.List.FromFn.{get_or-map-range_with_len, length-map-range_with_len}
use Rattle.std.specs.List.{range_with_len}
use Rattle.mappings.specs.declared.mapping.Mapping.{Mapping}
use Rattle.hpf_base.specs.ElementOrder.{extents_of}
use Rattle.local_address.specs.declared.axes.Axis.{Axis}
use Rattle.local_address.specs.Runs.{axis_along, coordinate_on}
use Rattle.local_address.proofs.ElementLaws.{factors_some}
use Rattle.machine_steps.specs.Layout.{size_of}
use Rattle.periodic_runs.specs.Runs.{no_place}
use Rattle.periodic_runs.specs.declared.runs.Place.{Place}
use Rattle.owner_tables.specs.declared.tables.Tables.TheInside.{Inside}
use Rattle.owner_tables.specs.Columns.{AreRanked, ColumnView, column_of, columns_of, next_strides, place_of, place_on, weight, weight_on}
use Rattle.owner_tables.specs.Tables.{AreTables, view_of}
use Rattle.owner_tables.specs.Views.{TableView}
use Rattle.owner_tables.proofs.Counting.{count, count-push}

-- ---- how many of the first numbers have a value

module _ (f : ℕ → ℕ) (c : ℕ) where
  abbrev has : ℕ → Bool
  has n = f n == c

  abbrev many : ℕ → ℕ
  many n = count f n c

  one : (b : Bool) (n : ℕ) → length (cond b (n ∷ []) []) ≤ 1
  one true n = omega arith
  one false n = omega arith

  passes : (b : Bool) (n : ℕ) → 1 ≤ length (cond b (n ∷ []) []) → b ≡ true
  passes true n some = refl
  passes false n some = absurd (omega (arith, some))

  more : (n : ℕ) → many (n + 1) ≡ many n + length (cond (has n) (n ∷ []) [])
  more n = count-push has n

  -- of so many numbers no more than that
  few : (p d : ℕ) → many (p + d) ≤ many p + d
  few p zero = let here : p + zero ≡ p = omega arith in let same = ap many here in omega (arith, same)
  few p (suc d) =
      let here : p + suc d ≡ p + d + 1 = omega arith in
      let same = ap many here in
      omega (arith, same, more (p + d), one (has (p + d)) (p + d), few p d)

  -- where all of them are counted, all before each are
  between : (p d : ℕ) → many (p + d) ≡ many p + d → (j : ℕ) → j ≤ d → many (p + j) ≡ many p + j
  between p zero all j upto =
      let here : p + j ≡ p = omega (arith, upto) in let same = ap many here in omega (arith, same, upto)
  between p (suc d) all j upto = by_case (cases_lt d j) (λ (inner : j ≤ d). between p d before j inner)
    where
      before : many (p + d) ≡ many p + d
      before =
          let here : p + suc d ≡ p + d + 1 = omega arith in
          let same = ap many here in
          omega (arith, all, same, more (p + d), one (has (p + d)) (p + d), few p d)

      by_case : (d < j) ⊎ (j ≤ d) → (j ≤ d → many (p + j) ≡ many p + j) → many (p + j) ≡ many p + j
      by_case (inl last) ih = let here : j ≡ suc d = omega (arith, last, upto) in ap (λ n. many (p + n)) here ∙ all ∙ ap (λ n. many p + n) (sym here)
      by_case (inr inner) ih = ih inner

  -- and each has the value
  valued : (p d : ℕ) → many (p + d) ≡ many p + d → (j : ℕ) → j < d → f (p + j) ≡ c
  valued p d all j inner =
      let here = between p d all j (omega (arith, inner)) in
      let after = between p d all (j + 1) (omega (arith, inner)) in
      let turn : p + (j + 1) ≡ p + j + 1 = omega arith in
      let same = ap many turn in
      eqb-true (f (p + j)) c (passes (has (p + j)) (p + j) (omega (arith, here, after, same, more (p + j))))

-- ---- the places of a dimension

module _ (axis : Option Axis) (w : ℕ) (lower : ℤ) (extent : ℕ)
    (tells : (x y : ℤ) → coordinate_on axis x * w ≡ coordinate_on axis y * w → coordinate_on axis x ≡ coordinate_on axis y) where
  abbrev coordinate_of : ℕ → ℕ
  coordinate_of place = coordinate_on axis (lower +ℤ pos place)

  abbrev places : List Place
  places = map (place_on axis w lower) (range_with_len 0 extent)

  here : (n : ℕ) → n < extent → place_of places n ≡ place_on axis w lower n
  here n below = get_or-map-range_with_len (place_on axis w lower) 0 extent n n no_place below (omega arith)

  pub places-ranked : AreRanked places
  places-ranked number apart k inside part rank upto = (
    ap (λ p. p.part) (here (number + k) (omega (arith, within, upto))) ∙ ap (λ c. c * w) value ∙ sym (ap (λ p. p.part) (here number (omega (arith, within)))),
    ap (λ p. p.rank) (here (number + k) (omega (arith, within, upto))) ∙ ap (count coordinate_of (number + k)) value
        ∙ between coordinate_of (coordinate_of number) number apart all k upto
        ∙ ap (λ n. n + k) (sym (ap (λ p. p.rank) (here number (omega (arith, within))))),
  )
    where
      within : number + apart < extent
      within = omega (arith, inside, length-map-range_with_len (place_on axis w lower) 0 extent)

      same : coordinate_of (number + apart) ≡ coordinate_of number
      same = tells (lower +ℤ pos (number + apart)) (lower +ℤ pos number)
          (sym (ap (λ p. p.part) (here (number + apart) within)) ∙ part ∙ ap (λ p. p.part) (here number (omega (arith, within))))

      all : count coordinate_of (number + apart) (coordinate_of number) ≡ count coordinate_of number (coordinate_of number) + apart
      all =
          ap (count coordinate_of (number + apart)) (sym same) ∙ sym (ap (λ p. p.rank) (here (number + apart) within)) ∙ rank
          ∙ ap (λ n. n + apart) (ap (λ p. p.rank) (here number (omega (arith, within))))

      by_case : (k < apart) ⊎ (apart ≤ k) → coordinate_of (number + k) ≡ coordinate_of number
      by_case (inl inner) = valued coordinate_of (coordinate_of number) number apart all k inner
      by_case (inr last) = let is : k ≡ apart = omega (arith, upto, last) in ap (λ n. coordinate_of (number + n)) is ∙ same

      value : coordinate_of (number + k) ≡ coordinate_of number
      value = by_case (cases_lt k apart)

-- ---- the dimensions of an array

weight-some : (grid : List ℕ) (dim : ℕ) → All (λ e. 1 ≤ e) grid → 1 ≤ weight grid dim
weight-some grid zero some = omega arith
weight-some [] (suc dim) some = omega arith
weight-some (e ∷ es) (suc dim) some =
    let product_some : 1 * 1 ≤ e * weight es dim =
    mul-le-mul (All-head (λ x. 1 ≤ x) e es some) (weight-some es dim (All-tail (λ x. 1 ≤ x) e es some)) in
    omega (arith, product_some)

-- what is added tells the coordinate
tells-coordinate : (grid : List ℕ) (axis : Option Axis) → All (λ e. 1 ≤ e) grid → (x y : ℤ)
    → coordinate_on axis x * weight_on grid axis ≡ coordinate_on axis y * weight_on grid axis → coordinate_on axis x ≡ coordinate_on axis y
tells-coordinate grid None some x y same = refl
tells-coordinate grid (Some axis) some x y same =
    let positive : 0 < weight grid axis.grid_dim = omega (arith, weight-some grid axis.grid_dim some) in
    sym (mul-div_cancel (coordinate_on (Some axis) x) positive) ∙ ap (λ n. n / weight grid axis.grid_dim) same
    ∙ mul-div_cancel (coordinate_on (Some axis) y) positive

columns-ranked : (mapping : Mapping) (lower : List ℤ) (dim : ℕ) (extents strides : List ℕ) → All (λ e. 1 ≤ e) mapping.grid
    → All (λ column. AreRanked column.places) (columns_of mapping lower dim extents strides)
columns-ranked mapping lower dim [] strides some = λ n d below. absurd (omega (arith, below))
columns-ranked mapping lower dim (extent ∷ extents) strides some =
    let first = get_or lower dim (pos 0) in
    let axis = axis_along dim mapping.dims in
    All-cons (λ column. AreRanked column.places) (column_of mapping first dim extent strides)
    (columns_of mapping lower (dim + 1) extents (next_strides mapping first dim extent strides))
    (places-ranked axis (weight_on mapping.grid axis) first extent (tells-coordinate mapping.grid axis some))
    (columns-ranked mapping lower (dim + 1) extents (next_strides mapping first dim extent strides) some)

-- ---- tables

pub tables-ranked : (t : Inside) (v : TableView) → view_of t ≡ v → AreTables t → 1 ≤ size_of v.layout → (cs : List ColumnView) → cs ≡ t.numbers.columns.items
    → All (λ column. AreRanked column.places) cs
tables-ranked t v view is any cs same = subst (All (λ column. AreRanked column.places)) (sym same)
    (subst (λ w. 1 ≤ size_of w.layout → All (λ column. AreRanked column.places) t.numbers.columns.items) view
    (λ some. subst (All (λ column. AreRanked column.places)) (sym (is.columns some))
    (columns-ranked t.mapping t.shape.lower 0 (extents_of t.shape) (replicate t.nodes 1)
    (factors_some t.mapping.grid (omega (arith, is.laid.grid, is.some))))) any)
