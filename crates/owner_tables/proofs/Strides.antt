-- Columns with one dimension more.
use Rattle.std.proofs.Common.{◌≡◌, ℕ, ◌+◌, ◌*◌, ◌<◌, ◌≤◌, ℤ, pos, ◌+ℤ◌, ◌==◌, Option, map, List, [], ◌∷◌, ◌++◌, sym, ◌∙◌, ap, append_assoc, subst, arith, length, get_or, drop, All, unsigned_abs}
use Rattle.std.proofs.Math.Nat.{mul-le-mul_left, mul-le-mul_right}
use Rattle.std.proofs.lemmas.List.{drop_more, length-map}
use Rattle.std.proofs.lemmas.List.Elements.{All-drop}
use Rattle.std.proofs.lemmas.List.FromFn.{get_or-map-range_with_len, length-map-range_with_len}
use Rattle.std.specs.List.{range_with_len}
use Rattle.mappings.specs.declared.mapping.Mapping.{Mapping}
use Rattle.hpf_base.specs.declared.index.Shape.{Shape}
use Rattle.hpf_base.specs.declared.limits.TheConstants.{MAX_ELEMENTS}
use Rattle.hpf_base.specs.ElementOrder.{extents_of, product}
use Rattle.hpf_base.specs.Grid.{node_coordinates}
use Rattle.hpf_base.specs.Shape.{IsShape}
use Rattle.hpf_base.proofs.ElementOrder.{product-drop_more, product-some}
use Rattle.hpf_base.proofs.Ranges.{map-range_agree}
use Rattle.local_address.specs.declared.axes.Axis.{Axis}
use Rattle.local_address.specs.Runs.{IsOfGrid, axis_along, coordinate_on, own_on, procs_on}
use Rattle.local_address.proofs.ElementLaws.{factors_some}
use Rattle.local_address.proofs.SpanLaws.{extent_most, own-below}
use Rattle.owner_tables.specs.Columns.{ColumnView, column_of, columns_of, count_on, next_strides, totals_of}
use Rattle.owner_tables.proofs.Counting.{count-few}

pub length-next : (mapping : Mapping) (lower : ℤ) (dim extent : ℕ) (strides : List ℕ) → length (next_strides mapping lower dim extent strides) ≡ product mapping.grid
length-next mapping lower dim extent strides =
    length-map-range_with_len
    (λ n. get_or strides n 0 * count_on (axis_along dim mapping.dims) lower extent (own_on (node_coordinates mapping.grid n) (axis_along dim mapping.dims))) 0
    (product mapping.grid)

-- each extent of an array that has an element
pub extent-few : (shape : Shape) (dim : ℕ) → IsShape shape → 1 ≤ product (extents_of shape) → dim < length shape.lower
    → (get_or (extents_of shape) dim 0 ≤ MAX_ELEMENTS) × (dim < length (extents_of shape))
extent-few shape dim valid some within =
    let inside : dim < length (extents_of shape) = omega (arith, length-map shape.extent unsigned_abs, valid.rank, within) in
    (omega (arith, extent_most (extents_of shape) dim inside (factors_some (extents_of shape) some), valid.size), inside)

-- strides that leave room for all dimensions leave it for the next
pub strides-few : (es : List ℕ) (dim most : ℕ) (strides : List ℕ) → dim < length es → All (λ e. 1 ≤ e) es
    → All (λ s. s * product (drop dim es) ≤ most) strides → All (λ s. s * get_or es dim 0 ≤ most) strides
strides-few es dim most strides within some few k d below =
    let s = get_or strides k d in
    let rest : 1 ≤ product (drop (dim + 1) es) = product-some (drop (dim + 1) es) (All-drop (λ e. 1 ≤ e) (dim + 1) es some) in
    let grows : s * get_or es dim 0 * 1 ≤ s * get_or es dim 0 * product (drop (dim + 1) es) = mul-le-mul_left (s * get_or es dim 0) rest in
    omega (arith, grows, product-drop_more es s dim within, few k d below)

-- and so do those of the next
pub next-few : (mapping : Mapping) (lower : ℤ) (es : List ℕ) (dim most : ℕ) (strides : List ℕ) → length strides ≡ product mapping.grid → dim < length es
    → All (λ s. s * product (drop dim es) ≤ most) strides
    → All (λ s. s * product (drop (dim + 1) es) ≤ most) (next_strides mapping lower dim (get_or es dim 0) strides)
next-few mapping lower es dim most strides same within few k d below =
    let axis = axis_along dim mapping.dims in
    let extent = get_or es dim 0 in
    let rest = product (drop (dim + 1) es) in
    let owned : ℕ → ℕ = λ node. count_on axis lower extent (own_on (node_coordinates mapping.grid node) axis) in
    let inside : k < product mapping.grid = omega (arith, below, length-next mapping lower dim extent strides) in
    let s = get_or strides k 0 in
    let is : get_or (next_strides mapping lower dim extent strides) k d ≡ s * owned k =
    get_or-map-range_with_len (λ node. get_or strides node 0 * owned node) 0 (product mapping.grid) k k d inside (omega arith) in
    let count : owned k ≤ extent =
    count-few (λ place. coordinate_on axis (lower +ℤ pos place) == own_on (node_coordinates mapping.grid k) axis) extent in
    let grows : s * owned k * rest ≤ s * extent * rest = mul-le-mul_right rest (mul-le-mul_left s count) in
    subst (λ n. n * rest ≤ most) (sym is) (omega (arith, grows, product-drop_more es s dim within, few k 0 (omega (arith, inside, same))))

module _ (mapping : Mapping) (lower : List ℤ) (es : List ℕ) (dim : ℕ) (within : dim < length es) where
  -- the columns that are left, with one more
  pub columns-more : (done : List ColumnView) (strides next : List ℕ) (column : ColumnView)
      → column ≡ column_of mapping (get_or lower dim (pos 0)) dim (get_or es dim 0) strides
      → next ≡ next_strides mapping (get_or lower dim (pos 0)) dim (get_or es dim 0) strides
      → (done ++ column ∷ []) ++ columns_of mapping lower (dim + 1) (drop (dim + 1) es) next ≡ done ++ columns_of mapping lower dim (drop dim es) strides
  columns-more done strides next column is next-is =
      append_assoc done (column ∷ []) (columns_of mapping lower (dim + 1) (drop (dim + 1) es) next)
      ∙ ap (λ c. done ++ c ∷ columns_of mapping lower (dim + 1) (drop (dim + 1) es) next) is
      ∙ ap (λ s. done ++ column_of mapping (get_or lower dim (pos 0)) dim (get_or es dim 0) strides ∷ columns_of mapping lower (dim + 1) (drop (dim + 1) es) s) next-is
      ∙ ap (λ l. done ++ columns_of mapping lower dim l strides) (sym (drop_more es dim 0 within))

  pub totals-more : (strides next : List ℕ) → next ≡ next_strides mapping (get_or lower dim (pos 0)) dim (get_or es dim 0) strides
      → totals_of mapping lower (dim + 1) (drop (dim + 1) es) next ≡ totals_of mapping lower dim (drop dim es) strides
  totals-more strides next is =
      ap (totals_of mapping lower (dim + 1) (drop (dim + 1) es)) is ∙ ap (λ l. totals_of mapping lower dim l strides) (sym (drop_more es dim 0 within))

-- the strides of the next dimension, by how many places have each coordinate
pub next-by-counts : (mapping : Mapping) (lower : ℤ) (dim extent : ℕ) (strides counts : List ℕ) (axis : Option Axis) → axis ≡ axis_along dim mapping.dims
    → IsOfGrid mapping.grid axis → counts ≡ map (count_on axis lower extent) (range_with_len 0 (procs_on axis))
    → map (λ node. get_or strides node 0 * get_or counts (own_on (node_coordinates mapping.grid node) axis) 0) (range_with_len 0 (product mapping.grid))
    ≡ next_strides mapping lower dim extent strides
next-by-counts mapping lower dim extent strides counts axis axis-is of_grid counts-are =
    map-range_agree (λ node. get_or strides node 0 * get_or counts (own_on (node_coordinates mapping.grid node) axis) 0)
    (λ node. get_or strides node 0 * count_on axis lower extent (own_on (node_coordinates mapping.grid node) axis)) 0 (product mapping.grid)
    (λ node from below.
    let own = own_on (node_coordinates mapping.grid node) axis in
    ap (λ n. get_or strides node 0 * n)
    (ap (λ cs. get_or cs own 0) counts-are
    ∙ get_or-map-range_with_len (count_on axis lower extent) 0 (procs_on axis) own own 0 (own-below mapping.grid node axis of_grid (omega (arith, below))) (omega arith)))
    ∙ ap (λ a. map (λ node. get_or strides node 0 * count_on a lower extent (own_on (node_coordinates mapping.grid node) a)) (range_with_len 0 (product mapping.grid))) axis-is
