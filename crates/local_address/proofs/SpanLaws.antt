-- What a node owns of an array, from what it owns along each dimension.
use Rattle.std.proofs.Common.{◌≡◌, ℕ, zero, suc, ◌+◌, ◌*◌, ◌/◌, ◌<◌, ◌≤◌, ◌⊎◌, inl, inr, ℤ, pos, negsuc, ◌+ℤ◌, ◌≤ℤ◌, ◌<ℤ◌, unsigned_abs, Bool, true, false, cond, ◌&&◌, ◌==◌, List, [], ◌∷◌, ◌++◌, refl, sym, ◌∙◌, ap, option_map, ◌*ℤ◌, subst, arith, length, map, filter, get_or, set, take, eq-eqb, All, Option, Some, None, slice_get}
use Rattle.std.proofs.Math.IntN.{zero-*ℤ}
use Rattle.std.proofs.lemmas.Bool.{cases_eq, eqb-true, ne_eqb, or_cases, or_parts}
use Rattle.std.proofs.lemmas.Bool.Decides.{Decides-int_eq}
use Rattle.std.proofs.lemmas.Int.{ints}
use Rattle.std.proofs.lemmas.List.{append-nil, get_or-map, get_or-set_other, get_or-set_same, length-append, length-map, length-set, map-append, take_more}
use Rattle.std.proofs.lemmas.List.Elements.{All-cons, All-head, All-tail}
use Rattle.std.proofs.lemmas.List.FromFn.{filter_of_map_range_with_len_more, get_or-map-range_with_len, length-map-range_with_len}
use Rattle.std.proofs.lemmas.List.Sums.{count_by-le-length, length-filter}
use Rattle.std.proofs.lemmas.Nat.{mod_below, mul-le}
use Rattle.std.proofs.lemmas.Option.{get_or_from_slice_get, slice_get-get_or, slice_get_within}
use Rattle.std.specs.List.{list_all, list_any}
use Rattle.std.specs.Ordering.{int_eq}
use Rattle.hpf_base.specs.declared.index.Shape.{Shape}
use Rattle.mappings.specs.declared.mapping.AlignDim.{AlignDim}
use Rattle.mappings.specs.declared.mapping.AlignDim.TheVariants.{Linear, At, Every}
use Rattle.mappings.specs.declared.mapping.MapDim.{MapDim}
use Rattle.mappings.specs.declared.mapping.Mapping.{Mapping}
use Rattle.mappings.specs.Alignment.{aligned, owns}
use Rattle.hpf_base.specs.ElementOrder.{elements, extents_of, IsInside, product}
use Rattle.hpf_base.specs.Grid.{node_coordinates}
use Rattle.mappings.specs.LocalOrder.{local_elements}
use Rattle.hpf_base.specs.Shape.{IsShape}
use Rattle.mappings.specs.Mapping.{InLine, IsAlign, IsMapping, MapsInside}
use Rattle.hpf_base.proofs.ElementOrder.{product-some}
use Rattle.hpf_base.proofs.Elements.{elements-contains, elements-get, length-elements}
use Rattle.hpf_base.proofs.Places.{length-place_at, place_at, places-get}
use Rattle.local_address.specs.declared.axes.Axis.{Axis}
use Rattle.local_address.specs.declared.runs.Run.{Run}
use Rattle.local_address.specs.Runs.{InAxis, IsOfGrid, IsTable, along, axis_along, column_of, columns_of, coordinate_on, fixed_agrees, fixed_subscript, own_on, procs_on, run_of, subscripts, tuples}
use Rattle.local_address.specs.declared.spans.Span.{Span}
use Rattle.local_address.specs.Spans.{span_of}
use Rattle.local_address.proofs.Along.{InAxis-along, owns-each}
use Rattle.local_address.proofs.ElementLaws.{factors_some, length-index_at}
use Rattle.local_address.proofs.Tuples.{each, filter-elements, last_of-append, length-tuples, no_tuples, passing, span_of-tuples}

pub place-below : (extents : List ℕ) (n k : ℕ) → k < length extents → All (λ e. 1 ≤ e) extents → get_or (place_at extents n) k 0 < get_or extents k 0
place-below [] n k within some = absurd (omega arith)
place-below (e ∷ es) n zero within some = mod_below n e (All-head (λ x. 1 ≤ x) e es some)
place-below (e ∷ es) n (suc k) within some = place-below es (n / e) k (omega arith) (All-tail (λ x. 1 ≤ x) e es some)

-- a node's coordinate on an axis is one of the axis
pub own-below : (grid : List ℕ) (node : ℕ) (axis : Option Axis) → IsOfGrid grid axis → node < product grid → own_on (node_coordinates grid node) axis < procs_on axis
own-below grid node None is below = omega arith
own-below grid node (Some axis) is below =
    let within : axis.grid_dim < length grid = slice_get_within grid axis.grid_dim axis.line.procs is in
    let place : get_or (node_coordinates grid node) axis.grid_dim 0 ≡ get_or (place_at grid node) axis.grid_dim 0 =
    ap (λ xs. get_or xs axis.grid_dim 0) (places-get grid node [] below) in
    let extent : get_or grid axis.grid_dim 0 ≡ axis.line.procs = get_or_from_slice_get grid axis.grid_dim axis.line.procs 0 is in
    omega (arith, place, extent, place-below grid node axis.grid_dim within (factors_some grid (omega arith)))

run_count : (xs : List ℤ) → (run_of xs).count ≡ length xs
run_count [] = refl
run_count (x ∷ xs) = refl

-- one subscript more, after others
pub run-more : (run : Run) (xs : List ℤ) (i first last : ℤ) → run ≡ run_of xs → (run.count ≡ 0 → ⊥) → first ≡ run.first → last ≡ i
    → ◌≡◌ {A = Run} (record { count = run.count + 1; first = first; last = last }) (run_of (xs ++ i ∷ []))
run-more run [] i first last is some first_is last_is = absurd (some (ap (λ r. r.count) is))
run-more run (x ∷ xs) i first last is some first_is last_is =
    let count : run.count + 1 ≡ length ((x ∷ xs) ++ i ∷ []) = omega (arith, ap (λ r. r.count) is, length-append (x ∷ xs) (i ∷ [])) in
    let start : first ≡ x = first_is ∙ ap (λ r. r.first) is in
    let end = last_is ∙ sym (last_of-append x xs (i ∷ [])) in
    ap (λ n. record { count = n; first = first; last = last }) count
    ∙ ap (λ f. record { count = length ((x ∷ xs) ++ i ∷ []); first = f; last = last }) start
    ∙ ap (λ l. record { count = length ((x ∷ xs) ++ i ∷ []); first = x; last = l }) end

-- no run has more than there are
pub run-short : (p : ℤ → Bool) (lower : ℤ) (n : ℕ) → (run_of (filter p (subscripts lower n))).count ≤ n
run-short p lower n =
    omega (
      arith,
      run_count (filter p (subscripts lower n)),
      length-filter p (subscripts lower n),
      count_by-le-length p (subscripts lower n),
      length-map-range_with_len (λ place. lower +ℤ pos place) 0 n,
    )

subscripts-more : (p : ℤ → Bool) (lower : ℤ) (n : ℕ)
    → filter p (subscripts lower (n + 1)) ≡ filter p (subscripts lower n) ++ cond (p (lower +ℤ pos n)) ((lower +ℤ pos n) ∷ []) []
subscripts-more p lower n = filter_of_map_range_with_len_more p (λ place. lower +ℤ pos place) 0 n n (omega arith)

-- the table with one subscript more
pub table-more : (axis : Option Axis) (lower : ℤ) (place : ℕ) (runs : List Run) (c : ℕ) (run : Run) → IsTable axis lower place runs
    → c ≡ coordinate_on axis (lower +ℤ pos place) → c < procs_on axis
    → run ≡ run_of (filter (λ i. coordinate_on axis i == c) (subscripts lower place) ++ (lower +ℤ pos place) ∷ [])
    → IsTable axis lower (place + 1) (set runs c run)
table-more axis lower place runs c run table c-is below is = record {
  count = length-set runs c run ∙ table.count;
  at = λ k within. cases k within (cases_eq k c);
}
  where
    here : c < length runs
    here = omega (arith, table.count, below)

    same : run ≡ run_of (filter (λ i. coordinate_on axis i == c) (subscripts lower (place + 1)))
    same =
        is
        ∙ ap (λ t. run_of (filter (λ i. coordinate_on axis i == c) (subscripts lower place) ++ cond t ((lower +ℤ pos place) ∷ []) []))
        (sym (eq-eqb (coordinate_on axis (lower +ℤ pos place)) c (sym c-is)))
        ∙ ap run_of (sym (subscripts-more (λ i. coordinate_on axis i == c) lower place))

    other : (k : ℕ) → (k ≡ c → ⊥)
        → filter (λ i. coordinate_on axis i == k) (subscripts lower place) ≡ filter (λ i. coordinate_on axis i == k) (subscripts lower (place + 1))
    other k apart =
        sym (append-nil (filter (λ i. coordinate_on axis i == k) (subscripts lower place)))
        ∙ ap (λ t. filter (λ i. coordinate_on axis i == k) (subscripts lower place) ++ cond t ((lower +ℤ pos place) ∷ []) [])
        (sym (ne_eqb (coordinate_on axis (lower +ℤ pos place)) k (λ h. apart (sym (c-is ∙ h)))))
        ∙ sym (subscripts-more (λ i. coordinate_on axis i == k) lower place)

    cases : (k : ℕ) → k < procs_on axis → (k ≡ c) ⊎ (k ≡ c → ⊥)
        → slice_get (set runs c run) k ≡ Some (run_of (filter (λ i. coordinate_on axis i == k) (subscripts lower (place + 1))))
    cases k within (inl eq) =
        subst (λ j. slice_get (set runs c run) j ≡ Some (run_of (filter (λ i. coordinate_on axis i == j) (subscripts lower (place + 1))))) (sym eq)
        (slice_get-get_or (set runs c run) c run (omega (arith, length-set runs c run, here)) ∙ ap Some (get_or-set_same runs c run run here ∙ same))
    cases k within (inr apart) =
        slice_get-get_or (set runs c run) k run (omega (arith, length-set runs c run, table.count, within))
        ∙ ap Some (get_or-set_other runs c k run run apart
        ∙ get_or_from_slice_get runs k (run_of (filter (λ i. coordinate_on axis i == k) (subscripts lower place))) run (table.at k within))
        ∙ ap (λ xs. Some (run_of xs)) (other k apart)

-- what stands in a table
pub table-run : (axis : Option Axis) (lower : ℤ) (extent : ℕ) (runs : List Run) (c : ℕ) (run : Run) → IsTable axis lower extent runs → c < procs_on axis
    → run ≡ get_or runs c run → run ≡ run_of (filter (λ i. coordinate_on axis i == c) (subscripts lower extent))
table-run axis lower extent runs c run table below is =
    is ∙ get_or_from_slice_get runs c (run_of (filter (λ i. coordinate_on axis i == c) (subscripts lower extent))) run (table.at c below)

-- a node's run is that of its coordinate
pub column-run : (mapping : Mapping) (node dim : ℕ) (axis : Option Axis) (lower : ℤ) (extent : ℕ) (runs : List Run) (c : ℕ) (run : Run)
    → axis ≡ axis_along dim mapping.dims → IsTable axis lower extent runs → c ≡ own_on (node_coordinates mapping.grid node) axis → c < procs_on axis
    → run ≡ get_or runs c run → run ≡ run_of (filter (along mapping node dim) (subscripts lower extent))
column-run mapping node dim axis lower extent runs c run axis-is table c-is below is =
    table-run axis lower extent runs c run table below is
    ∙ ap (λ k. run_of (filter (λ i. coordinate_on axis i == k) (subscripts lower extent))) c-is
    ∙ ap (λ a. run_of (filter (λ i. coordinate_on a i == own_on (node_coordinates mapping.grid node) a) (subscripts lower extent))) axis-is

-- an element more of a list
pub map-take_more : {X Y : Type 0} (f : X → Y) (xs : List X) (ys : List Y) (i : ℕ) (x : X) (y : Y) → i < length xs → x ≡ get_or xs i x → y ≡ f x
    → ys ≡ map f (take i xs) → ys ++ y ∷ [] ≡ map f (take (i + 1) xs)
map-take_more f xs ys i x y within x-is y-is so_far =
    ap (λ zs. zs ++ y ∷ []) so_far ∙ ap (λ z. map f (take i xs) ++ z ∷ []) (y-is ∙ ap f x-is)
    ∙ sym (map-append f (take i xs) (get_or xs i x ∷ [])) ∙ ap (map f) (sym (take_more xs i x within))

-- each dimension of an array with an element
pub extent_most : (extents : List ℕ) (k : ℕ) → k < length extents → All (λ e. 1 ≤ e) extents → get_or extents k 0 ≤ product extents
extent_most [] k within some = absurd (omega arith)
extent_most (e ∷ es) zero within some =
    let rest : e * 1 ≤ e * product es = mul-le e 1 e (product es) (omega arith) (product-some es (All-tail (λ x. 1 ≤ x) e es some)) in omega (arith, rest)
extent_most (e ∷ es) (suc k) within some =
    let rest : 1 * product es ≤ e * product es =
    mul-le 1 (product es) e (product es) (All-head (λ x. 1 ≤ x) e es some) (omega arith) in
    omega (arith, rest, extent_most es k (omega arith) (All-tail (λ x. 1 ≤ x) e es some))

-- one dimension moved from the first element
pub moved-inside : (shape : Shape) (dim place : ℕ) → IsShape shape → 1 ≤ product (extents_of shape) → dim < length shape.lower → place < get_or (extents_of shape) dim 0
    → IsInside shape (set shape.lower dim (get_or shape.lower dim (pos 0) +ℤ pos place))
moved-inside shape dim place valid some within below = record {
  rank = length-set shape.lower dim i;
  lower = λ k inside. from k (cases_eq k dim);
  upper = λ k inside. before k (omega (arith, inside, length-set shape.lower dim i)) (cases_eq k dim);
}
  where
    i : ℤ
    i = get_or shape.lower dim (pos 0) +ℤ pos place

    at : get_or (set shape.lower dim i) dim (pos 0) ≡ i
    at = get_or-set_same shape.lower dim i (pos 0) within

    from : (k : ℕ) → (k ≡ dim) ⊎ (k ≡ dim → ⊥) → get_or shape.lower k (pos 0) ≤ℤ get_or (set shape.lower dim i) k (pos 0)
    from k (inl same) =
        subst (λ j. get_or shape.lower j (pos 0) ≤ℤ get_or (set shape.lower dim i) j (pos 0)) (sym same)
        (subst (λ z. get_or shape.lower dim (pos 0) ≤ℤ z) (sym at) (omega (arith, ints)))
    from k (inr other) =
        subst (λ z. get_or shape.lower k (pos 0) ≤ℤ z) (sym (get_or-set_other shape.lower dim k i (pos 0) other)) (omega (arith, ints))

    extent : (k : ℕ) → k < length shape.lower → get_or shape.extent k (pos 0) ≡ pos (get_or (extents_of shape) k 0)
    extent k inside =
        let there : k < length shape.extent = omega (arith, valid.rank) in
        magnitude (get_or shape.extent k (pos 0)) (valid.extent k (pos 0) there).0 ∙ ap pos (sym (get_or-map unsigned_abs shape.extent k (pos 0) 0 there))
      where
        magnitude : (z : ℤ) → pos 0 ≤ℤ z → z ≡ pos (unsigned_abs z)
        magnitude (pos n) low = refl
        magnitude (negsuc n) low = absurd (omega (arith, ints))

    some_at : (k : ℕ) → k < length shape.lower → 1 ≤ get_or (extents_of shape) k 0
    some_at k inside = factors_some (extents_of shape) some k 0 (omega (arith, valid.rank, length-map shape.extent unsigned_abs))

    before : (k : ℕ) → k < length shape.lower → (k ≡ dim) ⊎ (k ≡ dim → ⊥)
        → get_or (set shape.lower dim i) k (pos 0) <ℤ (get_or shape.lower k (pos 0) +ℤ get_or shape.extent k (pos 0))
    before k inside (inl same) =
        subst (λ j. get_or (set shape.lower dim i) j (pos 0) <ℤ (get_or shape.lower j (pos 0) +ℤ get_or shape.extent j (pos 0))) (sym same)
        (subst (λ z. z <ℤ (get_or shape.lower dim (pos 0) +ℤ get_or shape.extent dim (pos 0))) (sym at)
        (subst (λ z. i <ℤ (get_or shape.lower dim (pos 0) +ℤ z)) (sym (extent dim within)) (omega (arith, ints, below))))
    before k inside (inr other) =
        subst (λ z. z <ℤ (get_or shape.lower k (pos 0) +ℤ get_or shape.extent k (pos 0))) (sym (get_or-set_other shape.lower dim k i (pos 0) other))
        (subst (λ z. get_or shape.lower k (pos 0) <ℤ (get_or shape.lower k (pos 0) +ℤ z)) (sym (extent k inside)) (omega (arith, ints, some_at k inside)))

pub inside_element : (mapping : Mapping) (shape : Shape) (index : List ℤ) → IsShape shape → IsInside shape index → All (MapsInside mapping) (elements shape) → MapsInside mapping index
inside_element mapping shape index valid inside all =
    let element = elements-contains shape index valid inside in subst (MapsInside mapping) element.2 (all element.0 index element.1)

-- all subscripts of a dimension lie inside its axis
pub along-inside : (mapping : Mapping) (shape : Shape) (dim place : ℕ) → IsShape shape → 1 ≤ product (extents_of shape)
    → All (MapsInside mapping) (elements shape) → dim < length shape.lower → place < get_or (extents_of shape) dim 0
    → InAxis (axis_along dim mapping.dims) (get_or shape.lower dim (pos 0) +ℤ pos place)
along-inside mapping shape dim place valid some all within below =
    let i = get_or shape.lower dim (pos 0) +ℤ pos place in
    let index = set shape.lower dim i in
    subst (InAxis (axis_along dim mapping.dims)) (get_or-set_same shape.lower dim i (pos 0) within)
    (InAxis-along dim index mapping.dims (omega (arith, length-set shape.lower dim i))
    (inside_element mapping shape index valid (moved-inside shape dim place valid some within below) all))

fixed-by : (index : List ℤ) (entry : MapDim) (align : AlignDim) → IsAlign (length index) align → InLine entry.line (aligned align (map Some index))
    → InLine entry.line (fixed_subscript align)
fixed-by index entry (Linear d a b) valid inside = cases (int_eq a (pos 0)) refl
  where
    cases : (t : Bool) → int_eq a (pos 0) ≡ t → InLine entry.line (cond t (Some b) None)
    cases false is = tt {0}
    cases true is =
        let i = get_or index d (pos 0) in
        let zero_product : a *ℤ i ≡ pos 0 = ap (λ f. f *ℤ i) ((Decides-int_eq a (pos 0)).0 is) ∙ zero-*ℤ i in
        let value : (a *ℤ i) +ℤ b ≡ b = omega (arith, ints, zero_product) in
        subst (λ s. InLine entry.line (Some s)) value
        (subst (λ o. InLine entry.line (option_map (λ j. (a *ℤ j) +ℤ b) o)) (get_or-map Some index d (pos 0) None valid) inside)
fixed-by index entry (At v) valid inside = inside
fixed-by index entry Every valid inside = tt {0}

element-rank : (shape : Shape) (n : ℕ) (d : List ℤ) → IsShape shape → n < product (extents_of shape) → length (get_or (elements shape) n d) ≡ length shape.lower
element-rank shape n d valid below =
    ap length (elements-get shape n d below)
    ∙ length-index_at shape.lower (place_at (extents_of shape) n)
    (length-place_at (extents_of shape) n ∙ length-map shape.extent unsigned_abs ∙ sym valid.rank)

-- what an entry gives all elements lies inside its line
pub fixed-inside : (mapping : Mapping) (shape : Shape) → IsShape shape → 1 ≤ product (extents_of shape) → IsMapping (length shape.lower) mapping
    → All (MapsInside mapping) (elements shape) → All (λ e. InLine e.line (fixed_subscript e.align)) mapping.dims
fixed-inside mapping shape valid some map_valid all = λ k d within.
    let element : length (get_or (elements shape) 0 []) ≡ length shape.lower = element-rank shape 0 [] valid (omega arith) in
    let inside : MapsInside mapping (get_or (elements shape) 0 []) = all 0 [] (omega (arith, length-elements shape)) in
    fixed-by (get_or (elements shape) 0 []) (get_or mapping.dims k d) (get_or mapping.dims k d).align
    (subst (λ n. IsAlign n (get_or mapping.dims k d).align) (sym element) (map_valid.entries k d within).align) (inside k d within)

filter-where : {X : Type 0} (p q : X → Bool) (xs : List X) → All (λ x. p x ≡ q x) xs → filter p xs ≡ filter q xs
filter-where p q [] same = refl
filter-where p q (x ∷ xs) same =
    ap (λ t. cond t (x ∷ filter p xs) (filter p xs)) (All-head (λ y. p y ≡ q y) x xs same)
    ∙ ap (λ ys. cond (q x) (x ∷ ys) ys) (filter-where p q xs (All-tail (λ y. p y ≡ q y) x xs same))

filter-none : {X : Type 0} (xs : List X) → filter (λ x. false) xs ≡ []
filter-none [] = refl
filter-none (x ∷ xs) = filter-none xs

owned-where : (mapping : Mapping) (shape : Shape) (node : ℕ) (fixed : Bool) → IsShape shape → IsMapping (length shape.lower) mapping
    → fixed ≡ list_all (fixed_agrees (node_coordinates mapping.grid node)) mapping.dims
    → local_elements mapping shape node ≡ filter (λ index. fixed && each (along mapping node) 0 index) (elements shape)
owned-where mapping shape node fixed valid map_valid is =
    filter-where (λ index. owns mapping index node) (λ index. fixed && each (along mapping node) 0 index) (elements shape)
    (λ k d within.
    let rank = element-rank shape k d valid (omega (arith, within, length-elements shape)) in
    owns-each mapping node (get_or (elements shape) k d) (subst (λ n. IsMapping n mapping) (sym rank) map_valid)
    ∙ ap (λ t. t && each (along mapping node) 0 (get_or (elements shape) k d)) (sym is))

-- a node whose coordinates are other ones than those of all elements owns none
pub owned-none : (mapping : Mapping) (shape : Shape) (node : ℕ) → IsShape shape → IsMapping (length shape.lower) mapping
    → false ≡ list_all (fixed_agrees (node_coordinates mapping.grid node)) mapping.dims → local_elements mapping shape node ≡ []
owned-none mapping shape node valid map_valid is = owned-where mapping shape node false valid map_valid is ∙ filter-none (elements shape)

-- any other owns the tuples of what it owns along each dimension
pub owned-tuples : (mapping : Mapping) (shape : Shape) (node : ℕ) → IsShape shape → IsMapping (length shape.lower) mapping
    → true ≡ list_all (fixed_agrees (node_coordinates mapping.grid node)) mapping.dims
    → local_elements mapping shape node ≡ tuples (passing (along mapping node) 0 shape.lower (extents_of shape))
owned-tuples mapping shape node valid map_valid is =
    owned-where mapping shape node true valid map_valid is
    ∙ filter-elements (along mapping node) 0 shape.lower (extents_of shape) (valid.rank ∙ sym (length-map shape.extent unsigned_abs))

pub owned-empty : (mapping : Mapping) (shape : Shape) (node : ℕ) → product (extents_of shape) ≡ 0 → local_elements mapping shape node ≡ []
owned-empty mapping shape node none = ap (filter (λ index. owns mapping index node)) (nothing (elements shape) (length-elements shape ∙ none))
  where
    nothing : (xs : List (List ℤ)) → length xs ≡ 0 → xs ≡ []
    nothing [] is = refl
    nothing (x ∷ xs) is = absurd (omega arith)

-- each column has a run a node
pub column-long : (mapping : Mapping) (node k : ℕ) (lowers : List ℤ) (extents : List ℕ) → node < product mapping.grid
    → All (λ column. node < length column) (columns_of mapping k lowers extents)
column-long mapping node k [] extents below = λ n d within. absurd (omega arith)
column-long mapping node k (l ∷ ls) [] below = λ n d within. absurd (omega arith)
column-long mapping node k (l ∷ ls) (e ∷ es) below =
    All-cons (λ column. node < length column) (column_of mapping k l e) (columns_of mapping (k + 1) ls es)
    (omega (arith, below, length-map-range_with_len (λ n. run_of (filter (along mapping n k) (subscripts l e))) 0 (product mapping.grid)))
    (column-long mapping node (k + 1) ls es below)

-- a node's runs in the columns are those of what it owns along each dimension
pub node-runs : (mapping : Mapping) (node k : ℕ) (lowers : List ℤ) (extents : List ℕ) → node < product mapping.grid
    → map (λ column. get_or column node (run_of [])) (columns_of mapping k lowers extents) ≡ map run_of (passing (along mapping node) k lowers extents)
node-runs mapping node k [] extents below = refl
node-runs mapping node k (l ∷ ls) [] below = refl
node-runs mapping node k (l ∷ ls) (e ∷ es) below =
    ap (λ r. r ∷ map (λ column. get_or column node (run_of [])) (columns_of mapping (k + 1) ls es))
    (get_or-map-range_with_len (λ n. run_of (filter (along mapping n k) (subscripts l e))) 0 (product mapping.grid) node node (run_of []) below (omega arith))
    ∙ ap (λ rs. run_of (filter (along mapping node k) (subscripts l e)) ∷ rs) (node-runs mapping node (k + 1) ls es below)

pub length-columns_of : (mapping : Mapping) (k : ℕ) (lowers : List ℤ) (extents : List ℕ) → length (columns_of mapping k lowers extents) ≤ length lowers
length-columns_of mapping k [] extents = omega arith
length-columns_of mapping k (l ∷ ls) [] = omega arith
length-columns_of mapping k (l ∷ ls) (e ∷ es) = omega (arith, length-columns_of mapping (k + 1) ls es)

counts : (xss : List (List ℤ)) → map (λ run. run.count) (map run_of xss) ≡ map length xss
counts [] = refl
counts (xs ∷ xss) = ap (λ n. n ∷ map (λ run. run.count) (map run_of xss)) (run_count xs) ∙ ap (λ ns. length xs ∷ ns) (counts xss)

-- no more tuples than elements
pub runs-few : (mapping : Mapping) (node : ℕ) (shape : Shape) (runs : List Run) → IsShape shape
    → runs ≡ map run_of (passing (along mapping node) 0 shape.lower (extents_of shape)) → product (map (λ run. run.count) runs) ≤ product (extents_of shape)
runs-few mapping node shape runs valid is =
    let xss = passing (along mapping node) 0 shape.lower (extents_of shape) in
    let number : product (map (λ run. run.count) runs) ≡ length (tuples xss) =
    ap (λ rs. product (map (λ run. run.count) rs)) is ∙ ap product (counts xss) ∙ sym (length-tuples xss) in
    let same : length (tuples xss) ≡ length (filter (each (along mapping node) 0) (elements shape)) =
    ap length (sym (filter-elements (along mapping node) 0 shape.lower (extents_of shape) (valid.rank ∙ sym (length-map shape.extent unsigned_abs)))) in
    omega (
      arith,
      number,
      same,
      length-filter (each (along mapping node) 0) (elements shape),
      count_by-le-length (each (along mapping node) 0) (elements shape),
      length-elements shape,
    )

-- a run without a subscript among the runs
pub empty-among : (runs : List Run) → list_any (λ run. run.count == 0) runs ≡ true → (k : ℕ) × (k < length runs) × ((d : Run) → (get_or runs k d).count ≡ 0)
empty-among [] found = absurd (cc)
empty-among (run ∷ runs) found =
    elim (or_cases (run.count == 0) (list_any (λ r. r.count == 0) runs) found) [
      | inl here ↦ (0, omega arith, λ d. eqb-true run.count 0 here)
      | inr rest ↦ let later = empty-among runs rest in (suc later.0, omega (arith, later.1), later.2)
    ]

-- then there is no tuple
pub none-of-runs : (runs : List Run) (xss : List (List ℤ)) → list_any (λ run. run.count == 0) runs ≡ true → runs ≡ map run_of xss → span_of (tuples xss) ≡ None
none-of-runs runs xss found is =
    let among = empty-among runs found in
    let within : among.0 < length xss = omega (arith, among.1, ap length is, length-map xss run_of) in
    let run : run_of (get_or xss among.0 []) ≡ get_or runs among.0 (run_of []) =
    sym (get_or-map run_of xss among.0 [] (run_of []) within) ∙ ap (λ rs. get_or rs among.0 (run_of [])) (sym is) in
    ap span_of (no_tuples xss among.0 (ap (λ r. r.count) run ∙ among.2 (run_of [])) (omega (arith, within)))

some_count : (n : ℕ) → (n == 0) ≡ false → 1 ≤ n
some_count zero is = absurd (cc)
some_count (suc n) is = omega arith

pub each-some : (runs : List Run) → list_any (λ run. run.count == 0) runs ≡ false → All (λ run. 1 ≤ run.count) runs
each-some [] none = λ k d within. absurd (omega arith)
each-some (run ∷ runs) none =
    let parts = or_parts (run.count == 0) (list_any (λ r. r.count == 0) runs) none in
    All-cons (λ r. 1 ≤ r.count) run runs (some_count run.count parts.0) (each-some runs parts.1)

-- the tuples of runs that each have a subscript
pub some-of-runs : (runs : List Run) (xss : List (List ℤ)) (count : ℕ) (first last : List ℤ) → list_any (λ run. run.count == 0) runs ≡ false
    → count ≡ product (map (λ run. run.count) runs) → first ≡ map (λ run. run.first) runs → last ≡ map (λ run. run.last) runs → runs ≡ map run_of xss
    → ◌≡◌ {A = Option Span} (Some record { count = count; first = first; last = last }) (span_of (tuples xss))
some-of-runs runs xss count first last none count-is first-is last-is is =
    ap (λ n. Some record { count = n; first = first; last = last }) (count-is ∙ ap (λ rs. product (map (λ run. run.count) rs)) is)
    ∙ ap (λ f. Some record { count = product (map (λ run. run.count) (map run_of xss)); first = f; last = last }) (first-is ∙ ap (map (λ run. run.first)) is)
    ∙ ap (λ l. Some record { count = product (map (λ run. run.count) (map run_of xss)); first = map (λ run. run.first) (map run_of xss); last = l })
    (last-is ∙ ap (map (λ run. run.last)) is)
    ∙ sym (span_of-tuples xss (subst (All (λ run. 1 ≤ run.count)) is (each-some runs none)))
