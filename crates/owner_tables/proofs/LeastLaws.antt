-- The least owner of an element is the node that has the coordinates which the entries of the mapping ask for, and 0 where none asks.
use Rattle.std.proofs.Common.{◌≡◌, ◌≢◌, ℕ, zero, suc, ◌+◌, ◌-◌, ◌*◌, ◌<◌, ◌≤◌, ◌⊎◌, inl, inr, ℤ, pos, ◌+ℤ◌, ◌*ℤ◌, Bool, true, false, cond, ◌&&◌, ◌==◌, not, List, [], ◌∷◌, refl, sym, ◌∙◌, ap, arith, length, map, get_or, set, take, replicate, eq-eqb, All, AllPairs, Option, Some, None, option_map}
use Rattle.std.proofs.Math.IntN.{zero-*ℤ}
use Rattle.std.proofs.Math.Nat.{mul-le-mul_right}
use Rattle.std.proofs.lemmas.Bool.{and_from, and_parts, cases_eq, eqb-true, ne_eqb}
use Rattle.std.proofs.lemmas.Bool.Decides.{Decides-int_eq}
use Rattle.std.proofs.lemmas.Int.{ints}
use Rattle.std.proofs.lemmas.List.{get_or-map, get_or-set_other, get_or-set_same, length-replicate, length-set}
use Rattle.std.proofs.lemmas.List.Elements.{All-cons, All-head, All-tail}
use Rattle.std.proofs.lemmas.Option.{get_or_from_slice_get, slice_get_within}
use Rattle.std.specs.List.{list_all}
use Rattle.std.specs.Ordering.{int_eq}
use Rattle.mappings.specs.declared.mapping.AlignDim.{AlignDim}
use Rattle.mappings.specs.declared.mapping.AlignDim.TheVariants.{Linear, At, Every}
use Rattle.mappings.specs.declared.mapping.Line.{Line}
use Rattle.mappings.specs.declared.mapping.MapDim.{MapDim}
use Rattle.mappings.specs.declared.mapping.Mapping.{Mapping}
use Rattle.mappings.specs.Alignment.{agrees, agrees_at, aligned, owns, position_at}
use Rattle.mappings.specs.Mapping.{InLine, IsAlign, IsLine, IsMapDim, IsMapping, MapsInside, MoveApart}
use Rattle.mappings.proofs.Lines.{coordinate-below}
use Rattle.hpf_base.specs.ElementOrder.{product}
use Rattle.hpf_base.specs.Grid.{node_coordinates}
use Rattle.hpf_base.proofs.Places.{IsPlace, length-place_at, number_of, number_of-below, place_at, place_at-number_of, places-get}
use Rattle.axis_products.proofs.Products.{number_back}
use Rattle.align_map.proofs.OwnerLaws.{position_within}
use Rattle.local_address.specs.declared.axes.Axis.{Axis}
use Rattle.local_address.specs.Runs.{axis_along, axis_by, axis_or, coordinate_on, fixed_subscript}
use Rattle.local_address.proofs.Along.{axis-moves, no_axis}
use Rattle.local_address.proofs.ElementLaws.{factors_some}
use Rattle.machine_steps.specs.Layout.{first}
use Rattle.owner_tables.specs.Columns.{asked, asked_number, weight, weight_on}
use Rattle.owner_tables.proofs.Ranges.{first-is}

-- ---- sums over subscripts, a function a dimension

abbrev pub sum_of : (ℕ → ℤ → ℕ) → ℕ → List ℤ → ℕ
sum_of f k [] = 0
sum_of f k (i ∷ is) = f k i + sum_of f (k + 1) is

sum-none : (f : ℕ → ℤ → ℕ) (k : ℕ) (index : List ℤ) → ((j : ℕ) (i : ℤ) → k ≤ j → f j i ≡ 0) → sum_of f k index ≡ 0
sum-none f k [] none = refl
sum-none f k (i ∷ is) none =
    let here : f k i ≡ 0 = none k i (omega arith) in
    let rest : sum_of f (k + 1) is ≡ 0 = sum-none f (k + 1) is (λ j z from. none j z (omega arith)) in
    omega (arith, here, rest)

-- where only one dimension adds something
sum-one : (f : ℕ → ℤ → ℕ) (index : List ℤ) (k n dim : ℕ) → dim ≡ k + n → ((j : ℕ) (i : ℤ) → (j ≡ dim → ⊥) → f j i ≡ 0) → n < length index
    → sum_of f k index ≡ f dim (get_or index n (pos 0))
sum-one f [] k n dim is others within = absurd (omega arith)
sum-one f (i ∷ is) k zero dim at others within =
    let same : k ≡ dim = omega arith in
    let rest : sum_of f (k + 1) is ≡ 0 = sum-none f (k + 1) is (λ j z from. others j z (λ h. omega (arith, h, same))) in
    let here : f k i + sum_of f (k + 1) is ≡ f k i = omega (arith, rest) in
    here ∙ ap (λ d. f d i) same
sum-one f (i ∷ is) k (suc n) dim at others within =
    let here : f k i ≡ 0 = others k i (λ h. omega (arith, h)) in
    let rest = sum-one f is (k + 1) n dim (omega arith) others (omega arith) in
    omega (arith, here, rest)

sum-both : (f g : ℕ → ℤ → ℕ) (k : ℕ) (index : List ℤ) → sum_of (λ j i. f j i + g j i) k index ≡ sum_of f k index + sum_of g k index
sum-both f g k [] = refl
sum-both f g k (i ∷ is) = omega (arith, sum-both f g (k + 1) is)

sum-agree : (f g : ℕ → ℤ → ℕ) (k : ℕ) (index : List ℤ) → ((j : ℕ) (i : ℤ) → f j i ≡ g j i) → sum_of f k index ≡ sum_of g k index
sum-agree f g k [] same = refl
sum-agree f g k (i ∷ is) same = ap (λ n. n + sum_of f (k + 1) is) (same k i) ∙ ap (λ n. g k i + n) (sum-agree f g (k + 1) is same)

-- what one axis adds for a subscript
abbrev pub part : List ℕ → ℤ → Option Axis → ℕ
part grid i axis = coordinate_on axis i * weight_on grid axis

entry-linear : (grid : List ℕ) (index : List ℤ) (entry : MapDim) (d : ℕ) (a b : ℤ) (t : Bool) → int_eq a (pos 0) ≡ t → d < length index
    → asked entry.line (Some ((a *ℤ get_or index d (pos 0)) +ℤ b)) * weight grid entry.grid_dim
    ≡ asked entry.line (cond t (Some b) None) * weight grid entry.grid_dim
    + sum_of (λ k i. part grid i (cond (not t && (d == k)) (Some record { line = entry.line; grid_dim = entry.grid_dim; factor = a; offset = b }) None)) 0 index
entry-linear grid index entry d a b true is within =
    let i = get_or index d (pos 0) in
    let product : a *ℤ i ≡ pos 0 = ap (λ f. f *ℤ i) ((Decides-int_eq a (pos 0)).0 is) ∙ zero-*ℤ i in
    let value : (a *ℤ i) +ℤ b ≡ b = omega (arith, ints, product) in
    let none : sum_of (λ k i. part grid i None) 0 index ≡ 0 = sum-none (λ k i. part grid i None) 0 index (λ k i from. refl) in
    let alone : (n : ℕ) → n ≡ n + sum_of (λ k i. part grid i None) 0 index = λ n. omega (arith, none) in
    ap (λ s. asked entry.line (Some s) * weight grid entry.grid_dim) value ∙ alone (asked entry.line (Some b) * weight grid entry.grid_dim)
entry-linear grid index entry d a b false is within =
    let axis : Axis = record { line = entry.line; grid_dim = entry.grid_dim; factor = a; offset = b } in
    let i = get_or index d (pos 0) in
    let one : sum_of (λ k i. part grid i (cond (d == k) (Some axis) None)) 0 index ≡ part grid i (Some axis) =
    sum-one (λ k i. part grid i (cond (d == k) (Some axis) None)) index 0 d d (omega arith)
    (λ k i other. ap (λ t. part grid i (cond t (Some axis) None)) (ne_eqb d k (λ same. other (sym same)))) within
    ∙ ap (λ t. part grid i (cond t (Some axis) None)) (eq-eqb d d refl) in
    omega (arith, one)

entry-sum : (grid : List ℕ) (index : List ℤ) (entry : MapDim) (align : AlignDim) → IsAlign (length index) align
    → asked entry.line (aligned align (map Some index)) * weight grid entry.grid_dim
    ≡ asked entry.line (fixed_subscript align) * weight grid entry.grid_dim + sum_of (λ k i. part grid i (axis_by k entry align)) 0 index
entry-sum grid index entry (Linear d a b) valid =
    ap (λ s. asked entry.line (option_map (λ i. (a *ℤ i) +ℤ b) s) * weight grid entry.grid_dim) (get_or-map Some index d (pos 0) None valid)
    ∙ entry-linear grid index entry d a b (int_eq a (pos 0)) refl valid
entry-sum grid index entry (At v) valid =
    let none : sum_of (λ k i. part grid i None) 0 index ≡ 0 = sum-none (λ k i. part grid i None) 0 index (λ k i from. refl) in omega (arith, none)
entry-sum grid index entry Every valid =
    let none : sum_of (λ k i. part grid i None) 0 index ≡ 0 = sum-none (λ k i. part grid i None) 0 index (λ k i from. refl) in omega (arith, none)

part-or : (grid : List ℕ) (i : ℤ) (one other : Option Axis) → ((axis : Axis) → one ≡ Some axis → other ≡ None)
    → part grid i (axis_or one other) ≡ part grid i one + part grid i other
part-or grid i None other apart = omega arith
part-or grid i (Some axis) other apart =
    let none : part grid i other ≡ 0 = ap (part grid i) (apart axis refl) in omega (arith, none)

-- what the entries ask for, one dimension of the array after another
pub entries-sum : (grid : List ℕ) (index : List ℤ) (entries : List MapDim) → All (IsMapDim grid (length index)) entries
    → AllPairs (λ x y. MoveApart x.align y.align) entries
    → asked_number grid (λ align. aligned align (map Some index)) entries
    ≡ asked_number grid fixed_subscript entries + sum_of (λ k i. part grid i (axis_along k entries)) 0 index
entries-sum grid index [] valid apart =
    let none : sum_of (λ k i. part grid i None) 0 index ≡ 0 = sum-none (λ k i. part grid i None) 0 index (λ k i from. refl) in omega (arith, none)
entries-sum grid index (e ∷ es) valid apart =
    let here = entry-sum grid index e e.align (All-head (IsMapDim grid (length index)) e es valid).align in
    let rest = entries-sum grid index es (All-tail (IsMapDim grid (length index)) e es valid)
    (λ m n d order within. apart (suc m) (suc n) d (omega arith) (omega arith)) in
    let own = λ (k : ℕ) (i : ℤ). part grid i (axis_by k e e.align) in
    let others = λ (k : ℕ) (i : ℤ). part grid i (axis_along k es) in
    let both : sum_of (λ k i. part grid i (axis_along k (e ∷ es))) 0 index ≡ sum_of own 0 index + sum_of others 0 index =
    sum-agree (λ k i. part grid i (axis_or (axis_by k e e.align) (axis_along k es))) (λ k i. own k i + others k i) 0 index
    (λ k i. part-or grid i (axis_by k e e.align) (axis_along k es)
    (λ axis is. no_axis k e.align es (axis-moves k e e.align axis is) (λ n d within. apart 0 (suc n) d (omega arith) (omega arith))))
    ∙ sum-both own others 0 index in
    omega (arith, here, rest, both)

-- ---- the coordinates that entries ask for

zeros-get : (n g : ℕ) → ◌≡◌ {A = ℕ} (get_or (replicate n 0) g 0) 0
zeros-get zero g = refl
zeros-get (suc n) zero = refl
zeros-get (suc n) (suc g) = zeros-get n g

zeros-number : (grid : List ℕ) → number_of grid (replicate (length grid) 0) ≡ 0
zeros-number [] = refl
zeros-number (e ∷ es) = ap (λ n. n * e + 0) (zeros-number es) ∙ omega arith

-- a coordinate that was 0
set-number : (grid place : List ℕ) (g v : ℕ) → length place ≡ length grid → get_or place g 0 ≡ 0 → g < length grid
    → number_of grid (set place g v) ≡ number_of grid place + v * product (take g grid)
set-number [] place g v same free within = absurd (omega arith)
set-number (e ∷ es) [] g v same free within = absurd (omega arith)
set-number (e ∷ es) (p ∷ ps) zero v same free within = omega (arith, free)
set-number (e ∷ es) (p ∷ ps) (suc g) v same free within =
    let rest : number_of es (set ps g v) * e ≡ (number_of es ps + v * product (take g es)) * e =
    ap (λ n. n * e) (set-number es ps g v (omega arith) free (omega arith)) in
    omega (arith, rest)

number-most : (grid one other : List ℕ) → length one ≡ length grid → length other ≡ length grid → ((g : ℕ) → get_or one g 0 ≤ get_or other g 0)
    → number_of grid one ≤ number_of grid other
number-most [] one other same same' most = omega arith
number-most (e ∷ es) [] other same same' most = absurd (omega arith)
number-most (e ∷ es) (p ∷ ps) [] same same' most = absurd (omega arith)
number-most (e ∷ es) (p ∷ ps) (q ∷ qs) same same' most =
    let rest : number_of es ps * e ≤ number_of es qs * e =
    mul-le-mul_right e (number-most es ps qs (omega arith) (omega arith) (λ g. most (suc g))) in
    omega (arith, rest, most 0)

module _ (grid : List ℕ) (given : AlignDim → Option ℤ) where
  abbrev of_entry : MapDim → ℕ
  of_entry entry = asked entry.line (given entry.align)

  abbrev coordinates : List MapDim → List ℕ
  coordinates [] = replicate (length grid) 0
  coordinates (entry ∷ entries) = set (coordinates entries) entry.grid_dim (of_entry entry)

  length-coordinates : (entries : List MapDim) → length (coordinates entries) ≡ length grid
  length-coordinates [] = length-replicate (length grid) 0
  length-coordinates (e ∷ es) = length-set (coordinates es) e.grid_dim (of_entry e) ∙ length-coordinates es

  free : (g : ℕ) (entries : List MapDim) → All (λ e. g ≢ e.grid_dim) entries → get_or (coordinates entries) g 0 ≡ 0
  free g [] apart = zeros-get (length grid) g
  free g (e ∷ es) apart =
      get_or-set_other (coordinates es) e.grid_dim g (of_entry e) 0 (All-head (λ x. g ≢ x.grid_dim) e es apart)
      ∙ free g es (All-tail (λ x. g ≢ x.grid_dim) e es apart)

  number : (entries : List MapDim) → All (λ e. e.grid_dim < length grid) entries → AllPairs (λ x y. x.grid_dim ≢ y.grid_dim) entries
      → number_of grid (coordinates entries) ≡ asked_number grid given entries
  number [] within apart = zeros-number grid
  number (e ∷ es) within apart =
      let one = set-number grid (coordinates es) e.grid_dim (of_entry e) (length-coordinates es)
      (free e.grid_dim es (λ k d below. apart 0 (suc k) d (omega arith) (omega arith))) (All-head (λ x. x.grid_dim < length grid) e es within) in
      let rest = number es (All-tail (λ x. x.grid_dim < length grid) e es within) (λ i j d order below. apart (suc i) (suc j) d (omega arith) (omega arith)) in
      omega (arith, one, rest)

  values : (entries : List MapDim) → All (λ e. e.grid_dim < length grid) entries → AllPairs (λ x y. x.grid_dim ≢ y.grid_dim) entries
      → All (λ e. get_or (coordinates entries) e.grid_dim 0 ≡ of_entry e) entries
  values [] within apart = λ k d below. absurd (omega arith)
  values (e ∷ es) within apart =
      All-cons (λ x. get_or (coordinates (e ∷ es)) x.grid_dim 0 ≡ of_entry x) e es
      (get_or-set_same (coordinates es) e.grid_dim (of_entry e) 0 (omega (arith, length-coordinates es, All-head (λ x. x.grid_dim < length grid) e es within)))
      (λ k d below.
      get_or-set_other (coordinates es) e.grid_dim (get_or es k d).grid_dim (of_entry e) 0 (λ same. apart 0 (suc k) d (omega arith) (omega arith) (sym same))
      ∙ values es (All-tail (λ x. x.grid_dim < length grid) e es within) (λ i j d order below. apart (suc i) (suc j) d (omega arith) (omega arith)) k d below)

  -- no coordinate is greater than what none that is asked for exceeds
  most : (bound : ℕ → ℕ) (entries : List MapDim) → All (λ e. e.grid_dim < length grid) entries → All (λ e. of_entry e ≤ bound e.grid_dim) entries
      → (g : ℕ) → get_or (coordinates entries) g 0 ≤ bound g
  most bound [] within each g = omega (arith, zeros-get (length grid) g)
  most bound (e ∷ es) within each g =
      by_case (cases_eq g e.grid_dim)
      (most bound es (All-tail (λ x. x.grid_dim < length grid) e es within) (All-tail (λ x. of_entry x ≤ bound x.grid_dim) e es each) g)
    where
      by_case : (g ≡ e.grid_dim) ⊎ (g ≡ e.grid_dim → ⊥) → get_or (coordinates es) g 0 ≤ bound g
          → get_or (set (coordinates es) e.grid_dim (of_entry e)) g 0 ≤ bound g
      by_case (inl same) ih =
          let here = get_or-set_same (coordinates es) e.grid_dim (of_entry e) 0 (omega (arith, length-coordinates es, All-head (λ x. x.grid_dim < length grid) e es within)) in
          let at = ap (λ n. get_or (set (coordinates es) e.grid_dim (of_entry e)) n 0) same in
          omega (arith, at, here, All-head (λ x. of_entry x ≤ bound x.grid_dim) e es each, ap bound same)
      by_case (inr other) ih =
          let kept = get_or-set_other (coordinates es) e.grid_dim g (of_entry e) 0 other in omega (arith, kept, ih)

agrees-from : (line : Line) (own : ℕ) (given : Option ℤ) → own ≡ asked line given → agrees_at line own given ≡ true
agrees-from line own None is = refl
agrees-from line own (Some subscript) is = eq-eqb _ own (sym is)

agrees-to : (line : Line) (own : ℕ) (given : Option ℤ) → agrees_at line own given ≡ true → asked line given ≤ own
agrees-to line own None h = omega arith
agrees-to line own (Some subscript) h = omega (arith, eqb-true _ own h)

all-agree : (coordinates : List ℕ) (subscripts : List (Option ℤ)) (entries : List MapDim)
    → All (λ e. get_or coordinates e.grid_dim 0 ≡ asked e.line (aligned e.align subscripts)) entries → list_all (agrees coordinates subscripts) entries ≡ true
all-agree coordinates subscripts [] each = refl
all-agree coordinates subscripts (e ∷ es) each =
    and_from _ _
    (agrees-from e.line (get_or coordinates e.grid_dim 0) (aligned e.align subscripts)
    (All-head (λ x. get_or coordinates x.grid_dim 0 ≡ asked x.line (aligned x.align subscripts)) e es each))
    (all-agree coordinates subscripts es (All-tail (λ x. get_or coordinates x.grid_dim 0 ≡ asked x.line (aligned x.align subscripts)) e es each))

agree-all : (coordinates : List ℕ) (subscripts : List (Option ℤ)) (entries : List MapDim) → list_all (agrees coordinates subscripts) entries ≡ true
    → All (λ e. asked e.line (aligned e.align subscripts) ≤ get_or coordinates e.grid_dim 0) entries
agree-all coordinates subscripts [] h = λ k d below. absurd (omega arith)
agree-all coordinates subscripts (e ∷ es) h =
    let parts = and_parts _ _ h in
    All-cons (λ x. asked x.line (aligned x.align subscripts) ≤ get_or coordinates x.grid_dim 0) e es
    (agrees-to e.line (get_or coordinates e.grid_dim 0) (aligned e.align subscripts) parts.0) (agree-all coordinates subscripts es parts.1)

-- inside a line the coordinate is one of its processors
asked-below : (line : Line) (given : Option ℤ) → IsLine line → InLine line given → asked line given < line.procs
asked-below line None valid inside = omega (arith, valid.some)
asked-below line (Some subscript) valid inside =
    let within = position_within line (position_at line subscript) inside.0 inside.1 in coordinate-below line _ valid within.0 within.1

module _ (mapping : Mapping) (index : List ℤ) (nodes : ℕ) (valid : IsMapping (length index) mapping) (inside : MapsInside mapping index)
    (grid-is : product mapping.grid ≡ nodes) (some : 1 ≤ nodes) where
  abbrev given : AlignDim → Option ℤ
  given align = aligned align (map Some index)

  abbrev pub asked_node : ℕ
  asked_node = asked_number mapping.grid given mapping.dims

  abbrev own : List ℕ
  own = coordinates mapping.grid given mapping.dims

  within : All (λ e. e.grid_dim < length mapping.grid) mapping.dims
  within k d below = slice_get_within mapping.grid (get_or mapping.dims k d).grid_dim _ (valid.entries k d below).procs

  own-place : IsPlace mapping.grid own
  own-place = record {
    rank = length-coordinates mapping.grid given mapping.dims;
    below = λ k upto.
        let extent : 1 ≤ get_or mapping.grid k 0 = factors_some mapping.grid (omega (arith, grid-is, some)) k 0 upto in
        let few = most mapping.grid given (λ g. get_or mapping.grid g 0 - 1) mapping.dims within
        (λ j d below.
        let entry = valid.entries j d below in
        let procs : get_or mapping.grid (get_or mapping.dims j d).grid_dim 0 ≡ (get_or mapping.dims j d).line.procs =
        get_or_from_slice_get mapping.grid (get_or mapping.dims j d).grid_dim (get_or mapping.dims j d).line.procs 0 entry.procs in
        let here = asked-below (get_or mapping.dims j d).line (given (get_or mapping.dims j d).align) entry.line (inside j d below) in
        omega (arith, procs, here)) k in
        omega (arith, extent, few);
  }

  own-number : number_of mapping.grid own ≡ asked_node
  own-number = number mapping.grid given mapping.dims within valid.grid_dims

  pub asked-within : asked_node < nodes
  asked-within = omega (arith, own-number, number_of-below mapping.grid own own-place, grid-is)

  pub asked-owns : owns mapping index asked_node ≡ true
  asked-owns =
      let at : node_coordinates mapping.grid asked_node ≡ own =
      places-get mapping.grid asked_node [] (omega (arith, asked-within, grid-is)) ∙ ap (place_at mapping.grid) (sym own-number)
      ∙ place_at-number_of mapping.grid own own-place in
      ap (λ c. list_all (agrees c (map Some index)) mapping.dims) at
      ∙ all-agree own (map Some index) mapping.dims (values mapping.grid given mapping.dims within valid.grid_dims)

  asked-least : (node : ℕ) → node < nodes → owns mapping index node ≡ true → asked_node ≤ node
  asked-least node below h =
      let inside-grid : node < product mapping.grid = omega (arith, below, grid-is) in
      let theirs = place_at mapping.grid node in
      let agree : list_all (agrees theirs (map Some index)) mapping.dims ≡ true =
      ap (λ c. list_all (agrees c (map Some index)) mapping.dims) (sym (places-get mapping.grid node [] inside-grid)) ∙ h in
      let few = number-most mapping.grid own theirs (length-coordinates mapping.grid given mapping.dims) (length-place_at mapping.grid node)
      (most mapping.grid given (λ g. get_or theirs g 0) mapping.dims within (agree-all theirs (map Some index) mapping.dims agree)) in
      omega (arith, own-number, few, number_back mapping.grid node inside-grid)

  pub asked-first : first (owns mapping index) 0 nodes ≡ asked_node
  asked-first =
      first-is (owns mapping index) 0 nodes asked_node (omega arith) (omega (arith, asked-within)) asked-owns
      (λ k low high h. omega (arith, high, asked-least k (omega (arith, high, asked-within)) h))
