-- To own an element is to agree along each dimension and in what all elements are given alike.
use Rattle.std.proofs.Common.{◌≡◌, ℕ, zero, suc, ◌+◌, ◌<◌, ◌≤◌, ℤ, pos, ◌+ℤ◌, ◌*ℤ◌, Bool, true, false, cond, ◌&&◌, ◌==◌, not, List, [], ◌∷◌, refl, sym, ◌∙◌, ap, subst, arith, length, map, get_or, eq-eqb, All, AllPairs, Option, Some, None, option_map}
use Rattle.std.proofs.Math.IntN.{zero-*ℤ}
use Rattle.std.proofs.lemmas.Bool.{both_ways, eqb-true, ne_eqb}
use Rattle.std.proofs.lemmas.Bool.Decides.{Decides-int_eq}
use Rattle.std.proofs.lemmas.Int.{ints}
use Rattle.std.proofs.lemmas.List.{get_or-map}
use Rattle.std.proofs.lemmas.List.Elements.{All-head, All-tail}
use Rattle.std.specs.List.{list_all}
use Rattle.std.specs.Ordering.{int_eq}
use Rattle.mappings.specs.declared.mapping.AlignDim.{AlignDim}
use Rattle.mappings.specs.declared.mapping.AlignDim.TheVariants.{Linear, At, Every}
use Rattle.mappings.specs.declared.mapping.MapDim.{MapDim}
use Rattle.mappings.specs.declared.mapping.Mapping.{Mapping}
use Rattle.mappings.specs.Alignment.{agrees, agrees_at, aligned, owns}
use Rattle.hpf_base.specs.Grid.{node_coordinates}
use Rattle.mappings.specs.Mapping.{InLine, IsAlign, IsMapDim, IsMapping, MoveApart, moves_along}
use Rattle.local_address.specs.declared.axes.Axis.{Axis}
use Rattle.local_address.specs.Runs.{HasLine, InAxis, IsMoving, IsOfGrid, along, axis_along, axis_by, axis_or, coordinate_on, fixed_agrees, fixed_subscript, own_on}
use Rattle.local_address.proofs.Tuples.{each}

and_more : (a b : Bool) → b ≡ true → a ≡ a && b
and_more true b is = sym is
and_more false b is = refl

and_swap : (a b c d : Bool) → (a && b) && (c && d) ≡ (a && c) && (b && d)
and_swap true true c d = refl
and_swap true false true d = refl
and_swap true false false d = refl
and_swap false b c d = refl

each-true : (test : ℕ → ℤ → Bool) (k : ℕ) (index : List ℤ) → ((j : ℕ) (i : ℤ) → k ≤ j → test j i ≡ true) → each test k index ≡ true
each-true test k [] all = refl
each-true test k (i ∷ is) all =
    ap (λ b. b && each test (k + 1) is) (all k i (omega arith)) ∙ each-true test (k + 1) is (λ j z from. all j z (omega arith))

-- a test that only one dimension can fail
each-one : (test : ℕ → ℤ → Bool) (index : List ℤ) (k n dim : ℕ) → dim ≡ k + n → ((j : ℕ) (i : ℤ) → (j ≡ dim → ⊥) → test j i ≡ true) → n < length index
    → each test k index ≡ test dim (get_or index n (pos 0))
each-one test [] k n dim is others within = absurd (omega arith)
each-one test (i ∷ is) k zero dim at others within =
    let same : k ≡ dim = omega arith in
    sym (and_more (test k i) (each test (k + 1) is) (each-true test (k + 1) is (λ j z from. others j z (λ h. omega (arith, h, same)))))
    ∙ ap (λ d. test d i) same
each-one test (i ∷ is) k (suc n) dim at others within =
    ap (λ b. b && each test (k + 1) is) (others k i (λ h. omega (arith, h))) ∙ each-one test is (k + 1) n dim (omega arith) others (omega arith)

each-and : (f g : ℕ → ℤ → Bool) (k : ℕ) (index : List ℤ) → each (λ j i. f j i && g j i) k index ≡ each f k index && each g k index
each-and f g k [] = refl
each-and f g k (i ∷ is) = ap (λ b. (f k i && g k i) && b) (each-and f g (k + 1) is) ∙ and_swap (f k i) (g k i) (each f (k + 1) is) (each g (k + 1) is)

each-agree : (f g : ℕ → ℤ → Bool) (k : ℕ) (index : List ℤ) → ((j : ℕ) (i : ℤ) → f j i ≡ g j i) → each f k index ≡ each g k index
each-agree f g k [] same = refl
each-agree f g k (i ∷ is) same = ap (λ b. b && each f (k + 1) is) (same k i) ∙ ap (λ b. g k i && b) (each-agree f g (k + 1) is same)

-- as far as one axis tells
abbrev on_axis : List ℕ → ℤ → Option Axis → Bool
on_axis coordinates i axis = coordinate_on axis i == own_on coordinates axis

entry-linear : (coordinates : List ℕ) (index : List ℤ) (entry : MapDim) (d : ℕ) (a b : ℤ) (t : Bool) → int_eq a (pos 0) ≡ t → d < length index
    → agrees_at entry.line (get_or coordinates entry.grid_dim 0) (Some ((a *ℤ get_or index d (pos 0)) +ℤ b))
    ≡ agrees_at entry.line (get_or coordinates entry.grid_dim 0) (cond t (Some b) None)
    && each (λ k i. on_axis coordinates i (cond (not t && (d == k)) (Some record { line = entry.line; grid_dim = entry.grid_dim; factor = a; offset = b }) None)) 0 index
entry-linear coordinates index entry d a b true is within =
    let zero_factor : a ≡ pos 0 = (Decides-int_eq a (pos 0)).0 is in
    let i = get_or index d (pos 0) in
    let product : a *ℤ i ≡ pos 0 = ap (λ f. f *ℤ i) zero_factor ∙ zero-*ℤ i in
    let value : (a *ℤ i) +ℤ b ≡ b = omega (arith, ints, product) in
    ap (λ s. agrees_at entry.line (get_or coordinates entry.grid_dim 0) (Some s)) value
    ∙ and_more _ _ (each-true (λ k j. true) 0 index (λ k j from. refl))
entry-linear coordinates index entry d a b false is within =
    let axis : Axis = record { line = entry.line; grid_dim = entry.grid_dim; factor = a; offset = b } in
    sym (each-one (λ k i. on_axis coordinates i (cond (d == k) (Some axis) None)) index 0 d d (omega arith)
    (λ k i other. ap (λ t. on_axis coordinates i (cond t (Some axis) None)) (ne_eqb d k (λ same. other (sym same)))) within
    ∙ ap (λ t. on_axis coordinates (get_or index d (pos 0)) (cond t (Some axis) None)) (eq-eqb d d refl))

entry-each : (coordinates : List ℕ) (index : List ℤ) (entry : MapDim) (align : AlignDim) → IsAlign (length index) align
    → agrees_at entry.line (get_or coordinates entry.grid_dim 0) (aligned align (map Some index))
    ≡ agrees_at entry.line (get_or coordinates entry.grid_dim 0) (fixed_subscript align) && each (λ k i. on_axis coordinates i (axis_by k entry align)) 0 index
entry-each coordinates index entry (Linear d a b) valid =
    ap (λ s. agrees_at entry.line (get_or coordinates entry.grid_dim 0) (option_map (λ i. (a *ℤ i) +ℤ b) s)) (get_or-map Some index d (pos 0) None valid)
    ∙ entry-linear coordinates index entry d a b (int_eq a (pos 0)) refl valid
entry-each coordinates index entry (At v) valid = and_more _ _ (each-true (λ k i. true) 0 index (λ k i from. refl))
entry-each coordinates index entry Every valid = sym (each-true (λ k i. true) 0 index (λ k i from. refl))

-- an entry that moves along a dimension
pub axis-moves : (k : ℕ) (entry : MapDim) (align : AlignDim) (axis : Axis) → axis_by k entry align ≡ Some axis → moves_along align ≡ Some k
axis-moves k entry (Linear d a b) axis is = cases (int_eq a (pos 0)) (d == k) refl refl is
  where
    cases : (t u : Bool) → int_eq a (pos 0) ≡ t → (d == k) ≡ u
        → cond (not t && u) (Some record { line = entry.line; grid_dim = entry.grid_dim; factor = a; offset = b }) None ≡ Some axis
        → cond t None (Some d) ≡ Some k
    cases true u t-is u-is found = cc
    cases false false t-is u-is found = cc
    cases false true t-is u-is found = ap Some (eqb-true d k u-is)
axis-moves k entry (At v) axis is = cc
axis-moves k entry Every axis is = cc

pub no_axis : (k : ℕ) (align : AlignDim) (entries : List MapDim) → moves_along align ≡ Some k → All (λ e. MoveApart align e.align) entries → axis_along k entries ≡ None
no_axis k align [] moves apart = refl
no_axis k align (e ∷ es) moves apart =
    cases (axis_by k e e.align) refl ∙ no_axis k align es moves (All-tail (λ x. MoveApart align x.align) e es apart)
  where
    cases : (axis : Option Axis) → axis_by k e e.align ≡ axis → axis_or (axis_by k e e.align) (axis_along k es) ≡ axis_along k es
    cases None is = ap (λ x. axis_or x (axis_along k es)) is
    cases (Some axis) is = absurd (All-head (λ x. MoveApart align x.align) e es apart k moves (axis-moves k e e.align axis is))

on_axis-or : (coordinates : List ℕ) (i : ℤ) (one other : Option Axis) → ((axis : Axis) → one ≡ Some axis → other ≡ None)
    → on_axis coordinates i (axis_or one other) ≡ on_axis coordinates i one && on_axis coordinates i other
on_axis-or coordinates i None other apart = refl
on_axis-or coordinates i (Some axis) other apart = and_more _ _ (ap (on_axis coordinates i) (apart axis refl))

entries-each : (coordinates : List ℕ) (index : List ℤ) (grid : List ℕ) (entries : List MapDim) → All (IsMapDim grid (length index)) entries
    → AllPairs (λ x y. MoveApart x.align y.align) entries
    → list_all (agrees coordinates (map Some index)) entries
    ≡ list_all (fixed_agrees coordinates) entries && each (λ k i. on_axis coordinates i (axis_along k entries)) 0 index
entries-each coordinates index grid [] valid apart = sym (each-true (λ k i. true) 0 index (λ k i from. refl))
entries-each coordinates index grid (e ∷ es) valid apart =
    let here = All-head (IsMapDim grid (length index)) e es valid in
    let rest = entries-each coordinates index grid es (All-tail (IsMapDim grid (length index)) e es valid)
    (λ m n d order within. apart (suc m) (suc n) d (omega arith) (omega arith)) in
    let own = λ (k : ℕ) (i : ℤ). on_axis coordinates i (axis_by k e e.align) in
    let others = λ (k : ℕ) (i : ℤ). on_axis coordinates i (axis_along k es) in
    ap (λ b. b && list_all (agrees coordinates (map Some index)) es) (entry-each coordinates index e e.align here.align)
    ∙ ap (λ b. (fixed_agrees coordinates e && each own 0 index) && b) rest
    ∙ and_swap (fixed_agrees coordinates e) (each own 0 index) (list_all (fixed_agrees coordinates) es) (each others 0 index)
    ∙ ap (λ b. (fixed_agrees coordinates e && list_all (fixed_agrees coordinates) es) && b)
    (sym (each-agree (λ k i. on_axis coordinates i (axis_or (axis_by k e e.align) (axis_along k es))) (λ k i. own k i && others k i) 0 index
    (λ k i. on_axis-or coordinates i (axis_by k e e.align) (axis_along k es)
    (λ axis is. no_axis k e.align es (axis-moves k e e.align axis is) (λ n d within. apart 0 (suc n) d (omega arith) (omega arith))))
    ∙ each-and own others 0 index))

-- which elements a node owns, one dimension after another
pub owns-each : (mapping : Mapping) (node : ℕ) (index : List ℤ) → IsMapping (length index) mapping
    → owns mapping index node ≡ list_all (fixed_agrees (node_coordinates mapping.grid node)) mapping.dims && each (along mapping node) 0 index
owns-each mapping node index valid = entries-each (node_coordinates mapping.grid node) index mapping.grid mapping.dims valid.entries valid.apart

-- what holds of each entry as an axis holds of the one that is found
axis-or-found : (Q : Option Axis → Type 0) (one other : Option Axis) → Q one → Q other → Q (axis_or one other)
axis-or-found Q None other here there = there
axis-or-found Q (Some axis) other here there = here

pub axis-found : (Q : Option Axis → Type 0) (k : ℕ) → Q None → (entries : List MapDim) → All (λ e. Q (axis_by k e e.align)) entries → Q (axis_along k entries)
axis-found Q k none [] all = none
axis-found Q k none (e ∷ es) all =
    axis-or-found Q (axis_by k e e.align) (axis_along k es) (All-head (λ x. Q (axis_by k x x.align)) e es all)
    (axis-found Q k none es (All-tail (λ x. Q (axis_by k x x.align)) e es all))

line-by : (grid : List ℕ) (rank k : ℕ) (entry : MapDim) → IsMapDim grid rank entry → (align : AlignDim)
    → HasLine (axis_by k entry align) × IsOfGrid grid (axis_by k entry align)
line-by grid rank k entry valid (Linear d a b) = cases (not (int_eq a (pos 0)) && (d == k))
  where
    cases : (t : Bool)
        → HasLine (cond t (Some record { line = entry.line; grid_dim = entry.grid_dim; factor = a; offset = b }) None)
        × IsOfGrid grid (cond t (Some record { line = entry.line; grid_dim = entry.grid_dim; factor = a; offset = b }) None)
    cases true = (valid.line, valid.procs)
    cases false = (tt {0}, tt {0})
line-by grid rank k entry valid (At v) = (tt {0}, tt {0})
line-by grid rank k entry valid Every = (tt {0}, tt {0})

-- the axis of a valid mapping along a dimension
pub line-along : (mapping : Mapping) (rank k : ℕ) → IsMapping rank mapping
    → HasLine (axis_along k mapping.dims) × IsOfGrid mapping.grid (axis_along k mapping.dims)
line-along mapping rank k valid =
    axis-found (λ axis. HasLine axis × IsOfGrid mapping.grid axis) k (tt {0}, tt {0}) mapping.dims
    (λ n d within. line-by mapping.grid rank k (get_or mapping.dims n d) (valid.entries n d within) (get_or mapping.dims n d).align)

moves-by : (k : ℕ) (entry : MapDim) (align : AlignDim) → IsMoving (axis_by k entry align)
moves-by k entry (Linear d a b) = cases (int_eq a (pos 0)) (d == k) refl
  where
    cases : (t u : Bool) → int_eq a (pos 0) ≡ t
        → IsMoving (cond (not t && u) (Some record { line = entry.line; grid_dim = entry.grid_dim; factor = a; offset = b }) None)
    cases true u is = tt {0}
    cases false false is = tt {0}
    cases false true is = λ none. both_ways (int_eq a (pos 0)) is ((Decides-int_eq a (pos 0)).1 none)
moves-by k entry (At v) = tt {0}
moves-by k entry Every = tt {0}

-- the entry that is found along a dimension moves
pub moves-along : (k : ℕ) (entries : List MapDim) → IsMoving (axis_along k entries)
moves-along k entries = axis-found IsMoving k (tt {0}) entries (λ n d within. moves-by k (get_or entries n d) (get_or entries n d).align)

InAxis-by : (k : ℕ) (index : List ℤ) (entry : MapDim) (align : AlignDim) → k < length index → InLine entry.line (aligned align (map Some index))
    → InAxis (axis_by k entry align) (get_or index k (pos 0))
InAxis-by k index entry (Linear d a b) within inside = cases (int_eq a (pos 0)) (d == k) refl
  where
    moved : d ≡ k → InLine entry.line (Some ((a *ℤ get_or index k (pos 0)) +ℤ b))
    moved is =
        subst (λ s. InLine entry.line (option_map (λ i. (a *ℤ i) +ℤ b) s))
        (ap (λ m. get_or (map Some index) m None) is ∙ get_or-map Some index k (pos 0) None within) inside

    cases : (t u : Bool) → (d == k) ≡ u
        → InAxis (cond (not t && u) (Some record { line = entry.line; grid_dim = entry.grid_dim; factor = a; offset = b }) None) (get_or index k (pos 0))
    cases true u is = tt {0}
    cases false false is = tt {0}
    cases false true is = moved (eqb-true d k is)
InAxis-by k index entry (At v) within inside = tt {0}
InAxis-by k index entry Every within inside = tt {0}

-- an element that maps inside every line lies inside the axis of each dimension
pub InAxis-along : (k : ℕ) (index : List ℤ) (entries : List MapDim) → k < length index
    → All (λ e. InLine e.line (aligned e.align (map Some index))) entries → InAxis (axis_along k entries) (get_or index k (pos 0))
InAxis-along k index entries within inside =
    axis-found (λ axis. InAxis axis (get_or index k (pos 0))) k (tt {0}) entries
    (λ n d below. InAxis-by k index (get_or entries n d) (get_or entries n d).align within (inside n d below))
