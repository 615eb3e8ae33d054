-- Tests of dimensions and of axes.
use Rattle.std.proofs.Common.{◌≡◌, ℕ, zero, suc, ◌+◌, ◌-◌, ◌*◌, ◌<◌, ◌≤◌, ◌==◌, Bool, true, false, ◌&&◌, ◌||◌, not, List, [], ◌∷◌, length, map, ℤ, pos, ◌+ℤ◌, ◌*ℤ◌, slice_index, slice_index_or, Option, Some, None, option_map, option_and_then, All, refl, sym, ◌∙◌, ap, arith}
use Rattle.std.proofs.lemmas.Bool.{eqb-true, eqb-false}
use Rattle.std.proofs.lemmas.List.Elements.{All-head, All-tail}
use Rattle.std.specs.List.{list_all}
use Rattle.std.specs.Option.{is_some}
use Rattle.mappings.specs.declared.mapping.AlignDim.{AlignDim}
use Rattle.mappings.specs.declared.mapping.AlignDim.TheVariants.{Linear, At, Every}
use Rattle.mappings.specs.declared.mapping.Line.{Line}
use Rattle.mappings.specs.declared.mapping.MapDim.{MapDim}
use Rattle.mappings.specs.declared.mapping.Mapping.{Mapping}
use Rattle.mappings.specs.Alignment.{agrees, agrees_at, aligned, owns}
use Rattle.hpf_base.specs.Grid.{node_coordinates}
use Rattle.mappings.specs.Mapping.{IsAlign}
use Rattle.expression_rules.specs.declared.dims.Dim.{Dim}
use Rattle.expression_rules.specs.Dims.{extent}
use Rattle.array_meaning.specs.State.{element_place, offset}
use Rattle.axis_products.specs.Products.{each}
use Rattle.courses.specs.Courses.{Course, Fixed, Moving, courses_at}
use Rattle.courses.specs.Subscripts.{dims_pass, fixed_pass, axis_pass, AxesBelow, no_dim, in_dim, agrees_alone, agrees_along, alone, along_dims}

-- ---- tests of each of a list

pub pairs : (a b c d : Bool) → ((a && b) && (c && d)) ≡ ((a && c) && (b && d))
pairs true b true d = refl
pairs true true false d = refl
pairs true false false d = refl
pairs false b c d = refl

module _ {A : Type 0} where
  abbrev all_from : (ℕ → A → Bool) → ℕ → List A → Bool
  all_from test k [] = true
  all_from test k (x ∷ xs) = test k x && all_from test (k + 1) xs

  all-true : (k : ℕ) (xs : List A) → all_from (λ k x. true) k xs ≡ true
  all-true k [] = refl
  all-true k (x ∷ xs) = all-true (k + 1) xs

  all-and : (P Q : ℕ → A → Bool) (k : ℕ) (xs : List A) → all_from (λ k x. P k x && Q k x) k xs ≡ (all_from P k xs && all_from Q k xs)
  all-and P Q k [] = refl
  all-and P Q k (x ∷ xs) = ap (λ b. (P k x && Q k x) && b) (all-and P Q (k + 1) xs) ∙ pairs (P k x) (Q k x) (all_from P (k + 1) xs) (all_from Q (k + 1) xs)

  all-past : (T : A → Bool) (a k : ℕ) (xs : List A) → a < k → all_from (λ x y. not (a == x) || T y) k xs ≡ true
  all-past T a k [] past = refl
  all-past T a k (x ∷ xs) past = by_test (a == k) refl (all-past T a (k + 1) xs (omega (arith, past)))
    where
      by_test : (b : Bool) → (a == k) ≡ b → all_from (λ x y. not (a == x) || T y) (k + 1) xs ≡ true → ((not b || T x) && all_from (λ x y. not (a == x) || T y) (k + 1) xs) ≡ true
      by_test true e rest = absurd (let h = eqb-true a k e in omega (arith, h, past))
      by_test false e rest = rest

  all-one : (T : A → Bool) (a k : ℕ) (xs : List A) (d : A) → k ≤ a → a < k + length xs → all_from (λ x y. not (a == x) || T y) k xs ≡ T (slice_index_or xs (a - k) d)
  all-one T a k [] d from below = absurd (omega (arith, from, below))
  all-one T a k (x ∷ xs) d from below = by_test (a == k) refl (λ more. all-one T a (k + 1) xs d more (omega (arith, below)))
    where
      alone_true : (b : Bool) → (b && true) ≡ b
      alone_true true = refl
      alone_true false = refl

      by_test : (b : Bool) → (a == k) ≡ b → (k + 1 ≤ a → all_from (λ x y. not (a == x) || T y) (k + 1) xs ≡ T (slice_index_or xs (a - (k + 1)) d))
          → ((not b || T x) && all_from (λ x y. not (a == x) || T y) (k + 1) xs) ≡ T (slice_index_or (x ∷ xs) (a - k) d)
      by_test true e rest =
          let h = eqb-true a k e in
          let z : 0 ≡ a - k = omega (arith, h) in
          ap (λ b. T x && b) (all-past T a (k + 1) xs (omega (arith, h))) ∙ alone_true (T x) ∙ ap (λ n. T (slice_index_or (x ∷ xs) n d)) z
      by_test false e rest =
          let other : a ≡ k → ⊥ = eqb-false a k e in
          let more : k + 1 ≤ a = above from other in
          let z : suc (a - (k + 1)) ≡ a - k = omega (arith, more) in
          rest more ∙ ap (λ n. T (slice_index_or (x ∷ xs) n d)) z
        where
          above : k ≤ a → (a ≡ k → ⊥) → k + 1 ≤ a
          above le ne = omega (arith, le, ne)

each-is : (test : ℕ → ℕ → Bool) (k : ℕ) (ps : List ℕ) → each test k ps ≡ all_from test k ps
each-is test k [] = refl
each-is test k (p ∷ ps) = ap (λ b. test k p && b) (each-is test (k + 1) ps)

pub each-and : (P Q : ℕ → ℕ → Bool) (k : ℕ) (ps : List ℕ) → each (λ k p. P k p && Q k p) k ps ≡ (each P k ps && each Q k ps)
each-and P Q k ps =
    each-is (λ k p. P k p && Q k p) k ps ∙ all-and P Q k ps ∙ ap (λ b. b && all_from Q k ps) (sym (each-is P k ps)) ∙ ap (λ b. each P k ps && b) (sym (each-is Q k ps))

dims-is : (test : ℕ → ℤ → Bool) (k : ℕ) (is : List ℤ) → dims_pass test k is ≡ all_from test k is
dims-is test k [] = refl
dims-is test k (i ∷ is) = ap (λ b. test k i && b) (dims-is test (k + 1) is)

pub dims-and : (P Q : ℕ → ℤ → Bool) (k : ℕ) (is : List ℤ) → dims_pass (λ k i. P k i && Q k i) k is ≡ (dims_pass P k is && dims_pass Q k is)
dims-and P Q k is =
    dims-is (λ k i. P k i && Q k i) k is ∙ all-and P Q k is ∙ ap (λ b. b && all_from Q k is) (sym (dims-is P k is)) ∙ ap (λ b. dims_pass P k is && b) (sym (dims-is Q k is))

-- ---- courses

pub assoc : (a b c : Bool) → (a && (b && c)) ≡ ((a && b) && c)
assoc true b c = refl
assoc false b c = refl

swap : (a b c : Bool) → (a && (b && c)) ≡ (b && (a && c))
swap true b c = refl
swap false true c = refl
swap false false c = refl

walk : (test : ℕ → ℤ → Bool) (k : ℕ) (cs : List Course) (places : List ℕ) → AxesBelow (length places) cs
    → dims_pass test k (courses_at places cs) ≡ (fixed_pass test k cs && each (axis_pass test k cs) 0 places)
walk test k [] places ok = sym (each-is (λ a p. true) 0 places ∙ all-true 0 places)
walk test k (Fixed i ∷ cs) places ok =
    ap (λ b. test k i && b) (walk test (k + 1) cs places ok.1) ∙ assoc (test k i) (fixed_pass test (k + 1) cs) (each (axis_pass test (k + 1) cs) 0 places)
walk test k (Moving axis first step ∷ cs) places ok =
    let T : ℕ → Bool = λ p. test k (first +ℤ (step *ℤ pos p)) in
    let F = fixed_pass test (k + 1) cs in
    let E = each (axis_pass test (k + 1) cs) 0 places in
    let here : axis - 0 ≡ axis = omega arith in
    let one : each (λ x p. not (axis == x) || T p) 0 places ≡ T (slice_index_or places axis 0) =
    each-is (λ x p. not (axis == x) || T p) 0 places ∙ all-one T axis 0 places 0 (omega arith) (let h = ok.0 in omega (arith, h)) ∙ ap (λ n. T (slice_index_or places n 0)) here in
    ap (λ b. T (slice_index_or places axis 0) && b) (walk test (k + 1) cs places ok.1)
    ∙ swap (T (slice_index_or places axis 0)) F E
    ∙ ap (λ b. F && (b && E)) (sym one)
    ∙ ap (λ b. F && b) (sym (each-and (λ x p. not (axis == x) || T p) (axis_pass test (k + 1) cs) 0 places))

-- a test of each subscript is one of those that are the same everywhere, and one of each axis by itself
pub courses-pass : (test : ℕ → ℤ → Bool) (cs : List Course) (places : List ℕ) → AxesBelow (length places) cs
    → dims_pass test 0 (courses_at places cs) ≡ (fixed_pass test 0 cs && each (axis_pass test 0 cs) 0 places)
courses-pass test cs places ok = walk test 0 cs places ok

-- ---- bounds

some-and : (o : Option ℕ) (r : Option ℕ) (f : ℕ → ℕ → ℕ) → is_some (option_and_then (λ k. option_map (λ rest. f k rest) r) o) ≡ (is_some o && is_some r)
some-and None r f = refl
some-and (Some k) None f = refl
some-and (Some k) (Some rest) f = refl

bounds-walk : (all : List Dim) (k : ℕ) (ds : List Dim) (is : List ℤ) → ((j : ℕ) → slice_index_or all (k + j) no_dim ≡ slice_index_or ds j no_dim) → length ds ≡ length is
    → is_some (element_place ds is) ≡ dims_pass (in_dim all) k is
bounds-walk all k [] [] left same = refl
bounds-walk all k [] (i ∷ is) left same = absurd (omega (arith, same))
bounds-walk all k (d ∷ ds) [] left same = absurd (omega (arith, same))
bounds-walk all k (d ∷ ds) (i ∷ is) left same =
    let here : k ≡ k + 0 = omega arith in
    let dim : d ≡ slice_index_or all k no_dim = sym (ap (λ n. slice_index_or all n no_dim) here ∙ left 0) in
    some-and (offset d i) (element_place ds is) (λ k rest. k + extent d * rest)
    ∙ ap (λ e. is_some (offset e i) && is_some (element_place ds is)) dim
    ∙ ap (λ b. in_dim all k i && b) (bounds-walk all (k + 1) ds is (λ j. ap (λ n. slice_index_or all n no_dim) (more k j) ∙ left (suc j)) (omega (arith, same)))
  where
    more : (a j : ℕ) → a + 1 + j ≡ a + suc j
    more a j = omega arith

pub bounds : (ds : List Dim) (is : List ℤ) → length ds ≡ length is → is_some (element_place ds is) ≡ dims_pass (in_dim ds) 0 is
bounds ds is same = bounds-walk ds 0 ds is (λ j. ap (λ n. slice_index_or ds n no_dim) (none j)) same
  where
    none : (k : ℕ) → 0 + k ≡ k
    none k = omega arith

-- ---- owners

some-at : (index : List ℤ) (dim : ℕ) → dim < length index → slice_index_or (map Some index) dim None ≡ Some (slice_index_or index dim (pos 0))
some-at [] dim below = absurd (omega (arith, below))
some-at (i ∷ is) zero below = refl
some-at (i ∷ is) (suc dim) below = some-at is dim (omega (arith, below))

entry : (line : Line) (own : ℕ) (align : AlignDim) (index : List ℤ) → IsAlign (length index) align
    → agrees_at line own (aligned align (map Some index)) ≡ (agrees_alone line own align && dims_pass (agrees_along line own align) 0 index)
entry line own (Linear dim a b) index ok =
    let T : ℤ → Bool = λ i. agrees_at line own (Some ((a *ℤ i) +ℤ b)) in
    let here : dim - 0 ≡ dim = omega arith in
    ap (λ o. agrees_at line own (option_map (λ i. (a *ℤ i) +ℤ b) o)) (some-at index dim ok)
    ∙ ap (λ n. T (slice_index_or index n (pos 0))) (sym here)
    ∙ sym (dims-is (agrees_along line own (Linear dim a b)) 0 index ∙ all-one T dim 0 index (pos 0) (omega arith) (omega (arith, ok)))
entry line own (At v) index ok =
    sym (ap (λ b. agrees_at line own (Some v) && b) (dims-is (λ k i. true) 0 index ∙ all-true 0 index) ∙ with_true (agrees_at line own (Some v)))
  where
    with_true : (b : Bool) → (b && true) ≡ b
    with_true true = refl
    with_true false = refl
entry line own Every index ok = sym (dims-is (λ k i. true) 0 index ∙ all-true 0 index)

entries : (coordinates : List ℕ) (es : List MapDim) (index : List ℤ) → All (λ e. IsAlign (length index) e.align) es
    → list_all (agrees coordinates (map Some index)) es ≡ (alone coordinates es && dims_pass (along_dims coordinates es) 0 index)
entries coordinates [] index ok = sym (dims-is (λ k i. true) 0 index ∙ all-true 0 index)
entries coordinates (e ∷ es) index ok =
    let own = slice_index coordinates e.grid_dim in
    let A = agrees_alone e.line own e.align in
    let D = dims_pass (agrees_along e.line own e.align) 0 index in
    ap (λ b. b && list_all (agrees coordinates (map Some index)) es) (entry e.line own e.align index (All-head (λ e. IsAlign (length index) e.align) e es ok))
    ∙ ap (λ b. (A && D) && b) (entries coordinates es index (All-tail (λ e. IsAlign (length index) e.align) e es ok))
    ∙ pairs A D (alone coordinates es) (dims_pass (along_dims coordinates es) 0 index)
    ∙ ap (λ b. (A && alone coordinates es) && b) (sym (dims-and (agrees_along e.line own e.align) (along_dims coordinates es) 0 index))

pub owners : (mapping : Mapping) (index : List ℤ) (node : ℕ) → All (λ e. IsAlign (length index) e.align) mapping.dims
    → owns mapping index node
    ≡ (alone (node_coordinates mapping.grid node) mapping.dims && dims_pass (along_dims (node_coordinates mapping.grid node) mapping.dims) 0 index)
owners mapping index node ok = entries (node_coordinates mapping.grid node) mapping.dims index ok
