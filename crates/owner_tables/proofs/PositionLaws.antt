-- The positions of the elements that a node owns, one dimension more at a time.
use Rattle.std.proofs.Common.{◌≡◌, ℕ, zero, suc, ◌+◌, ◌*◌, ◌<◌, ◌≤◌, ℤ, pos, ◌+ℤ◌, Bool, true, false, ◌&&◌, ◌==◌, List, [], ◌∷◌, ◌++◌, refl, sym, ◌∙◌, ap, subst, arith, length, map, filter, get_or, drop, All, Option, None}
use Rattle.std.proofs.Math.Nat.{mul-le-mul_right}
use Rattle.std.proofs.lemmas.List.{drop_more, map-append}
use Rattle.std.proofs.lemmas.List.Elements.{All-append, All-filter, All-head, All-map, All-tail}
use Rattle.std.proofs.lemmas.Simd.{map-map}
use Rattle.std.specs.List.{flat_map, range_with_len}
use Rattle.hpf_base.specs.ElementOrder.{extents_of, product}
use Rattle.hpf_base.proofs.Ranges.{All-range}
use Rattle.axis_products.specs.Products.{combined, each, number_at, passing, places_at}
use Rattle.axis_products.proofs.Products.{tuples}
use Rattle.local_address.specs.declared.axes.Axis.{Axis}
use Rattle.local_address.specs.Runs.{coordinate_on, own_on}
use Rattle.machine_steps.specs.Layout.{Layout, owned_by, size_of}
use Rattle.owner_tables.specs.Layouts.{IsLaid}
use Rattle.owner_tables.proofs.ColumnLaws.{fixed, own_at, owned-places}
use Rattle.owner_tables.proofs.Ranges.{filter-agree}

-- ---- places along a dimension

pub filter-below : (P : ℕ → Bool) (n : ℕ) → All (λ place. place < n) (filter P (range_with_len 0 n))
filter-below P n =
    All-filter P (λ place. place < n) (range_with_len 0 n) (All-range (λ place. place < n) 0 n (λ j low high. omega (arith, high)))

all-pass : (a n : ℕ) → filter (λ k. true) (range_with_len a n) ≡ range_with_len a n
all-pass a zero = refl
all-pass a (suc n) = ap (λ l. a ∷ l) (all-pass (a + 1) n)

-- where nothing moves along a dimension each node owns all its places
pub whole-along : (axis : Option Axis) (coordinates : List ℕ) (extent : ℕ) (lower : ℤ) → axis ≡ None
    → range_with_len 0 extent ≡ filter (λ place. coordinate_on axis (lower +ℤ pos place) == own_on coordinates axis) (range_with_len 0 extent)
whole-along axis coordinates extent lower is =
    sym (filter-agree (λ place. coordinate_on axis (lower +ℤ pos place) == own_on coordinates axis) (λ place. true) 0 extent
    (λ place low high. ap (λ a. coordinate_on a (lower +ℤ pos place) == own_on coordinates a) is)
    ∙ all-pass 0 extent)

pub drop-most : (es : List ℕ) (k : ℕ) → All (λ e. 1 ≤ e) es → product (drop k es) ≤ product es
drop-most es zero some = omega arith
drop-most [] (suc k) some = omega arith
drop-most (e ∷ es) (suc k) some =
    let rest = drop-most es k (All-tail (λ x. 1 ≤ x) e es some) in
    let grows : 1 * product es ≤ e * product es = mul-le-mul_right (product es) (All-head (λ x. 1 ≤ x) e es some) in
    omega (arith, rest, grows)

-- ---- numbers of tuples

module _ (e : ℕ) (es own : List ℕ) where
  abbrev row : ℕ → List ℕ
  row n = map (λ p. n * e + p) own

  rows : (ts : List (List ℕ)) → map (number_at (e ∷ es)) (flat_map (λ rest. map (λ p. p ∷ rest) own) ts) ≡ flat_map row (map (number_at es) ts)
  rows [] = refl
  rows (t ∷ ts) =
      map-append (number_at (e ∷ es)) (map (λ p. p ∷ t) own) (flat_map (λ rest. map (λ p. p ∷ rest) own) ts)
      ∙ ap (λ l. l ++ map (number_at (e ∷ es)) (flat_map (λ rest. map (λ p. p ∷ rest) own) ts)) (map-map (number_at (e ∷ es)) (λ p. p ∷ t) own)
      ∙ ap (λ l. row (number_at es t) ++ l) (rows ts)

  few : (most : ℕ) (ns : List ℕ) → All (λ n. n < most) ns → All (λ p. p < e) own → All (λ n. n < e * most) (flat_map row ns)
  few most [] each below = λ k d within. absurd (omega arith)
  few most (n ∷ ns) each below =
      All-append (λ m. m < e * most) (row n) (flat_map row ns)
      (All-map (λ m. m < e * most) (λ p. n * e + p) own
      (λ k d within.
      let whole : (n + 1) * e ≤ most * e = mul-le-mul_right e (omega (arith, All-head (λ m. m < most) n ns each)) in
      omega (arith, whole, below k d within)))
      (few most ns (All-tail (λ m. m < most) n ns each) below)

-- the tuples from a dimension on, with the one before
pub numbers-more : (test : ℕ → ℕ → Bool) (es : List ℕ) (k : ℕ) (ns : List ℕ) → k < length es
    → ns ≡ map (number_at (drop (k + 1) es)) (combined (passing test (k + 1) (drop (k + 1) es)))
    → flat_map (λ n. map (λ p. n * get_or es k 0 + p) (filter (test k) (range_with_len 0 (get_or es k 0)))) ns
    ≡ map (number_at (drop k es)) (combined (passing test k (drop k es)))
numbers-more test es k ns within is =
    let e = get_or es k 0 in
    let later = drop (k + 1) es in
    ap (flat_map (λ n. map (λ p. n * e + p) (filter (test k) (range_with_len 0 e)))) is
    ∙ sym (rows e later (filter (test k) (range_with_len 0 e)) (combined (passing test (k + 1) later)))
    ∙ ap (λ l. map (number_at l) (combined (passing test k l))) (sym (drop_more es k 0 within))

pub numbers-few : (es : List ℕ) (k : ℕ) (own ns : List ℕ) → k < length es → All (λ n. n < product (drop (k + 1) es)) ns → All (λ p. p < get_or es k 0) own
    → All (λ n. n < product (drop k es)) (flat_map (λ n. map (λ p. n * get_or es k 0 + p) own) ns)
numbers-few es k own ns within each below =
    subst (λ l. All (λ n. n < product l) (flat_map (λ n. map (λ p. n * get_or es k 0 + p) own) ns)) (sym (drop_more es k 0 within))
    (few (get_or es k 0) (drop (k + 1) es) own (product (drop (k + 1) es)) ns each below)

-- ---- the elements that a node owns

none-passes : (a n : ℕ) → filter (λ k. false) (range_with_len a n) ≡ []
none-passes a zero = refl
none-passes a (suc n) = none-passes (a + 1) n

pub owned-empty : (layout : Layout) (node : ℕ) → 0 ≡ product (extents_of layout.shape) → [] ≡ filter (owned_by layout node) (range_with_len 0 (size_of layout))
unfolding size_of
owned-empty layout node none = ap (λ n. filter (owned_by layout node) (range_with_len 0 n)) none

module _ (nodes : ℕ) (layout : Layout) (laid : IsLaid nodes layout) (some : 1 ≤ nodes) (node : ℕ) where
  pub owned-numbers : true ≡ fixed nodes layout laid some node
      → map (number_at (extents_of layout.shape)) (combined (passing (own_at layout.mapping layout.shape.lower node) 0 (extents_of layout.shape)))
      ≡ filter (owned_by layout node) (range_with_len 0 (size_of layout))
  unfolding size_of
  owned-numbers is =
      let extents = extents_of layout.shape in
      let test = own_at layout.mapping layout.shape.lower node in
      sym (filter-agree (owned_by layout node) (λ t. each test 0 (places_at extents t)) 0 (product extents)
      (λ k low high. owned-places nodes layout laid some k (omega (arith, high)) node ∙ ap (λ b. b && each test 0 (places_at extents k)) (sym is))
      ∙ tuples test extents)

  pub owned-none : false ≡ fixed nodes layout laid some node → [] ≡ filter (owned_by layout node) (range_with_len 0 (size_of layout))
  unfolding size_of
  owned-none is =
      let extents = extents_of layout.shape in
      let test = own_at layout.mapping layout.shape.lower node in
      sym (filter-agree (owned_by layout node) (λ t. false) 0 (product extents)
      (λ k low high. owned-places nodes layout laid some k (omega (arith, high)) node ∙ ap (λ b. b && each test 0 (places_at extents k)) (sym is))
      ∙ none-passes 0 (product extents))
