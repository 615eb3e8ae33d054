-- A circular shift or a transpose of a whole array is an assignment of its elements.
use Rattle.std.proofs.Common.{◌≡◌, ℕ, zero, suc, ◌+◌, ◌*◌, ◌/◌, ◌%◌, ◌<◌, ◌≤◌, ◌≢◌, List, [], ◌∷◌, ◌++◌, length, map, reverse, slice_index_or, ℤ, pos, true, Option, Some, Result, Ok, refl, sym, ap, ◌∙◌, subst, arith}
use Rattle.std.proofs.lemmas.List.FromFn.{map-range_with_len_more}
use Rattle.std.proofs.lemmas.Nat.{column_fits, mod_below}
use Rattle.std.proofs.lemmas.Slice.Eq.{bytes_eq-Decides}
use Rattle.std.specs.List.{range_with_len}
use Rattle.hpf_base.specs.ElementOrder.{product}
use Rattle.array_meaning.specs.ArrayAssignments.{store_at}
use Rattle.array_meaning.specs.Dim.{Dim}
use Rattle.array_meaning.specs.Dims.{AreDims, extent}
use Rattle.array_meaning.specs.Elementals.{each}
use Rattle.array_meaning.specs.Expressions.{value, values}
use Rattle.array_meaning.specs.Faults.{Cause, ◌>>=◌, at_tuple}
use Rattle.array_meaning.specs.Forall.{assign_forall, indices_at}
use Rattle.array_meaning.specs.State.{State, array, element, element_place, if_in_bounds, place_in, store_all}
use Rattle.array_meaning.specs.Statements.{WholeArray, Transformation, CircularShift, Transposition, PrefixSum}
use Rattle.array_meaning.specs.Terms.{Term, Number}
use Rattle.array_meaning.specs.Transformations.{extents_of, has_shape, shifted_place, transformed, transposed_place, transformed_value}
use Rattle.array_meaning.specs.declared.sections.Store.{Store}
use Rattle.statement_trail.specs.TransformedElements.{axes_of, indices_from, source_element, source_subscripts, turn_of}
use Rattle.transformed_elements.proofs.Places.{first-place, indices-are, place-is, subscripts_of}
use Rattle.transformed_elements.proofs.Shifts.{residue, turned-place}
use Rattle.transformed_elements.proofs.Values.{left-values, shifted-values, transposed-values}

-- ---- places of the source

-- the place whose element comes to a place of the target, by a shift or by a transpose
abbrev pub source_place : Transformation → ℤ → List ℕ → ℕ → ℕ
source_place (CircularShift by) k ns t = shifted_place k ns t
source_place Transposition k ns t = transposed_place ns t
source_place PrefixSum k ns t = t

value-by-place : (how : Transformation) (k : ℤ) (ns : List ℕ) (elements : List ℤ) (t : ℕ) → how ≢ PrefixSum
    → transformed_value how k ns elements t ≡ slice_index_or elements (source_place how k ns t) (pos 0)
value-by-place (CircularShift by) k ns elements t moves = refl
value-by-place Transposition k ns elements t moves = refl
value-by-place PrefixSum k ns elements t moves = absurd (moves refl)

shifted-below : (k : ℤ) (ns : List ℕ) (t : ℕ) → t < product ns → shifted_place k ns t < product ns
shifted-below k [] t below = below
shifted-below k (n ∷ ns) t below =
    let parts = first-place n ns t below in
    let here = turned-place k n (t % n) (mod_below t n parts.0) in
    let low : (t % n + residue k n) % n < n = mod_below (t % n + residue k n) n parts.0 in
    let fits : n * (t / n) + n ≤ n * product ns = column_fits n (t / n) n (product ns) parts.1 (omega arith) in
    omega (arith, here, low, fits)

transposed-below : (m n t : ℕ) → t < product (m ∷ n ∷ []) → transposed_place (m ∷ n ∷ []) t < product (n ∷ m ∷ [])
transposed-below m n t below =
    let parts = first-place m (n ∷ []) t below in
    let low : t % m < m = mod_below t m parts.0 in
    let row : t / m < n = (let h = parts.1 in omega (arith, h)) in
    let fits : n * (t % m) + n ≤ n * m = column_fits n (t % m) n m low (omega arith) in
    omega (arith, row, fits)

-- ---- at a tuple of the indices

-- the left side names the target's element at its place
pub target-subscripts : (s : State) (x : WholeArray) (t : ℕ) → AreDims x.dims → t < product (extents_of x)
    → values (indices_at (axes_of x) t) s (indices_from 0 x.dims) ≡ Ok (subscripts_of x.dims t)
target-subscripts s x t known below = ap (λ js. values js s (indices_from 0 x.dims)) (indices-are x.dims t known.each below) ∙ left-values s x.dims t

module _ (x y : WholeArray) where
  -- the place that the transformation takes is one of the source
  source-place-below : (how : Transformation) (k : ℤ) (t : ℕ) → how ≢ PrefixSum → has_shape x y how ≡ true → length y.dims ≡ length x.dims
      → (how ≡ Transposition → length x.dims ≡ 2) → t < product (extents_of x) → source_place how k (extents_of x) t < product (extents_of y)
  source-place-below PrefixSum k t moves fits even rank below = absurd (moves refl)
  source-place-below (CircularShift by) k t moves fits even rank below =
      let same : extents_of y ≡ extents_of x = (bytes_eq-Decides (extents_of y) (extents_of x)).0 fits in
      subst (λ ns. shifted_place k (extents_of x) t < product ns) (sym same) (shifted-below k (extents_of x) t below)
  source-place-below Transposition k t moves fits even rank below =
      by_dims x.dims y.dims ((bytes_eq-Decides (reverse (extents_of y)) (extents_of x)).0 fits) (rank refl) even below
    where
      by_dims : (ds es : List Dim) → reverse (map extent es) ≡ map extent ds → length ds ≡ 2 → length es ≡ length ds → t < product (map extent ds)
          → transposed_place (map extent ds) t < product (map extent es)
      by_dims (d ∷ d' ∷ []) (e ∷ e' ∷ []) same two even below =
          subst (λ ns. transposed_place (extent d ∷ extent d' ∷ []) t < product ns) (sym (ap reverse same)) (transposed-below (extent d) (extent d') t below)
      by_dims [] es same two even below = absurd (omega (arith, two))
      by_dims (d ∷ []) es same two even below = absurd (omega (arith, two))
      by_dims (d ∷ d' ∷ d'' ∷ ds) es same two even below = absurd (omega (arith, two))
      by_dims ds es same two even below = absurd (omega (arith, two, even))

  -- the subscripts of that place name an element of the source
  pub source-named : (how : Transformation) (k : ℤ) (t : ℕ) → how ≢ PrefixSum → has_shape x y how ≡ true → length y.dims ≡ length x.dims
      → (how ≡ Transposition → length x.dims ≡ 2) → t < product (extents_of x)
      → element_place y.dims (subscripts_of y.dims (source_place how k (extents_of x) t)) ≡ Some (source_place how k (extents_of x) t)
  source-named how k t moves fits even rank below = place-is y.dims (source_place how k (extents_of x) t) (source-place-below how k t moves fits even rank below)

-- the right side
abbrev source : WholeArray → WholeArray → Transformation → ℤ → Term
source x y how k = source_element x y how (Number (turn_of x k))

-- what is stored at a tuple, and its evaluation
abbrev store_of : State → WholeArray → WholeArray → Transformation → ℤ → ℕ → Option Store
store_of s x y how k t = Some record { place = t; value = transformed_value how k (extents_of x) (array s y.array).elements t }

abbrev stored_at : State → WholeArray → WholeArray → Transformation → ℤ → ℕ → Result (Option Store) Cause
stored_at s x y how k t =
    let at = indices_at (axes_of x) t in values at s (indices_from 0 x.dims) >>= (λ is. store_at s x.array is (value at s (source x y how k)))

module _ (s : State) (x y : WholeArray) (how : Transformation) (k : ℤ) (known : AreDims x.dims) (own : AreDims y.dims) (moves : how ≢ PrefixSum) (fits : has_shape x y how ≡ true)
    (even : length y.dims ≡ length x.dims) (rank : how ≡ Transposition → length x.dims ≡ 2) where
  -- the right side has the subscripts of the place that the transformation takes
  pub source-subscripts : (t : ℕ) → t < product (extents_of x)
      → values (indices_at (axes_of x) t) s (source_subscripts how (Number (turn_of x k)) x.dims y.dims)
      ≡ Ok (subscripts_of y.dims (source_place how k (extents_of x) t))
  source-subscripts t below =
      ap (λ js. values js s (source_subscripts how (Number (turn_of x k)) x.dims y.dims)) (indices-are x.dims t known.each below) ∙ by_how how moves fits rank
    where
      by_how : (how : Transformation) → how ≢ PrefixSum → has_shape x y how ≡ true → (how ≡ Transposition → length x.dims ≡ 2)
          → values (subscripts_of x.dims t) s (source_subscripts how (Number (turn_of x k)) x.dims y.dims)
          ≡ Ok (subscripts_of y.dims (source_place how k (extents_of x) t))
      by_how PrefixSum moves fits rank = absurd (moves refl)
      by_how (CircularShift by) moves fits rank =
          shifted-values s k x.dims y.dims t ((bytes_eq-Decides (extents_of y) (extents_of x)).0 fits) known.each own.each below
      by_how Transposition moves fits rank =
          transposed-values s x.dims y.dims t ((bytes_eq-Decides (reverse (extents_of y)) (extents_of x)).0 fits) (rank refl) even known.each own.each below

  -- the element of the source is stored in the target's
  stored-element : (array s x.array).dims ≡ x.dims → (array s y.array).dims ≡ y.dims → (t : ℕ) → t < product (extents_of x)
      → stored_at s x y how k t ≡ Ok (store_of s x y how k t)
  stored-element dims dims' t below =
      let from = source_place how k (extents_of x) t in
      let left : place_in s x.array (subscripts_of x.dims t) ≡ Ok t =
      ap (λ ds. if_in_bounds (element_place ds (subscripts_of x.dims t))) dims ∙ ap if_in_bounds (place-is x.dims t below) in
      let right : place_in s y.array (subscripts_of y.dims from) ≡ Ok from =
      ap (λ ds. if_in_bounds (element_place ds (subscripts_of y.dims from))) dims' ∙ ap if_in_bounds (source-named x y how k t moves fits even rank below) in
      let taken : value (indices_at (axes_of x) t) s (source x y how k) ≡ Ok (transformed_value how k (extents_of x) (array s y.array).elements t) =
      ap (λ r. r >>= element s y.array) (source-subscripts t below) ∙ ap (λ r. r >>= (λ p. Ok (slice_index_or (array s y.array).elements p (pos 0)))) right
      ∙ ap Ok (sym (value-by-place how k (extents_of x) (array s y.array).elements t moves)) in
      ap (λ r. r >>= (λ is. store_at s x.array is (value (indices_at (axes_of x) t) s (source x y how k)))) (target-subscripts s x t known below)
      ∙ (λ i. left i >>= (λ p. taken i >>= (λ v. Ok (Some record { place = p; value = v }))))

-- ---- at all tuples

-- where none has a fault
pub each-is : {A : Type 0} (tuple : ℕ → List ℤ) (f : ℕ → Result A Cause) (g : ℕ → A) (n : ℕ) → ((t : ℕ) → t < n → f t ≡ Ok (g t))
    → each tuple f n ≡ Ok (map g (range_with_len 0 n))
each-is tuple f g zero same = refl
each-is tuple f g (suc n) same =
    let one : n + 1 ≡ suc n = omega arith in
    (λ i. each-is tuple f g n (λ t below. same t (omega (arith, below))) i
    >>= (λ vs. at_tuple (tuple n) (same n (omega arith) i) >>= (λ v. Ok (vs ++ v ∷ []))))
    ∙ ap Ok (sym (map-range_with_len_more g 0 n n (omega arith)) ∙ ap (λ m. map g (range_with_len 0 m)) one)

-- the assignment stores what the transformation does
pub transforms-as-elements : (s : State) (x y : WholeArray) (how : Transformation) (k : ℤ) (line : ℕ) → (array s x.array).dims ≡ x.dims
    → (array s y.array).dims ≡ y.dims → AreDims x.dims → AreDims y.dims → how ≢ PrefixSum → has_shape x y how ≡ true → length y.dims ≡ length x.dims
    → (how ≡ Transposition → length x.dims ≡ 2)
    → assign_forall (axes_of x) (product (extents_of x)) (λ t. true)
    record { line = line; array = x.array; subscripts = indices_from 0 x.dims; right = source_element x y how (Number (turn_of x k)) } s
    ≡ Ok (store_all s x.array (transformed x y how k s))
transforms-as-elements s x y how k line dims dims' known own moves fits even rank =
    ap (λ r. r >>= (λ stores. Ok (store_all s x.array stores)))
    (each-is (indices_at (axes_of x)) (stored_at s x y how k) (store_of s x y how k) (product (extents_of x))
    (stored-element s x y how k known own moves fits even rank dims dims'))
