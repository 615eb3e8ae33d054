-- The values that a circular shift or a transpose takes, column by column of its target.
use Rattle.std.proofs.Common.{◌≡◌, ℕ, suc, ◌+◌, ◌-◌, ◌*◌, ◌/◌, ◌%◌, ◌<◌, ◌≤◌, List, [], ◌∷◌, ◌++◌, length, map, take, drop, get_or, ℤ, pos, negsuc, ◌+ℤ◌, unsigned_abs, append_assoc, refl, sym, ap, ◌∙◌, arith}
use Rattle.std.specs.Prelude.{slice_index_or}
use Rattle.std.specs.Int.{int_rem_euclid}
use Rattle.std.specs.List.{range_with_len}
use Rattle.std.proofs.Math.Nat.{add-mod_left, add-mod-mod, mod-eq_of_lt, mul-div_cancel_left, mul-le-mul_left}
use Rattle.std.proofs.lemmas.Int.{int_rem_euclid_is, ints}
use Rattle.std.proofs.lemmas.List.{get_or-drop, get_or-take, get_or_default, length-drop, length-take-le, map-append, same_lists}
use Rattle.std.proofs.lemmas.List.FromFn.{get_or-map-range_with_len, length-map-range_with_len, map-range_with_len_more}
use Rattle.std.proofs.lemmas.Nat.{div-mul-add, mod-mul-add}
use Rattle.hpf_base.specs.ElementOrder.{product}
use Rattle.hpf_base.proofs.Ranges.{range_with_len-add}
use Rattle.expression_rules.specs.Dims.{elements, extent}
use Rattle.expression_rules.specs.declared.dims.Dim.{Dim}
use Rattle.array_meaning.specs.Transformations.{shifted_place, transposed_place}
use Rattle.serial_run.specs.TransformedValues.{elements_at, turned_place}

-- ---- elements at places

module _ (xs : List ℤ) where
  -- so many, and so many after them
  pub elements_more : (place : ℕ → ℕ) (first n m : ℕ) → elements_at xs place first (n + m) ≡ elements_at xs place first n ++ elements_at xs place (first + n) m
  elements_more place first n m =
      ap (map (λ t. slice_index_or xs (place t) (pos 0))) (range_with_len-add first n m) ∙ map-append (λ t. slice_index_or xs (place t) (pos 0)) (range_with_len first n) (range_with_len (first + n) m)

  -- at the same places
  elements_same : (p q : ℕ → ℕ) (a b n : ℕ) → ((i : ℕ) → i < n → p (a + i) ≡ q (b + i)) → elements_at xs p a n ≡ elements_at xs q b n
  elements_same p q a b n same = same_lists _ _ (length-map-range_with_len value-p a n ∙ sym (length-map-range_with_len value-q b n)) (λ k d below.
      let inside : k < n = omega (arith, length-map-range_with_len value-p a n) in
      get_or-map-range_with_len value-p a n k (a + k) d inside refl
      ∙ ap (λ t. slice_index_or xs t (pos 0)) (same k inside)
      ∙ sym (get_or-map-range_with_len value-q b n k (b + k) d inside refl))
    where
      value-p : ℕ → ℤ
      value-p t = slice_index_or xs (p t) (pos 0)

      value-q : ℕ → ℤ
      value-q t = slice_index_or xs (q t) (pos 0)

  -- at places that follow one another
  pub elements_run : (first n : ℕ) → first + n ≤ length xs → elements_at xs (λ t. t) first n ≡ take n (drop first xs)
  elements_run first n within = same_lists _ _ (length-map-range_with_len value first n ∙ sym long) (λ k d below.
      let inside : k < n = omega (arith, length-map-range_with_len value first n) in
      get_or-map-range_with_len value first n k (first + k) d inside refl ∙ there k d inside)
    where
      value : ℕ → ℤ
      value t = slice_index_or xs t (pos 0)

      long : length (take n (drop first xs)) ≡ n
      long = length-take-le n (drop first xs) (omega (arith, length-drop first xs, within))

      there : (k : ℕ) (d : ℤ) → k < n → slice_index_or xs (first + k) (pos 0) ≡ get_or (take n (drop first xs)) k d
      there k d inside = get_or_default xs (first + k) (pos 0) d (omega (arith, inside, within)) ∙ sym (get_or-take n (drop first xs) k d inside ∙ get_or-drop first xs k d)

  -- one more, and all from one on by steps of 1
  pub one_added : (place : ℕ → ℕ) (n at : ℕ) (old made new : List ℤ) (v : ℤ) → new ≡ made ++ v ∷ [] → made ≡ old ++ elements_at xs place 0 n → v ≡ slice_index_or xs at (pos 0)
      → at ≡ place n → new ≡ old ++ elements_at xs place 0 (n + 1)
  one_added place n at old made new v adds so_far is there =
      let next : 0 + n ≡ n = omega arith in
      adds
      ∙ (λ i. so_far i ++ (is ∙ ap (λ t. slice_index_or xs t (pos 0)) there) i ∷ [])
      ∙ append_assoc old (elements_at xs place 0 n) (slice_index_or xs (place n) (pos 0) ∷ [])
      ∙ ap (λ l. old ++ l) (sym (map-range_with_len_more (λ t. slice_index_or xs (place t) (pos 0)) 0 n n next))

  pub elements_from : (first n : ℕ) → elements_at xs (λ t. first + 1 * t) 0 n ≡ elements_at xs (λ t. t) first n
  elements_from first n = elements_same (λ t. first + 1 * t) (λ t. t) 0 first n (λ i inside. omega arith)

  -- so many columns, and one more
  pub columns_more : (place : ℕ → ℕ) (column n : ℕ) → elements_at xs place 0 (column * n) ++ elements_at xs place (column * n) n ≡ elements_at xs place 0 ((column + 1) * n)
  columns_more place column n =
      let next : column * n + n ≡ (column + 1) * n = omega arith in
      let at : 0 + column * n ≡ column * n = omega arith in
      ap (λ t. elements_at xs place 0 (column * n) ++ elements_at xs place t n) (sym at) ∙ sym (elements_more place 0 (column * n) n) ∙ ap (elements_at xs place 0) next

-- ---- columns that are turned

-- an integer with so many times n is a natural number
lifted : (k : ℤ) (n : ℕ) → 0 < n → (j : ℕ) × (m : ℕ) × (k +ℤ pos (j * n) ≡ pos m)
lifted (pos a) n some = (0, a, omega (arith, ints))
lifted (negsuc a) n some = (suc a, suc a * n - suc a, (let much : suc a * 1 ≤ suc a * n = mul-le-mul_left (suc a) some in omega (arith, ints, much)))

module _ (k : ℤ) (n turn : ℕ) (some : 0 < n) (is : turn ≡ unsigned_abs (int_rem_euclid k (pos n))) where
  turned : (i : ℕ) → unsigned_abs (int_rem_euclid (pos i +ℤ k) (pos n)) ≡ (i + turn) % n
  turned i =
      let (j, m, up) = lifted k n some in
      let sum : (pos i +ℤ k) +ℤ pos (j * n) ≡ pos (i + m) = omega (arith, ints, up) in
      ap unsigned_abs (int_rem_euclid_is (pos i +ℤ k) (pos n) n j (i + m) some refl sum)
      ∙ sym (add-mod-mod i m n)
      ∙ ap (λ r. (i + r) % n) (sym (is ∙ ap unsigned_abs (int_rem_euclid_is k (pos n) n j m some refl up)))

  -- by what a column turns, all places of a shift
  pub turned_is : (xs : List ℤ) (columns count : ℕ) → count ≡ n * columns → elements_at xs (turned_place n turn) 0 (count / n * n) ≡ elements_at xs (shifted_place k (n ∷ [])) 0 count
  turned_is xs columns count many =
      let whole : count / n * n ≡ count = ap (λ t. t / n * n) many ∙ ap (λ t. t * n) (mul-div_cancel_left columns some) ∙ omega (arith, many) in
      ap (elements_at xs (turned_place n turn) 0) whole ∙ elements_same xs _ _ 0 0 count (λ i inside. ap (λ p. p + n * ((0 + i) / n)) (sym (turned ((0 + i) % n))))

-- a column is the elements after those that are turned, and these
module _ (xs : List ℤ) (n turn column : ℕ) (below : turn < n) where
  placed : (i : ℕ) → i < n → turned_place n turn (column * n + i) ≡ (i + turn) % n + n * column
  placed i inside j = (mod-mul-add column n i inside j + turn) % n + n * div-mul-add column n i inside j

  early : (i : ℕ) → i < n - turn → turned_place n turn (column * n + i) ≡ column * n + turn + i
  early i inside =
      let at = placed i (omega (arith, inside)) in
      let same : (i + turn) % n ≡ i + turn = mod-eq_of_lt (let lt : i + turn < n = omega (arith, inside) in lt) in
      omega (arith, at, same)

  late : (i : ℕ) → i < turn → turned_place n turn (column * n + (n - turn) + i) ≡ column * n + i
  late i inside =
      let there : column * n + (n - turn) + i ≡ column * n + (n - turn + i) = omega arith in
      let at = placed (n - turn + i) (omega (arith, inside, below)) in
      let round : n - turn + i + turn ≡ n + i = omega (arith, below) in
      let same : (n - turn + i + turn) % n ≡ i = ap (λ t. t % n) round ∙ add-mod_left n i ∙ mod-eq_of_lt (let lt : i < n = omega (arith, inside, below) in lt) in
      ap (turned_place n turn) there ∙ at ∙ omega (arith, same)

  pub turned_column : elements_at xs (λ t. t) (column * n + turn) (n - turn) ++ elements_at xs (λ t. t) (column * n) turn ≡ elements_at xs (turned_place n turn) (column * n) n
  turned_column =
      let parts : n - turn + turn ≡ n = omega (arith, below) in
      sym (ap (elements_at xs (turned_place n turn) (column * n)) (sym parts)
      ∙ elements_more xs (turned_place n turn) (column * n) (n - turn) turn
      ∙ (λ j. elements_same xs (turned_place n turn) (λ t. t) (column * n) (column * n + turn) (n - turn) early j
      ++ elements_same xs (turned_place n turn) (λ t. t) (column * n + (n - turn)) (column * n) turn late j))

-- ---- columns that are crossed

-- a column of the target is a row of the source
pub crossed_column : (xs : List ℤ) (m n column : ℕ) → elements_at xs (λ t. column + n * t) 0 m ≡ elements_at xs (transposed_place (m ∷ n ∷ [])) (column * m) m
crossed_column xs m n column = elements_same xs (λ t. column + n * t) (transposed_place (m ∷ n ∷ [])) 0 (column * m) m (λ i inside.
    let first : 0 + i ≡ i = omega arith in
    ap (λ t. column + n * t) first ∙ sym (λ j. div-mul-add column m i inside j + n * mod-mul-add column m i inside j))

-- an array of any other rank stays as it is
pub same_places : (xs : List ℤ) (ds : List Dim) (count : ℕ) → (length ds ≡ 2 → ⊥) → elements_at xs (λ t. t) 0 count ≡ elements_at xs (transposed_place (map extent ds)) 0 count
same_places xs [] count other = refl
same_places xs (d ∷ []) count other = refl
same_places xs (d ∷ e ∷ []) count other = absurd (other refl)
same_places xs (d ∷ e ∷ f ∷ ds) count other = refl

-- ---- sizes

pub size_is : (ds : List Dim) → elements ds ≡ product (map extent ds)
size_is [] = refl
size_is (d ∷ ds) = ap (λ n. extent d * n) (size_is ds)
