-- The place of an element, from the last subscript to the first.
use Rattle.std.proofs.Common.{◌≡◌, ℕ, zero, suc, ◌+◌, ◌-◌, ◌*◌, ◌%◌, ◌^◌, ◌<◌, ◌≤◌, Bool, true, false, List, [], ◌∷◌, drop, length, ℤ, pos, negsuc, ◌-ℤ◌, refl, ap, sym, ◌∙◌, arith, Some, None, Option}
use Rattle.std.specs.Prelude.{option_and_then, option_map, slice_index_or, nat_lt, if◌then◌else◌}
use Rattle.std.proofs.lemmas.Nat.{mul-mod_second, column_fits}
use Rattle.std.proofs.Math.Nat.{add-mod-mod, mod-eq_of_lt}
use Rattle.std.proofs.lemmas.Bool.{ltb-true}
use Rattle.std.proofs.Math.Seq.{drop-cons}
use Rattle.expression_rules.specs.declared.dims.Dim.{Dim}
use Rattle.expression_rules.specs.Dims.{extent, elements, AreDims}
use Rattle.array_meaning.specs.State.{if_below, offset, element_place}
use Rattle.term_values.specs.Places.{in_64_bits}

-- ---- all subscripts

abbrev joined : ℕ → Option ℕ → Option ℕ → Option ℕ
joined e first rest = option_and_then (λ k. option_map (λ r. k + e * r) rest) first

no_rest : (e : ℕ) (first : Option ℕ) → joined e first None ≡ None
no_rest e None = refl
no_rest e (Some k) = refl

-- where the last subscripts are out of bounds, so are all
front_none : (n : ℕ) (ds : List Dim) (is : List ℤ) → element_place (drop n ds) (drop n is) ≡ None → element_place ds is ≡ None
front_none zero ds is h = h
front_none (suc n) [] [] h = h
front_none (suc n) [] (i ∷ is) h = refl
front_none (suc n) (d ∷ ds) [] h = refl
front_none (suc n) (d ∷ ds) (i ∷ is) h = ap (joined (extent d) (offset d i)) (front_none n ds is h) ∙ no_rest (extent d) (offset d i)

pub uneven : (ds : List Dim) (is : List ℤ) → (length ds ≡ length is → ⊥) → element_place ds is ≡ None
uneven [] [] h = absurd (h refl)
uneven [] (i ∷ is) h = refl
uneven (d ∷ ds) [] h = refl
uneven (d ∷ ds) (i ∷ is) h = ap (joined (extent d) (offset d i)) (uneven ds is (λ e. h (ap suc e))) ∙ no_rest (extent d) (offset d i)

carried : (k e r : ℕ) → (k + e * r) % 2 ^ 64 ≡ (k + e * (r % 2 ^ 64) % 2 ^ 64) % 2 ^ 64
carried k e r =
    sym (add-mod-mod k (e * r) (2 ^ 64)) ∙ ap (λ x. (k + x) % 2 ^ 64) (sym (mul-mod_second e r (2 ^ 64)))

some_is : (k e at : ℕ) (rest : Option ℕ) → in_64_bits rest ≡ Some at → in_64_bits (joined e (Some k) rest) ≡ Some ((k + e * at % 2 ^ 64) % 2 ^ 64)
some_is k e at None h = ap (option_map (λ x. (k + e * x % 2 ^ 64) % 2 ^ 64)) h
some_is k e at (Some r) h = ap Some (carried k e r) ∙ ap (option_map (λ x. (k + e * x % 2 ^ 64) % 2 ^ 64)) h

-- one subscript more
one_more : (d : Dim) (ds : List Dim) (i : ℤ) (is : List ℤ) (k at : ℕ) → offset d i ≡ Some k → in_64_bits (element_place ds is) ≡ Some at →
    in_64_bits (element_place (d ∷ ds) (i ∷ is)) ≡ Some ((k + extent d * at % 2 ^ 64) % 2 ^ 64)
one_more d ds i is k at first rest = ap (λ f. in_64_bits (joined (extent d) f (element_place ds is))) first ∙ some_is k (extent d) at (element_place ds is) rest

-- no subscript is left
pub last_place : (ds : List Dim) (is : List ℤ) → length ds ≡ length is → element_place (drop (length ds) ds) (drop (length ds) is) ≡ Some 0
last_place [] [] e = refl
last_place [] (i ∷ is) e = let f : ⊥ = omega arith in absurd f
last_place (d ∷ ds) [] e = let f : ⊥ = omega arith in absurd f
last_place (d ∷ ds) (i ∷ is) e = last_place ds is (let f : length ds ≡ length is = omega arith in f)

-- the dimensions and subscripts from one place on
next : {A : Type 0} (xs : List A) (l : ℕ) (x : A) → 0 < l → l ≤ length xs → drop (l - 1) xs ≡ slice_index_or xs (l - 1) x ∷ drop l xs
next xs l x above fits =
    let e : suc (l - 1) ≡ l = omega arith in
    let f : l - 1 < length xs = omega arith in
    drop-cons xs (l - 1) x f ∙ ap (λ n. slice_index_or xs (l - 1) x ∷ drop n xs) e

pub step_in : (ds : List Dim) (is : List ℤ) (l k at e : ℕ) (d : Dim) (i : ℤ) → 0 < l → l ≤ length ds → length ds ≡ length is →
    offset (slice_index_or ds (l - 1) d) (slice_index_or is (l - 1) i) ≡ Some k → in_64_bits (element_place (drop l ds) (drop l is)) ≡ Some at → e ≡ extent (slice_index_or ds (l - 1) d) →
    in_64_bits (element_place (drop (l - 1) ds) (drop (l - 1) is)) ≡ Some ((k + e * at % 2 ^ 64) % 2 ^ 64)
step_in ds is l k at e d i above fits same here rest size =
    ap (λ xs. in_64_bits (element_place xs (drop (l - 1) is))) (next ds l d above fits)
    ∙ ap (λ xs. in_64_bits (element_place (slice_index_or ds (l - 1) d ∷ drop l ds) xs)) (next is l i above (let f : l ≤ length is = omega arith in f))
    ∙ one_more (slice_index_or ds (l - 1) d) (drop l ds) (slice_index_or is (l - 1) i) (drop l is) k at here rest
    ∙ ap (λ e. Some ((k + e * at % 2 ^ 64) % 2 ^ 64)) (sym size)

pub stop_in : (ds : List Dim) (is : List ℤ) (l : ℕ) (d : Dim) (i : ℤ) → 0 < l → l ≤ length ds → length ds ≡ length is →
    offset (slice_index_or ds (l - 1) d) (slice_index_or is (l - 1) i) ≡ None → element_place ds is ≡ None
stop_in ds is l d i above fits same here =
    front_none (l - 1) ds is (
    ap (λ xs. element_place xs (drop (l - 1) is)) (next ds l d above fits)
    ∙ ap (λ xs. element_place (slice_index_or ds (l - 1) d ∷ drop l ds) xs) (next is l i above (let f : l ≤ length is = omega arith in f))
    ∙ ap (λ f. joined (extent (slice_index_or ds (l - 1) d)) f (element_place (drop l ds) (drop l is))) here)

-- ---- the place is that of an element

abbrev Below : ℕ → Option ℕ → Type 0
Below n None = Unit {0}
Below n (Some k) = k < n

offset_below : (z : ℤ) (e : ℕ) → Below e (if_below z e)
offset_below (pos n) e = cases (nat_lt n e) refl where
  cases : (b : Bool) → nat_lt n e ≡ b → Below e (if b then Some n else None)
  cases true h = ltb-true n e h
  cases false h = tt {0}
offset_below (negsuc n) e = tt {0}

joined_below : (e m : ℕ) (first rest : Option ℕ) → Below e first → Below m rest → Below (e * m) (joined e first rest)
joined_below e m None rest h g = tt {0}
joined_below e m (Some j) None h g = tt {0}
joined_below e m (Some j) (Some r) h g =
    let fits : e * r + e ≤ e * m = column_fits e r e m g (let f : e ≤ e = omega arith in f) in
    let f : j + e * r < e * m = omega (arith, h, fits) in f

place_below : (ds : List Dim) (is : List ℤ) → Below (elements ds) (element_place ds is)
place_below [] [] = let f : 0 < 1 = omega arith in f
place_below [] (i ∷ is) = tt {0}
place_below (d ∷ ds) [] = tt {0}
place_below (d ∷ ds) (i ∷ is) = joined_below (extent d) (elements ds) (offset d i) (element_place ds is) (offset_below (i -ℤ d.lower) (extent d)) (place_below ds is)

-- 64 bits are enough for it
pub place_is : (ds : List Dim) (is : List ℤ) → AreDims ds → in_64_bits (element_place ds is) ≡ element_place ds is
place_is ds is dims = cases (element_place ds is) (place_below ds is) where
  cases : (p : Option ℕ) → Below (elements ds) p → in_64_bits p ≡ p
  cases None b = refl
  cases (Some k) b = ap Some (mod-eq_of_lt (let f : k < 2 ^ 64 = omega (arith, b, dims.size) in f))

-- ---- one subscript

-- ---- two subscripts

pub first_out : (ds : List Dim) (i j : ℤ) (d : Dim) → length ds ≡ 2 → offset (slice_index_or ds 0 d) i ≡ None → element_place ds (i ∷ j ∷ []) ≡ None
first_out [] i j d h out = let f : ⊥ = omega (arith, h) in absurd f
first_out (x ∷ ds) i j d h out = ap (λ p. joined (extent x) p (element_place ds (j ∷ []))) out

pub second_out : (ds : List Dim) (i j : ℤ) (d : Dim) → length ds ≡ 2 → offset (slice_index_or ds 1 d) j ≡ None → element_place ds (i ∷ j ∷ []) ≡ None
second_out [] i j d h out = let f : ⊥ = omega (arith, h) in absurd f
second_out (x ∷ []) i j d h out = let f : ⊥ = omega (arith, h) in absurd f
second_out (x ∷ y ∷ ds) i j d h out = ap (λ p. joined (extent x) (offset x i) (joined (extent y) p (element_place ds []))) out ∙ no_rest (extent x) (offset x i)

pub two_in : (ds : List Dim) (i j : ℤ) (d : Dim) (k l e : ℕ) → AreDims ds → length ds ≡ 2 → offset (slice_index_or ds 0 d) i ≡ Some k → offset (slice_index_or ds 1 d) j ≡ Some l →
    e ≡ extent (slice_index_or ds 0 d) → in_64_bits (element_place ds (i ∷ j ∷ [])) ≡ Some ((k + e * l % 2 ^ 64) % 2 ^ 64)
two_in [] i j d k l e dims h first second size = let f : ⊥ = omega (arith, h) in absurd f
two_in (x ∷ []) i j d k l e dims h first second size = let f : ⊥ = omega (arith, h) in absurd f
two_in (x ∷ y ∷ z ∷ ds) i j d k l e dims h first second size = let f : ⊥ = omega (arith, h) in absurd f
two_in (x ∷ y ∷ []) i j d k l e dims h first second size =
    ap (λ p. in_64_bits (joined (extent x) p (element_place (y ∷ []) (j ∷ [])))) first
    ∙ ap (λ p. in_64_bits (joined (extent x) (Some k) (joined (extent y) p (Some 0)))) second
    ∙ ap Some (ap (λ r. (k + extent x * r) % 2 ^ 64) (let f : l + extent y * 0 ≡ l = omega arith in f) ∙ sym (add-mod-mod k (extent x * l) (2 ^ 64)))
    ∙ ap (λ e. Some ((k + e * l % 2 ^ 64) % 2 ^ 64)) (sym size)
