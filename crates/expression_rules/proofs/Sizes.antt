-- How many elements there are.
use Rattle.std.proofs.Common.{◌≡◌, ℕ, zero, suc, ◌+◌, ◌*◌, ◌≤◌, Bool, true, false, List, [], ◌∷◌, drop, refl, ap, arith, ◌^◌, Fits, w64}
use Rattle.std.specs.Prelude.{◌==◌, ◌||◌}
use Rattle.std.specs.List.{list_any}
use Rattle.std.proofs.lemmas.Bool.Decides.{nat_tests}
use Rattle.std.proofs.Math.Nat.{mul_comm, mul-le-mul_left}
use Rattle.expression_rules.specs.declared.dims.Dim.{Dim}
use Rattle.expression_rules.specs.Dims.{extent, elements, is_empty}

none_times : (a b : ℕ) → a ≡ 0 → 0 ≡ a * b
none_times a b z = omega (arith, ap (λ k. k * b) z)

times_none : (a b : ℕ) → 0 ≡ b → 0 ≡ a * b
times_none a b z = omega (arith, ap (λ k. a * k) z)

times_some : (a b : ℕ) → 1 ≤ a → 1 ≤ b → 1 ≤ a * b
times_some a b ha hb = omega (arith, mul-le-mul_left a hb)

is_zero : (n : ℕ) → (n == 0) ≡ true → n ≡ 0
is_zero n e = grind (arith, nat_tests)

not_zero : (n : ℕ) → (n == 0) ≡ false → 1 ≤ n
not_zero n e = grind (arith, nat_tests)

none_case : (a n : ℕ) (rest b : Bool) → (a == 0) ≡ b → (b || rest) ≡ true → (rest ≡ true → 0 ≡ n) → 0 ≡ a * n
none_case a n rest true e h more = none_times a n (is_zero a e)
none_case a n rest false e h more = times_none a n (more h)

some_case : (a n : ℕ) (rest b : Bool) → (a == 0) ≡ b → (b || rest) ≡ false → (rest ≡ false → 1 ≤ n) → 1 ≤ a * n
some_case a n rest true e h more = absurd cc
some_case a n rest false e h more = times_some a n (not_zero a e) (more h)

-- an empty dimension leaves no element
pub none_in : (ds : List Dim) → list_any is_empty ds ≡ true → 0 ≡ elements ds
none_in [] h = absurd cc
none_in (d ∷ ds) h = none_case (extent d) (elements ds) (list_any is_empty ds) (extent d == 0) refl h (λ e. none_in ds e)

-- without one there is an element, and every rest of the dimensions has one
pub some_in : (ds : List Dim) → list_any is_empty ds ≡ false → 1 ≤ elements ds
some_in [] h = omega arith
some_in (d ∷ ds) h = some_case (extent d) (elements ds) (list_any is_empty ds) (extent d == 0) refl h (λ e. some_in ds e)

rest_case : (b rest : Bool) → (b || rest) ≡ false → rest ≡ false
rest_case true rest h = absurd cc
rest_case false rest h = h

pub none_after : (ds : List Dim) (n : ℕ) → list_any is_empty ds ≡ false → list_any is_empty (drop n ds) ≡ false
none_after ds zero h = h
none_after [] (suc n) h = h
none_after (d ∷ ds) (suc n) h = none_after ds n (rest_case (extent d == 0) (list_any is_empty ds) h)

-- what is multiplied stays within all
pub size_fits : (ds : List Dim) (n size more : ℕ) → list_any is_empty ds ≡ false → size * elements (drop n ds) ≡ elements ds → elements ds ≤ more → size ≤ more
size_fits ds n size more some so_far few =
    let h : size * 1 ≤ size * elements (drop n ds) = mul-le-mul_left size (some_in (drop n ds) (none_after ds n some)) in
    omega (arith, h, so_far, few)

pub product_fits : (a b : ℕ) → a ≤ 2 ^ 20 → b ≤ 2 ^ 42 + 1 → Fits w64 (a * b)
product_fits a b ha hb =
    let h : b * a ≤ b * 2 ^ 20 = mul-le-mul_left b ha in
    omega (arith, h, hb, mul_comm a b)
