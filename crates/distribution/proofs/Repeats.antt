-- What passes a test that repeats, from a number on.
use Rattle.std.proofs.Common.{◌≡◌, ℕ, zero, suc, ◌+◌, ◌*◌, ◌≤◌, Bool, true, false, cond, List, ◌∷◌, refl, sym, ◌∙◌, ap, arith, length, length-append, map}
use Rattle.std.proofs.lemmas.List.{length-map}
use Rattle.std.proofs.lemmas.List.Elements.{filter-append}
use Rattle.std.specs.Prelude.{filter}
use Rattle.std.specs.List.{range_with_len}
use Rattle.hpf_base.proofs.Ranges.{range_with_len-add}

-- a test that repeats passes the same, a period further
pub filter-shifted : (P : ℕ → Bool) (T lo : ℕ) → ((j : ℕ) → lo ≤ j → P (j + T) ≡ P j) → (a n : ℕ) → lo ≤ a
    → filter P (range_with_len (a + T) n) ≡ map (λ j. j + T) (filter P (range_with_len a n))
filter-shifted P T lo repeats a zero from = refl
filter-shifted P T lo repeats a (suc n) from =
    let next : a + T + 1 ≡ a + 1 + T = omega arith in
    ap (λ b. cond b ((a + T) ∷ filter P (range_with_len (a + T + 1) n)) (filter P (range_with_len (a + T + 1) n))) (repeats a from)
    ∙ ap (λ ys. cond (P a) ((a + T) ∷ ys) ys) (ap (λ b. filter P (range_with_len b n)) next ∙ filter-shifted P T lo repeats (a + 1) n (omega (arith, from)))
    ∙ by_case (P a) (filter P (range_with_len (a + 1) n))
  where
    by_case : (b : Bool) (ys : List ℕ) → cond b ((a + T) ∷ map (λ j. j + T) ys) (map (λ j. j + T) ys) ≡ map (λ j. j + T) (cond b (a ∷ ys) ys)
    by_case true ys = refl
    by_case false ys = refl

-- how many numbers pass, of whole periods and a rest
pub count-periods : (P : ℕ → Bool) (T a : ℕ) → ((j : ℕ) → a ≤ j → P (j + T) ≡ P j) → (q r : ℕ)
    → length (filter P (range_with_len a (q * T + r))) ≡ q * length (filter P (range_with_len a T)) + length (filter P (range_with_len a r))
count-periods P T a repeats zero r =
    let e : zero * T + r ≡ r = omega arith in
    let none : zero * length (filter P (range_with_len a T)) + length (filter P (range_with_len a r)) ≡ length (filter P (range_with_len a r)) = omega arith in
    ap (λ n. length (filter P (range_with_len a n))) e ∙ sym none
count-periods P T a repeats (suc q) r =
    let e : suc q * T + r ≡ T + (q * T + r) = omega arith in
    let rest = count-periods P T a repeats q r in
    let further : length (filter P (range_with_len (a + T) (q * T + r))) ≡ length (filter P (range_with_len a (q * T + r))) =
    ap length (filter-shifted P T a repeats a (q * T + r) (omega arith)) ∙ length-map (filter P (range_with_len a (q * T + r))) (λ j. j + T) in
    let whole : length (filter P (range_with_len a (suc q * T + r))) ≡ length (filter P (range_with_len a T)) + length (filter P (range_with_len (a + T) (q * T + r))) =
    ap (λ n. length (filter P (range_with_len a n))) e ∙ ap (λ xs. length (filter P xs)) (range_with_len-add a T (q * T + r))
    ∙ ap length (filter-append P (range_with_len a T) (range_with_len (a + T) (q * T + r)))
    ∙ length-append (filter P (range_with_len a T)) (filter P (range_with_len (a + T) (q * T + r))) in
    omega (arith, rest, further, whole)
