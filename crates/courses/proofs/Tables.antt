-- One axis as a table of gaps.
use Rattle.std.proofs.Common.{◌≡◌, ℕ, zero, suc, ◌+◌, ◌-◌, ◌<◌, ◌≤◌, ◌==◌, Bool, true, false, ◌&&◌, cond, List, [], ◌∷◌, ◌++◌, map, filter, nat_le, nat_lt, ℤ, pos, ◌+ℤ◌, ◌*ℤ◌, unsigned_abs, Some, refl, sym, ◌∙◌, ap, arith}
use Rattle.std.proofs.lemmas.Bool.{le-leb, lt-leb, lt-ltb, ltb-true}
use Rattle.std.proofs.lemmas.Int.{ints}
use Rattle.std.proofs.lemmas.List.Elements.{filter-append}
use Rattle.std.specs.List.{range_with_len}
use Rattle.std.specs.Option.{is_some}
use Rattle.mappings.specs.declared.mapping.Line.{Line}
use Rattle.mappings.specs.Alignment.{agrees_at, position_at}
use Rattle.mappings.specs.Owner.{coordinate}
use Rattle.hpf_base.proofs.Integers.{linear_of_linear, sum-*ℤ}
use Rattle.hpf_base.proofs.Ranges.{range_with_len-add}
use Rattle.array_meaning.specs.State.{offset}
use Rattle.std.proofs.Math.IntN.{*ℤ_comm}
use Rattle.gap_table.specs.OwnedSequence.{position_of}
use Rattle.courses.specs.AxisTables.{AxisTable}

filter-false : (P : ℕ → Bool) (a n : ℕ) → ((j : ℕ) → a ≤ j → j < a + n → P j ≡ false) → filter P (range_with_len a n) ≡ []
filter-false P a zero none = refl
filter-false P a (suc n) none =
    ap (λ b. cond b (a ∷ filter P (range_with_len (a + 1) n)) (filter P (range_with_len (a + 1) n))) (none a (omega arith) (omega arith))
    ∙ filter-false P (a + 1) n (λ j low high. none j (omega (arith, low)) (omega (arith, high)))

filter-shift : (P Q : ℕ → Bool) (lo a n : ℕ) → ((j : ℕ) → a ≤ j → j < a + n → P (lo + j) ≡ Q j)
    → filter P (range_with_len (lo + a) n) ≡ map (λ j. lo + j) (filter Q (range_with_len a n))
filter-shift P Q lo a zero same = refl
filter-shift P Q lo a (suc n) same =
    let next : lo + a + 1 ≡ lo + (a + 1) = omega arith in
    ap (λ b. cond b ((lo + a) ∷ filter P (range_with_len (lo + a + 1) n)) (filter P (range_with_len (lo + a + 1) n))) (same a (omega arith) (omega arith))
    ∙ ap (λ xs. cond (Q a) ((lo + a) ∷ xs) xs)
    (ap (λ k. filter P (range_with_len k n)) next ∙ filter-shift P Q lo (a + 1) n (λ j low high. same j (omega (arith, low)) (omega (arith, high))))
    ∙ by_case (Q a) (filter Q (range_with_len (a + 1) n))
  where
    by_case : (b : Bool) (xs : List ℕ) → cond b ((lo + a) ∷ map (λ j. lo + j) xs) (map (λ j. lo + j) xs) ≡ map (λ j. lo + j) (cond b (a ∷ xs) xs)
    by_case true xs = refl
    by_case false xs = refl

-- what passes inside a section, and nothing outside
inside-only : (P Q : ℕ → Bool) (n lo m : ℕ) → lo + m ≤ n → ((x : ℕ) → x < lo → P x ≡ false) → ((x : ℕ) → lo + m ≤ x → x < n → P x ≡ false)
    → ((j : ℕ) → j < m → P (lo + j) ≡ Q j) → filter P (range_with_len 0 n) ≡ map (λ j. lo + j) (filter Q (range_with_len 0 m))
inside-only P Q n lo m fits before behind same =
    let rest = n - (lo + m) in
    let whole : n ≡ lo + (m + rest) = omega (arith, fits) in
    let zero_lo : 0 + lo ≡ lo = omega arith in
    let lo_zero : lo ≡ lo + 0 = omega arith in
    ap (λ k. filter P (range_with_len 0 k)) whole
    ∙ ap (filter P) (range_with_len-add 0 lo (m + rest))
    ∙ filter-append P (range_with_len 0 lo) (range_with_len (0 + lo) (m + rest))
    ∙ ap (λ xs. xs ++ filter P (range_with_len (0 + lo) (m + rest))) (filter-false P 0 lo (λ j low high. before j (omega (arith, high))))
    ∙ ap (λ k. filter P (range_with_len k (m + rest))) zero_lo
    ∙ ap (filter P) (range_with_len-add lo m rest)
    ∙ filter-append P (range_with_len lo m) (range_with_len (lo + m) rest)
    ∙ ap (λ xs. filter P (range_with_len lo m) ++ xs) (filter-false P (lo + m) rest (λ j low high. behind j low (omega (arith, high, fits))))
    ∙ append_nil (filter P (range_with_len lo m))
    ∙ ap (λ k. filter P (range_with_len k m)) lo_zero
    ∙ filter-shift P Q lo 0 m (λ j low high. same j (omega (arith, high)))
  where
    append_nil : (xs : List ℕ) → xs ++ [] ≡ xs
    append_nil [] = refl
    append_nil (x ∷ xs) = ap (λ ys. x ∷ ys) (append_nil xs)

-- a position by the stride
position : (line : Line) (a b first step : ℤ) (lo j : ℕ)
    → position_at line ((a *ℤ (first +ℤ (step *ℤ pos (lo + j)))) +ℤ b) ≡ position_at line ((a *ℤ (first +ℤ (step *ℤ pos lo))) +ℤ b) +ℤ ((a *ℤ step) *ℤ pos j)
position line a b first step lo j =
    let split : step *ℤ pos (lo + j) ≡ (step *ℤ pos j) +ℤ (step *ℤ pos lo) =
    *ℤ_comm step (pos (lo + j)) ∙ ap (λ z. z *ℤ step) (let s : pos (lo + j) ≡ pos j +ℤ pos lo = omega (arith, ints) in s) ∙ sum-*ℤ (pos j) (pos lo) step
    ∙ ap (λ z. z +ℤ (pos lo *ℤ step)) (*ℤ_comm (pos j) step) ∙ ap (λ z. (step *ℤ pos j) +ℤ z) (*ℤ_comm (pos lo) step) in
    let low : ℤ = first +ℤ (step *ℤ pos lo) in
    let turn : first +ℤ (step *ℤ pos (lo + j)) ≡ (step *ℤ pos j) +ℤ (first +ℤ (step *ℤ pos lo)) = omega (arith, ints, split) in
    let l : ((a *ℤ step) *ℤ pos j) +ℤ ((a *ℤ (first +ℤ (step *ℤ pos lo))) +ℤ b) ≡ (a *ℤ ((step *ℤ pos j) +ℤ (first +ℤ (step *ℤ pos lo)))) +ℤ b =
    linear_of_linear a b step (first +ℤ (step *ℤ pos lo)) (pos j) in
    ap (λ z. position_at line ((a *ℤ z) +ℤ b)) turn ∙ ap (position_at line) (sym l) ∙ moved ((a *ℤ step) *ℤ pos j) ((a *ℤ (first +ℤ (step *ℤ pos lo))) +ℤ b)
  where
    moved : (x y : ℤ) → position_at line (x +ℤ y) ≡ position_at line y +ℤ x
    moved x y = omega (arith, ints)

pub table : AxisTable
table line own a b first step d n lo m start fits interval begins =
    inside-only (λ x. is_some (offset d (at x)) && agrees_at line own (Some ((a *ℤ at x) +ℤ b)))
    (λ j. coordinate line (unsigned_abs (position_of start (a *ℤ step) j)) == own) n lo m fits
    (λ x before. ap (λ t. t && agrees_at line own (Some ((a *ℤ at x) +ℤ b))) (interval x (omega (arith, before, fits)) ∙ ap (λ t. t && nat_lt x (lo + m)) (lt-leb lo x before)))
    (λ x from below. ap (λ t. t && agrees_at line own (Some ((a *ℤ at x) +ℤ b))) (interval x below ∙ ap (λ t. nat_le lo x && t) (ge-ltb x (lo + m) from) ∙ and_false (nat_le lo x)))
    (λ j below.
    ap (λ t. t && agrees_at line own (Some ((a *ℤ at (lo + j)) +ℤ b)))
    (interval (lo + j) (omega (arith, below, fits)) ∙ ap (λ t. t && nat_lt (lo + j) (lo + m)) (le-leb lo (lo + j) (omega arith)) ∙ lt-ltb (lo + j) (lo + m) (omega (arith, below)))
    ∙ ap (λ z. coordinate line (unsigned_abs z) == own)
    (position line a b first step lo j ∙ ap (λ z. z +ℤ ((a *ℤ step) *ℤ pos j)) (sym (begins (omega (arith, below))))))
  where
    at : ℕ → ℤ
    at x = first +ℤ (step *ℤ pos x)

    and_false : (t : Bool) → (t && false) ≡ false
    and_false true = refl
    and_false false = refl

    ge-ltb : (x y : ℕ) → y ≤ x → nat_lt x y ≡ false
    ge-ltb x y le = by_case (nat_lt x y) refl
      where
        by_case : (t : Bool) → nat_lt x y ≡ t → t ≡ false
        by_case true e = absurd (let h = ltb-true x y e in omega (arith, h, le))
        by_case false e = refl
