-- In bounds between two places.
use Rattle.std.proofs.Common.{◌≡◌, ℕ, suc, ◌*◌, ◌<◌, ◌≤◌, ◌⊎◌, inl, inr, Bool, true, false, if◌then◌else◌, ℤ, pos, negsuc, ◌+ℤ◌, ◌-ℤ◌, ◌*ℤ◌, ◌≤ℤ◌, ◌<ℤ◌, neg_ℤ, nat_lt, Some, None, refl, ap, arith}
use Rattle.std.proofs.lemmas.Bool.{ltb-true, lt-ltb}
use Rattle.std.proofs.lemmas.Int.{ints}
use Rattle.std.proofs.Math.IntN.{pos-*ℤ-pos, negsuc-*ℤ-pos}
use Rattle.std.proofs.Math.Nat.{mul-le-mul_left}
use Rattle.std.specs.Option.{is_some}
use Rattle.expression_rules.specs.declared.dims.Dim.{Dim}
use Rattle.expression_rules.specs.Dims.{extent}
use Rattle.array_meaning.specs.State.{offset, if_below}
use Rattle.courses.specs.AxisTables.{subscript_on}

inside-is : (z : ℤ) (b : ℕ) → is_some (if_below z b) ≡ true → (pos 0 ≤ℤ z) × (z <ℤ pos b)
inside-is (pos n) b e = by_test (nat_lt n b) refl e
  where
    by_test : (t : Bool) → nat_lt n b ≡ t → is_some (if t then Some n else None) ≡ true → (pos 0 ≤ℤ pos n) × (pos n <ℤ pos b)
    by_test true is e = let h = ltb-true n b is in (omega (arith, ints), omega (arith, ints, h))
    by_test false is e = absurd cc
inside-is (negsuc n) b e = absurd cc

is-inside : (z : ℤ) (b : ℕ) → pos 0 ≤ℤ z → z <ℤ pos b → is_some (if_below z b) ≡ true
is-inside (pos n) b low high = let h : n < b = omega (arith, ints, high) in ap (λ t. is_some (if t then Some n else None)) (lt-ltb n b h)
is-inside (negsuc n) b low high = absurd (omega (arith, ints, low))

-- a product with a place lies between those with two others, this way or that way
turns : (step : ℤ) (a k b : ℕ) → a ≤ k → k ≤ b
    → (((step *ℤ pos a) ≤ℤ (step *ℤ pos k)) × ((step *ℤ pos k) ≤ℤ (step *ℤ pos b))) ⊎ (((step *ℤ pos b) ≤ℤ (step *ℤ pos k)) × ((step *ℤ pos k) ≤ℤ (step *ℤ pos a)))
turns (pos s) a k b le le2 =
    let p : pos s *ℤ pos a ≡ pos (s * a) = pos-*ℤ-pos s a in
    let q : pos s *ℤ pos k ≡ pos (s * k) = pos-*ℤ-pos s k in
    let r : pos s *ℤ pos b ≡ pos (s * b) = pos-*ℤ-pos s b in
    let h : s * a ≤ s * k = mul-le-mul_left s le in
    let g : s * k ≤ s * b = mul-le-mul_left s le2 in
    inl (omega (arith, ints, p, q, h), omega (arith, ints, q, r, g))
turns (negsuc s) a k b le le2 =
    let p : negsuc s *ℤ pos a ≡ neg_ℤ (pos (suc s * a)) = negsuc-*ℤ-pos s a in
    let q : negsuc s *ℤ pos k ≡ neg_ℤ (pos (suc s * k)) = negsuc-*ℤ-pos s k in
    let r : negsuc s *ℤ pos b ≡ neg_ℤ (pos (suc s * b)) = negsuc-*ℤ-pos s b in
    let h : suc s * a ≤ suc s * k = mul-le-mul_left (suc s) le in
    let g : suc s * k ≤ suc s * b = mul-le-mul_left (suc s) le2 in
    inr (omega (arith, ints, q, r, g), omega (arith, ints, p, q, h))

pub inside-between : (d : Dim) (first step : ℤ) (a k b : ℕ) → a ≤ k → k ≤ b → is_some (offset d (subscript_on first step a)) ≡ true
    → is_some (offset d (subscript_on first step b)) ≡ true → is_some (offset d (subscript_on first step k)) ≡ true
inside-between d first step a k b le le2 ea eb =
    let x : ℤ = step *ℤ pos a in
    let n = extent d in
    let ha = inside-is ((first +ℤ (step *ℤ pos a)) -ℤ d.lower) n ea in
    let hb = inside-is ((first +ℤ (step *ℤ pos b)) -ℤ d.lower) n eb in
    by_turn (step *ℤ pos a) (step *ℤ pos k) (step *ℤ pos b) n ha.0 ha.1 hb.0 hb.1 (turns step a k b le le2)
  where
    by_turn : (x y z : ℤ) (n : ℕ) → pos 0 ≤ℤ ((first +ℤ x) -ℤ d.lower) → ((first +ℤ x) -ℤ d.lower) <ℤ pos n → pos 0 ≤ℤ ((first +ℤ z) -ℤ d.lower)
        → ((first +ℤ z) -ℤ d.lower) <ℤ pos n → ((x ≤ℤ y) × (y ≤ℤ z)) ⊎ ((z ≤ℤ y) × (y ≤ℤ x)) → is_some (if_below ((first +ℤ y) -ℤ d.lower) n) ≡ true
    by_turn x y z n xa xb za zb (inl h) =
        let g = h.0 in let f = h.1 in is-inside ((first +ℤ y) -ℤ d.lower) n (omega (arith, ints, xa, g)) (omega (arith, ints, zb, f))
    by_turn x y z n xa xb za zb (inr h) =
        let g = h.0 in let f = h.1 in is-inside ((first +ℤ y) -ℤ d.lower) n (omega (arith, ints, za, g)) (omega (arith, ints, xb, f))
