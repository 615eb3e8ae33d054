-- The places at which a subscript is in the bounds of a dimension.
use Rattle.std.proofs.Common.{◌≡◌, ℕ, suc, ◌*◌, ◌<◌, ◌≤◌, ◌&&◌, true, nat_le, nat_lt, if◌then◌else◌, ℤ, pos, negsuc, neg_ℤ, ◌+ℤ◌, ◌-ℤ◌, ◌*ℤ◌, ◌≤ℤ◌, ◌<ℤ◌, unsigned_abs, Some, None, refl, sym, ◌∙◌, ap, arith}
use Rattle.std.proofs.lemmas.Bool.{lt-ltb}
use Rattle.std.proofs.lemmas.Int.{ints}
use Rattle.std.proofs.Math.IntN.{negsuc-*ℤ-pos, pos-*ℤ-pos}
use Rattle.std.specs.Option.{is_some}
use Rattle.mappings.proofs.Sections.{same_test}
use Rattle.gap_table.proofs.Spans.{between_holds, between_true}
use Rattle.expression_rules.specs.declared.dims.Dim.{Dim}
use Rattle.expression_rules.specs.Dims.{at_least_none, extent}
use Rattle.array_meaning.specs.State.{if_below, offset}
use Rattle.courses.specs.AxisTables.{subscript_on}
use Rattle.owned_places.proofs.Entries.{bounds-place}

least-le : (z : ℤ) (n : ℕ) → z ≤ℤ pos n → at_least_none z ≤ n
least-le (pos m) n h = omega (arith, ints, h)
least-le (negsuc m) n h = omega arith

le-least : (z : ℤ) (n : ℕ) → at_least_none z ≤ n → z ≤ℤ pos n
le-least (pos m) n h = omega (arith, ints, h)
le-least (negsuc m) n h = omega (arith, ints)

lt-least : (z : ℤ) (n : ℕ) → pos n <ℤ z → n < at_least_none z
lt-least (pos m) n h = omega (arith, ints, h)
lt-least (negsuc m) n h = absurd (omega (arith, ints, h))

least-lt : (z : ℤ) (n : ℕ) → n < at_least_none z → pos n <ℤ z
least-lt (pos m) n h = omega (arith, ints, h)
least-lt (negsuc m) n h = absurd (omega (arith, h))

pub in-bounds : (d : Dim) (i : ℤ) → is_some (offset d i) ≡ true → (d.lower ≤ℤ i) × (i ≤ℤ d.upper)
in-bounds d i held =
    let place = bounds-place d i held in
    let below : pos place.0 <ℤ (d.upper -ℤ d.lower +ℤ pos 1) = least-lt (d.upper -ℤ d.lower +ℤ pos 1) place.0 place.1 in
    let at : i ≡ d.lower +ℤ pos place.0 = place.2 in
    (omega (arith, ints, at), omega (arith, ints, at, below))

bounds-hold : (d : Dim) (i : ℤ) → d.lower ≤ℤ i → i ≤ℤ d.upper → is_some (offset d i) ≡ true
bounds-hold d i low high = by_sign (i -ℤ d.lower) refl
  where
    by_sign : (z : ℤ) → i -ℤ d.lower ≡ z → is_some (if_below z (extent d)) ≡ true
    by_sign (pos n) is =
        let h : pos n <ℤ (d.upper -ℤ d.lower +ℤ pos 1) = omega (arith, ints, is, high) in
        ap (λ t. is_some (if t then Some n else None)) (lt-ltb n (extent d) (lt-least (d.upper -ℤ d.lower +ℤ pos 1) n h))
    by_sign (negsuc n) is = absurd (omega (arith, ints, is, low))

-- a subscript that rises
rising : (d : Dim) (first : ℤ) (a x : ℕ) → is_some (offset d (subscript_on first (pos a) x))
    ≡ (nat_le (at_least_none (d.lower -ℤ first)) (x * a) && nat_lt (x * a) (at_least_none ((d.upper -ℤ first) +ℤ pos 1)))
rising d first a x = same_test _ _ forth back
  where
    at : first +ℤ (pos a *ℤ pos x) ≡ first +ℤ pos (x * a)
    at = ap (λ z. first +ℤ z) (pos-*ℤ-pos a x ∙ (let turned : a * x ≡ x * a = omega arith in ap pos turned))

    forth : is_some (offset d (subscript_on first (pos a) x)) ≡ true
        → (nat_le (at_least_none (d.lower -ℤ first)) (x * a) && nat_lt (x * a) (at_least_none ((d.upper -ℤ first) +ℤ pos 1))) ≡ true
    forth held =
        let bounds = in-bounds d (first +ℤ pos (x * a)) (ap (λ z. is_some (offset d z)) (sym at) ∙ held) in
        let low : d.lower ≤ℤ (first +ℤ pos (x * a)) = bounds.0 in
        let high : (first +ℤ pos (x * a)) ≤ℤ d.upper = bounds.1 in
        between_holds _ _ (x * a) (least-le (d.lower -ℤ first) (x * a) (omega (arith, ints, low))) (lt-least ((d.upper -ℤ first) +ℤ pos 1) (x * a) (omega (arith, ints, high)))

    back : (nat_le (at_least_none (d.lower -ℤ first)) (x * a) && nat_lt (x * a) (at_least_none ((d.upper -ℤ first) +ℤ pos 1))) ≡ true
        → is_some (offset d (subscript_on first (pos a) x)) ≡ true
    back held =
        let w = between_true _ _ (x * a) held in
        let low : (d.lower -ℤ first) ≤ℤ pos (x * a) = le-least (d.lower -ℤ first) (x * a) w.0 in
        let high : pos (x * a) <ℤ ((d.upper -ℤ first) +ℤ pos 1) = least-lt ((d.upper -ℤ first) +ℤ pos 1) (x * a) w.1 in
        ap (λ z. is_some (offset d z)) at ∙ bounds-hold d (first +ℤ pos (x * a)) (omega (arith, ints, low)) (omega (arith, ints, high))

-- one that falls
falling : (d : Dim) (first : ℤ) (a x : ℕ) → is_some (offset d (subscript_on first (negsuc a) x))
    ≡ (nat_le (at_least_none (first -ℤ d.upper)) (x * suc a) && nat_lt (x * suc a) (at_least_none ((first -ℤ d.lower) +ℤ pos 1)))
falling d first a x = same_test _ _ forth back
  where
    at : first +ℤ (negsuc a *ℤ pos x) ≡ first -ℤ pos (x * suc a)
    at =
        let turned : suc a * x ≡ x * suc a = omega arith in
        ap (λ z. first +ℤ z) (negsuc-*ℤ-pos a x ∙ ap (λ n. neg_ℤ (pos n)) turned) ∙ (let same : first +ℤ neg_ℤ (pos (x * suc a)) ≡ first -ℤ pos (x * suc a) = omega (arith, ints) in same)

    forth : is_some (offset d (subscript_on first (negsuc a) x)) ≡ true
        → (nat_le (at_least_none (first -ℤ d.upper)) (x * suc a) && nat_lt (x * suc a) (at_least_none ((first -ℤ d.lower) +ℤ pos 1))) ≡ true
    forth held =
        let bounds = in-bounds d (first -ℤ pos (x * suc a)) (ap (λ z. is_some (offset d z)) (sym at) ∙ held) in
        let low : d.lower ≤ℤ (first -ℤ pos (x * suc a)) = bounds.0 in
        let high : (first -ℤ pos (x * suc a)) ≤ℤ d.upper = bounds.1 in
        between_holds _ _ (x * suc a) (least-le (first -ℤ d.upper) (x * suc a) (omega (arith, ints, high)))
        (lt-least ((first -ℤ d.lower) +ℤ pos 1) (x * suc a) (omega (arith, ints, low)))

    back : (nat_le (at_least_none (first -ℤ d.upper)) (x * suc a) && nat_lt (x * suc a) (at_least_none ((first -ℤ d.lower) +ℤ pos 1))) ≡ true
        → is_some (offset d (subscript_on first (negsuc a) x)) ≡ true
    back held =
        let w = between_true _ _ (x * suc a) held in
        let high : (first -ℤ d.upper) ≤ℤ pos (x * suc a) = le-least (first -ℤ d.upper) (x * suc a) w.0 in
        let low : pos (x * suc a) <ℤ ((first -ℤ d.lower) +ℤ pos 1) = least-lt ((first -ℤ d.lower) +ℤ pos 1) (x * suc a) w.1 in
        ap (λ z. is_some (offset d z)) at ∙ bounds-hold d (first -ℤ pos (x * suc a)) (omega (arith, ints, low)) (omega (arith, ints, high))

pub span-rising : (d : Dim) (first step : ℤ) (near far size x begin end : ℕ) → pos 0 <ℤ step → size ≡ unsigned_abs step
    → near ≡ at_least_none (d.lower -ℤ first) → far ≡ at_least_none ((d.upper -ℤ first) +ℤ pos 1)
    → (nat_le near (x * size) && nat_lt (x * size) far) ≡ (nat_le begin x && nat_lt x end)
    → is_some (offset d (subscript_on first step x)) ≡ (nat_le begin x && nat_lt x end)
span-rising d first (negsuc a) near far size x begin end up size-is near-is far-is same = absurd (omega (arith, ints, up))
span-rising d first (pos a) near far size x begin end up size-is near-is far-is same =
    rising d first a x ∙ (λ i. nat_le (sym near-is i) (x * sym size-is i) && nat_lt (x * sym size-is i) (sym far-is i)) ∙ same

pub span-falling : (d : Dim) (first step : ℤ) (near far size x begin end : ℕ) → step <ℤ pos 0 → size ≡ unsigned_abs step
    → near ≡ at_least_none (first -ℤ d.upper) → far ≡ at_least_none ((first -ℤ d.lower) +ℤ pos 1)
    → (nat_le near (x * size) && nat_lt (x * size) far) ≡ (nat_le begin x && nat_lt x end)
    → is_some (offset d (subscript_on first step x)) ≡ (nat_le begin x && nat_lt x end)
span-falling d first (pos a) near far size x begin end down size-is near-is far-is same = absurd (omega (arith, ints, down))
span-falling d first (negsuc a) near far size x begin end down size-is near-is far-is same =
    falling d first a x ∙ (λ i. nat_le (sym near-is i) (x * sym size-is i) && nat_lt (x * sym size-is i) (sym far-is i)) ∙ same
