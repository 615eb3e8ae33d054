-- Subscripts that are in bounds at both ends of their axes are in bounds at all positions, and name an element there.
use Rattle.std.proofs.Common.{◌≡◌, ℕ, zero, suc, ◌*◌, ◌<◌, ◌≤◌, ◌⊎◌, Bool, true, false, if◌then◌else◌, nat_le, nat_lt, int_le, int_lt, unsigned_abs, ℤ, pos, negsuc, ◌+ℤ◌, ◌-ℤ◌, ◌*ℤ◌, ◌≤ℤ◌, ◌<ℤ◌, neg_ℤ, List, [], ◌∷◌, length, map, get_or, Option, option_map, Some, None, refl, sym, ◌∙◌, ap, subst, arith, inl, inr}
use Rattle.std.proofs.Math.IntN.{pos-*ℤ-pos, negsuc-*ℤ-pos}
use Rattle.std.proofs.Math.Nat.{mul-le-mul_left}
use Rattle.std.proofs.lemmas.Bool.{and_parts, false≢true, leb-true, ltb-true}
use Rattle.std.proofs.lemmas.Int.{ints}
use Rattle.std.proofs.lemmas.List.{get_or-map}
use Rattle.mappings.specs.declared.mapping.AlignDim.{AlignDim}
use Rattle.mappings.specs.declared.mapping.AlignDim.TheVariants.{Linear, At, Every}
use Rattle.mappings.specs.Alignment.{aligned}
use Rattle.hpf_base.specs.ElementOrder.{index_at}
use Rattle.hpf_base.proofs.Elements.{places_of}
use Rattle.hpf_base.proofs.Places.{IsPlace}
use Rattle.aligned_copies.specs.Beside.{are_inside, is_in, is_inside, settled, subscript_by}
use lib.Dec.{T}
use lib.Signed.{le_z_yes, lt_z_yes}

pub in-bounds : (lower extent i : ℤ) → is_in lower extent i ≡ true → (lower ≤ℤ i) × (i <ℤ (lower +ℤ extent))
in-bounds lower extent i h =
    let p = and_parts (int_le lower i) (int_lt i (lower +ℤ extent)) h in
    (le_z_yes (subst T (sym p.0) tt), lt_z_yes (subst T (sym p.1) tt))

-- a product with a number lies between those with two others, this way or that way
turns : (step : ℤ) (a k b : ℕ) → a ≤ k → k ≤ b
    → (((step *ℤ pos a) ≤ℤ (step *ℤ pos k)) × ((step *ℤ pos k) ≤ℤ (step *ℤ pos b))) ⊎ (((step *ℤ pos b) ≤ℤ (step *ℤ pos k)) × ((step *ℤ pos k) ≤ℤ (step *ℤ pos a)))
turns (pos s) a k b le le2 =
    let p : pos s *ℤ pos a ≡ pos (s * a) = pos-*ℤ-pos s a in
    let q : pos s *ℤ pos k ≡ pos (s * k) = pos-*ℤ-pos s k in
    let r : pos s *ℤ pos b ≡ pos (s * b) = pos-*ℤ-pos s b in
    let h : s * a ≤ s * k = mul-le-mul_left s le in
    let g : s * k ≤ s * b = mul-le-mul_left s le2 in
    inl (omega (arith, ints, p, q, h), omega (arith, ints, q, r, g))
turns (negsuc s) a k b le le2 =
    let p : negsuc s *ℤ pos a ≡ neg_ℤ (pos (suc s * a)) = negsuc-*ℤ-pos s a in
    let q : negsuc s *ℤ pos k ≡ neg_ℤ (pos (suc s * k)) = negsuc-*ℤ-pos s k in
    let r : negsuc s *ℤ pos b ≡ neg_ℤ (pos (suc s * b)) = negsuc-*ℤ-pos s b in
    let h : suc s * a ≤ suc s * k = mul-le-mul_left (suc s) le in
    let g : suc s * k ≤ suc s * b = mul-le-mul_left (suc s) le2 in
    inr (omega (arith, ints, q, r, g), omega (arith, ints, p, q, h))

pub between : (lower high a b : ℤ) (n p : ℕ) → 1 ≤ p → p ≤ n → lower ≤ℤ ((a *ℤ pos 1) +ℤ b) → ((a *ℤ pos 1) +ℤ b) <ℤ high
    → lower ≤ℤ ((a *ℤ pos n) +ℤ b) → ((a *ℤ pos n) +ℤ b) <ℤ high → (lower ≤ℤ ((a *ℤ pos p) +ℤ b)) × (((a *ℤ pos p) +ℤ b) <ℤ high)
between lower high a b n p from to l1 h1 ln hn = by_turn (a *ℤ pos 1) (a *ℤ pos p) (a *ℤ pos n) l1 h1 ln hn (turns a 1 p n from to)
  where
    by_turn : (x y z : ℤ) → lower ≤ℤ (x +ℤ b) → (x +ℤ b) <ℤ high → lower ≤ℤ (z +ℤ b) → (z +ℤ b) <ℤ high
        → ((x ≤ℤ y) × (y ≤ℤ z)) ⊎ ((z ≤ℤ y) × (y ≤ℤ x)) → (lower ≤ℤ (y +ℤ b)) × ((y +ℤ b) <ℤ high)
    by_turn x y z xa xb za zb (inl h) = let p = h.0 in let q = h.1 in (omega (arith, ints, p, xa), omega (arith, ints, q, zb))
    by_turn x y z xa xb za zb (inr h) = let p = h.0 in let q = h.1 in (omega (arith, ints, p, za), omega (arith, ints, q, xb))

-- the positions of a tuple of a space of these extents
pub record ArePositions (ns : List ℕ) (ps : List ℤ) : Type 0 where
  pub rank : length ps ≡ length ns
  pub each : (k : ℕ) → k < length ns → (q : ℕ) × (1 ≤ q) × (q ≤ get_or ns k 0) × (get_or ps k (pos 0) ≡ pos q)

module _ (ns : List ℕ) (ps : List ℤ) (are : ArePositions ns ps) where
  subscript-inside : (lower extent : ℤ) (x : AlignDim) → is_inside ns lower extent x ≡ true
      → (lower ≤ℤ subscript_by ps x) × (subscript_by ps x <ℤ (lower +ℤ extent))
  subscript-inside lower extent (Linear axis a b) h =
      let p = and_parts (nat_lt axis (length ns)) _ h in
      let ends = and_parts (is_in lower extent ((a *ℤ pos 1) +ℤ b)) (is_in lower extent ((a *ℤ pos (get_or ns axis 0)) +ℤ b)) p.1 in
      let one = in-bounds lower extent _ ends.0 in
      let last = in-bounds lower extent _ ends.1 in
      let q = are.each axis (ltb-true axis (length ns) p.0) in
      subst (λ i. (lower ≤ℤ ((a *ℤ i) +ℤ b)) × (((a *ℤ i) +ℤ b) <ℤ (lower +ℤ extent))) (sym q.3)
      (between lower (lower +ℤ extent) a b (get_or ns axis 0) q.0 q.1 q.2 one.0 one.1 last.0 last.1)
  subscript-inside lower extent (At v) h = in-bounds lower extent v h
  subscript-inside lower extent Every h = absurd (false≢true h)

  moved : (n q : ℕ) (axis : ℕ) (a b i : ℤ) (given : Option ℤ) → 1 ≤ q → q ≤ n → i ≡ pos q → given ≡ Some i → (t : Bool) → nat_le n 1 ≡ t
      → (subs : List (Option ℤ)) → get_or subs axis None ≡ given
      → aligned (if t then At ((a *ℤ pos 1) +ℤ b) else Linear axis a b) subs ≡ Some ((a *ℤ i) +ℤ b)
  moved n q axis a b i given from to is given-is true e subs at =
      let least : n ≤ 1 = leb-true n 1 e in
      let one : q ≡ 1 = omega (arith, from, to, least) in
      ap (λ j. Some ((a *ℤ j) +ℤ b)) (ap pos (sym one) ∙ sym is)
  moved n q axis a b i given from to is given-is false e subs at = ap (option_map (λ j. (a *ℤ j) +ℤ b)) (at ∙ given-is)

  pub subscript-aligned : (lower extent : ℤ) (x : AlignDim) → is_inside ns lower extent x ≡ true → aligned (settled ns x) (map Some ps) ≡ Some (subscript_by ps x)
  subscript-aligned lower extent (Linear axis a b) h =
      let p = and_parts (nat_lt axis (length ns)) _ h in
      let lt : axis < length ns = ltb-true axis (length ns) p.0 in
      let q = are.each axis lt in
      let there : axis < length ps = omega (arith, lt, are.rank) in
      moved (get_or ns axis 0) q.0 axis a b (get_or ps axis (pos 0)) (Some (get_or ps axis (pos 0))) q.1 q.2 q.3 refl (nat_le (get_or ns axis 0) 1) refl (map Some ps)
      (get_or-map Some ps axis (pos 0) None there)
  subscript-aligned lower extent (At v) h = refl
  subscript-aligned lower extent Every h = absurd (false≢true h)

  abbrev subscripts : List AlignDim → List ℤ
  subscripts xs = map (subscript_by ps) xs

  pub all-aligned : (ls es : List ℤ) (xs : List AlignDim) → are_inside ns ls es xs ≡ true
      → map (λ x. aligned x (map Some ps)) (map (settled ns) xs) ≡ map Some (subscripts xs)
  all-aligned [] [] [] h = refl
  all-aligned [] [] (x ∷ xs) h = absurd (false≢true h)
  all-aligned [] (e ∷ es) xs h = absurd (false≢true h)
  all-aligned (l ∷ ls) [] xs h = absurd (false≢true h)
  all-aligned (l ∷ ls) (e ∷ es) [] h = absurd (false≢true h)
  all-aligned (l ∷ ls) (e ∷ es) (x ∷ xs) h =
      let p = and_parts (is_inside ns l e x) (are_inside ns ls es xs) h in
      ap (λ s. s ∷ map (λ x. aligned x (map Some ps)) (map (settled ns) xs)) (subscript-aligned l e x p.0)
      ∙ ap (λ ss. Some (subscript_by ps x) ∷ ss) (all-aligned ls es xs p.1)

  -- ---- the element

  within : (lower extent i : ℤ) → lower ≤ℤ i → i <ℤ (lower +ℤ extent) → unsigned_abs (i -ℤ lower) < unsigned_abs extent
  within lower (pos e) i from before = distance (i -ℤ lower) (omega (arith, ints, from)) (omega (arith, ints, before))
    where
      distance : (z : ℤ) → pos 0 ≤ℤ z → z <ℤ pos e → unsigned_abs z < e
      distance (pos n) low high = omega (arith, ints, low, high)
      distance (negsuc n) low high = absurd (omega (arith, ints, low))
  within lower (negsuc e) i from before = absurd (omega (arith, ints, from, before))

  back : (lower i : ℤ) → lower ≤ℤ i → lower +ℤ pos (unsigned_abs (i -ℤ lower)) ≡ i
  back lower i from = by_sign (i -ℤ lower) refl (omega (arith, ints, from))
    where
      by_sign : (z : ℤ) → i -ℤ lower ≡ z → pos 0 ≤ℤ z → lower +ℤ pos (unsigned_abs z) ≡ i
      by_sign (pos n) is low = omega (arith, ints, is)
      by_sign (negsuc n) is low = absurd (omega (arith, ints, low))

  place-more : (e : ℕ) (es : List ℕ) (q : ℕ) (qs : List ℕ) → q < e → IsPlace es qs → IsPlace (e ∷ es) (q ∷ qs)
  place-more e es q qs lt is = record { rank = ap suc is.rank; below = here }
    where
      here : (k : ℕ) → k < length (e ∷ es) → get_or (q ∷ qs) k 0 < get_or (e ∷ es) k 0
      here zero h = lt
      here (suc k) h = is.below k (omega (arith, h))

  pub element-place : (ls es : List ℤ) (xs : List AlignDim) → are_inside ns ls es xs ≡ true
      → IsPlace (map unsigned_abs es) (places_of ls (subscripts xs)) × (index_at ls (places_of ls (subscripts xs)) ≡ subscripts xs)
  element-place [] [] [] h = (record { rank = refl; below = λ k lt. absurd (omega (arith, lt)) }, refl)
  element-place [] [] (x ∷ xs) h = absurd (false≢true h)
  element-place [] (e ∷ es) xs h = absurd (false≢true h)
  element-place (l ∷ ls) [] xs h = absurd (false≢true h)
  element-place (l ∷ ls) (e ∷ es) [] h = absurd (false≢true h)
  element-place (l ∷ ls) (e ∷ es) (x ∷ xs) h =
      let p = and_parts (is_inside ns l e x) (are_inside ns ls es xs) h in
      let i = subscript-inside l e x p.0 in
      let rest = element-place ls es xs p.1 in (
        place-more (unsigned_abs e) (map unsigned_abs es) (unsigned_abs (subscript_by ps x -ℤ l)) (places_of ls (subscripts xs)) (within l e (subscript_by ps x) i.0 i.1) rest.0,
        ap (λ j. j ∷ index_at ls (places_of ls (subscripts xs))) (back l (subscript_by ps x) i.0) ∙ ap (λ js. subscript_by ps x ∷ js) rest.1,
      )
