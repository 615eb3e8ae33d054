-- The n-th tuple of places in array-element order, and the number of a tuple.
use Rattle.std.proofs.Common.{◌≡◌, ℕ, zero, suc, ◌+◌, ◌*◌, ◌/◌, ◌%◌, ◌<◌, List, [], ◌∷◌, ◌++◌, refl, sym, ◌∙◌, ap, arith, length, map, get_or, drop}
use Rattle.std.proofs.Math.Nat.{mul-suc, mul-zero, mul_comm}
use Rattle.std.proofs.lemmas.List.{append-nil, drop_more, map-append}
use Rattle.std.proofs.lemmas.List.Concat.{flat_map-append}
use Rattle.std.proofs.lemmas.List.FromFn.{get_or-map-range_with_len}
use Rattle.std.proofs.lemmas.Nat.{mul-add-lt, div-mul-add, mod-mul-add}
use Rattle.std.specs.List.{flat_map, range_with_len}
use Rattle.hpf_base.specs.ElementOrder.{places, product}
use Rattle.hpf_base.proofs.Ranges.{map-range_agree, range_with_len-add}

-- the n-th tuple
abbrev pub place_at : List ℕ → ℕ → List ℕ
place_at [] n = []
place_at (extent ∷ extents) n = n % extent ∷ place_at extents (n / extent)

flat_map-agree : {X Y : Type 0} (f g : X → List Y) → ((x : X) → f x ≡ g x) → (xs : List X) → flat_map f xs ≡ flat_map g xs
flat_map-agree f g same [] = refl
flat_map-agree f g same (x ∷ xs) = ap (λ ys. ys ++ flat_map f xs) (same x) ∙ ap (λ ys. g x ++ ys) (flat_map-agree f g same xs)

flat_map-map : {X Y Z : Type 0} (f : Y → List Z) (h : X → Y) (xs : List X) → flat_map f (map h xs) ≡ flat_map (λ x. f (h x)) xs
flat_map-map f h [] = refl
flat_map-map f h (x ∷ xs) = ap (λ zs. f (h x) ++ zs) (flat_map-map f h xs)

map-range_from : {X : Type 0} (f : ℕ → X) (b a n : ℕ) → map f (range_with_len (b + a) n) ≡ map (λ r. f (b + r)) (range_with_len a n)
map-range_from f b a zero = refl
map-range_from f b a (suc n) =
    let next : b + a + 1 ≡ b + (a + 1) = omega arith in
    ap (λ from. f (b + a) ∷ map f (range_with_len from n)) next ∙ ap (λ ys. f (b + a) ∷ ys) (map-range_from f b (a + 1) n)

-- the numbers below a product, row by row
range-rows : {X : Type 0} (f : ℕ → X) (width height : ℕ)
    → map f (range_with_len 0 (width * height)) ≡ flat_map (λ row. map (λ r. f (row * width + r)) (range_with_len 0 width)) (range_with_len 0 height)
range-rows f width zero = ap (λ n. map f (range_with_len 0 n)) (mul-zero width)
range-rows f width (suc height) =
    let size : width * suc height ≡ height * width + width = omega (arith, mul-suc width height, mul_comm width height) in
    let row : 0 + height * width ≡ height * width + 0 = omega arith in
    let one : suc height ≡ height + 1 = omega arith in
    let last : 0 + height ≡ height = omega arith in
    let rows = λ (row : ℕ). map (λ r. f (row * width + r)) (range_with_len 0 width) in
    let front : map f (range_with_len 0 (height * width)) ≡ flat_map rows (range_with_len 0 height) =
    ap (λ n. map f (range_with_len 0 n)) (mul_comm height width) ∙ range-rows f width height in
    let back : map f (range_with_len (0 + height * width) width) ≡ rows height =
    ap (λ from. map f (range_with_len from width)) row ∙ map-range_from f (height * width) 0 width in
    let whole : flat_map rows (range_with_len 0 (suc height)) ≡ flat_map rows (range_with_len 0 height) ++ rows height =
    ap (λ n. flat_map rows (range_with_len 0 n)) one ∙ ap (flat_map rows) (range_with_len-add 0 height 1)
    ∙ flat_map-append rows (range_with_len 0 height) ((0 + height) ∷ [])
    ∙ ap (λ ys. flat_map rows (range_with_len 0 height) ++ ys) (append-nil (rows (0 + height)) ∙ ap rows last) in
    ap (λ n. map f (range_with_len 0 n)) size ∙ ap (map f) (range_with_len-add 0 (height * width) width)
    ∙ map-append f (range_with_len 0 (height * width)) (range_with_len (0 + height * width) width)
    ∙ ap (λ xs. xs ++ map f (range_with_len (0 + height * width) width)) front
    ∙ ap (λ ys. flat_map rows (range_with_len 0 height) ++ ys) back ∙ sym whole

-- the tuples in array-element order are the n-th ones for n from 0
pub places-by_number : (extents : List ℕ) → places extents ≡ map (place_at extents) (range_with_len 0 (product extents))
places-by_number [] = refl
places-by_number (extent ∷ extents) =
    let row = λ (rest : List ℕ). map (λ place. place ∷ rest) (range_with_len 0 extent) in
    let same : (q : ℕ) → row (place_at extents q) ≡ map (λ r. place_at (extent ∷ extents) (q * extent + r)) (range_with_len 0 extent) =
    λ q. map-range_agree (λ place. place ∷ place_at extents q) (λ r. place_at (extent ∷ extents) (q * extent + r)) 0 extent
    (λ r from below.
    ap (λ place. place ∷ place_at extents q) (sym (mod-mul-add q extent r (omega arith)))
    ∙ ap (λ n. (q * extent + r) % extent ∷ place_at extents n) (sym (div-mul-add q extent r (omega arith)))) in
    ap (flat_map row) (places-by_number extents)
    ∙ flat_map-map row (place_at extents) (range_with_len 0 (product extents))
    ∙ flat_map-agree (λ q. row (place_at extents q)) (λ q. map (λ r. place_at (extent ∷ extents) (q * extent + r)) (range_with_len 0 extent)) same
    (range_with_len 0 (product extents))
    ∙ sym (range-rows (place_at (extent ∷ extents)) extent (product extents))

-- one place for each extent, and below it
pub record IsPlace (extents place : List ℕ) : Type 0 where
  pub rank : length place ≡ length extents
  pub below : (k : ℕ) → k < length extents → get_or place k 0 < get_or extents k 0

-- the number of a tuple
abbrev pub number_of : List ℕ → List ℕ → ℕ
number_of [] place = 0
number_of (extent ∷ extents) [] = 0
number_of (extent ∷ extents) (p ∷ ps) = number_of extents ps * extent + p

IsPlace-rest : (extent : ℕ) (extents : List ℕ) (p : ℕ) (ps : List ℕ) → IsPlace (extent ∷ extents) (p ∷ ps) → IsPlace extents ps
IsPlace-rest extent extents p ps is = record {
  rank = omega (arith, is.rank);
  below = λ k inside. is.below (suc k) (omega arith);
}

pub number_of-below : (extents place : List ℕ) → IsPlace extents place → number_of extents place < product extents
number_of-below [] place is = omega arith
number_of-below (extent ∷ extents) [] is = absurd (omega (arith, is.rank))
number_of-below (extent ∷ extents) (p ∷ ps) is =
    mul-add-lt (number_of extents ps) extent p (product extents) (number_of-below extents ps (IsPlace-rest extent extents p ps is))
    (is.below 0 (omega arith))

pub place_at-number_of : (extents place : List ℕ) → IsPlace extents place → place_at extents (number_of extents place) ≡ place
place_at-number_of [] [] is = refl
place_at-number_of [] (p ∷ ps) is = absurd (omega (arith, is.rank))
place_at-number_of (extent ∷ extents) [] is = absurd (omega (arith, is.rank))
place_at-number_of (extent ∷ extents) (p ∷ ps) is =
    let n = number_of extents ps in
    let first : p < extent = is.below 0 (omega arith) in
    ap (λ q. q ∷ place_at extents ((n * extent + p) / extent)) (mod-mul-add n extent p first)
    ∙ ap (λ m. p ∷ place_at extents m) (div-mul-add n extent p first)
    ∙ ap (λ qs. p ∷ qs) (place_at-number_of extents ps (IsPlace-rest extent extents p ps is))

pub length-place_at : (extents : List ℕ) (n : ℕ) → length (place_at extents n) ≡ length extents
length-place_at [] n = refl
length-place_at (extent ∷ extents) n = ap suc (length-place_at extents (n / extent))

-- the n-th tuple of the list
pub places-get : (extents : List ℕ) (n : ℕ) (d : List ℕ) → n < product extents → get_or (places extents) n d ≡ place_at extents n
places-get extents n d below =
    ap (λ list. get_or list n d) (places-by_number extents) ∙ get_or-map-range_with_len (place_at extents) 0 (product extents) n n d below (omega arith)

-- the next place of the n-th tuple, by what is left of the number
pub place_at-next : (extents : List ℕ) (n rest i : ℕ) → i < length extents → place_at (drop i extents) rest ≡ drop i (place_at extents n)
    → (rest % get_or extents i 0 ≡ get_or (place_at extents n) i 0)
    × (place_at (drop (i + 1) extents) (rest / get_or extents i 0) ≡ drop (i + 1) (place_at extents n))
place_at-next extents n rest i inside so_far =
    let place = place_at extents n in
    let within : i < length place = omega (arith, length-place_at extents n) in
    let split : get_or extents i 0 ∷ drop (i + 1) extents ≡ drop i extents = sym (drop_more extents i 0 inside) in
    let both : rest % get_or extents i 0 ∷ place_at (drop (i + 1) extents) (rest / get_or extents i 0) ≡ get_or place i 0 ∷ drop (i + 1) place =
    ap (λ es. place_at es rest) split ∙ so_far ∙ drop_more place i 0 within in
    (cc, cc)
