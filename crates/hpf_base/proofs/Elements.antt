-- The elements of an array: each index inside the bounds once, and which one stands where.
use Rattle.std.proofs.Common.{◌≡◌, ◌≢◌, ℕ, zero, suc, ◌+◌, ◌*◌, ◌/◌, ◌%◌, ◌<◌, ◌≤◌, ℤ, pos, negsuc, ◌+ℤ◌, ◌-ℤ◌, ◌≤ℤ◌, ◌<ℤ◌, unsigned_abs, Bool, true, false, cond, List, [], ◌∷◌, refl, sym, ◌∙◌, ap, subst, arith, length, get_or, filter, All, AllPairs, Contains}
use Rattle.std.proofs.Math.Nat.{mul_comm}
use Rattle.std.proofs.lemmas.Int.{ints}
use Rattle.std.proofs.lemmas.List.{get_or-map, length-map}
use Rattle.std.proofs.lemmas.List.Elements.{All-filter}
use Rattle.std.proofs.lemmas.List.FromFn.{length-map-range_with_len}
use Rattle.std.proofs.lemmas.Nat.{div-add-mod', div_below}
use Rattle.hpf_base.specs.declared.index.Shape.{Shape}
use Rattle.hpf_base.specs.ElementOrder.{elements, extents_of, index_at, IsInside, places, product}
use Rattle.hpf_base.specs.Shape.{IsShape}
use Rattle.hpf_base.proofs.ElementOrder.{factor_some}
use Rattle.hpf_base.proofs.Places.{IsPlace, length-place_at, number_of, number_of-below, place_at, place_at-number_of, places-by_number, places-get}

pub length-elements : (shape : Shape) → length (elements shape) ≡ product (extents_of shape)
length-elements shape =
    length-map (places (extents_of shape)) (index_at shape.lower) ∙ ap length (places-by_number (extents_of shape))
    ∙ length-map-range_with_len (place_at (extents_of shape)) 0 (product (extents_of shape))

-- the n-th element
pub elements-get : (shape : Shape) (n : ℕ) (d : List ℤ) → n < product (extents_of shape)
    → get_or (elements shape) n d ≡ index_at shape.lower (place_at (extents_of shape) n)
elements-get shape n d below =
    let count : length (places (extents_of shape)) ≡ product (extents_of shape) =
    ap length (places-by_number (extents_of shape)) ∙ length-map-range_with_len (place_at (extents_of shape)) 0 (product (extents_of shape)) in
    get_or-map (index_at shape.lower) (places (extents_of shape)) n [] d (omega (arith, count, below))
    ∙ ap (index_at shape.lower) (places-get (extents_of shape) n [] below)

number_of-place_at : (extents : List ℕ) (n : ℕ) → n < product extents → number_of extents (place_at extents n) ≡ n
number_of-place_at [] n below = omega arith
number_of-place_at (extent ∷ extents) n below =
    let some : 1 ≤ extent = factor_some (product extents) extent (omega (arith, below, mul_comm extent (product extents))) in
    let row : n / extent < product extents = div_below n extent (product extents) some (omega (arith, below, mul_comm extent (product extents))) in
    ap (λ m. m * extent + n % extent) (number_of-place_at extents (n / extent) row) ∙ div-add-mod' n extent

-- the places of subscripts
abbrev pub places_of : List ℤ → List ℤ → List ℕ
places_of [] index = []
places_of (lower ∷ lowers) [] = []
places_of (lower ∷ lowers) (i ∷ is) = unsigned_abs (i -ℤ lower) ∷ places_of lowers is

place_back : (lower : ℤ) (p : ℕ) → unsigned_abs ((lower +ℤ pos p) -ℤ lower) ≡ p
place_back lower p =
    let back : (lower +ℤ pos p) -ℤ lower ≡ pos p = omega (arith, ints) in ap unsigned_abs back

places_of-index_at : (lower : List ℤ) (place : List ℕ) → length place ≡ length lower → places_of lower (index_at lower place) ≡ place
places_of-index_at [] [] same = refl
places_of-index_at [] (p ∷ ps) same = absurd (omega arith)
places_of-index_at (lower ∷ lowers) [] same = absurd (omega arith)
places_of-index_at (lower ∷ lowers) (p ∷ ps) same =
    ap (λ q. q ∷ places_of lowers (index_at lowers ps)) (place_back lower p)
    ∙ ap (λ qs. p ∷ qs) (places_of-index_at lowers ps (omega arith))

-- the number of an element gives it back
number-back : (shape : Shape) (n : ℕ) (d : List ℤ) → IsShape shape → n < product (extents_of shape)
    → number_of (extents_of shape) (places_of shape.lower (get_or (elements shape) n d)) ≡ n
number-back shape n d valid below =
    let extents = extents_of shape in
    let rank : length (place_at extents n) ≡ length shape.lower = length-place_at extents n ∙ length-map shape.extent unsigned_abs ∙ sym valid.rank in
    ap (λ index. number_of extents (places_of shape.lower index)) (elements-get shape n d below)
    ∙ ap (number_of extents) (places_of-index_at shape.lower (place_at extents n) rank)
    ∙ number_of-place_at extents n below

-- no element stands twice
pub elements-distinct : (shape : Shape) → IsShape shape → AllPairs (λ x y. x ≢ y) (elements shape)
elements-distinct shape valid i j d order within = λ same.
    let below : j < product (extents_of shape) = omega (arith, within, length-elements shape) in
    let one : i ≡ j =
    sym (number-back shape i d valid (omega arith)) ∙ ap (λ index. number_of (extents_of shape) (places_of shape.lower index)) same
    ∙ number-back shape j d valid below in
    omega arith

pub AllPairs-cons : {X : Type 0} (R : X → X → Type 0) (x : X) (xs : List X) → All (R x) xs → AllPairs R xs → AllPairs R (x ∷ xs)
AllPairs-cons R x xs first rest zero zero d order within = absurd (omega arith)
AllPairs-cons R x xs first rest zero (suc j) d order within = first j d (omega arith)
AllPairs-cons R x xs first rest (suc i) zero d order within = absurd (omega arith)
AllPairs-cons R x xs first rest (suc i) (suc j) d order within = rest i j d (omega arith) (omega arith)

kept_or_not : {X : Type 0} (R : X → X → Type 0) (t : Bool) (x : X) (xs : List X) → All (R x) xs → AllPairs R xs → AllPairs R (cond t (x ∷ xs) xs)
kept_or_not R true x xs first rest = AllPairs-cons R x xs first rest
kept_or_not R false x xs first rest = rest

-- what holds of each two of a list holds of each two of those that pass
pub AllPairs-filter : {X : Type 0} (R : X → X → Type 0) (p : X → Bool) (xs : List X) → AllPairs R xs → AllPairs R (filter p xs)
AllPairs-filter R p [] pairs = pairs
AllPairs-filter R p (x ∷ xs) pairs =
    kept_or_not R (p x) x (filter p xs)
    (All-filter p (R x) xs (λ k d within. pairs 0 (suc k) d (omega arith) (omega arith)))
    (AllPairs-filter R p xs (λ i j d order within. pairs (suc i) (suc j) d (omega arith) (omega arith)))

-- a subscript inside its bounds
dimension_within : (lower extent i : ℤ) → pos 0 ≤ℤ extent → lower ≤ℤ i → i <ℤ (lower +ℤ extent) → unsigned_abs (i -ℤ lower) < unsigned_abs extent
dimension_within lower (pos e) i positive from before = distance (i -ℤ lower) (omega (arith, ints)) (omega (arith, ints))
  where
    distance : (z : ℤ) → pos 0 ≤ℤ z → z <ℤ pos e → unsigned_abs z < e
    distance (pos n) low high = omega (arith, ints)
    distance (negsuc n) low high = absurd (omega (arith, ints))
dimension_within lower (negsuc e) i positive from before = absurd (omega (arith, ints))

subscript_back : (lower i : ℤ) → lower ≤ℤ i → lower +ℤ pos (unsigned_abs (i -ℤ lower)) ≡ i
subscript_back lower i from = back (i -ℤ lower) refl (omega (arith, ints))
  where
    back : (z : ℤ) → i -ℤ lower ≡ z → pos 0 ≤ℤ z → lower +ℤ pos (unsigned_abs z) ≡ i
    back (pos n) is low = omega (arith, ints)
    back (negsuc n) is low = absurd (omega (arith, ints))

places_of-rank : (lower index : List ℤ) → length index ≡ length lower → length (places_of lower index) ≡ length lower
places_of-rank [] [] same = refl
places_of-rank [] (i ∷ is) same = absurd (omega arith)
places_of-rank (lower ∷ lowers) [] same = absurd (omega arith)
places_of-rank (lower ∷ lowers) (i ∷ is) same = ap suc (places_of-rank lowers is (omega arith))

places_of-get : (lower index : List ℤ) (k : ℕ) → length index ≡ length lower → k < length lower
    → get_or (places_of lower index) k 0 ≡ unsigned_abs (get_or index k (pos 0) -ℤ get_or lower k (pos 0))
places_of-get [] index k same within = absurd (omega arith)
places_of-get (lower ∷ lowers) [] k same within = absurd (omega arith)
places_of-get (lower ∷ lowers) (i ∷ is) zero same within = refl
places_of-get (lower ∷ lowers) (i ∷ is) (suc k) same within = places_of-get lowers is k (omega arith) (omega arith)

index_at-places_of : (lower index : List ℤ) → length index ≡ length lower
    → ((k : ℕ) → k < length index → get_or lower k (pos 0) ≤ℤ get_or index k (pos 0)) → index_at lower (places_of lower index) ≡ index
index_at-places_of [] [] same from = refl
index_at-places_of [] (i ∷ is) same from = absurd (omega arith)
index_at-places_of (lower ∷ lowers) [] same from = absurd (omega arith)
index_at-places_of (lower ∷ lowers) (i ∷ is) same from =
    ap (λ j. j ∷ index_at lowers (places_of lowers is)) (subscript_back lower i (from 0 (omega arith)))
    ∙ ap (λ js. i ∷ js) (index_at-places_of lowers is (omega arith) (λ k within. from (suc k) (omega arith)))

places_of-inside : (shape : Shape) (index : List ℤ) → IsShape shape → IsInside shape index → IsPlace (extents_of shape) (places_of shape.lower index)
places_of-inside shape index valid inside =
    let rank : length (extents_of shape) ≡ length shape.lower = length-map shape.extent unsigned_abs ∙ sym valid.rank in
    record {
      rank = places_of-rank shape.lower index inside.rank ∙ sym rank;
      below = λ k within.
          let here : k < length shape.lower = omega (arith, within, rank) in
          let there : k < length shape.extent = omega (arith, here, valid.rank) in
          let at : k < length index = omega (arith, here, inside.rank) in
          let place : get_or (places_of shape.lower index) k 0 ≡ unsigned_abs (get_or index k (pos 0) -ℤ get_or shape.lower k (pos 0)) =
          places_of-get shape.lower index k inside.rank here in
          let extent : get_or (extents_of shape) k 0 ≡ unsigned_abs (get_or shape.extent k (pos 0)) = get_or-map unsigned_abs shape.extent k (pos 0) 0 there in
          let low = (valid.extent k (pos 0) there).0 in
          omega (
            arith,
            place,
            extent,
            dimension_within (get_or shape.lower k (pos 0)) (get_or shape.extent k (pos 0)) (get_or index k (pos 0)) low (inside.lower k at) (inside.upper k at),
          );
    }

-- each index inside the bounds is an element
pub elements-contains : (shape : Shape) (index : List ℤ) → IsShape shape → IsInside shape index → Contains (elements shape) index
elements-contains shape index valid inside =
    let extents = extents_of shape in
    let place = places_of-inside shape index valid inside in
    let n = number_of extents (places_of shape.lower index) in
    let below : n < product extents = number_of-below extents (places_of shape.lower index) place in (
      n,
      omega (arith, below, length-elements shape),
      elements-get shape n index below ∙ ap (index_at shape.lower) (place_at-number_of extents (places_of shape.lower index) place)
          ∙ index_at-places_of shape.lower index inside.rank inside.lower,
    )

Contains-kept : {X : Type 0} (t : Bool) (x y : X) (xs : List X) → Contains xs x → Contains (cond t (y ∷ xs) xs) x
Contains-kept true x y xs within = (suc within.0, omega (arith, within.1), within.2)
Contains-kept false x y xs within = within

-- an element that passes is kept
pub Contains-filter : {X : Type 0} (p : X → Bool) (x : X) (xs : List X) (k : ℕ) → k < length xs → get_or xs k x ≡ x → p x ≡ true → Contains (filter p xs) x
Contains-filter p x [] k within is passes = absurd (omega arith)
Contains-filter p x (y ∷ ys) zero within is passes =
    let front : filter p (y ∷ ys) ≡ y ∷ filter p ys = ap (λ t. cond t (y ∷ filter p ys) (filter p ys)) (ap p is ∙ passes) in
    subst (λ zs. Contains zs x) (sym front) (0, omega arith, is)
Contains-filter p x (y ∷ ys) (suc k) within is passes =
    Contains-kept (p y) x y (filter p ys) (Contains-filter p x ys k (omega arith) is passes)
