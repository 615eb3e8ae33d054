-- Tuples of one of each list by their numbers.
use Rattle.std.proofs.Common.{append_assoc, ◌≡◌, ◌↔◌, ℕ, zero, suc, ◌+◌, ◌*◌, ◌/◌, ◌<◌, ◌≤◌, ℤ, pos, List, [], ◌∷◌, ◌++◌, refl, sym, ◌∙◌, ap, subst, arith, length, map, get_or, set, take, drop, Option, Some, None, slice_get}
use Rattle.std.proofs.Math.Nat.{mul_assoc, mul-le-mul_left}
use Rattle.std.proofs.lemmas.List.{append-nil, drop_all, get_or_default, same_lists, drop_more, get_or-map, length-map, map-append, take_all, take_more, take_more_set}
use Rattle.std.proofs.lemmas.Nat.{mul-add-lt, div-mul-add, mod-mul-add}
use Rattle.std.proofs.lemmas.Option.{get_or_from_slice_get, same_Some, slice_get-get_or, slice_get_within}
use Rattle.std.proofs.lemmas.List.FromFn.{get_or-map-range_with_len, length-map-range_with_len}
use Rattle.std.specs.List.{flat_map, range_with_len}
use Rattle.hpf_base.specs.ElementOrder.{places, product}
use Rattle.hpf_base.proofs.Places.{length-place_at, place_at, places-get}
use Rattle.local_address.specs.Runs.{tuples}
use Rattle.local_address.proofs.AddressLaws.{at_none}
use Rattle.local_address.proofs.ElementLaws.{factors_some}
use Rattle.local_address.proofs.SpanLaws.{place-below}
use Rattle.local_address.proofs.Tuples.{length-tuples}

-- the elements of lists at these places
abbrev pub picked : List (List ℤ) → List ℕ → List ℤ
picked [] place = []
picked (xs ∷ xss) [] = []
picked (xs ∷ xss) (p ∷ ps) = get_or xs p (pos 0) ∷ picked xss ps

row : (xs : List ℤ) (xss : List (List ℤ)) (rest ps : List ℕ)
    → map (picked (xs ∷ xss)) (map (λ p. p ∷ rest) ps) ≡ map (λ x. x ∷ picked xss rest) (map (λ p. get_or xs p (pos 0)) ps)
row xs xss rest [] = refl
row xs xss rest (p ∷ ps) = ap (λ l. (get_or xs p (pos 0) ∷ picked xss rest) ∷ l) (row xs xss rest ps)

rows : (xs : List ℤ) (xss : List (List ℤ)) (ps : List ℕ) (rests : List (List ℕ))
    → map (picked (xs ∷ xss)) (flat_map (λ rest. map (λ p. p ∷ rest) ps) rests)
    ≡ flat_map (λ t. map (λ x. x ∷ t) (map (λ p. get_or xs p (pos 0)) ps)) (map (picked xss) rests)
rows xs xss ps [] = refl
rows xs xss ps (r ∷ rs) =
    map-append (picked (xs ∷ xss)) (map (λ p. p ∷ r) ps) (flat_map (λ rest. map (λ p. p ∷ rest) ps) rs)
    ∙ ap (λ l. l ++ map (picked (xs ∷ xss)) (flat_map (λ rest. map (λ p. p ∷ rest) ps) rs)) (row xs xss r ps)
    ∙ ap (λ l. map (λ x. x ∷ picked xss r) (map (λ p. get_or xs p (pos 0)) ps) ++ l) (rows xs xss ps rs)

-- the tuples, by places
tuples-places : (xss : List (List ℤ)) → tuples xss ≡ map (picked xss) (places (map length xss))
tuples-places [] = refl
tuples-places (xs ∷ xss) =
    ap (flat_map (λ t. map (λ x. x ∷ t) xs)) (tuples-places xss)
    ∙ ap (λ l. flat_map (λ t. map (λ x. x ∷ t) l) (map (picked xss) (places (map length xss)))) (each_of xs)
    ∙ sym (rows xs xss (range_with_len 0 (length xs)) (places (map length xss)))
  where
    each_of : (xs : List ℤ) → xs ≡ map (λ p. get_or xs p (pos 0)) (range_with_len 0 (length xs))
    each_of xs = same_lists xs (map (λ p. get_or xs p (pos 0)) (range_with_len 0 (length xs)))
        (sym (length-map-range_with_len (λ p. get_or xs p (pos 0)) 0 (length xs)))
        (λ k d below. get_or_default xs k d (pos 0) below ∙ sym (get_or-map-range_with_len (λ p. get_or xs p (pos 0)) 0 (length xs) k k d below (omega arith)))

pub tuples-get : (xss : List (List ℤ)) (n : ℕ) → n < product (map length xss) → slice_get (tuples xss) n ≡ Some (picked xss (place_at (map length xss) n))
tuples-get xss n below =
    let count : length (places (map length xss)) ≡ product (map length xss) = sym (length-map (places (map length xss)) (picked xss)) ∙ ap length (sym (tuples-places xss)) ∙ length-tuples xss in
    ap (λ l. slice_get l n) (tuples-places xss)
    ∙ slice_get-get_or (map (picked xss) (places (map length xss))) n [] (omega (arith, count, below, length-map (places (map length xss)) (picked xss)))
    ∙ ap Some (get_or-map (picked xss) (places (map length xss)) n [] [] (omega (arith, count, below)) ∙ ap (picked xss) (places-get (map length xss) n [] below))

-- one list more in front
pub tuple-more : (xs : List ℤ) (xss : List (List ℤ)) (n a : ℕ) (x : ℤ) (t : List ℤ) → slice_get xs n ≡ Some x → slice_get (tuples xss) a ≡ Some t
    → slice_get (tuples (xs ∷ xss)) (a * length xs + n) ≡ Some (x ∷ t)
tuple-more xs xss n a x t here there =
    let first : n < length xs = slice_get_within xs n x here in
    let rest : a < product (map length xss) = subst (λ m. a < m) (length-tuples xss) (slice_get_within (tuples xss) a t there) in
    let later : picked xss (place_at (map length xss) a) ≡ t = same_Some (picked xss (place_at (map length xss) a)) t (sym (tuples-get xss a rest) ∙ there) in
    tuples-get (xs ∷ xss) (a * length xs + n) (mul-add-lt a (length xs) n (product (map length xss)) rest first)
    ∙ ap (λ p. Some (get_or xs p (pos 0) ∷ picked xss (place_at (map length xss) ((a * length xs + n) / length xs)))) (mod-mul-add a (length xs) n first)
    ∙ ap (λ q. Some (get_or xs n (pos 0) ∷ picked xss (place_at (map length xss) q))) (div-mul-add a (length xs) n first)
    ∙ ap (λ z. Some (z ∷ picked xss (place_at (map length xss) a))) (get_or_from_slice_get xs n x (pos 0) here)
    ∙ ap (λ zs. Some (x ∷ zs)) later

-- what stands in a tuple is of the lists
pub length-picked : (xss : List (List ℤ)) (place : List ℕ) → length place ≡ length xss → length (picked xss place) ≡ length xss
length-picked [] place same = refl
length-picked (xs ∷ xss) [] same = absurd (omega (arith, same))
length-picked (xs ∷ xss) (p ∷ ps) same = ap suc (length-picked xss ps (omega (arith, same)))

pub picked-get : (xss : List (List ℤ)) (place : List ℕ) (k : ℕ) (d : ℤ) → length place ≡ length xss → k < length xss
    → get_or (picked xss place) k d ≡ get_or (get_or xss k []) (get_or place k 0) (pos 0)
picked-get [] place k d same within = absurd (omega (arith, within))
picked-get (xs ∷ xss) [] k d same within = absurd (omega (arith, same))
picked-get (xs ∷ xss) (p ∷ ps) zero d same within = refl
picked-get (xs ∷ xss) (p ∷ ps) (suc k) d same within = picked-get xss ps k d (omega (arith, same)) (omega (arith, within))

pub tuple-parts : (xss : List (List ℤ)) (q : ℕ) (t : List ℤ) → slice_get (tuples xss) q ≡ Some t
    → (length t ≡ length xss) × ((k : ℕ) → k < length xss → (n : ℕ) × (slice_get (get_or xss k []) n ≡ Some (get_or t k (pos 0))))
tuple-parts xss q t at = (long, part)
  where
    lens : List ℕ
    lens = map length xss

    below : q < product lens
    below = subst (λ m. q < m) (length-tuples xss) (slice_get_within (tuples xss) q t at)

    is : picked xss (place_at lens q) ≡ t
    is = same_Some (picked xss (place_at lens q)) t (sym (tuples-get xss q below) ∙ at)

    rank : length (place_at lens q) ≡ length xss
    rank = length-place_at lens q ∙ length-map xss length

    long : length t ≡ length xss
    long = ap length (sym is) ∙ length-picked xss (place_at lens q) rank

    part : (k : ℕ) → k < length xss → (n : ℕ) × (slice_get (get_or xss k []) n ≡ Some (get_or t k (pos 0)))
    part k within =
        let inside : get_or (place_at lens q) k 0 < get_or lens k 0 = place-below lens q k (omega (arith, within, length-map xss length)) (factors_some lens (omega (arith, below))) in
        let size : get_or lens k 0 ≡ length (get_or xss k []) = get_or-map length xss k [] 0 within in (
          get_or (place_at lens q) k 0,
          slice_get-get_or (get_or xss k []) (get_or (place_at lens q) k 0) (pos 0) (omega (arith, inside, size))
              ∙ ap Some (sym (picked-get xss (place_at lens q) k (pos 0) rank within) ∙ ap (λ l. get_or l k (pos 0)) is),
        )

-- how many tuples there are of the first lists
product-more : (xs : List ℕ) (x : ℕ) → product (xs ++ x ∷ []) ≡ product xs * x
product-more [] x = omega arith
product-more (y ∷ ys) x = ap (λ n. y * n) (product-more ys x) ∙ sym (mul_assoc y (product ys) x)

pub lengths-more : (xss : List (List ℤ)) (k : ℕ) → k < length xss
    → product (map length (take (k + 1) xss)) ≡ product (map length (take k xss)) * length (get_or xss k [])
lengths-more xss k within =
    ap (λ yss. product (map length yss)) (take_more xss k [] within) ∙ ap product (map-append length (take k xss) (get_or xss k [] ∷ []))
    ∙ product-more (map length (take k xss)) (length (get_or xss k []))

-- one number more of a tuple, where what is left is still to be found
pub number-more : (xss : List (List ℤ)) (t : List ℤ) (k number stride n : ℕ) → k < length xss → k < length t → slice_get (get_or xss k []) n ≡ Some (get_or t k (pos 0))
    → ((a : ℕ) (rest : List ℤ) → slice_get (tuples (drop k xss)) a ≡ Some rest → slice_get (tuples xss) (number + stride * a) ≡ Some (take k t ++ rest))
    → (a : ℕ) (rest : List ℤ) → slice_get (tuples (drop (k + 1) xss)) a ≡ Some rest
    → slice_get (tuples xss) (number + stride * n + stride * length (get_or xss k []) * a) ≡ Some (take (k + 1) t ++ rest)
number-more xss t k number stride n within inside here so_far a rest there =
    let xs = get_or xss k [] in
    let x = get_or t k (pos 0) in
    let one = so_far (a * length xs + n) (x ∷ rest)
    (ap (λ yss. slice_get (tuples yss) (a * length xs + n)) (drop_more xss k [] within) ∙ tuple-more xs (drop (k + 1) xss) n a x rest here there) in
    let at : number + stride * n + stride * length xs * a ≡ number + stride * (a * length xs + n) = omega arith in
    ap (slice_get (tuples xss)) at ∙ one ∙ ap Some (sym (append_assoc (take k t) (x ∷ []) rest)) ∙ ap (λ l. Some (l ++ rest)) (sym (take_more t k (pos 0) inside))

-- nothing is left
pub number-all : (xss : List (List ℤ)) (t : List ℤ) (k number stride : ℕ) → k ≡ length xss → k ≡ length t
    → ((a : ℕ) (rest : List ℤ) → slice_get (tuples (drop k xss)) a ≡ Some rest → slice_get (tuples xss) (number + stride * a) ≡ Some (take k t ++ rest))
    → slice_get (tuples xss) number ≡ Some t
number-all xss t k number stride all long so_far =
    let none : drop k xss ≡ [] = drop_all k xss (omega (arith, all)) in
    let at : number ≡ number + stride * 0 = omega arith in
    ap (slice_get (tuples xss)) at ∙ so_far 0 [] (ap (λ yss. slice_get (tuples yss) 0) none) ∙ ap Some (append-nil (take k t) ∙ take_all k t (omega (arith, long)))

-- a list that is read, and an element of it
pub list_at : (xss : List (List ℤ)) (k : ℕ) (xs : List ℤ) → k < length xss → xs ≡ get_or xss k xs → xs ≡ get_or xss k []
list_at xss k xs within is = is ∙ get_or_default xss k xs [] within

pub part_at : (xss : List (List ℤ)) (k n : ℕ) (xs : List ℤ) (z same : ℤ) → k < length xss → xs ≡ get_or xss k xs → same ≡ z → slice_get xs n ≡ Some same
    → slice_get (get_or xss k []) n ≡ Some z
part_at xss k n xs z same within is same-is at = ap (λ l. slice_get l n) (sym (list_at xss k xs within is)) ∙ at ∙ ap Some same-is

-- no product on the way is greater than all of them so far
pub number-few : (xss : List (List ℤ)) (k number stride n : ℕ) (z : ℤ) → k < length xss → stride ≡ product (map length (take k xss)) → number < stride
    → slice_get (get_or xss k []) n ≡ Some z
    → (stride * n ≤ product (map length (take (k + 1) xss))) × (number + stride * n < product (map length (take (k + 1) xss)))
number-few xss k number stride n z within is below at =
    let inside : n < length (get_or xss k []) = slice_get_within (get_or xss k []) n z at in
    let rows : stride * (n + 1) ≤ stride * length (get_or xss k []) = mul-le-mul_left stride (let e : n + 1 ≤ length (get_or xss k []) = omega (arith, inside) in e) in
    let all : product (map length (take (k + 1) xss)) ≡ stride * length (get_or xss k []) = lengths-more xss k within ∙ ap (λ m. m * length (get_or xss k [])) (sym is) in
    (omega (arith, rows, all), omega (arith, rows, all, below))

-- a tuple of another rank, or with a part that isn't in its list, isn't among them
pub not-among : (xss : List (List ℤ)) (t : List ℤ) → ((q : ℕ) → slice_get (tuples xss) q ≡ Some t → ⊥)
    → (q : ℕ) → (◌≡◌ {A = Option ℕ} None (Some q)) ↔ (slice_get (tuples xss) q ≡ Some t)
not-among xss t none = at_none (tuples xss) t (length (tuples xss)) (omega arith) (λ k below. none k)

pub other-rank : (xss : List (List ℤ)) (t : List ℤ) → (length t ≡ length xss → ⊥) → (q : ℕ) → slice_get (tuples xss) q ≡ Some t → ⊥
other-rank xss t other q at = other (tuple-parts xss q t at).0

pub part-missing : (xss : List (List ℤ)) (t xs : List ℤ) (k : ℕ) (same : ℤ) → k < length xss → xs ≡ get_or xss k xs → same ≡ get_or t k (pos 0)
    → ((n : ℕ) → slice_get xs n ≡ Some same → ⊥) → (q : ℕ) → slice_get (tuples xss) q ≡ Some t → ⊥
part-missing xss t xs k same within is same-is none q at =
    let part = (tuple-parts xss q t at).1 k within in
    none part.0 (ap (λ l. slice_get l part.0) (list_at xss k xs within is) ∙ part.1 ∙ ap Some (sym same-is))

-- one part more is written
pub written-next : (whole index : List ℤ) (k : ℕ) (i : ℤ) → k < length whole → k < length index → i ≡ get_or whole k (pos 0) → take k index ≡ take k whole
    → take (k + 1) (set index k i) ≡ take (k + 1) whole
written-next whole index k i within inside is so_far =
    take_more_set index k i inside ∙ ap (λ front. front ++ i ∷ []) so_far ∙ ap (λ j. take k whole ++ j ∷ []) is ∙ sym (take_more whole k (pos 0) within)

-- the length of a list that is read, where there is a tuple
pub some-length : (xss : List (List ℤ)) (k n count : ℕ) (xs : List ℤ) → n < length (tuples xss) → k < length xss → xs ≡ get_or xss k xs → count ≡ length xs
    → (0 < count) × (count ≡ get_or (map length xss) k 0)
some-length xss k n count xs below within is count-is =
    let same : count ≡ get_or (map length xss) k 0 = count-is ∙ ap length (list_at xss k xs within is) ∙ sym (get_or-map length xss k [] 0 within) in
    let some : 1 ≤ get_or (map length xss) k 0 =
    factors_some (map length xss) (omega (arith, below, length-tuples xss)) k 0 (omega (arith, within, length-map xss length)) in
    (omega (arith, same, some), same)
