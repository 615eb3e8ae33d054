-- What a node owns of a dimension: places by a gap table, and the subscripts at them.
use Rattle.std.proofs.Common.{◌≡◌, ◌↔◌, ℕ, ◌+◌, ◌-◌, ◌<◌, ◌≤◌, ◌==◌, ◌⊎◌, inl, inr, ℤ, pos, ◌+ℤ◌, ◌*ℤ◌, ◌≤ℤ◌, unsigned_abs, Bool, true, false, cond, List, [], ◌∷◌, refl, sym, ◌∙◌, ap, subst, arith, length, map, get_or, All, Option, Some, None, slice_get}
use Rattle.std.proofs.Math.IntN.{*ℤ_comm}
use Rattle.std.proofs.lemmas.Bool.{cases_lt, le-ltb, lt-ltb}
use Rattle.std.proofs.lemmas.Int.{ints}
use Rattle.std.proofs.lemmas.List.{length-map, get_or-map}
use Rattle.std.proofs.lemmas.List.Elements.{All-filter}
use Rattle.std.proofs.lemmas.List.FromFn.{length-range_with_len, get_or-range_with_len, length-map-range_with_len, get_or-map-range_with_len}
use Rattle.std.proofs.lemmas.List.Kept.{AllPairs-from_increasing, IsStrictlyIncreasing-filter}
use Rattle.std.proofs.lemmas.Option.{same_Some, slice_get-get_or, slice_get_within}
use Rattle.std.specs.Prelude.{filter, if◌then◌else◌, nat_lt}
use Rattle.std.specs.List.{range_with_len}
use Rattle.std.specs.List.Sorted.{IsStrictlyIncreasing}
use Rattle.hpf_base.specs.declared.limits.TheConstants.{MAX_BOUND, MAX_ELEMENTS}
use Rattle.hpf_base.proofs.Integers.{sum-*ℤ}
use Rattle.hpf_base.proofs.Ranges.{All-range}
use Rattle.mappings.specs.Alignment.{position_at}
use Rattle.mappings.specs.Owner.{coordinate_under}
use Rattle.gap_table.specs.GapTable.{GapView, IsCountUpTo, nth_of, places_of}
use Rattle.gap_table.specs.OwnedSequence.{IsSectionOf, owned_sequence, position_of}
use Rattle.gap_table.proofs.Tables.{filter-agree}
use Rattle.local_address.specs.declared.axes.Axis.{Axis}
use Rattle.local_address.specs.Pieces.{ArePlaces, subscripts_at}
use Rattle.local_address.specs.Runs.{InAxis, coordinate_on, subscripts}

-- the positions of a dimension's subscripts are a section of the line
position-along : (axis : Axis) (lower : ℤ) (start j : ℕ) → pos start ≡ position_at axis.line ((axis.factor *ℤ lower) +ℤ axis.offset)
    → position_of start axis.factor j ≡ position_at axis.line ((axis.factor *ℤ (lower +ℤ pos j)) +ℤ axis.offset)
position-along axis lower start j is =
    let a = axis.factor in
    let product : a *ℤ (lower +ℤ pos j) ≡ (a *ℤ lower) +ℤ (a *ℤ pos j) =
    *ℤ_comm a (lower +ℤ pos j) ∙ sum-*ℤ lower (pos j) a ∙ ap (λ z. z +ℤ (pos j *ℤ a)) (*ℤ_comm lower a) ∙ ap (λ z. (a *ℤ lower) +ℤ z) (*ℤ_comm (pos j) a) in
    omega (arith, ints, is, product)

pub section-along : (axis : Axis) (lower same factor : ℤ) (start extent : ℕ) → same ≡ lower → factor ≡ axis.factor
    → pos start ≡ position_at axis.line ((axis.factor *ℤ same) +ℤ axis.offset)
    → ((place : ℕ) → place < extent → InAxis (Some axis) (lower +ℤ pos place)) → IsSectionOf axis.line start factor extent
section-along axis lower same factor start extent same-is factor-is is inside j below =
    subst (λ f. (pos 1 ≤ℤ position_of start f j) × (position_of start f j ≤ℤ pos axis.line.extent)) (sym factor-is)
    (subst (λ z. (pos 1 ≤ℤ z) × (z ≤ℤ pos axis.line.extent)) (sym (position-along axis lower start j (is ∙ ap (λ i. position_at axis.line ((axis.factor *ℤ i) +ℤ axis.offset)) same-is)))
    (inside j below))

pub places-along : (axis : Axis) (lower same factor : ℤ) (start extent own : ℕ) → same ≡ lower → factor ≡ axis.factor
    → pos start ≡ position_at axis.line ((axis.factor *ℤ same) +ℤ axis.offset)
    → owned_sequence axis.line own start factor extent ≡ filter (λ place. coordinate_on (Some axis) (lower +ℤ pos place) == own) (range_with_len 0 extent)
places-along axis lower same factor start extent own same-is factor-is is =
    ap (λ f. owned_sequence axis.line own start f extent) factor-is
    ∙ filter-agree (λ j. coordinate_under axis.line.form axis.line.procs (unsigned_abs (position_of start axis.factor j)) == own)
    (λ place. coordinate_on (Some axis) (lower +ℤ pos place) == own) 0 extent
    (λ j low high. ap (λ z. coordinate_under axis.line.form axis.line.procs (unsigned_abs z) == own)
    (position-along axis lower start j (is ∙ ap (λ i. position_at axis.line ((axis.factor *ℤ i) +ℤ axis.offset)) same-is)))

-- the subscripts at the places that pass
filter-map : {X Y : Type 0} (f : X → Y) (p : Y → Bool) (xs : List X) → filter p (map f xs) ≡ map f (filter (λ x. p (f x)) xs)
filter-map f p [] = refl
filter-map {X = X} f p (x ∷ xs) = ap (λ ys. cond (p (f x)) (f x ∷ ys) ys) (filter-map f p xs) ∙ by_case (p (f x)) (filter (λ y. p (f y)) xs)
  where
    by_case : (b : Bool) (ys : List X) → cond b (f x ∷ map f ys) (map f ys) ≡ map f (cond b (x ∷ ys) ys)
    by_case true ys = refl
    by_case false ys = refl

pub subscripts-passing : (p : ℤ → Bool) (lower same : ℤ) (extent : ℕ) (places : List ℕ) → same ≡ lower → places ≡ filter (λ place. p (same +ℤ pos place)) (range_with_len 0 extent)
    → subscripts_at same places ≡ filter p (subscripts lower extent)
subscripts-passing p lower same extent places same-is is =
    ap (subscripts_at same) is ∙ sym (filter-map (λ place. same +ℤ pos place) p (range_with_len 0 extent)) ∙ ap (λ l. filter p (subscripts l extent)) same-is

range-ascends : (n : ℕ) → IsStrictlyIncreasing (range_with_len 0 n)
range-ascends n k inside =
    let below : k + 1 < n = omega (arith, inside, length-range_with_len 0 n) in
    let here : get_or (range_with_len 0 n) k 0 ≡ 0 + k = get_or-range_with_len 0 n k 0 (omega (arith, below)) in
    let next : get_or (range_with_len 0 n) (k + 1) 0 ≡ 0 + (k + 1) = get_or-range_with_len 0 n (k + 1) 0 below in
    omega (arith, here, next)

pub places-passing : (p : ℕ → Bool) (lower same : ℤ) (extent : ℕ) (places : List ℕ) → same ≡ lower → unsigned_abs lower ≤ MAX_BOUND → extent ≤ MAX_ELEMENTS
    → places ≡ filter p (range_with_len 0 extent) → ArePlaces same places
places-passing p lower same extent places same-is bound few is = record {
  bound = subst (λ z. unsigned_abs z ≤ MAX_BOUND) (sym same-is) bound;
  ascends = subst IsStrictlyIncreasing (sym is) (IsStrictlyIncreasing-filter p (range_with_len 0 extent) (range-ascends extent));
  below = subst (All (λ place. place < MAX_ELEMENTS)) (sym is) (All-filter p (λ place. place < MAX_ELEMENTS) (range_with_len 0 extent)
      (All-range (λ place. place < MAX_ELEMENTS) 0 extent (λ j low high. omega (arith, high, few))));
}

-- the places of a table, by their numbers
pub length-places : (t : GapView) → length (places_of t) ≡ t.len
length-places t = length-map-range_with_len (nth_of t) 0 t.len

pub places-get : (t : GapView) (n : ℕ) → n < t.len → slice_get (places_of t) n ≡ Some (nth_of t n)
places-get t n below =
    slice_get-get_or (places_of t) n 0 (omega (arith, below, length-places t))
    ∙ ap Some (get_or-map-range_with_len (nth_of t) 0 t.len n n 0 below (omega arith))

pub length-subscripts : (lower : ℤ) (t : GapView) → length (subscripts_at lower (places_of t)) ≡ t.len
length-subscripts lower t = length-map (places_of t) (λ place. lower +ℤ pos place) ∙ length-places t

pub place_below : (lower : ℤ) (t : GapView) (n : ℕ) → ArePlaces lower (places_of t) → n < t.len → nth_of t n < MAX_ELEMENTS
place_below lower t n are below =
    subst (λ place. place < MAX_ELEMENTS) (get_or-map-range_with_len (nth_of t) 0 t.len n n 0 below (omega arith))
    (are.below n 0 (omega (arith, below, length-places t)))

pub subscripts-get : (lower : ℤ) (t : GapView) (n : ℕ) → n < t.len → slice_get (subscripts_at lower (places_of t)) n ≡ Some (lower +ℤ pos (nth_of t n))
subscripts-get lower t n below =
    slice_get-get_or (subscripts_at lower (places_of t)) n (pos 0) (omega (arith, below, length-subscripts lower t))
    ∙ ap Some (get_or-map (λ place. lower +ℤ pos place) (places_of t) n 0 (pos 0) (omega (arith, below, length-places t))
    ∙ ap (λ place. lower +ℤ pos place) (get_or-map-range_with_len (nth_of t) 0 t.len n n 0 below (omega arith)))

-- what is answered for a number
pub nth-some : (t : GapView) (n place : ℕ) → Some place ≡ (if nat_lt n t.len then Some (nth_of t n) else None) → (n < t.len) × (nth_of t n ≡ place)
nth-some t n place is = by_case (cases_lt n t.len)
  where
    by_case : (n < t.len) ⊎ (t.len ≤ n) → (n < t.len) × (nth_of t n ≡ place)
    by_case (inl below) = (below, same_Some (nth_of t n) place (sym (is ∙ ap (λ b. if b then Some (nth_of t n) else None) (lt-ltb n t.len below))))
    by_case (inr past) = absurd (let none : Some place ≡ None = is ∙ ap (λ b. if b then Some (nth_of t n) else None) (le-ltb n t.len past) in cc)

pub nth-none : (t : GapView) (n : ℕ) → ◌≡◌ {A = Option ℕ} None (if nat_lt n t.len then Some (nth_of t n) else None) → t.len ≤ n
nth-none t n is = by_case (cases_lt n t.len)
  where
    by_case : (n < t.len) ⊎ (t.len ≤ n) → t.len ≤ n
    by_case (inl below) = absurd (let none : ◌≡◌ {A = Option ℕ} None (Some (nth_of t n)) = is ∙ ap (λ b. if b then Some (nth_of t n) else None) (lt-ltb n t.len below) in cc)
    by_case (inr past) = past

-- a place that stands in a table
place-from : (t : GapView) (n place : ℕ) → slice_get (places_of t) n ≡ Some place → (n < t.len) × (nth_of t n ≡ place)
place-from t n place at =
    let below : n < t.len = omega (arith, slice_get_within (places_of t) n place at, length-places t) in
    (below, same_Some (nth_of t n) place (sym (places-get t n below) ∙ at))

rises : (t : GapView) (n m : ℕ) → IsStrictlyIncreasing (places_of t) → n < m → m < t.len → nth_of t n < nth_of t m
rises t n m ascends less below =
    let pair = AllPairs-from_increasing (places_of t) ascends n m 0 less (omega (arith, below, length-places t)) in
    let at_n : get_or (places_of t) n 0 ≡ nth_of t n = get_or-map-range_with_len (nth_of t) 0 t.len n n 0 (omega (arith, less, below)) (omega arith) in
    let at_m : get_or (places_of t) m 0 ≡ nth_of t m = get_or-map-range_with_len (nth_of t) 0 t.len m m 0 below (omega arith) in
    omega (arith, pair, at_n, at_m)

-- where so many places are at most this one, it can only be the last of them
only_last : (t : GapView) (place count n : ℕ) → IsStrictlyIncreasing (places_of t) → IsCountUpTo t place count → slice_get (places_of t) n ≡ Some place → n + 1 ≡ count
only_last t place count n ascends is at = by_case (cases_lt n count) (cases_lt (n + 1) count)
  where
    found : (n < t.len) × (nth_of t n ≡ place)
    found = place-from t n place at

    by_case : (n < count) ⊎ (count ≤ n) → (n + 1 < count) ⊎ (count ≤ n + 1) → n + 1 ≡ count
    by_case (inr past) _ =
        let below : n < t.len = found.0 in
        let same : nth_of t n ≡ place = found.1 in
        let above : place < nth_of t n = is.after n past below in
        absurd (omega (arith, same, above))
    by_case (inl before) (inr here) = omega (arith, before, here)
    by_case (inl before) (inl later) =
        let same : nth_of t n ≡ place = found.1 in
        let upto : nth_of t (count - 1) ≤ place = is.before (count - 1) (omega (arith, later)) in
        let up : nth_of t n < nth_of t (count - 1) = rises t n (count - 1) ascends (omega (arith, later)) (omega (arith, later, is.within)) in
        absurd (omega (arith, same, upto, up))

pub number-found : (t : GapView) (place count number : ℕ) → IsStrictlyIncreasing (places_of t) → IsCountUpTo t place count → number + 1 ≡ count → nth_of t number ≡ place
    → (n : ℕ) → (Some number ≡ Some n) ↔ (slice_get (places_of t) n ≡ Some place)
number-found t place count number ascends is last found n = (
  λ same. ap (slice_get (places_of t)) (sym (same_Some number n same)) ∙ places-get t number (omega (arith, last, is.within)) ∙ ap Some found,
  λ at. let e : n + 1 ≡ count = only_last t place count n ascends is at in
      let same : number ≡ n = omega (arith, last, e) in
      ap Some same,
)

pub number-none : (t : GapView) (place count : ℕ) → IsStrictlyIncreasing (places_of t) → IsCountUpTo t place count
    → ((number : ℕ) → number + 1 ≡ count → nth_of t number ≡ place → ⊥) → (n : ℕ) → (◌≡◌ {A = Option ℕ} None (Some n)) ↔ (slice_get (places_of t) n ≡ Some place)
number-none t place count ascends is none n = (
  λ same. cc,
  λ at. absurd (none n (only_last t place count n ascends is at) (place-from t n place at).1),
)

-- the number of a subscript is that of its place
same_place : (lower : ℤ) (p q : ℕ) → (lower +ℤ pos p) ≡ (lower +ℤ pos q) → p ≡ q
same_place lower p q h = let e : pos p ≡ pos q = omega (arith, ints, h) in omega (arith, ints, e)

at_subscript : (lower i : ℤ) (t : GapView) (place n : ℕ) → i ≡ (lower +ℤ pos place)
    → (slice_get (places_of t) n ≡ Some place) ↔ (slice_get (subscripts_at lower (places_of t)) n ≡ Some i)
at_subscript lower i t place n is = (
  λ at. let found = place-from t n place at in subscripts-get lower t n found.0 ∙ ap (λ p. Some (lower +ℤ pos p)) found.1 ∙ ap Some (sym is),
  λ at. let below : n < t.len = omega (arith, slice_get_within (subscripts_at lower (places_of t)) n i at, length-subscripts lower t) in
      let same : (lower +ℤ pos (nth_of t n)) ≡ (lower +ℤ pos place) = same_Some (lower +ℤ pos (nth_of t n)) i (sym (subscripts-get lower t n below) ∙ at) ∙ is in
      places-get t n below ∙ ap Some (same_place lower (nth_of t n) place same),
)

pub subscript-number : (lower i : ℤ) (t : GapView) (place : ℕ) (number : Option ℕ) → i ≡ (lower +ℤ pos place)
    → ((n : ℕ) → (number ≡ Some n) ↔ (slice_get (places_of t) n ≡ Some place))
    → (n : ℕ) → (number ≡ Some n) ↔ (slice_get (subscripts_at lower (places_of t)) n ≡ Some i)
subscript-number lower i t place number is numbers n = (
  λ same. (at_subscript lower i t place n is).0 ((numbers n).0 same),
  λ at. (numbers n).1 ((at_subscript lower i t place n is).1 at),
)

pub subscript-none : (lower i : ℤ) (t : GapView) → ((place : ℕ) → i ≡ (lower +ℤ pos place) → ⊥)
    → (n : ℕ) → (◌≡◌ {A = Option ℕ} None (Some n)) ↔ (slice_get (subscripts_at lower (places_of t)) n ≡ Some i)
subscript-none lower i t none n = (
  λ same. cc,
  λ at. let below : n < t.len = omega (arith, slice_get_within (subscripts_at lower (places_of t)) n i at, length-subscripts lower t) in
      absurd (none (nth_of t n) (sym (same_Some (lower +ℤ pos (nth_of t n)) i (sym (subscripts-get lower t n below) ∙ at)))),
)
