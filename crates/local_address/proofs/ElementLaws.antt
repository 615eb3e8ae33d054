-- The number of elements of a shape, and an element by its number, one dimension after another.
use Rattle.std.proofs.Common.{◌≡◌, inl, inr, ℕ, zero, suc, ◌+◌, ◌*◌, ◌<◌, ◌≤◌, ℤ, pos, negsuc, ◌+ℤ◌, ◌≤ℤ◌, unsigned_abs, true, List, [], ◌∷◌, ◌++◌, refl, sym, ◌∙◌, ap, arith, length, map, get_or, set, take, All, Some, slice_get}
use Rattle.std.proofs.Math.Nat.{mul_comm, mul-zero, zero-mul}
use Rattle.std.proofs.lemmas.Bool.{or_cases}
use Rattle.std.proofs.lemmas.Bool.Decides.{Decides-int_eq}
use Rattle.std.proofs.lemmas.Int.{ints}
use Rattle.std.proofs.lemmas.List.{length-map, take_all, take_more, take_more_set}
use Rattle.std.proofs.lemmas.List.Elements.{All-cons, All-map}
use Rattle.std.proofs.lemmas.Option.{slice_get-get_or}
use Rattle.std.specs.List.{list_any}
use Rattle.std.specs.Ordering.{int_eq}
use Rattle.hpf_base.specs.declared.index.Shape.{Shape}
use Rattle.hpf_base.specs.ElementOrder.{elements, extents_of, index_at, product}
use Rattle.hpf_base.specs.Shape.{IsShape}
use Rattle.hpf_base.proofs.ElementOrder.{factor_some}
use Rattle.hpf_base.proofs.Elements.{elements-get, length-elements}
use Rattle.hpf_base.proofs.Places.{length-place_at, place_at}

some_extent : (e : ℤ) → pos 1 ≤ℤ e → 1 ≤ unsigned_abs e
some_extent (pos n) some = omega (arith, ints)
some_extent (negsuc n) some = absurd (omega (arith, ints))

pub some_extents : (extents : List ℤ) → All (λ e. pos 1 ≤ℤ e) extents → All (λ e. 1 ≤ e) (map unsigned_abs extents)
some_extents extents some = All-map (λ e. 1 ≤ e) unsigned_abs extents (λ k d within. some_extent (get_or extents k d) (some k d within))

-- an extent of 0 leaves no element
pub none_extent : (extents : List ℤ) → list_any (λ e. int_eq e (pos 0)) extents ≡ true → product (map unsigned_abs extents) ≡ 0
none_extent [] found = absurd (cc)
none_extent (e ∷ es) found =
    elim (or_cases (int_eq e (pos 0)) (list_any (λ x. int_eq x (pos 0)) es) found) [
      | inl here ↦
          ap (λ x. unsigned_abs x * product (map unsigned_abs es)) ((Decides-int_eq e (pos 0)).0 here) ∙ zero-mul (product (map unsigned_abs es))
      | inr later ↦ ap (λ n. unsigned_abs e * n) (none_extent es later) ∙ mul-zero (unsigned_abs e)
    ]

-- where there is an element no extent is 0
pub factors_some : (extents : List ℕ) → 1 ≤ product extents → All (λ e. 1 ≤ e) extents
factors_some [] some = λ k d within. absurd (omega arith)
factors_some (e ∷ es) some =
    All-cons (λ x. 1 ≤ x) e es (factor_some (product es) e (omega (arith, some, mul_comm e (product es))))
    (factors_some es (factor_some e (product es) some))

-- where there is an element the extent that is read isn't 0
pub extent_some : (shape : Shape) (lower extents : List ℤ) (dim n count : ℕ) → IsShape shape → n < product (extents_of shape)
    → dim < length lower → lower ≡ shape.lower → extents ≡ shape.extent → count ≡ get_or (map unsigned_abs extents) dim 0 → 0 < count
extent_some shape lower extents dim n count valid below within lower-is extents-is is =
    let inside : dim < length (extents_of shape) = omega (arith, length-map shape.extent unsigned_abs, valid.rank, ap length lower-is, within) in
    let some : 1 ≤ get_or (extents_of shape) dim 0 = factors_some (extents_of shape) (omega arith) dim 0 inside in
    let same : count ≡ get_or (extents_of shape) dim 0 = is ∙ ap (λ es. get_or (map unsigned_abs es) dim 0) extents-is in
    omega (arith, some, same)

pub length-index_at : (lower : List ℤ) (place : List ℕ) → length place ≡ length lower → length (index_at lower place) ≡ length lower
length-index_at [] place same = refl
length-index_at (l ∷ ls) [] same = absurd (omega arith)
length-index_at (l ∷ ls) (p ∷ ps) same = ap suc (length-index_at ls ps (omega arith))

index_at-get : (lower : List ℤ) (place : List ℕ) (k : ℕ) (d : ℤ) → length place ≡ length lower → k < length lower
    → get_or (index_at lower place) k d ≡ get_or lower k (pos 0) +ℤ pos (get_or place k 0)
index_at-get [] place k d same within = absurd (omega arith)
index_at-get (l ∷ ls) [] k d same within = absurd (omega arith)
index_at-get (l ∷ ls) (p ∷ ps) zero d same within = refl
index_at-get (l ∷ ls) (p ∷ ps) (suc k) d same within = index_at-get ls ps k d (omega arith) (omega arith)

-- one subscript more is written
pub written_more : (lower index : List ℤ) (place : List ℕ) (dim : ℕ) (i : ℤ) → length place ≡ length lower → dim < length lower → dim < length index
    → i ≡ get_or lower dim (pos 0) +ℤ pos (get_or place dim 0) → take dim index ≡ take dim (index_at lower place)
    → take (dim + 1) (set index dim i) ≡ take (dim + 1) (index_at lower place)
written_more lower index place dim i rank within inside is so_far =
    let long : dim < length (index_at lower place) = omega (arith, length-index_at lower place rank) in
    take_more_set index dim i inside
    ∙ ap (λ front. front ++ i ∷ []) so_far
    ∙ ap (λ j. take dim (index_at lower place) ++ j ∷ []) (is ∙ sym (index_at-get lower place dim (pos 0) rank within))
    ∙ sym (take_more (index_at lower place) dim (pos 0) long)

-- all subscripts are written
pub written_all : (shape : Shape) (index : List ℤ) (dim n : ℕ) → IsShape shape → n < product (extents_of shape) → dim ≡ length shape.lower
    → take dim index ≡ take dim (index_at shape.lower (place_at (extents_of shape) n)) → slice_get (elements shape) n ≡ Some (take dim index)
written_all shape index dim n valid below all written =
    let place = place_at (extents_of shape) n in
    let rank : length place ≡ length shape.lower = length-place_at (extents_of shape) n ∙ length-map shape.extent unsigned_abs ∙ sym valid.rank in
    let whole : take dim (index_at shape.lower place) ≡ index_at shape.lower place =
    take_all dim (index_at shape.lower place) (omega (arith, length-index_at shape.lower place rank)) in
    slice_get-get_or (elements shape) n [] (omega (arith, below, length-elements shape))
    ∙ ap Some (elements-get shape n [] below ∙ sym whole ∙ sym written)
