-- What a reference by courses names, where the place of a tuple on the first axis goes by equal steps.
use Rattle.std.proofs.Common.{◌≡◌, ℕ, zero, suc, ◌+◌, ◌-◌, ◌*◌, ◌/◌, ◌%◌, ◌<◌, ◌≤◌, List, [], ◌∷◌, map, ℤ, pos, ◌+ℤ◌, ◌*ℤ◌, slice_index_or, Option, Some, None, option_map, refl, ap, sym, ◌∙◌, arith}
use Rattle.std.proofs.lemmas.Int.{ints}
use Rattle.std.proofs.lemmas.Nat.{div-mul-add, mod-mul-add}
use Rattle.std.proofs.lemmas.Option.{none-some, same_Some}
use Rattle.std.proofs.Math.IntN.{pos-*ℤ-pos, *ℤ_comm}
use Rattle.std.proofs.Math.Nat.{mul-le-mul_right}
use Rattle.hpf_base.proofs.Integers.{sum-*ℤ, *ℤ_assoc}
use Rattle.storage.specs.Storage.{Spot}
use Rattle.array_meaning.specs.State.{element_place}
use Rattle.axis_products.specs.Products.{places_at}
use Rattle.courses.specs.Courses.{Course, Fixed, Moving, course_at, courses_at}
use Rattle.courses.specs.References.{Named, named_spot, place_at_places}
use Rattle.element_lines.specs.Progressions.{Progression, member, members}
use Rattle.element_lines.proofs.Lines.{constant, constant_member, on_a_line}

-- ---- subscripts

-- the subscripts of a course at tuples with these places on the other axes, each so many places after the one before it
abbrev progression : ℕ → ℕ → List ℕ → Course → Progression
progression p d others (Fixed i) = constant i
progression p d others (Moving zero first step) = record { first = first +ℤ (step *ℤ pos p); step = step *ℤ pos d }
progression p d others (Moving (suc axis) first step) = constant (first +ℤ (step *ℤ pos (slice_index_or others axis 0)))

moves : (first step : ℤ) (p d k : ℕ) → (first +ℤ (step *ℤ pos p)) +ℤ pos k *ℤ (step *ℤ pos d) ≡ first +ℤ (step *ℤ pos (p + k * d))
moves first step p d k =
    let both : pos p +ℤ pos (k * d) ≡ pos (p + k * d) = omega (arith, ints) in
    let whole : step *ℤ pos (p + k * d) ≡ pos (p + k * d) *ℤ step = *ℤ_comm step (pos (p + k * d)) in
    let apart : pos (p + k * d) *ℤ step ≡ pos p *ℤ step +ℤ pos (k * d) *ℤ step = ap (λ z. z *ℤ step) (sym both) ∙ sum-*ℤ (pos p) (pos (k * d)) step in
    let own : pos p *ℤ step ≡ step *ℤ pos p = *ℤ_comm (pos p) step in
    let more : pos (k * d) *ℤ step ≡ pos k *ℤ (step *ℤ pos d) =
    ap (λ z. z *ℤ step) (sym (pos-*ℤ-pos k d)) ∙ *ℤ_assoc (pos k) (pos d) step ∙ ap (λ z. pos k *ℤ z) (*ℤ_comm (pos d) step) in
    omega (arith, ints, whole, apart, own, more)

course_is : (p d k : ℕ) (others : List ℕ) (c : Course) → member k (progression p d others c) ≡ course_at ((p + k * d) ∷ others) c
course_is p d k others (Fixed i) = constant_member i k
course_is p d k others (Moving zero first step) = moves first step p d k
course_is p d k others (Moving (suc axis) first step) = constant_member (first +ℤ (step *ℤ pos (slice_index_or others axis 0))) k

courses_are : (p d k : ℕ) (others : List ℕ) (cs : List Course) → members k (map (progression p d others) cs) ≡ courses_at ((p + k * d) ∷ others) cs
courses_are p d k others [] = refl
courses_are p d k others (c ∷ cs) =
    ap (λ i. i ∷ members k (map (progression p d others) cs)) (course_is p d k others c)
    ∙ ap (λ is. course_at ((p + k * d) ∷ others) c ∷ is) (courses_are p d k others cs)

-- ---- tuples of a row

row_places : (extent : ℕ) (extents : List ℕ) (t m : ℕ) → t % extent + m < extent → places_at (extent ∷ extents) (t + m) ≡ (t % extent + m) ∷ places_at extents (t / extent)
row_places extent extents t m lt =
    let is : t + m ≡ (t / extent) * extent + (t % extent + m) = omega arith in
    ap (places_at (extent ∷ extents)) is
    ∙ ap (λ p. p ∷ places_at extents (((t / extent) * extent + (t % extent + m)) / extent)) (mod-mul-add (t / extent) extent (t % extent + m) lt)
    ∙ ap (λ q. (t % extent + m) ∷ places_at extents q) (div-mul-add (t / extent) extent (t % extent + m) lt)

-- so what is named at one of these tuples has subscripts that go by equal steps
row_place : (extent : ℕ) (extents : List ℕ) (r : Named) (t d k : ℕ) → t % extent + k * d < extent
    → place_at_places r (places_at (extent ∷ extents) (t + k * d))
    ≡ element_place r.dims (members k (map (progression (t % extent) d (places_at extents (t / extent))) r.courses))
row_place extent extents r t d k inside =
    ap (place_at_places r) (row_places extent extents t (k * d) inside)
    ∙ ap (element_place r.dims) (sym (courses_are (t % extent) d k (places_at extents (t / extent)) r.courses))

-- ---- spots

spot_is : (own row at : ℕ) (o : Option ℕ) → option_map (λ k. (let x : Spot = record { row = own; at = k } in x)) o ≡ Some (record { row = row; at = at }) → (own ≡ row) × (o ≡ Some at)
spot_is own row at None h = absurd (none-some _ h)
spot_is own row at (Some k) h = let e = same_Some (record { row = own; at = k }) (record { row = row; at = at }) h in (ap (λ s. s.row) e, ap (λ s. Some s.at) e)

spot_at : (own row at : ℕ) (o : Option ℕ) → own ≡ row → o ≡ Some at → option_map (λ k. (let x : Spot = record { row = own; at = k } in x)) o ≡ Some (record { row = row; at = at })
spot_at own row at o e h = ap (option_map (λ k. (let x : Spot = record { row = own; at = k } in x))) h ∙ ap (λ own. Some (record { row = own; at = at })) e

pub named_line : (extent : ℕ) (extents : List ℕ) (r : Named) (row t d n first second last : ℕ) → t % extent + (n - 1) * d < extent → 1 < n
    → named_spot (extent ∷ extents) t r ≡ Some (record { row = row; at = first })
    → named_spot (extent ∷ extents) (t + d) r ≡ Some (record { row = row; at = second })
    → named_spot (extent ∷ extents) (t + (n - 1) * d) r ≡ Some (record { row = row; at = last }) → first ≤ second
    → (k : ℕ) → k < n → named_spot (extent ∷ extents) (t + k * d) r ≡ Some (record { row = row; at = first + k * (second - first) })
named_line extent extents r row t d n first second last fits two at_first at_second at_last up k lt =
    let ns = extent ∷ extents in
    let ps = map (progression (t % extent) d (places_at extents (t / extent))) r.courses in
    let inside : (m : ℕ) → m < n → t % extent + m * d < extent = λ m less. (let le : m * d ≤ (n - 1) * d = mul-le-mul_right d (omega (arith, less)) in omega (arith, le, fits)) in
    let some : 0 < n = omega (arith, two) in
    let before : n - 1 < n = omega (arith, two) in
    let t0 : t + 0 * d ≡ t = omega arith in
    let t1 : t + 1 * d ≡ t + d = omega arith in
    let s0 = spot_is r.row row first (place_at_places r (places_at ns (t + 0 * d))) (ap (λ t. named_spot ns t r) t0 ∙ at_first) in
    let s1 = spot_is r.row row second (place_at_places r (places_at ns (t + 1 * d))) (ap (λ t. named_spot ns t r) t1 ∙ at_second) in
    let sn = spot_is r.row row last (place_at_places r (places_at ns (t + (n - 1) * d))) at_last in
    let p0 = sym (row_place extent extents r t d 0 (inside 0 some)) ∙ s0.1 in
    let p1 = sym (row_place extent extents r t d 1 (inside 1 two)) ∙ s1.1 in
    let pn = sym (row_place extent extents r t d (n - 1) (inside (n - 1) before)) ∙ sn.1 in
    spot_at r.row row (first + k * (second - first)) (place_at_places r (places_at ns (t + k * d))) s0.0
    (row_place extent extents r t d k (inside k lt) ∙ on_a_line r.dims ps n first second last two p0 p1 pn up k lt)
