-- What passes of the subscripts, dimension by dimension.
use Rattle.std.proofs.Common.{◌≡◌, ℕ, suc, ◌+◌, ◌<◌, ◌==◌, ◌&&◌, ◌||◌, not, Bool, true, false, ℤ, pos, ◌+ℤ◌, ◌*ℤ◌, List, [], ◌∷◌, ◌++◌, length, map, get_or, drop, take, Option, Some, None, refl, sym, ◌∙◌, ap, arith, eq-eqb, ne_eqb}
use Rattle.std.proofs.lemmas.List.{at_drop_more, drop-map, length-map, length-take-le, map_more}
use Rattle.std.specs.Option.{is_some}
use Rattle.hpf_base.specs.ElementOrder.{extents_of, product}
use Rattle.hpf_base.specs.Grid.{node_coordinates}
use Rattle.machine_steps.specs.Layout.{Layout, size_of}
use Rattle.axis_products.specs.Products.{each, passing, places_at}
use Rattle.axis_products.specs.Tests.{holds}
use Rattle.courses.specs.Courses.{Course, Fixed, Moving, courses_at}
use Rattle.courses.specs.Owners.{held_test, bounds_test, owner_test}
use Rattle.courses.specs.References.{Named, place_at_places}
use Rattle.courses.specs.Subscripts.{AxesBelow, alone, along_dims, axis_pass, fixed_pass, in_dim, shape_of_dims}
use Rattle.courses.proofs.Indices.{index}
use Rattle.courses.proofs.Owners.{bounded, holds-and}
use Rattle.courses.proofs.Subscripts.{pairs}
use Rattle.owned_places.specs.Dims.{held_dim}
use Rattle.owned_places.specs.Owned.{LiesAs}

-- two tests of each dimension
pub fixed-and : (P Q : ℕ → ℤ → Bool) (k : ℕ) (cs : List Course) → fixed_pass (λ k i. P k i && Q k i) k cs ≡ (fixed_pass P k cs && fixed_pass Q k cs)
fixed-and P Q k [] = refl
fixed-and P Q k (Fixed i ∷ cs) = ap (λ b. (P k i && Q k i) && b) (fixed-and P Q (k + 1) cs) ∙ pairs (P k i) (Q k i) (fixed_pass P (k + 1) cs) (fixed_pass Q (k + 1) cs)
fixed-and P Q k (Moving axis first step ∷ cs) = fixed-and P Q (k + 1) cs

or-and : (t p q : Bool) → (t || (p && q)) ≡ ((t || p) && (t || q))
or-and true p q = refl
or-and false p q = refl

pub axis-and : (P Q : ℕ → ℤ → Bool) (k : ℕ) (cs : List Course) (axis place : ℕ)
    → axis_pass (λ k i. P k i && Q k i) k cs axis place ≡ (axis_pass P k cs axis place && axis_pass Q k cs axis place)
axis-and P Q k [] axis place = refl
axis-and P Q k (Fixed i ∷ cs) axis place = axis-and P Q (k + 1) cs axis place
axis-and P Q k (Moving a first step ∷ cs) axis place =
    let i = first +ℤ (step *ℤ pos place) in
    ap (λ b. (not (a == axis) || (P k i && Q k i)) && b) (axis-and P Q (k + 1) cs axis place)
    ∙ ap (λ b. b && (axis_pass P (k + 1) cs axis place && axis_pass Q (k + 1) cs axis place)) (or-and (not (a == axis)) (P k i) (Q k i))
    ∙ pairs (not (a == axis) || P k i) (not (a == axis) || Q k i) (axis_pass P (k + 1) cs axis place) (axis_pass Q (k + 1) cs axis place)

swap : (a b c : Bool) → (a && (b && c)) ≡ (b && (a && c))
swap true b c = refl
swap false true c = refl
swap false false c = refl

-- by each dimension at once
pub held-always : (r : Named) (layout : Layout) (node : ℕ)
    → (held_test r layout node).always ≡ (alone (node_coordinates layout.mapping.grid node) layout.mapping.dims && fixed_pass (held_dim r.dims layout.mapping node) 0 r.courses)
held-always r layout node =
    let own = along_dims (node_coordinates layout.mapping.grid node) layout.mapping.dims in
    swap (fixed_pass (in_dim r.dims) 0 r.courses) (alone (node_coordinates layout.mapping.grid node) layout.mapping.dims) (fixed_pass own 0 r.courses)
    ∙ ap (λ b. alone (node_coordinates layout.mapping.grid node) layout.mapping.dims && b) (sym (fixed-and (in_dim r.dims) own 0 r.courses))

pub held-passing : (r : Named) (layout : Layout) (node : ℕ) (extents : List ℕ)
    → passing (axis_pass (held_dim r.dims layout.mapping node) 0 r.courses) 0 extents ≡ passing (held_test r layout node).at 0 extents
held-passing r layout node extents =
    λ i. passing (λ axis place. axis-and (in_dim r.dims) (along_dims (node_coordinates layout.mapping.grid node) layout.mapping.dims) 0 r.courses axis place i) 0 extents

-- where something that is the same at all tuples fails
pub never-held : (r : Named) (layout : Layout) (node : ℕ) (extents : List ℕ) (t : ℕ) → (held_test r layout node).always ≡ false
    → holds (held_test r layout node) (places_at extents t) ≡ false
never-held r layout node extents t fails = ap (λ b. b && each (held_test r layout node).at 0 (places_at extents t)) fails

-- where the array has no element
no-place : (layout : Layout) (r : Named) (places : List ℕ) → layout.shape ≡ shape_of_dims r.dims → size_of layout ≡ 0 → (o : Option ℕ)
    → place_at_places r places ≡ o → is_some o ≡ false
unfolding size_of
no-place layout r places shape none None is = refl
no-place layout r places shape none (Some at) is =
    let below = (index r.dims (courses_at places r.courses) at is).0 in
    let no-element : product (extents_of (shape_of_dims r.dims)) ≡ 0 = sym (ap (λ s. product (extents_of s)) shape) ∙ none in
    absurd (omega (arith, below, no-element))

pub none-held : (r : Named) (layout : Layout) (node : ℕ) (extents : List ℕ) (t : ℕ) → LiesAs layout r → AxesBelow (length extents) r.courses → size_of layout ≡ 0
    → holds (held_test r layout node) (places_at extents t) ≡ false
none-held r layout node extents t lies axes none =
    holds-and (bounds_test r.dims r.courses) (owner_test layout.mapping node r.courses) (places_at extents t)
    ∙ ap (λ b. b && holds (owner_test layout.mapping node r.courses) (places_at extents t))
    (sym (bounded extents r t (record { rank = lies.rank; axes = axes }))
    ∙ no-place layout r (places_at extents t) lies.shape none (place_at_places r (places_at extents t)) refl)

-- one dimension after the other
and-one : (a b : Bool) → (a && b) ≡ ((a && true) && b)
and-one true b = refl
and-one false b = refl

pub fixed-next : (test : ℕ → ℤ → Bool) (k : ℕ) (c : Course) (cs : List Course) → fixed_pass test k (c ∷ cs) ≡ (fixed_pass test k (c ∷ []) && fixed_pass test (k + 1) cs)
fixed-next test k (Fixed i) cs = and-one (test k i) (fixed_pass test (k + 1) cs)
fixed-next test k (Moving axis first step) cs = refl

pub axis-next : (test : ℕ → ℤ → Bool) (k : ℕ) (c : Course) (cs : List Course) (axis place : ℕ)
    → axis_pass test k (c ∷ cs) axis place ≡ (axis_pass test k (c ∷ []) axis place && axis_pass test (k + 1) cs axis place)
axis-next test k (Fixed i) cs axis place = refl
axis-next test k (Moving a first step) cs axis place =
    and-one (not (a == axis) || test k (first +ℤ (step *ℤ pos place))) (axis_pass test (k + 1) cs axis place)

and-more : (a b c : Bool) → (a && (b && c)) ≡ ((a && b) && c)
and-more true b c = refl
and-more false b c = refl

axis-append : (test : ℕ → ℤ → Bool) (k : ℕ) (cs ds : List Course) (axis place : ℕ)
    → axis_pass test k (cs ++ ds) axis place ≡ (axis_pass test k cs axis place && axis_pass test (k + length cs) ds axis place)
axis-append test k [] ds axis place =
    let at : k ≡ k + 0 = omega arith in
    ap (λ n. axis_pass test n ds axis place) at
axis-append test k (Fixed i ∷ cs) ds axis place =
    let next : k + 1 + length cs ≡ k + suc (length cs) = omega arith in
    axis-append test (k + 1) cs ds axis place ∙ ap (λ n. axis_pass test (k + 1) cs axis place && axis_pass test n ds axis place) next
axis-append test k (Moving a first step ∷ cs) ds axis place =
    let next : k + 1 + length cs ≡ k + suc (length cs) = omega arith in
    let here = not (a == axis) || test k (first +ℤ (step *ℤ pos place)) in
    ap (λ b. here && b) (axis-append test (k + 1) cs ds axis place ∙ ap (λ n. axis_pass test (k + 1) cs axis place && axis_pass test n ds axis place) next)
    ∙ and-more here (axis_pass test (k + 1) cs axis place) (axis_pass test (k + suc (length cs)) ds axis place)

pub axis-taken : {H : Type 0} (f : H → Course) (test : ℕ → ℤ → Bool) (hs : List H) (k : ℕ) (d : H) (axis place : ℕ) → k < length hs
    → axis_pass test 0 (map f (take (k + 1) hs)) axis place
    ≡ (axis_pass test 0 (map f (take k hs)) axis place && axis_pass test k (f (get_or hs k d) ∷ []) axis place)
axis-taken f test hs k d axis place within =
    let at : 0 + length (map f (take k hs)) ≡ k = omega (arith, length-map (take k hs) f, length-take-le k hs (omega (arith, within))) in
    ap (λ cs. axis_pass test 0 cs axis place) (map_more f hs k d within) ∙ axis-append test 0 (map f (take k hs)) (f (get_or hs k d) ∷ []) axis place
    ∙ ap (λ n. axis_pass test 0 (map f (take k hs)) axis place && axis_pass test n (f (get_or hs k d) ∷ []) axis place) at

-- what passes in all dimensions passes in each
pub and-parts : (a b : Bool) → (a && b) ≡ true → (a ≡ true) × (b ≡ true)
and-parts true b h = (refl, h)
and-parts false b h = absurd cc

pub and-true : (b : Bool) → (b && true) ≡ b
and-true true = refl
and-true false = refl

pub and-turned : (a b : Bool) → (a && b) ≡ (b && a)
and-turned true b = sym (and-true b)
and-turned false true = refl
and-turned false false = refl

-- a course that moves along the axis, and one that doesn't
pub moving-is : (test : ℕ → ℤ → Bool) (k along axis : ℕ) (first step : ℤ) (place : ℕ) → along ≡ axis
    → axis_pass test k (Moving along first step ∷ []) axis place ≡ test k (first +ℤ (step *ℤ pos place))
moving-is test k along axis first step place same =
    and-true (not (along == axis) || test k (first +ℤ (step *ℤ pos place)))
    ∙ ap (λ t. not t || test k (first +ℤ (step *ℤ pos place))) (eq-eqb along axis same)

pub other-passes : (test : ℕ → ℤ → Bool) (k along axis : ℕ) (first step : ℤ) (place : ℕ) → ((along ≡ axis) → ⊥)
    → axis_pass test k (Moving along first step ∷ []) axis place ≡ true
other-passes test k along axis first step place differ =
    ap (λ t. (not t || test k (first +ℤ (step *ℤ pos place))) && true) (ne_eqb along axis differ)

pub next-course : {H X : Type 0} (f : H → Course) (F : List Course → X) (hs : List H) (k : ℕ) (d : H) → k < length hs
    → F (drop k (map f hs)) ≡ F (f (get_or hs k d) ∷ drop (k + 1) (map f hs))
next-course f F hs k d within =
    ap F (drop-map f k hs ∙ at_drop_more (map f) hs k d within) ∙ ap (λ cs. F (f (get_or hs k d) ∷ cs)) (sym (drop-map f (k + 1) hs))
