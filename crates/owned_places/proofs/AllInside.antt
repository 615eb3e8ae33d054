-- In bounds at all tuples.
use Rattle.std.proofs.Common.{◌≡◌, ℕ, suc, ◌+◌, ◌*◌, ◌/◌, ◌%◌, ◌<◌, ◌-◌, ◌==◌, ◌&&◌, ◌||◌, not, Bool, true, false, ℤ, List, [], ◌∷◌, get_or, refl, sym, ◌∙◌, ap, subst, arith, eqb-true}
use Rattle.std.proofs.lemmas.Nat.{div_below, mod_below}
use Rattle.hpf_base.specs.ElementOrder.{product}
use Rattle.axis_products.specs.Products.{each, places_at}
use Rattle.axis_products.specs.Tests.{holds}
use Rattle.axis_products.proofs.Products.{some_factor}
use Rattle.expression_rules.specs.declared.dims.Dim.{Dim}
use Rattle.courses.specs.AxisTables.{subscript_on}
use Rattle.courses.specs.Courses.{Course, Fixed, Moving}
use Rattle.courses.specs.Owners.{bounds_test}
use Rattle.courses.specs.Subscripts.{axis_pass, fixed_pass, in_dim, no_dim}
use Rattle.courses.proofs.Intervals.{inside-between}
use Rattle.owned_places.specs.Dims.{AreInsideFrom}
use Rattle.owned_places.proofs.HeldDims.{and-parts}

both-hold : (a b : Bool) → a ≡ true → b ≡ true → (a && b) ≡ true
both-hold a b e f = ap (λ x. x && b) e ∙ f

-- by the two ends of an axis
pub by-ends : (ds : List Dim) (k : ℕ) (first step : ℤ) (extent : ℕ) → ((in_dim ds k (subscript_on first step 0)) && (in_dim ds k (subscript_on first step (extent - 1)))) ≡ true
    → (place : ℕ) → place < extent → in_dim ds k (subscript_on first step place) ≡ true
by-ends ds k first step extent ends place below =
    let parts = and-parts _ _ ends in
    inside-between (get_or ds k no_dim) first step 0 place (extent - 1) (omega arith) (omega (arith, below)) parts.0 parts.1

pub fixed-inside : (ds : List Dim) (extents : List ℕ) (k : ℕ) (cs : List Course) → AreInsideFrom ds extents k cs → fixed_pass (in_dim ds) k cs ≡ true
fixed-inside ds extents k [] inside = refl
fixed-inside ds extents k (Fixed i ∷ cs) inside = both-hold (in_dim ds k i) (fixed_pass (in_dim ds) (k + 1) cs) inside.0 (fixed-inside ds extents (k + 1) cs inside.1)
fixed-inside ds extents k (Moving axis first step ∷ cs) inside = fixed-inside ds extents (k + 1) cs inside.1

axis-inside : (ds : List Dim) (extents : List ℕ) (k : ℕ) (cs : List Course) (axis place : ℕ) → AreInsideFrom ds extents k cs → place < get_or extents axis 0
    → axis_pass (in_dim ds) k cs axis place ≡ true
axis-inside ds extents k [] axis place inside below = refl
axis-inside ds extents k (Fixed i ∷ cs) axis place inside below = axis-inside ds extents (k + 1) cs axis place inside.1 below
axis-inside ds extents k (Moving a first step ∷ cs) axis place inside below =
    both-hold (not (a == axis) || in_dim ds k (subscript_on first step place)) (axis_pass (in_dim ds) (k + 1) cs axis place) (by_test (a == axis) refl)
    (axis-inside ds extents (k + 1) cs axis place inside.1 below)
  where
    by_test : (t : Bool) → (a == axis) ≡ t → (not t || in_dim ds k (subscript_on first step place)) ≡ true
    by_test true is = inside.0 place (subst (λ n. place < get_or extents n 0) (sym (eqb-true a axis is)) below)
    by_test false is = refl

-- at the places of a tuple
each-inside : (test : ℕ → ℕ → Bool) (axis : ℕ) (extents : List ℕ) (t : ℕ) → t < product extents
    → ((j place : ℕ) → place < get_or extents j 0 → test (axis + j) place ≡ true) → each test axis (places_at extents t) ≡ true
each-inside test axis [] t below all = refl
each-inside test axis (e ∷ es) t below all =
    let some : 0 < e = some_factor e (product es) t below in
    let here : axis + 0 ≡ axis = omega arith in
    both-hold (test axis (t % e)) (each test (axis + 1) (places_at es (t / e)))
    (ap (λ a. test a (t % e)) (sym here) ∙ all 0 (t % e) (mod_below t e some))
    (each-inside test (axis + 1) es (t / e) (div_below t e (product es) some (let c : t < e * product es = below in omega (arith, c)))
    (λ j place within. let at : axis + 1 + j ≡ axis + suc j = omega arith in ap (λ a. test a place) at ∙ all (suc j) place within))

pub all-inside : (ds : List Dim) (extents : List ℕ) (cs : List Course) → AreInsideFrom ds extents 0 cs → (t : ℕ) → t < product extents
    → holds (bounds_test ds cs) (places_at extents t) ≡ true
all-inside ds extents cs inside t below =
    both-hold (fixed_pass (in_dim ds) 0 cs) (each (axis_pass (in_dim ds) 0 cs) 0 (places_at extents t)) (fixed-inside ds extents 0 cs inside)
    (each-inside (axis_pass (in_dim ds) 0 cs) 0 extents t below
    (λ j place within. let at : 0 + j ≡ j = omega arith in ap (λ a. axis_pass (in_dim ds) 0 cs a place) at ∙ axis-inside ds extents 0 cs j place inside within))
