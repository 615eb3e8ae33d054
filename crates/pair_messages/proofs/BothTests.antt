-- The tuples of a space that pass two tests.
use Rattle.std.proofs.Common.{◌≡◌, ℕ, zero, suc, ◌+◌, ◌*◌, ◌/◌, ◌%◌, ◌<◌, ◌&&◌, Bool, false, List, [], ◌∷◌, filter, get_or, length, refl, ◌∙◌, ap, arith}
use Rattle.std.proofs.lemmas.Nat.{div_below, mod_below}
use Rattle.std.specs.List.{range_with_len}
use Rattle.hpf_base.specs.ElementOrder.{product}
use Rattle.axis_products.specs.Products.{each, places_at}
use Rattle.axis_products.specs.Tests.{Test, and_test, holds}
use Rattle.axis_products.proofs.Products.{some_factor}
use Rattle.courses.proofs.Owners.{holds-and}
use Rattle.pair_messages.proofs.Anys.{and-false}

-- no tuple of a space passes
abbrev pub NonePasses : Test → List ℕ → Type 0
NonePasses c ns = (t : ℕ) → t < product ns → holds c (places_at ns t) ≡ false

-- none passes both where none passes the first, or the second
pub none-first : (a b : Test) (ns : List ℕ) → ((t : ℕ) → holds a (places_at ns t) ≡ false) → NonePasses (and_test a b) ns
none-first a b ns none t below = holds-and a b (places_at ns t) ∙ ap (λ x. x && holds b (places_at ns t)) (none t)

pub none-second : (a b : Test) (ns : List ℕ) → ((t : ℕ) → holds b (places_at ns t) ≡ false) → NonePasses (and_test a b) ns
none-second a b ns none t below = holds-and a b (places_at ns t) ∙ ap (λ x. holds a (places_at ns t) && x) (none t) ∙ and-false (holds a (places_at ns t))

-- or where no place of an axis does
each-fails : (test : ℕ → ℕ → Bool) (k : ℕ) (ns : List ℕ) (axis t : ℕ) → axis < length ns → t < product ns
    → ((x : ℕ) → x < get_or ns axis 0 → test (k + axis) x ≡ false) → each test k (places_at ns t) ≡ false
each-fails test k [] axis t within below fails = absurd (omega arith)
each-fails test k (e ∷ es) zero t within below fails =
    let some : 0 < e = some_factor e (product es) t below in
    let here : k + 0 ≡ k = omega arith in
    ap (λ b. b && each test (k + 1) (places_at es (t / e))) (ap (λ j. test j (t % e)) (let h : k ≡ k + 0 = omega arith in h) ∙ fails (t % e) (mod_below t e some))
each-fails test k (e ∷ es) (suc axis) t within below fails =
    let some : 0 < e = some_factor e (product es) t below in
    let rest : t / e < product es = div_below t e (product es) some (let c : t < e * product es = below in omega (arith, c)) in
    let next : k + 1 + axis ≡ k + suc axis = omega arith in
    ap (λ b. test k (t % e) && b)
    (each-fails test (k + 1) es axis (t / e) (omega (arith, within)) rest (λ x small. ap (λ j. test j x) next ∙ fails x small))
    ∙ and-false (test k (t % e))

pub none-on : (c : Test) (ns : List ℕ) (axis : ℕ) → axis < length ns → ((x : ℕ) → x < get_or ns axis 0 → c.at axis x ≡ false) → NonePasses c ns
none-on c ns axis within fails t below =
    let at : 0 + axis ≡ axis = omega arith in
    ap (λ b. c.always && b) (each-fails c.at 0 ns axis t within below (λ x small. ap (λ j. c.at j x) at ∙ fails x small)) ∙ and-false c.always

-- the tuples that pass, by lists of places
pub filter-none : (a n : ℕ) → filter (λ t. false) (range_with_len a n) ≡ []
filter-none a zero = refl
filter-none a (suc n) = filter-none (a + 1) n
