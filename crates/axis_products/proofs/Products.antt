-- Tests that ask each axis by itself.
use Rattle.std.proofs.Common.{◌≡◌, ℕ, zero, suc, ◌+◌, ◌*◌, ◌/◌, ◌<◌, ◌≤◌, Bool, true, false, cond, if◌then◌else◌, ◌&&◌, List, [], ◌∷◌, ◌++◌, refl, sym, ◌∙◌, ap, arith, map, filter}
use Rattle.std.proofs.lemmas.List.Elements.{filter-append}
use Rattle.std.proofs.lemmas.Nat.{div_below}
use Rattle.std.proofs.Math.Nat.{mod-add-div}
use Rattle.std.specs.List.{flat_map, range_with_len}
use Rattle.hpf_base.specs.ElementOrder.{places, product}
use Rattle.hpf_base.proofs.Places.{places-by_number}
use Rattle.axis_products.specs.Products.{places_at, number_at, each, passing, combined}
use Rattle.axis_products.specs.Tests.{Test, holds, passing_places}

filter-map : {X Y : Type 0} (f : X → Y) (P : Y → Bool) (xs : List X) → filter P (map f xs) ≡ map f (filter (λ x. P (f x)) xs)
filter-map f P [] = refl
filter-map f P (x ∷ xs) = ap (λ ys. cond (P (f x)) (f x ∷ ys) ys) (filter-map f P xs) ∙ by_case (P (f x))
  where
    by_case : (b : Bool) → cond b (f x ∷ map f (filter (λ x. P (f x)) xs)) (map f (filter (λ x. P (f x)) xs)) ≡ map f (cond b (x ∷ filter (λ x. P (f x)) xs) (filter (λ x. P (f x)) xs))
    by_case true = refl
    by_case false = refl

map-map : {X Y Z : Type 0} (f : Y → Z) (h : X → Y) (xs : List X) → map f (map h xs) ≡ map (λ x. f (h x)) xs
map-map f h [] = refl
map-map f h (x ∷ xs) = ap (λ ys. f (h x) ∷ ys) (map-map f h xs)

row_more : (a b : Bool) (p : ℕ) (t : List ℕ) (rest : List (List ℕ)) (own : List ℕ) → rest ≡ cond b (map (λ q. q ∷ t) own) []
    → cond (a && b) ((p ∷ t) ∷ rest) rest ≡ cond b (map (λ q. q ∷ t) (cond a (p ∷ own) own)) []
row_more true true p t rest own is = ap (λ xs. (p ∷ t) ∷ xs) is
row_more true false p t rest own is = is
row_more false true p t rest own is = is
row_more false false p t rest own is = is

none : (b : Bool) (f : ℕ → List ℕ) → map f [] ≡ cond b (map f []) []
none true f = refl
none false f = refl

row : (test : ℕ → ℕ → Bool) (k : ℕ) (place qs : List ℕ)
    → filter (each test k) (map (λ q. q ∷ place) qs) ≡ cond (each test (k + 1) place) (map (λ q. q ∷ place) (filter (test k) qs)) []
row test k place [] = none (each test (k + 1) place) (λ q. q ∷ place)
row test k place (q ∷ qs) = row_more (test k q) (each test (k + 1) place) q place (filter (each test k) (map (λ q. q ∷ place) qs)) (filter (test k) qs) (row test k place qs)

rows_more : (b : Bool) (f : List ℕ → List (List ℕ)) (t : List ℕ) (ts : List (List ℕ)) → cond b (f t) [] ++ flat_map f ts ≡ flat_map f (cond b (t ∷ ts) ts)
rows_more true f t ts = refl
rows_more false f t ts = refl

rows : (test : ℕ → ℕ → Bool) (k : ℕ) (qs : List ℕ) (ps : List (List ℕ))
    → filter (each test k) (flat_map (λ rest. map (λ q. q ∷ rest) qs) ps) ≡ flat_map (λ rest. map (λ q. q ∷ rest) (filter (test k) qs)) (filter (each test (k + 1)) ps)
rows test k qs [] = refl
rows test k qs (p ∷ ps) =
    filter-append (each test k) (map (λ q. q ∷ p) qs) (flat_map (λ rest. map (λ q. q ∷ rest) qs) ps)
    ∙ ap (λ front. front ++ filter (each test k) (flat_map (λ rest. map (λ q. q ∷ rest) qs) ps)) (row test k p qs)
    ∙ ap (λ back. cond (each test (k + 1) p) (map (λ q. q ∷ p) (filter (test k) qs)) [] ++ back) (rows test k qs ps)
    ∙ rows_more (each test (k + 1) p) (λ rest. map (λ q. q ∷ rest) (filter (test k) qs)) p (filter (each test (k + 1)) ps)

pub filter-places : (test : ℕ → ℕ → Bool) (k : ℕ) (extents : List ℕ) → filter (each test k) (places extents) ≡ combined (passing test k extents)
filter-places test k [] = refl
filter-places test k (e ∷ es) =
    rows test k (range_with_len 0 e) (places es) ∙ ap (flat_map (λ rest. map (λ q. q ∷ rest) (filter (test k) (range_with_len 0 e)))) (filter-places test (k + 1) es)

same_places : (extents : List ℕ) → places extents ≡ map (places_at extents) (range_with_len 0 (product extents))
same_places extents = places-by_number extents

pub elements : (test : ℕ → ℕ → Bool) (element : List ℕ → ℕ) (extents : List ℕ)
    → map (λ t. element (places_at extents t)) (filter (λ t. each test 0 (places_at extents t)) (range_with_len 0 (product extents)))
    ≡ map element (combined (passing test 0 extents))
elements test element extents =
    sym (map-map element (places_at extents) (filter (λ t. each test 0 (places_at extents t)) (range_with_len 0 (product extents))))
    ∙ ap (map element) (sym (filter-map (places_at extents) (each test 0) (range_with_len 0 (product extents))) ∙ ap (filter (each test 0)) (sym (same_places extents)) ∙ filter-places test 0 extents)

pub some_factor : (e m n : ℕ) → n < e * m → 0 < e
some_factor zero m n below = absurd (omega (arith, below))
some_factor (suc e) m n below = omega arith

pub number_back : (extents : List ℕ) (n : ℕ) → n < product extents → number_at extents (places_at extents n) ≡ n
number_back [] n below = omega (arith, below)
number_back (e ∷ es) n below =
    let some : 0 < e = some_factor e (product es) n below in
    let row : n / e < product es = div_below n e (product es) some (omega (arith, below)) in
    let back : number_at es (places_at es (n / e)) * e ≡ n / e * e = ap (λ x. x * e) (number_back es (n / e) row) in
    omega (arith, back, mod-add-div n e)

map-filter_range : (f : ℕ → ℕ) (P : ℕ → Bool) (a n : ℕ) → ((j : ℕ) → a ≤ j → j < a + n → f j ≡ j) → map f (filter P (range_with_len a n)) ≡ filter P (range_with_len a n)
map-filter_range f P a zero same = refl
map-filter_range f P a (suc n) same =
    kept (P a) (f a) (filter P (range_with_len (a + 1) n)) (same a (omega arith) (omega arith))
    ∙ ap (λ ys. cond (P a) (a ∷ ys) ys) (map-filter_range f P (a + 1) n (λ j low high. same j (omega (arith, low)) (omega (arith, high))))
  where
    kept : (b : Bool) (x : ℕ) (ys : List ℕ) → x ≡ a → map f (cond b (a ∷ ys) ys) ≡ cond b (a ∷ map f ys) (map f ys)
    kept true x ys e = ap (λ y. y ∷ map f ys) (same a (omega arith) (omega arith))
    kept false x ys e = refl

pub tuples : (test : ℕ → ℕ → Bool) (extents : List ℕ)
    → filter (λ t. each test 0 (places_at extents t)) (range_with_len 0 (product extents)) ≡ map (number_at extents) (combined (passing test 0 extents))
tuples test extents =
    sym (map-filter_range (λ t. number_at extents (places_at extents t)) (λ t. each test 0 (places_at extents t)) 0 (product extents) (λ j low high. number_back extents j (omega (arith, high))))
    ∙ elements test (number_at extents) extents

filter-none : (n a : ℕ) → filter (λ t. false) (range_with_len a n) ≡ []
filter-none zero a = refl
filter-none (suc n) a = filter-none n (a + 1)

pub held : (test : Test) (extents : List ℕ)
    → filter (λ t. holds test (places_at extents t)) (range_with_len 0 (product extents)) ≡ map (number_at extents) (passing_places test extents)
held test extents = by_case test.always refl
  where
    by_case : (b : Bool) → test.always ≡ b
        → filter (λ t. test.always && each test.at 0 (places_at extents t)) (range_with_len 0 (product extents))
        ≡ map (number_at extents) (if test.always then combined (passing test.at 0 extents) else [])
    by_case true e =
        ap (λ b. filter (λ t. b && each test.at 0 (places_at extents t)) (range_with_len 0 (product extents))) e
        ∙ tuples test.at extents ∙ ap (λ b. map (number_at extents) (if b then combined (passing test.at 0 extents) else [])) (sym e)
    by_case false e =
        ap (λ b. filter (λ t. b && each test.at 0 (places_at extents t)) (range_with_len 0 (product extents))) e
        ∙ filter-none (product extents) 0 ∙ ap (λ b. map (number_at extents) (if b then combined (passing test.at 0 extents) else [])) (sym e)
