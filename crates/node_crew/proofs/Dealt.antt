-- Stations that are dealt into crews, one after another.
use Rattle.std.proofs.Common.{ℕ, suc, ◌≡◌, ◌<◌, ◌+◌, ◌*◌, ◌/◌, List, [], ◌∷◌, ◌++◌, length, map, sym, ap, ◌∙◌, subst, arith, length-append, append_assoc, append-nil}
use Rattle.std.proofs.lemmas.List.{map-append, flat_map_more}
use Rattle.std.proofs.Math.Nat.{div-lt_iff_lt-mul, lt_of_mul-lt-mul_left}
use Rattle.node_crew.specs.Crews.{joined}

pub joined_last : {A : Type 0} (crews : List (List A)) (last : List A) → joined (crews ++ last ∷ []) ≡ joined crews ++ last
joined_last crews last = sym (flat_map_more (λ c. c) [] crews last)

-- one more in the crew
pub one_more : {A B : Type 0} (f : A → B) (front : List B) (crew new before : List A) (x : A)
    → new ≡ crew ++ x ∷ [] → front ++ map f crew ≡ map f before → front ++ map f new ≡ map f (before ++ x ∷ [])
one_more f front crew new before x is kept =
    ap (λ l. front ++ map f l) is ∙ ap (λ l. front ++ l) (map-append f crew (x ∷ [])) ∙ sym (append_assoc front (map f crew) (f x ∷ []))
    ∙ ap (λ l. l ++ f x ∷ []) kept ∙ sym (map-append f before (x ∷ []))

-- where a crew ends, what is joined stays
pub crew_ended : {A B : Type 0} (f : A → B) (crews new : List (List B)) (crew next : List A)
    → new ≡ crews ++ map f crew ∷ [] → next ≡ [] → joined new ++ map f next ≡ joined crews ++ map f crew
crew_ended f crews new crew next is none =
    ap (λ l. joined l ++ map f next) is ∙ ap (λ l. joined (crews ++ map f crew ∷ []) ++ map f l) none
    ∙ append-nil (joined (crews ++ map f crew ∷ [])) ∙ joined_last crews (map f crew)

-- where one of all stands at the end of a crew, it isn't the last of so many crews
pub some_left : {B : Type 0} (crews new : List B) (crew : B) (place all count : ℕ)
    → 0 < count → place ≡ (length crews + 1) * all / count → place < all → new ≡ crews ++ crew ∷ [] → length new < count
some_left crews new crew place all count some at near is =
    let inner : (length crews + 1) * all / count < all = subst (λ n. n < all) at near in
    let spread : (length crews + 1) * all < all * count = (div-lt_iff_lt-mul some).0 inner in
    let turned : all * (length crews + 1) < all * count = omega (arith, spread) in
    let fewer : length crews + 1 < count = lt_of_mul-lt-mul_left all turned in
    subst (λ n. n < count) (sym (ap length is ∙ length-append crews (crew ∷ []))) fewer

-- the place to which a loop has come is one of all
pub one_left : {A : Type 0} (xs before rest after : List A) (x : A) (place all : ℕ)
    → place ≡ length before → xs ≡ before ++ rest → rest ≡ x ∷ after → all ≡ length xs → place < all
one_left xs before rest after x place all at split next whole =
    let many : length xs ≡ length before + suc (length after) = ap length split ∙ length-append before rest ∙ ap (λ l. length before + length l) next in
    omega (arith, at, whole, many)

-- and then it is after it
pub one_on : {A : Type 0} (xs before rest after : List A) (x : A) → xs ≡ before ++ rest → rest ≡ x ∷ after → xs ≡ (before ++ x ∷ []) ++ after
one_on xs before rest after x split next = split ∙ ap (λ l. before ++ l) next ∙ sym (append_assoc before (x ∷ []) after)
