-- Lists of places, an axis after the other.
use Rattle.std.proofs.Common.{◌≡◌, ℕ, zero, suc, ◌+◌, ◌<◌, Bool, true, List, [], ◌∷◌, ◌++◌, length, map, filter, drop, get_or, Some, refl, sym, ◌∙◌, ap, arith}
use Rattle.std.proofs.lemmas.List.{append_assoc}
use Rattle.std.specs.List.{range_with_len}
use Rattle.axis_products.specs.Products.{passing}
use Rattle.axis_products.specs.Tests.{ArePlaces, Test}

pub filter-all : (n a : ℕ) → filter (λ x. true) (range_with_len a n) ≡ range_with_len a n
filter-all zero a = refl
filter-all (suc n) a = ap (λ xs. a ∷ xs) (filter-all n (a + 1))

pub length-passing : (test : ℕ → ℕ → Bool) (k : ℕ) (ns : List ℕ) → length (passing test k ns) ≡ length ns
length-passing test k [] = refl
length-passing test k (n ∷ ns) = ap suc (length-passing test (k + 1) ns)

-- the list of an axis
get-passing : (test : ℕ → ℕ → Bool) (k : ℕ) (ns : List ℕ) (axis : ℕ) → axis < length ns
    → get_or (passing test k ns) axis [] ≡ filter (test (k + axis)) (range_with_len 0 (get_or ns axis 0))
get-passing test k [] axis within = absurd (omega arith)
get-passing test k (n ∷ ns) zero within = let e : k ≡ k + 0 = omega arith in ap (λ j. filter (test j) (range_with_len 0 n)) e
get-passing test k (n ∷ ns) (suc axis) within =
    let e : k + 1 + axis ≡ k + suc axis = omega arith in
    get-passing test (k + 1) ns axis (omega (arith, within)) ∙ ap (λ j. filter (test j) (range_with_len 0 (get_or ns axis 0))) e

pub get-list : (test : ℕ → ℕ → Bool) (ns : List ℕ) (axis : ℕ) → axis < length ns
    → get_or (passing test 0 ns) axis [] ≡ filter (test axis) (range_with_len 0 (get_or ns axis 0))
get-list test ns axis within =
    let e : 0 + axis ≡ axis = omega arith in
    get-passing test 0 ns axis within ∙ ap (λ j. filter (test j) (range_with_len 0 (get_or ns axis 0))) e

-- those from an axis on are that of the axis and those after it
pub passing-from : (test : ℕ → ℕ → Bool) (axis : ℕ) (ns : List ℕ) → axis < length ns
    → passing test axis (drop axis ns) ≡ filter (test axis) (range_with_len 0 (get_or ns axis 0)) ∷ passing test (axis + 1) (drop (axis + 1) ns)
passing-from test axis ns within = from axis ns within
  where
    from : (j : ℕ) (ns : List ℕ) → j < length ns
        → passing test axis (drop j ns) ≡ filter (test axis) (range_with_len 0 (get_or ns j 0)) ∷ passing test (axis + 1) (drop (j + 1) ns)
    from j [] within = absurd (omega arith)
    from zero (n ∷ ns) within = refl
    from (suc j) (n ∷ ns) within =
        let one : suc (j + 1) ≡ suc j + 1 = omega arith in
        from j ns (omega (arith, within)) ∙ ap (λ m. filter (test axis) (range_with_len 0 (get_or ns j 0)) ∷ passing test (axis + 1) (drop m (n ∷ ns))) one

-- one list more
pub one-more : {A : Type 0} (done rest : List A) (x : A) (later whole : List A) → rest ≡ x ∷ later → done ++ rest ≡ whole → (done ++ x ∷ []) ++ later ≡ whole
one-more done rest x later whole is all = append_assoc done (x ∷ []) later ∙ ap (λ l. done ++ l) (sym is) ∙ all

pub drop-get : {A : Type 0} (xs : List A) (n : ℕ) (d : A) → n < length xs → drop n xs ≡ get_or xs n d ∷ drop (n + 1) xs
drop-get [] n d within = absurd (omega arith)
drop-get (x ∷ xs) zero d within = refl
drop-get (x ∷ xs) (suc n) d within =
    let one : suc (n + 1) ≡ suc n + 1 = omega arith in
    drop-get xs n d (omega (arith, within)) ∙ ap (λ m. get_or xs n d ∷ drop m (x ∷ xs)) one

pub get-map : {A : Type 0} (f : A → List ℕ) (xs : List A) (n : ℕ) (x : A) (d : List ℕ) → n < length xs → x ≡ get_or xs n x → f x ≡ get_or (map f xs) n d
get-map f [] n x d within at = absurd (omega arith)
get-map f (y ∷ xs) zero x d within at = ap f at
get-map f (y ∷ xs) (suc n) x d within at = get-map f xs n x d (omega (arith, within)) at

-- as many lists as axes
pub as-many : (c : Test) (ns : List ℕ) (lists : List (List ℕ)) → ArePlaces c ns (Some lists) → length lists ≡ length ns
as-many c ns lists are = ap length are.1 ∙ length-passing c.at 0 ns
