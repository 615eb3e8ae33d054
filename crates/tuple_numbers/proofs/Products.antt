-- Tuples by the places of each axis, as sums.
use Rattle.std.proofs.Common.{◌≡◌, ℕ, zero, suc, ◌+◌, ◌*◌, ◌<◌, ◌≤◌, ◌==◌, ◌^◌, ◌||◌, Bool, true, false, if◌then◌else◌, List, [], ◌∷◌, ◌++◌, All, map, filter, drop, length, get_or, refl, sym, ◌∙◌, ap, subst, arith}
use Rattle.std.proofs.Math.Nat.{mul-le-mul_left}
use Rattle.std.proofs.lemmas.Bool.{eqb-false, ne_eqb}
use Rattle.std.proofs.lemmas.List.{append_assoc, drop_more, get_or_default, get_or-map, length-map, map-append}
use Rattle.std.proofs.lemmas.List.FromFn.{length-range_with_len}
use Rattle.std.proofs.lemmas.List.Elements.{All-drop, All-filter, All-head, All-tail, All-cons, All-nil}
use Rattle.std.specs.List.{flat_map, list_any, range_with_len}
use Rattle.hpf_base.specs.ElementOrder.{product}
use Rattle.hpf_base.proofs.Ranges.{All-range}
use Rattle.axis_products.specs.Products.{combined, each, number_at, passing, places_at}
use Rattle.axis_products.proofs.Products.{tuples}
use Rattle.tuple_numbers.specs.Sums.{AreRoom, rows, scaled, sums}
use Rattle.tuple_numbers.proofs.Rows.{element-of, length-rows}

-- ---- the law

row-numbers : (f e : ℕ) (es rest ps : List ℕ) → map (λ places. f * number_at (e ∷ es) places) (map (λ p. p ∷ rest) ps) ≡ map (λ p. f * e * number_at es rest + p) (map (λ p. f * p) ps)
row-numbers f e es rest [] = refl
row-numbers f e es rest (p ∷ ps) =
    let here : f * (number_at es rest * e + p) ≡ f * e * number_at es rest + f * p = omega arith in
    λ i. here i ∷ row-numbers f e es rest ps i

all-rows : (f e : ℕ) (es ps : List ℕ) (rests : List (List ℕ)) → map (λ places. f * number_at (e ∷ es) places) (flat_map (λ rest. map (λ p. p ∷ rest) ps) rests)
    ≡ rows (map (λ places. f * e * number_at es places) rests) (map (λ p. f * p) ps)
all-rows f e es ps [] = refl
all-rows f e es ps (rest ∷ rests) =
    map-append (λ places. f * number_at (e ∷ es) places) (map (λ p. p ∷ rest) ps) (flat_map (λ rest. map (λ p. p ∷ rest) ps) rests)
    ∙ (λ i. row-numbers f e es rest ps i ++ all-rows f e es ps rests i)

pub number-sums : (f : ℕ) (es : List ℕ) (pss : List (List ℕ)) → length pss ≡ length es → map (λ places. f * number_at es places) (combined pss) ≡ sums (scaled f es pss)
number-sums f [] [] same = let e : f * 0 ≡ 0 = omega arith in ap (λ n. n ∷ []) e
number-sums f [] (ps ∷ pss) same = absurd (let a : length (ps ∷ pss) ≡ suc (length pss) = refl in let none : List ℕ = [] in let b : length none ≡ 0 = refl in omega (arith, same, a, b))
number-sums f (e ∷ es) [] same = absurd (let a : length (e ∷ es) ≡ suc (length es) = refl in let none : List (List ℕ) = [] in let b : length none ≡ 0 = refl in omega (arith, same, a, b))
number-sums f (e ∷ es) (ps ∷ pss) same =
    all-rows f e es ps (combined pss)
    ∙ ap (λ ns. rows ns (map (λ p. f * p) ps)) (number-sums (f * e) es pss (let a : suc (length pss) ≡ suc (length es) = same in omega (arith, a)))

once : (xs : List ℕ) → map (λ x. 1 * x) xs ≡ xs
once [] = refl
once (x ∷ xs) = let e : 1 * x ≡ x = omega arith in λ i. e i ∷ once xs i

times-once : (es : List ℕ) (rests : List (List ℕ)) → map (λ places. 1 * number_at es places) rests ≡ map (number_at es) rests
times-once es [] = refl
times-once es (r ∷ rs) = let e : 1 * number_at es r ≡ number_at es r = omega arith in λ i. e i ∷ times-once es rs i

pub of-places : (e : ℕ) (es ps : List ℕ) (pss : List (List ℕ)) → length pss ≡ length es → map (number_at (e ∷ es)) (combined (ps ∷ pss)) ≡ sums (ps ∷ scaled e es pss)
of-places e es ps pss same =
    let one : 1 * e ≡ e = omega arith in
    sym (times-once (e ∷ es) (combined (ps ∷ pss))) ∙ number-sums 1 (e ∷ es) (ps ∷ pss) (ap suc same)
    ∙ (λ i. sums (once ps i ∷ scaled (one i) es pss))

-- ---- lists that pass

pub length-passing : (test : ℕ → ℕ → Bool) (k : ℕ) (ns : List ℕ) → length (passing test k ns) ≡ length ns
length-passing test k [] = refl
length-passing test k (n ∷ ns) = ap suc (length-passing test (k + 1) ns)

filter-most : (p : ℕ → Bool) (xs : List ℕ) → length (filter p xs) ≤ length xs
filter-most p [] = omega arith
filter-most p (x ∷ xs) = by_case (p x) (filter-most p xs)
  where
    by_case : (b : Bool) → length (filter p xs) ≤ length xs → length (if b then x ∷ filter p xs else filter p xs) ≤ suc (length xs)
    by_case true rest = let a : length (x ∷ filter p xs) ≡ suc (length (filter p xs)) = refl in omega (arith, a, rest)
    by_case false rest = omega (arith, rest)

-- as many as there are tuples at most, and each is one of them
pub few-tuples : (test : ℕ → ℕ → Bool) (ns : List ℕ) → length (map (number_at ns) (combined (passing test 0 ns))) ≤ product ns
few-tuples test ns =
    let p : ℕ → Bool = λ t. each test 0 (places_at ns t) in
    let a : length (filter p (range_with_len 0 (product ns))) ≡ length (map (number_at ns) (combined (passing test 0 ns))) = ap length (tuples test ns) in
    let b = filter-most p (range_with_len 0 (product ns)) in
    let c = length-range_with_len 0 (product ns) in
    omega (arith, a, b, c)

pub below-product : (test : ℕ → ℕ → Bool) (ns : List ℕ) → All (λ t. t < product ns) (map (number_at ns) (combined (passing test 0 ns)))
below-product test ns =
    let p : ℕ → Bool = λ t. each test 0 (places_at ns t) in
    subst (All (λ t. t < product ns)) (tuples test ns)
    (All-filter p (λ t. t < product ns) (range_with_len 0 (product ns)) (All-range (λ t. t < product ns) 0 (product ns) (λ j ge lt. omega (arith, lt))))

-- ---- what the places of further axes add

pub after-below : (m : ℕ) (ps after : List ℕ) → 0 < length ps → All (λ n. n < m) (rows after ps) → All (λ n. n ≤ m) after
after-below m ps after some all k d within =
    let long = length-rows ps after in
    let inside : k * length ps + 0 < length ps * length after = at-row (length ps) (length after) k some within in
    let here = all (k * length ps + 0) 0 (omega (arith, long, inside)) in
    let is = element-of ps after k 0 within some in
    let same : get_or after k d ≡ get_or after k 0 = get_or_default after k d 0 within in
    let less : get_or after k 0 + get_or ps 0 0 < m = subst (λ x. x < m) is here in
    omega (arith, less, same)
  where
    at-row : (w rows k : ℕ) → 0 < w → k < rows → k * w + 0 < w * rows
    at-row w rows k some lt =
        let most : w * (k + 1) ≤ w * rows = mul-le-mul_left w (let a : k + 1 ≤ rows = omega (arith, lt) in a) in
        omega (arith, most, some)

pub all-some : {V : Type 0} (items : V → List ℕ) (vs : List V) → list_any (λ v. length (items v) == 0) vs ≡ false → All (λ ps. 0 < length ps) (map items vs)
all-some items [] none = All-nil (λ ps. 0 < length ps)
all-some items (v ∷ vs) none =
    let parts = neither (length (items v) == 0) (list_any (λ v. length (items v) == 0) vs) none in
    All-cons (λ ps. 0 < length ps) (items v) (map items vs) (let differ = eqb-false (length (items v)) 0 parts.0 in omega (arith, differ)) (all-some items vs parts.1)
  where
    neither : (a b : Bool) → (a || b) ≡ false → (a ≡ false) × (b ≡ false)
    neither true b e = absurd (cc)
    neither false b e = (refl, e)

-- a list of them is empty: there are no tuples
flat_none : (f : List ℕ → ℕ → List ℕ) (rests : List (List ℕ)) → flat_map (λ rest. map (f rest) []) rests ≡ []
flat_none f [] = refl
flat_none f (rest ∷ rests) = flat_none f rests

pub combined-none : {V : Type 0} (items : V → List ℕ) (vs : List V) → list_any (λ v. length (items v) == 0) vs ≡ true → combined (map items vs) ≡ []
combined-none items [] some = absurd (cc)
combined-none items (v ∷ vs) some = by_items (items v) refl some (combined-none items vs)
  where
    by_items : (ps : List ℕ) → items v ≡ ps → ((length (items v) == 0) || list_any (λ v. length (items v) == 0) vs) ≡ true
        → (list_any (λ v. length (items v) == 0) vs ≡ true → combined (map items vs) ≡ []) → flat_map (λ rest. map (λ p. p ∷ rest) (items v)) (combined (map items vs)) ≡ []
    by_items [] is some rest = ap (λ ps. flat_map (λ rest. map (λ p. p ∷ rest) ps) (combined (map items vs))) is ∙ flat_none (λ rest p. p ∷ rest) (combined (map items vs))
    by_items (p ∷ ps) is some rest =
        let long : length (items v) ≡ suc (length ps) = ap length is in
        let filled : (length (items v) == 0) ≡ false = ne_eqb (length (items v)) 0 (λ e. omega (arith, long, e)) in
        ap (flat_map (λ rest. map (λ p. p ∷ rest) (items v))) (rest (sym (ap (λ b. b || list_any (λ v. length (items v) == 0) vs) filled) ∙ some))

-- ---- one axis more

pub scaled-some : (f : ℕ) (es : List ℕ) (pss : List (List ℕ)) → All (λ ps. 0 < length ps) pss → All (λ ps. 0 < length ps) (scaled f es pss)
scaled-some f [] pss all = All-nil (λ ps. 0 < length ps)
scaled-some f (e ∷ es) [] all = All-nil (λ ps. 0 < length ps)
scaled-some f (e ∷ es) (ps ∷ pss) all =
    All-cons (λ ps. 0 < length ps) (map (λ p. f * p) ps) (scaled (f * e) es pss)
    (let long = length-map ps (λ p. f * p) in let first = All-head (λ ps. 0 < length ps) ps pss all in omega (arith, long, first))
    (scaled-some (f * e) es pss (All-tail (λ ps. 0 < length ps) ps pss all))

pub room-most : (f : ℕ) (es : List ℕ) (pss : List (List ℕ)) → AreRoom f es pss → f ≤ 2 ^ 32
room-most f [] pss r = r
room-most f (e ∷ es) [] r = r
room-most f (e ∷ es) (ps ∷ pss) r = r.0

module _ {V : Type 0} (items : V → List ℕ) (vs : List V) (es : List ℕ) (k : ℕ) (v : V) (inside : k < length es) (within : k < length vs) (is : v ≡ get_or vs k v) where
  axes : drop k es ≡ get_or es k 0 ∷ drop (k + 1) es
  axes = drop_more es k 0 inside

  lists : drop k (map items vs) ≡ items v ∷ drop (k + 1) (map items vs)
  lists =
      drop_more (map items vs) k (items v) (let long = length-map vs items in omega (arith, long, within))
      ∙ ap (λ ps. ps ∷ drop (k + 1) (map items vs)) (get_or-map items vs k v (items v) within ∙ ap items (sym is))

  pub next-room : (f : ℕ) → AreRoom f (drop k es) (drop k (map items vs))
      → (f ≤ 2 ^ 32) × All (λ p. f * p < 2 ^ 32) (items v) × AreRoom (f * get_or es k 0) (drop (k + 1) es) (drop (k + 1) (map items vs))
  next-room f r =
      subst (λ pss. AreRoom f (get_or es k 0 ∷ drop (k + 1) es) pss) lists (subst (λ es. AreRoom f es (drop k (map items vs))) axes r)

  pub next-scaled : (f : ℕ) → scaled f (drop k es) (drop k (map items vs)) ≡ map (λ p. f * p) (items v) ∷ scaled (f * get_or es k 0) (drop (k + 1) es) (drop (k + 1) (map items vs))
  next-scaled f = λ i. scaled f (axes i) (lists i)

-- one list more before the others
pub one-more : (xs ys zs whole : List (List ℕ)) (x : List ℕ) → ys ≡ x ∷ zs → xs ++ ys ≡ whole → (xs ++ x ∷ []) ++ zs ≡ whole
one-more xs ys zs whole x is all = append_assoc xs (x ∷ []) zs ∙ ap (λ l. xs ++ l) (sym is) ∙ all

-- ---- all of it

-- the tuple on no axis
pub first-number : (ns : List ℕ) → number_at ns [] ≡ 0
first-number [] = refl
first-number (n ∷ ns) = refl

pub whole : (test : ℕ → ℕ → Bool) (ns near : List ℕ) (lists far : List (List ℕ)) → 0 < length ns → lists ≡ passing test 0 ns → near ≡ get_or lists 0 near
    → far ≡ scaled (get_or ns 0 0) (drop 1 ns) (drop 1 lists) → sums (near ∷ far) ≡ map (number_at ns) (combined lists)
whole test [] near lists far some are first rest = let none : List ℕ = [] in let e : length none ≡ 0 = refl in absurd (omega (arith, e, some))
whole test (n ∷ ns) near lists far some are first rest =
    let here : near ≡ filter (test 0) (range_with_len 0 n) = first ∙ ap (λ ls. get_or ls 0 near) are in
    let others : far ≡ scaled n ns (passing test 1 ns) = rest ∙ ap (λ ls. scaled n ns (drop 1 ls)) are in
    (λ i. sums (here i ∷ others i)) ∙ sym (of-places n ns (filter (test 0) (range_with_len 0 n)) (passing test 1 ns) (length-passing test 1 ns))
    ∙ ap (λ ls. map (number_at (n ∷ ns)) (combined ls)) (sym are)

pub record IsProduct (ns near : List ℕ) (lists far : List (List ℕ)) : Type 0 where
  pub some : All (λ ps. 0 < length ps) far
  pub few : length (sums (near ∷ far)) < 2 ^ 64
  pub small : All (λ n. n ≤ 2 ^ 32) (sums far)
  pub value : sums (near ∷ far) ≡ map (number_at ns) (combined lists)

pub is-product : (test : ℕ → ℕ → Bool) (ns near : List ℕ) (lists far : List (List ℕ)) → 0 < length lists → All (λ ps. 0 < length ps) lists → product ns ≤ 2 ^ 32
    → lists ≡ passing test 0 ns → near ≡ get_or lists 0 near → far ≡ scaled (get_or ns 0 0) (drop 1 ns) (drop 1 lists) → IsProduct ns near lists far
is-product test ns near lists far inside filled most are first rest = record {
  some = subst (All (λ ps. 0 < length ps)) (sym rest) (scaled-some (get_or ns 0 0) (drop 1 ns) (drop 1 lists) (All-drop (λ ps. 0 < length ps) 1 lists filled));
  few = (let as-many : length (sums (near ∷ far)) ≡ length (map (number_at ns) (combined (passing test 0 ns))) = ap length passes in let fewer = few-tuples test ns in omega (arith, as-many, fewer, most));
  small = λ k d lt. let less = after-below (product ns) near (sums far) place below k d lt in omega (arith, less, most);
  value = value;
}
  where
    value : sums (near ∷ far) ≡ map (number_at ns) (combined lists)
    value = whole test ns near lists far (let long = ap length are ∙ length-passing test 0 ns in omega (arith, long, inside)) are first rest

    passes : sums (near ∷ far) ≡ map (number_at ns) (combined (passing test 0 ns))
    passes = value ∙ ap (λ ls. map (number_at ns) (combined ls)) are

    below : All (λ t. t < product ns) (sums (near ∷ far))
    below = subst (All (λ t. t < product ns)) (sym passes) (below-product test ns)

    place : 0 < length near
    place = subst (λ ps. 0 < length ps) (sym first) (filled 0 near inside)

-- ---- room

product-some : (e m : ℕ) → 1 ≤ e → m ≤ e * m
product-some zero m some = absurd (omega (arith, some))
product-some (suc e) m some = omega arith

-- the lists have places, and the places are below the extents
pub room : (test : ℕ → ℕ → Bool) (k f : ℕ) (ns : List ℕ) → All (λ ps. 0 < length ps) (passing test k ns) → f * product ns ≤ 2 ^ 32 → (1 ≤ product ns) × AreRoom f ns (passing test k ns)
room test k f [] some few = (omega arith, (let a : f * 1 ≤ 2 ^ 32 = few in omega (arith, a)))
room test k f (n ∷ ns) some few =
    let p : ℕ → Bool = test k in
    let first : 0 < length (filter p (range_with_len 0 n)) = All-head (λ ps. 0 < length ps) (filter p (range_with_len 0 n)) (passing test (k + 1) ns) some in
    let most = filter-most p (range_with_len 0 n) in
    let long = length-range_with_len 0 n in
    let positive : 1 ≤ n = omega (arith, first, most, long) in
    let fits : f * n * product ns ≤ 2 ^ 32 = omega (arith, few) in
    let rest = room test (k + 1) (f * n) ns (All-tail (λ ps. 0 < length ps) (filter p (range_with_len 0 n)) (passing test (k + 1) ns) some) fits in
    let whole : f * n ≤ product ns * (f * n) = product-some (product ns) (f * n) rest.0 in
    let here : f ≤ n * f = product-some n f positive in (
      (let a = product-some n (product ns) positive in let b = rest.0 in omega (arith, a, b)),
      (
        omega (arith, here, whole, fits),
        All-filter p (λ x. f * x < 2 ^ 32) (range_with_len 0 n) (All-range (λ x. f * x < 2 ^ 32) 0 n (λ j ge lt. place f j n lt positive (omega (arith, whole, fits)))),
        rest.1,
      ),
    )
  where
    place : (f j n : ℕ) → j < 0 + n → 1 ≤ n → f * n ≤ 2 ^ 32 → f * j < 2 ^ 32
    place zero j n lt some few = let z : 0 * j ≡ 0 = omega arith in omega (arith, z)
    place (suc f) j n lt some few =
        let most : suc f * (j + 1) ≤ suc f * n = mul-le-mul_left (suc f) (let a : j + 1 ≤ n = omega (arith, lt) in a) in
        omega (arith, most, few)
