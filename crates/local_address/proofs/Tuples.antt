-- Tuples of subscripts, and tests that ask each subscript by itself.
use Rattle.std.proofs.Common.{◌≡◌, ℕ, zero, suc, get_or, ◌+◌, ◌*◌, ◌≤◌, ℤ, pos, ◌+ℤ◌, Bool, true, false, cond, ◌&&◌, List, [], ◌∷◌, ◌++◌, refl, ◌∙◌, ap, arith, length, map, filter, All, Some}
use Rattle.std.proofs.lemmas.List.{length-append, length-map, map-append}
use Rattle.std.proofs.lemmas.List.Elements.{All-head, All-tail, filter-append}
use Rattle.std.proofs.lemmas.Option.{same_Some}
use Rattle.std.specs.List.{flat_map, range_with_len}
use Rattle.hpf_base.specs.ElementOrder.{index_at, places, product}
use Rattle.local_address.specs.declared.spans.Span.{Span}
use Rattle.local_address.specs.Spans.{last_of, span_of}
use Rattle.local_address.specs.Runs.{run_of, subscripts, tuples}

-- each subscript passes the test of its dimension
abbrev pub each : (ℕ → ℤ → Bool) → ℕ → List ℤ → Bool
each test k [] = true
each test k (i ∷ is) = test k i && each test (k + 1) is

-- the subscripts that pass, a list a dimension
abbrev pub passing : (ℕ → ℤ → Bool) → ℕ → List ℤ → List ℕ → List (List ℤ)
passing test k [] extents = []
passing test k (lower ∷ lowers) [] = []
passing test k (lower ∷ lowers) (extent ∷ extents) = filter (test k) (subscripts lower extent) ∷ passing test (k + 1) lowers extents

row_more : (a b : Bool) (i : ℤ) (t : List ℤ) (rest : List (List ℤ)) (own : List ℤ) → rest ≡ cond b (map (λ j. j ∷ t) own) []
    → cond (a && b) ((i ∷ t) ∷ rest) rest ≡ cond b (map (λ j. j ∷ t) (cond a (i ∷ own) own)) []
row_more true true i t rest own is = ap (λ xs. (i ∷ t) ∷ xs) is
row_more true false i t rest own is = is
row_more false true i t rest own is = is
row_more false false i t rest own is = is

none : (b : Bool) (f : ℤ → List ℤ) → map f [] ≡ cond b (map f []) []
none true f = refl
none false f = refl

row : (test : ℕ → ℤ → Bool) (k : ℕ) (lower : ℤ) (lowers : List ℤ) (place qs : List ℕ)
    → filter (each test k) (map (index_at (lower ∷ lowers)) (map (λ q. q ∷ place) qs))
    ≡ cond (each test (k + 1) (index_at lowers place)) (map (λ i. i ∷ index_at lowers place) (filter (test k) (map (λ q. lower +ℤ pos q) qs))) []
row test k lower lowers place [] = none (each test (k + 1) (index_at lowers place)) (λ i. i ∷ index_at lowers place)
row test k lower lowers place (q ∷ qs) =
    row_more (test k (lower +ℤ pos q)) (each test (k + 1) (index_at lowers place)) (lower +ℤ pos q) (index_at lowers place)
    (filter (each test k) (map (index_at (lower ∷ lowers)) (map (λ r. r ∷ place) qs))) (filter (test k) (map (λ r. lower +ℤ pos r) qs))
    (row test k lower lowers place qs)

rows_more : (b : Bool) (f : List ℤ → List (List ℤ)) (t : List ℤ) (ts : List (List ℤ)) → cond b (f t) [] ++ flat_map f ts ≡ flat_map f (cond b (t ∷ ts) ts)
rows_more true f t ts = refl
rows_more false f t ts = refl

rows : (test : ℕ → ℤ → Bool) (k : ℕ) (lower : ℤ) (lowers : List ℤ) (qs : List ℕ) (ps : List (List ℕ))
    → filter (each test k) (map (index_at (lower ∷ lowers)) (flat_map (λ rest. map (λ q. q ∷ rest) qs) ps))
    ≡ flat_map (λ t. map (λ i. i ∷ t) (filter (test k) (map (λ q. lower +ℤ pos q) qs))) (filter (each test (k + 1)) (map (index_at lowers) ps))
rows test k lower lowers qs [] = refl
rows test k lower lowers qs (p ∷ ps) =
    let own = filter (test k) (map (λ q. lower +ℤ pos q) qs) in
    let first = map (λ q. q ∷ p) qs in
    let rest = flat_map (λ later. map (λ q. q ∷ later) qs) ps in
    ap (filter (each test k)) (map-append (index_at (lower ∷ lowers)) first rest)
    ∙ filter-append (each test k) (map (index_at (lower ∷ lowers)) first) (map (index_at (lower ∷ lowers)) rest)
    ∙ ap (λ front. front ++ filter (each test k) (map (index_at (lower ∷ lowers)) rest)) (row test k lower lowers p qs)
    ∙ ap (λ back. cond (each test (k + 1) (index_at lowers p)) (map (λ i. i ∷ index_at lowers p) own) [] ++ back) (rows test k lower lowers qs ps)
    ∙ rows_more (each test (k + 1) (index_at lowers p)) (λ t. map (λ i. i ∷ t) own) (index_at lowers p) (filter (each test (k + 1)) (map (index_at lowers) ps))

-- the elements that pass are the tuples of the subscripts that do
pub filter-elements : (test : ℕ → ℤ → Bool) (k : ℕ) (lowers : List ℤ) (extents : List ℕ) → length lowers ≡ length extents
    → filter (each test k) (map (index_at lowers) (places extents)) ≡ tuples (passing test k lowers extents)
filter-elements test k [] [] same = refl
filter-elements test k [] (e ∷ es) same = absurd (omega arith)
filter-elements test k (l ∷ ls) [] same = absurd (omega arith)
filter-elements test k (l ∷ ls) (e ∷ es) same =
    rows test k l ls (range_with_len 0 e) (places es)
    ∙ ap (flat_map (λ t. map (λ i. i ∷ t) (filter (test k) (subscripts l e)))) (filter-elements test (k + 1) ls es (omega arith))

length-rows : (xs : List ℤ) (ts : List (List ℤ)) → length (flat_map (λ t. map (λ x. x ∷ t) xs) ts) ≡ length xs * length ts
length-rows xs [] = omega arith
length-rows xs (t ∷ ts) =
    let front : length (map (λ x. x ∷ t) xs) ≡ length xs = length-map xs (λ x. x ∷ t) in
    length-append (map (λ x. x ∷ t) xs) (flat_map (λ u. map (λ x. x ∷ u) xs) ts) ∙ omega (arith, front, length-rows xs ts)

pub length-tuples : (xss : List (List ℤ)) → length (tuples xss) ≡ product (map length xss)
length-tuples [] = refl
length-tuples (xs ∷ xss) = length-rows xs (tuples xss) ∙ ap (λ n. length xs * n) (length-tuples xss)

pub last_of-append : {X : Type 0} (x : X) (xs ys : List X) → last_of x (xs ++ ys) ≡ last_of (last_of x xs) ys
last_of-append x [] ys = refl
last_of-append x (y ∷ xs) ys = last_of-append y xs ys

last_of-map : (t : List ℤ) (x : ℤ) (xs : List ℤ) → last_of (x ∷ t) (map (λ i. i ∷ t) xs) ≡ last_of x xs ∷ t
last_of-map t x [] = refl
last_of-map t x (y ∷ xs) = last_of-map t y xs

last_of-rows : (x : ℤ) (xs t : List ℤ) (ts : List (List ℤ))
    → last_of (last_of x xs ∷ t) (flat_map (λ u. map (λ i. i ∷ u) (x ∷ xs)) ts) ≡ last_of x xs ∷ last_of t ts
last_of-rows x xs t [] = refl
last_of-rows x xs t (u ∷ ts) =
    last_of-append (x ∷ u) (map (λ i. i ∷ u) xs) (flat_map (λ v. map (λ i. i ∷ v) (x ∷ xs)) ts)
    ∙ ap (λ l. last_of l (flat_map (λ v. map (λ i. i ∷ v) (x ∷ xs)) ts)) (last_of-map u x xs)
    ∙ last_of-rows x xs u ts

span_of-rows : (x : ℤ) (xs t : List ℤ) (ts : List (List ℤ))
    → span_of (flat_map (λ u. map (λ i. i ∷ u) (x ∷ xs)) (t ∷ ts))
    ≡ Some record { count = length (x ∷ xs) * length (t ∷ ts); first = x ∷ t; last = last_of x xs ∷ last_of t ts }
span_of-rows x xs t ts =
    let later = flat_map (λ u. map (λ i. i ∷ u) (x ∷ xs)) ts in
    let last : last_of (x ∷ t) (map (λ i. i ∷ t) xs ++ later) ≡ last_of x xs ∷ last_of t ts =
    last_of-append (x ∷ t) (map (λ i. i ∷ t) xs) later ∙ ap (λ l. last_of l later) (last_of-map t x xs) ∙ last_of-rows x xs t ts in
    ap (λ n. Some record { count = n; first = x ∷ t; last = last_of (x ∷ t) (map (λ i. i ∷ t) xs ++ later) }) (length-rows (x ∷ xs) (t ∷ ts))
    ∙ ap (λ l. Some record { count = length (x ∷ xs) * length (t ∷ ts); first = x ∷ t; last = l }) last

span_of-more : (x : ℤ) (xs : List ℤ) (ts : List (List ℤ)) (s : Span) → span_of ts ≡ Some s
    → span_of (flat_map (λ u. map (λ i. i ∷ u) (x ∷ xs)) ts) ≡ Some record { count = length (x ∷ xs) * s.count; first = x ∷ s.first; last = last_of x xs ∷ s.last }
span_of-more x xs [] s is = cc
span_of-more x xs (t ∷ ts) s is =
    span_of-rows x xs t ts
    ∙ ap (λ z. Some record { count = length (x ∷ xs) * z.count; first = x ∷ z.first; last = last_of x xs ∷ z.last })
    (same_Some record { count = length (t ∷ ts); first = t; last = last_of t ts } s is)

-- where each list has a number: how many tuples, the first and the last
pub span_of-tuples : (xss : List (List ℤ)) → All (λ run. 1 ≤ run.count) (map run_of xss)
    → span_of (tuples xss) ≡ Some record {
      count = product (map (λ run. run.count) (map run_of xss));
      first = map (λ run. run.first) (map run_of xss);
      last = map (λ run. run.last) (map run_of xss);
    }
span_of-tuples [] some = refl
span_of-tuples ([] ∷ xss) some = absurd (omega (arith, All-head (λ run. 1 ≤ run.count) (run_of []) (map run_of xss) some))
span_of-tuples ((x ∷ xs) ∷ xss) some =
    span_of-more x xs (tuples xss) _ (span_of-tuples xss (All-tail (λ run. 1 ≤ run.count) (run_of (x ∷ xs)) (map run_of xss) some))

no_rows : (ts : List (List ℤ)) → flat_map (λ u. map (λ i. i ∷ u) []) ts ≡ []
no_rows [] = refl
no_rows (t ∷ ts) = no_rows ts

-- where a list is empty there is no tuple
pub no_tuples : (xss : List (List ℤ)) (k : ℕ) → (run_of (get_or xss k [])).count ≡ 0 → suc k ≤ length xss → tuples xss ≡ []
no_tuples [] k is within = absurd (omega arith)
no_tuples ([] ∷ xss) k is within = no_rows (tuples xss)
no_tuples ((x ∷ xs) ∷ xss) zero is within = absurd (omega arith)
no_tuples ((x ∷ xs) ∷ xss) (suc k) is within = ap (flat_map (λ u. map (λ i. i ∷ u) (x ∷ xs))) (no_tuples xss k is (omega arith))
