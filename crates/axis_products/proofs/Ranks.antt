-- How many tuples pass before one that passes.
use Rattle.std.proofs.Common.{◌≡◌, ℕ, zero, suc, ◌+◌, ◌*◌, ◌/◌, ◌%◌, ◌<◌, ◌≤◌, Bool, true, false, cond, ◌&&◌, List, [], ◌∷◌, refl, sym, ◌∙◌, ap, arith, length, length-append, filter}
use Rattle.std.proofs.Math.Nat.{mod-add-div}
use Rattle.std.proofs.lemmas.List.Elements.{filter-append}
use Rattle.std.proofs.lemmas.Nat.{div_below, mod_below, mod-mul-add, div-mul-add}
use Rattle.std.specs.List.{range_with_len}
use Rattle.hpf_base.specs.ElementOrder.{product}
use Rattle.hpf_base.proofs.Ranges.{range_with_len-add}
use Rattle.axis_products.specs.Counts.{counts, ranks}
use Rattle.axis_products.specs.Products.{places_at, number_at, each}
use Rattle.axis_products.proofs.Products.{some_factor}

abbrev pub count : (ℕ → Bool) → ℕ → ℕ
count P n = length (filter P (range_with_len 0 n))

-- a row of numbers, asked by place and by row
row_count : (P A : ℕ → Bool) (R : Bool) (b a n : ℕ) → ((r : ℕ) → a ≤ r → r < a + n → P (b + r) ≡ (A r && R))
    → length (filter P (range_with_len (b + a) n)) ≡ cond R (length (filter A (range_with_len a n))) 0
row_count P A true b a zero same = refl
row_count P A false b a zero same = refl
row_count P A R b a (suc n) same =
    let e : b + a + 1 ≡ b + (a + 1) = omega arith in
    ap (λ t. length (cond t ((b + a) ∷ filter P (range_with_len (b + a + 1) n)) (filter P (range_with_len (b + a + 1) n)))) (same a (omega arith) (omega arith))
    ∙ one (A a) R (b + a) (filter P (range_with_len (b + a + 1) n)) (filter A (range_with_len (a + 1) n))
    (ap (λ x. length (filter P (range_with_len x n))) e ∙ row_count P A R b (a + 1) n (λ r low high. same r (omega (arith, low)) (omega (arith, high))))
  where
    one : (s R : Bool) (x : ℕ) (ys zs : List ℕ) → length ys ≡ cond R (length zs) 0 → length (cond (s && R) (x ∷ ys) ys) ≡ cond R (length (cond s (a ∷ zs) zs)) 0
    one true true x ys zs h = ap suc h
    one true false x ys zs h = h
    one false true x ys zs h = h
    one false false x ys zs h = h

count_parts : (P : ℕ → Bool) (m n : ℕ) → count P (m + n) ≡ count P m + length (filter P (range_with_len (m + 0) n))
count_parts P m n =
    let at : 0 + m ≡ m + 0 = omega arith in
    ap (λ xs. length (filter P xs)) (range_with_len-add 0 m n) ∙ ap length (filter-append P (range_with_len 0 m) (range_with_len (0 + m) n))
    ∙ length-append (filter P (range_with_len 0 m)) (filter P (range_with_len (0 + m) n))
    ∙ ap (λ x. count P m + length (filter P (range_with_len x n))) at

-- whole rows
rows_count : (A R : ℕ → Bool) (e q : ℕ) → count (λ t. A (t % e) && R (t / e)) (q * e) ≡ count R q * count A e
rows_count A R e zero = let z : zero * e ≡ 0 = omega arith in let z' : 0 ≡ count R zero * count A e = omega arith in ap (count (λ t. A (t % e) && R (t / e))) z ∙ z'
rows_count A R e (suc q) =
    let P : ℕ → Bool = λ t. A (t % e) && R (t / e) in
    let n-is : suc q * e ≡ q * e + e = omega arith in
    let q-is : suc q ≡ q + 1 = omega arith in
    let here : length (filter P (range_with_len (q * e + 0) e)) ≡ cond (R q) (count A e) 0 = row_count P A (R q) (q * e) 0 e (λ r low high.
    ap (λ x. A x && R ((q * e + r) / e)) (mod-mul-add q e r (omega (arith, high))) ∙ ap (λ x. A r && R x) (div-mul-add q e r (omega (arith, high)))) in
    let last : length (filter R (range_with_len (q + 0) 1)) ≡ cond (R q) 1 0 = (let z : q + 0 ≡ q = omega arith in ap (λ x. length (filter R (range_with_len x 1))) z ∙ single (R q)) in
    ap (count P) n-is ∙ count_parts P (q * e) e ∙ ap (λ n. count P (q * e) + n) here ∙ ap (λ n. n + cond (R q) (count A e) 0) (rows_count A R e q)
    ∙ both (R q) (count R q) (count A e) ∙ ap (λ n. (count R q + n) * count A e) (sym last) ∙ ap (λ n. n * count A e) (sym (ap (count R) q-is ∙ count_parts R q 1))
  where
    single : (b : Bool) → length (cond b (q ∷ []) []) ≡ cond b 1 0
    single true = refl
    single false = refl

    both : (b : Bool) (x y : ℕ) → x * y + cond b y 0 ≡ (x + cond b 1 0) * y
    both true x y = omega arith
    both false x y = omega arith

and_true : (a b : Bool) → (a && b) ≡ true → (a ≡ true) × (b ≡ true)
and_true true b h = (refl, h)
and_true false b h = absurd (cc)

before_from : (test : ℕ → ℕ → Bool) (k : ℕ) (extents : List ℕ) (t : ℕ) → t < product extents → each test k (places_at extents t) ≡ true
    → count (λ n. each test k (places_at extents n)) t ≡ number_at (counts test k extents) (ranks test k (places_at extents t))
before_from test k [] t below passes = let z : t ≡ 0 = omega (arith, below) in ap (count (λ n. true)) z
before_from test k (e ∷ es) t below passes =
    let P : ℕ → Bool = λ n. test k (n % e) && each test (k + 1) (places_at es (n / e)) in
    let some : 0 < e = some_factor e (product es) t below in
    let row : t / e < product es = div_below t e (product es) some (omega (arith, below)) in
    let parts = and_true (test k (t % e)) (each test (k + 1) (places_at es (t / e))) passes in
    let split : t ≡ t / e * e + t % e = (let h = mod-add-div t e in omega (arith, h)) in
    let rest : t % e < e = mod_below t e some in
    let here : length (filter P (range_with_len (t / e * e + 0) (t % e))) ≡ cond (each test (k + 1) (places_at es (t / e))) (count (test k) (t % e)) 0 =
    row_count P (test k) (each test (k + 1) (places_at es (t / e))) (t / e * e) 0 (t % e) (λ r low high.
    ap (λ x. test k x && each test (k + 1) (places_at es ((t / e * e + r) / e))) (mod-mul-add (t / e) e r (omega (arith, high, rest)))
    ∙ ap (λ x. test k r && each test (k + 1) (places_at es x)) (div-mul-add (t / e) e r (omega (arith, high, rest)))) in
    ap (count P) split ∙ count_parts P (t / e * e) (t % e)
    ∙ ap (λ n. n + length (filter P (range_with_len (t / e * e + 0) (t % e)))) (rows_count (test k) (λ n. each test (k + 1) (places_at es n)) e (t / e))
    ∙ ap (λ n. count (λ n. each test (k + 1) (places_at es n)) (t / e) * count (test k) e + n) (here ∙ ap (λ b. cond b (count (test k) (t % e)) 0) parts.1)
    ∙ ap (λ n. n * count (test k) e + count (test k) (t % e)) (before_from test (k + 1) es (t / e) row parts.1)

pub before : (test : ℕ → ℕ → Bool) (extents : List ℕ) (t : ℕ) → t < product extents → each test 0 (places_at extents t) ≡ true
    → length (filter (λ n. each test 0 (places_at extents n)) (range_with_len 0 t)) ≡ number_at (counts test 0 extents) (ranks test 0 (places_at extents t))
before test extents t below passes = before_from test 0 extents t below passes
