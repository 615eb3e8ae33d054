-- The nodes that compute a tuple, and the tuples that a node computes.
use Rattle.std.proofs.Common.{◌≡◌, ℕ, zero, suc, ◌+◌, ◌<◌, ◌≤◌, nat_eq, ◌||◌, Bool, true, false, if◌then◌else◌, List, [], ◌∷◌, ◌++◌, filter, All, refl, sym, ◌∙◌, ap, arith, eq-eqb, ◌⊎◌, inl, inr}
use Rattle.std.proofs.lemmas.Bool.{cases_order, ne_eqb}
use Rattle.std.proofs.lemmas.List.Elements.{All-filter, filter-append}
use Rattle.std.specs.List.{list_any, range_with_len}
use Rattle.hpf_base.proofs.Ranges.{All-range, range_with_len-add}

-- each of them is a node
pub are-nodes : (computes : ℕ → Bool) (nodes : ℕ) → All (λ node. node < nodes) (filter computes (range_with_len 0 nodes))
are-nodes computes nodes = All-filter computes (λ node. node < nodes) (range_with_len 0 nodes) (All-range (λ node. node < nodes) 0 nodes (λ j ge lt. omega arith))

none-below : (computes : ℕ → Bool) (lo len k : ℕ) → k < lo → list_any (λ node. nat_eq node k) (filter computes (range_with_len lo len)) ≡ false
none-below computes lo zero k lt = refl
none-below computes lo (suc len) k lt = by_case (computes lo) (none-below computes (lo + 1) len k (omega arith))
  where
    by_case : (b : Bool) → list_any (λ node. nat_eq node k) (filter computes (range_with_len (lo + 1) len)) ≡ false
        → list_any (λ node. nat_eq node k) (if b then lo ∷ filter computes (range_with_len (lo + 1) len) else filter computes (range_with_len (lo + 1) len)) ≡ false
    by_case true rest = ap (λ b. b || list_any (λ node. nat_eq node k) (filter computes (range_with_len (lo + 1) len))) (ne_eqb lo k (λ e. omega arith)) ∙ rest
    by_case false rest = rest

abbrev is-one : ℕ → List ℕ → Bool
is-one k xs = list_any (λ node. nat_eq node k) xs

one-of : (computes : ℕ → Bool) (lo len k : ℕ) → lo ≤ k → k < lo + len → list_any (λ node. nat_eq node k) (filter computes (range_with_len lo len)) ≡ computes k
one-of computes lo zero k ge lt = absurd (omega arith)
one-of computes lo (suc len) k ge lt = by_order (cases_order lo k) (λ (less : lo < k). one-of computes (lo + 1) len k (omega arith) (omega arith))
  where
    here : (b : Bool) → computes lo ≡ b → lo ≡ k → is-one k (if b then lo ∷ filter computes (range_with_len (lo + 1) len) else filter computes (range_with_len (lo + 1) len)) ≡ b
    here true e same = ap (λ b. b || is-one k (filter computes (range_with_len (lo + 1) len))) (eq-eqb lo k same)
    here false e same = none-below computes (lo + 1) len k (omega arith)

    later : (b : Bool) → lo < k → is-one k (filter computes (range_with_len (lo + 1) len)) ≡ computes k
        → is-one k (if b then lo ∷ filter computes (range_with_len (lo + 1) len) else filter computes (range_with_len (lo + 1) len)) ≡ computes k
    later true less rest = ap (λ b. b || is-one k (filter computes (range_with_len (lo + 1) len))) (ne_eqb lo k (λ e. omega arith)) ∙ rest
    later false less rest = rest

    by_order : (lo ≡ k) ⊎ ((lo < k) ⊎ (k < lo)) → (lo < k → is-one k (filter computes (range_with_len (lo + 1) len)) ≡ computes k)
        → is-one k (if computes lo then lo ∷ filter computes (range_with_len (lo + 1) len) else filter computes (range_with_len (lo + 1) len)) ≡ computes k
    by_order (inl same) rest = here (computes lo) refl same ∙ ap computes same
    by_order (inr (inl less)) rest = later (computes lo) less (rest less)
    by_order (inr (inr more)) rest = absurd (omega arith)

-- a node is one of them where it computes the tuple
pub computes-it : (computes : ℕ → Bool) (nodes node : ℕ) → node < nodes → list_any (λ other. nat_eq other node) (filter computes (range_with_len 0 nodes)) ≡ computes node
computes-it computes nodes node lt = one-of computes 0 nodes node (omega arith) (omega arith)

-- those that pass, with one number more
pub filter-more : (P : ℕ → Bool) (n : ℕ) → filter P (range_with_len 0 (n + 1)) ≡ filter P (range_with_len 0 n) ++ filter P (n ∷ [])
filter-more P n = ap (filter P) (range_with_len-add 0 n 1) ∙ filter-append P (range_with_len 0 n) ((0 + n) ∷ []) ∙ ap (λ k. filter P (range_with_len 0 n) ++ filter P (k ∷ [])) same
  where
    same : 0 + n ≡ n
    same = omega arith

-- all numbers pass
pub all-pass : (P : ℕ → Bool) (n : ℕ) → ((t : ℕ) → t < n → P t ≡ true) → range_with_len 0 n ≡ filter P (range_with_len 0 n)
all-pass P n every = all-from 0 n (λ t low high. every t (omega (arith, high)))
  where
    all-from : (a m : ℕ) → ((t : ℕ) → a ≤ t → t < a + m → P t ≡ true) → range_with_len a m ≡ filter P (range_with_len a m)
    all-from a zero each = refl
    all-from a (suc m) each =
        ap (λ xs. a ∷ xs) (all-from (a + 1) m (λ t low high. each t (omega (arith, low)) (omega (arith, high))))
        ∙ ap (λ b. if b then a ∷ filter P (range_with_len (a + 1) m) else filter P (range_with_len (a + 1) m)) (sym (each a (omega arith) (omega arith)))
