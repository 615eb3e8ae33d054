-- Two ascending lists that are walked beside each other.
use Rattle.std.proofs.Common.{◌≡◌, ℕ, zero, suc, ◌+◌, ◌<◌, ◌≤◌, ◌&&◌, ◌||◌, Bool, true, false, true≢false, cond, List, [], ◌∷◌, ◌++◌, filter, All, refl, sym, ◌∙◌, ap, subst, arith, length, take, get_or, eq-eqb, ◌⊎◌, inl, inr, take_all, append-nil}
use Rattle.std.proofs.lemmas.Bool.{cases_lt, ne_eqb}
use Rattle.std.proofs.lemmas.List.{take_more}
use Rattle.std.proofs.lemmas.List.Elements.{All-push, filter-append}
use Rattle.std.specs.List.{range_with_len}
use Rattle.axis_walks.proofs.Tests.{Rising, is_one, filter-filter, filter-rising, none-below, one-passing}

-- an element is below the next one
rising-next : (lo : ℕ) (xs : List ℕ) (i : ℕ) → Rising lo xs → i + 1 < length xs → get_or xs i 0 < get_or xs (i + 1) 0
rising-next lo [] i h below = absurd (let long : length none ≡ 0 = refl in omega (arith, below, long))
  where
    none : List ℕ
    none = []
rising-next lo (x ∷ []) i h below = absurd (let long : length (x ∷ none) ≡ 1 = refl in omega (arith, below, long))
  where
    none : List ℕ
    none = []
rising-next lo (x ∷ y ∷ xs) zero h below = let a = h.1.0 in omega (arith, a)
rising-next lo (x ∷ y ∷ xs) (suc i) h below =
    let long : length (x ∷ y ∷ xs) ≡ suc (length (y ∷ xs)) = refl in
    let at : suc i + 1 ≡ suc (i + 1) = omega arith in
    subst (λ k. get_or (y ∷ xs) i 0 < get_or (x ∷ y ∷ xs) k 0) (sym at) (rising-next (x + 1) (y ∷ xs) i h.1 (omega (arith, below, long)))

-- a number is one of the list where it stands at the first place whose number isn't less
found : (xs : List ℕ) (x j lo : ℕ) (is_there : Bool) → Rising lo xs → ((k : ℕ) → k < j → get_or xs k 0 < x) → (j < length xs → x ≤ get_or xs j 0)
    → (is_there ≡ true → (j < length xs) × (get_or xs j 0 ≡ x)) → (j < length xs → get_or xs j 0 ≡ x → is_there ≡ true)
    → is_one x xs ≡ is_there
found [] x j lo true h less next hits misses = absurd (let long : length none ≡ 0 = refl in let below = (hits refl).0 in omega (arith, below, long))
  where
    none : List ℕ
    none = []
found [] x j lo false h less next hits misses = refl
found (y ∷ ys) x zero lo true h less next hits misses = ap (λ b. b || is_one x ys) (eq-eqb y x (hits refl).1)
found (y ∷ ys) x zero lo false h less next hits misses =
    let some : 0 < length (y ∷ ys) = omega arith in
    let low : x ≤ y = next some in
    ap (λ b. b || is_one x ys) (ne_eqb y x (λ e. true≢false (sym (misses some e)))) ∙ none-below (y + 1) x ys h.1 (omega (arith, low))
found (y ∷ ys) x (suc j) lo is_there h less next hits misses =
    let long : length (y ∷ ys) ≡ suc (length ys) = refl in
    let first : y < x = less 0 (omega arith) in
    ap (λ b. b || is_one x ys) (ne_eqb y x (λ e. omega (arith, first, e)))
    ∙ found ys x j (y + 1) is_there h.1 (λ k below. less (suc k) (omega (arith, below))) (λ below. next (omega (arith, below, long)))
    (λ e. let both = hits e in let below = both.0 in (omega (arith, below, long), both.1)) (λ below e. misses (omega (arith, below, long)) e)

-- of the first places of a list those are kept that are in the other, or those that aren't. What stands in the other list before an index is
-- less than all that are left
pub record Merged (keep : Bool → Bool) (one other : List ℕ) (i from : ℕ) (places : List ℕ) : Type 0 where
  pub inside : from ≤ length other
  pub less : Rising 0 one → i < length one → (k : ℕ) → k < from → get_or other k 0 < get_or one i 0
  pub within : (n : ℕ) → All (λ p. p < n) one → All (λ p. p < n) places
  pub value : Rising 0 one → Rising 0 other → places ≡ filter (λ x. keep (is_one x other)) (take i one)

pushed : (b : Bool) (x : ℕ) (n : ℕ) (places : List ℕ) → x < n → All (λ p. p < n) places → All (λ p. p < n) (places ++ cond b (x ∷ []) [])
pushed true x n places below all = All-push (λ p. p < n) places x all below
pushed false x n places below all = subst (λ ps. All (λ p. p < n) ps) (sym (append-nil places)) all

pub merged-more : (keep : Bool → Bool) (one other : List ℕ) (i from at : ℕ) (places : List ℕ) (x : ℕ) (is_there : Bool) → Merged keep one other i from places
    → i < length one → x ≡ get_or one i 0 → at ≤ length other → ((k : ℕ) → from ≤ k → k < at → get_or other k 0 < x) → (at < length other → x ≤ get_or other at 0)
    → (is_there ≡ true → (at < length other) × (get_or other at 0 ≡ x)) → (at < length other → get_or other at 0 ≡ x → is_there ≡ true)
    → Merged keep one other (i + 1) at (places ++ cond (keep is_there) (x ∷ []) [])
merged-more keep one other i from at places x is_there m here is inside less next hits misses = record {
  inside = inside;
  less = λ rising some k below.
      let far = rising-next 0 one i rising some in let near = before rising k below in omega (arith, far, near, is);
  within = λ n all. pushed (keep is_there) x n places (let all-i = all i 0 here in omega (arith, all-i, is)) (m.within n all);
  value = λ rising other-rising.
      ap (λ ps. ps ++ cond (keep is_there) (x ∷ []) []) (m.value rising other-rising)
      ∙ ap (λ b. filter (λ y. keep (is_one y other)) (take i one) ++ cond (keep b) (x ∷ []) []) (sym (found other x at 0 is_there other-rising (before rising) next hits misses))
      ∙ sym (filter-append (λ y. keep (is_one y other)) (take i one) (x ∷ []))
      ∙ ap (λ y. filter (λ y. keep (is_one y other)) (take i one ++ y ∷ [])) is
      ∙ ap (filter (λ y. keep (is_one y other))) (sym (take_more one i 0 here));
}
  where
    before : Rising 0 one → (k : ℕ) → k < at → get_or other k 0 < x
    before rising k below = by_case (cases_lt k from)
      where
        by_case : (k < from) ⊎ (from ≤ k) → get_or other k 0 < x
        by_case (inl early) = let a = m.less rising here k early in omega (arith, a, is)
        by_case (inr late) = less k late below

pub merged-value : (keep : Bool → Bool) (one other : List ℕ) (i from : ℕ) (places : List ℕ) → Merged keep one other i from places → length one ≤ i
    → (p q : ℕ → Bool) (n : ℕ) → one ≡ filter p (range_with_len 0 n) → other ≡ filter q (range_with_len 0 n)
    → places ≡ filter (λ x. p x && keep (q x)) (range_with_len 0 n)
merged-value keep one other i from places m all p q n one-is other-is =
    m.value (subst (Rising 0) (sym one-is) (filter-rising p 0 n)) (subst (Rising 0) (sym other-is) (filter-rising q 0 n))
    ∙ ap (filter (λ x. keep (is_one x other))) (take_all i one all ∙ one-is)
    ∙ filter-filter p (λ x. keep (q x)) (λ x. keep (is_one x other)) 0 n
    (λ k low high. ap keep (ap (is_one k) other-is ∙ one-passing q n k (omega (arith, high))))
