-- Laws on ranges of numbers.
use Rattle.std.proofs.Common.{◌≡◌, ℕ, zero, suc, ◌+◌, ◌-◌, ◌<◌, ◌≤◌, List, [], ◌∷◌, ◌++◌, refl, sym, ◌∙◌, ap, subst, arith, map}
use Rattle.std.proofs.lemmas.List.{same_lists}
use Rattle.std.proofs.lemmas.List.Elements.{All-head, All-tail}
use Rattle.std.proofs.lemmas.List.FromFn.{length-range_with_len, get_or-range_with_len, length-map-range_with_len, get_or-map-range_with_len, map-range_with_len_more}
use Rattle.std.specs.Prelude.{All}
use Rattle.std.specs.List.{range_with_len}

-- a list of numbers in two parts
pub range_with_len-add : (a n m : ℕ) → range_with_len a (n + m) ≡ range_with_len a n ++ range_with_len (a + n) m
range_with_len-add a zero m =
    let len : zero + m ≡ m = omega arith in
    let at : a + zero ≡ a = omega arith in
    ap (range_with_len a) len ∙ ap (λ b. range_with_len b m) (sym at)
range_with_len-add a (suc n) m =
    let len : suc n + m ≡ suc (n + m) = omega arith in
    let at : a + 1 + n ≡ a + suc n = omega arith in
    ap (range_with_len a) len
    ∙ ap (λ t. a ∷ t) (range_with_len-add (a + 1) n m ∙ ap (λ b. range_with_len (a + 1) n ++ range_with_len b m) at)

-- one number more at the end
pub range_with_len-more : (a p : ℕ) → a ≤ p → range_with_len a (p + 1 - a) ≡ range_with_len a (p - a) ++ p ∷ []
range_with_len-more a p low =
    let count : p + 1 - a ≡ p - a + 1 = omega arith in
    let at : a + (p - a) ≡ p = omega arith in
    ap (range_with_len a) count ∙ range_with_len-add a (p - a) 1 ∙ ap (λ n. range_with_len a (p - a) ++ n ∷ []) at

-- what holds of each number of a list of numbers
pub All-range : (P : ℕ → Type 0) (a n : ℕ) → ((j : ℕ) → a ≤ j → j < a + n → P j) → All P (range_with_len a n)
All-range P a n each k d below =
    let inside : k < n = omega (arith, length-range_with_len a n) in
    subst P (sym (get_or-range_with_len a n k d inside)) (each (a + k) (omega arith) (omega arith))

-- two functions that agree at each element give one list
pub map-agree : {X Y : Type 0} (f g : X → Y) (xs : List X) → All (λ x. f x ≡ g x) xs → map f xs ≡ map g xs
map-agree f g [] same = refl
map-agree f g (x ∷ xs) same =
    ap (λ y. y ∷ map f xs) (All-head (λ x. f x ≡ g x) x xs same)
    ∙ ap (λ ys. g x ∷ ys) (map-agree f g xs (All-tail (λ x. f x ≡ g x) x xs same))

pub map-range_agree : {Y : Type 0} (f g : ℕ → Y) (a n : ℕ) → ((j : ℕ) → a ≤ j → j < a + n → f j ≡ g j)
    → map f (range_with_len a n) ≡ map g (range_with_len a n)
map-range_agree f g a n same = map-agree f g (range_with_len a n) (All-range (λ j. f j ≡ g j) a n same)

-- numbers that are shifted
pub map-range_shifted : (a b n : ℕ) (f : ℕ → ℕ) → ((j : ℕ) → a ≤ j → j < a + n → f j + a ≡ b + j)
    → map f (range_with_len a n) ≡ range_with_len b n
map-range_shifted a b n f shifted = same_lists _ _
    (length-map-range_with_len f a n ∙ sym (length-range_with_len b n))
    (λ k d below.
    let inside : k < n = omega (arith, length-map-range_with_len f a n) in
    let at : f (a + k) + a ≡ b + (a + k) = shifted (a + k) (omega arith) (omega arith) in
    let here : f (a + k) ≡ b + k = omega arith in
    get_or-map-range_with_len f a n k (a + k) d inside refl ∙ here ∙ sym (get_or-range_with_len b n k d inside))

-- a list that is made of a function of the place has one element more
pub map-range_push : {Y : Type 0} (f : ℕ → Y) (xs ys : List Y) (y : Y) (n : ℕ) → ys ≡ xs ++ y ∷ [] → xs ≡ map f (range_with_len 0 n) → y ≡ f n
    → ys ≡ map f (range_with_len 0 (n + 1))
map-range_push f xs ys y n pushed made value =
    let at : 0 + n ≡ n = omega arith in
    pushed ∙ ap (λ l. l ++ y ∷ []) made ∙ ap (λ v. map f (range_with_len 0 n) ++ v ∷ []) value ∙ sym (map-range_with_len_more f 0 n n at)
