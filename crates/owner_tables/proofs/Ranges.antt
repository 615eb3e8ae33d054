-- The first number of a range that passes, and how many of its numbers pass.
use Rattle.std.proofs.Common.{◌≡◌, ℕ, zero, suc, ◌+◌, ◌<◌, ◌≤◌, ◌⊎◌, inl, inr, length, Bool, true, false, if◌then◌else◌, ℤ, List, [], ◌∷◌, ◌++◌, get_or, set, replicate, map, filter, refl, sym, ◌∙◌, ap, arith}
use Rattle.std.proofs.lemmas.Bool.{cases_eq}
use Rattle.std.proofs.lemmas.List.Elements.{filter-append}
use Rattle.std.specs.List.{range_with_len}
use Rattle.hpf_base.proofs.Ranges.{range_with_len-add}
use Rattle.machine_steps.specs.Layout.{count_passing, first, values_at}

-- tests that agree on the range find the same first number, the same numbers and as many
abbrev pub AgreeOn : (P Q : ℕ → Bool) (lo len : ℕ) → Type 0
AgreeOn P Q lo len = (k : ℕ) → lo ≤ k → k < lo + len → P k ≡ Q k

pub first-agree : (P Q : ℕ → Bool) (lo len : ℕ) → AgreeOn P Q lo len → first P lo len ≡ first Q lo len
first-agree P Q lo zero same = refl
first-agree P Q lo (suc len) same =
    ap (λ b. if b then lo else first P (lo + 1) len) (same lo (omega arith) (omega arith))
    ∙ ap (λ n. if Q lo then lo else n) (first-agree P Q (lo + 1) len (λ k from below. same k (omega arith) (omega arith)))

pub filter-agree : (P Q : ℕ → Bool) (lo len : ℕ) → AgreeOn P Q lo len → filter P (range_with_len lo len) ≡ filter Q (range_with_len lo len)
filter-agree P Q lo zero same = refl
filter-agree P Q lo (suc len) same =
    ap (λ b. if b then lo ∷ filter P (range_with_len (lo + 1) len) else filter P (range_with_len (lo + 1) len)) (same lo (omega arith) (omega arith))
    ∙ ap (λ l. if Q lo then lo ∷ l else l) (filter-agree P Q (lo + 1) len (λ k from below. same k (omega arith) (omega arith)))

pub count-agree : (P Q : ℕ → Bool) (lo len : ℕ) → AgreeOn P Q lo len → count_passing P lo len ≡ count_passing Q lo len
count-agree P Q lo zero same = refl
count-agree P Q lo (suc len) same =
    ap (λ b. if b then suc (count_passing P (lo + 1) len) else count_passing P (lo + 1) len) (same lo (omega arith) (omega arith))
    ∙ ap (λ n. if Q lo then suc n else n) (count-agree P Q (lo + 1) len (λ k from below. same k (omega arith) (omega arith)))

pub filter-range_push : (P : ℕ → Bool) (xs ys : List ℕ) (n : ℕ) → ys ≡ xs ++ filter P (n ∷ []) → xs ≡ filter P (range_with_len 0 n)
    → ys ≡ filter P (range_with_len 0 (n + 1))
filter-range_push P xs ys n pushed made =
    let at : n ≡ 0 + n = omega arith in
    pushed ∙ ap (λ l. l ++ filter P (n ∷ [])) made ∙ sym (filter-append P (range_with_len 0 n) (n ∷ []))
    ∙ ap (λ k. filter P (range_with_len 0 n ++ k ∷ [])) at ∙ ap (filter P) (sym (range_with_len-add 0 n 1))

-- ---- the first number that passes

pub first-passes : (P : ℕ → Bool) (lo len n : ℕ) → lo ≤ n → n < lo + len → P n ≡ true → (P (first P lo len) ≡ true) × (first P lo len < lo + len)
first-passes P lo zero n from below passes = absurd (omega arith)
first-passes P lo (suc len) n from below passes =
    by_test (P lo) refl (λ (ne : lo ≡ n → ⊥). first-passes P (lo + 1) len n (omega (arith, ne)) (omega arith) passes)
  where
    by_test : (b : Bool) → P lo ≡ b → ((lo ≡ n → ⊥) → (P (first P (lo + 1) len) ≡ true) × (first P (lo + 1) len < lo + 1 + len))
        → (P (if b then lo else first P (lo + 1) len) ≡ true) × ((if b then lo else first P (lo + 1) len) < lo + suc len)
    by_test true is ih = (is, omega arith)
    by_test false is ih = let rest = ih (λ e. cc) in (rest.0, omega (arith, rest.1))

-- it is the one before which none passes
pub first-is : (P : ℕ → Bool) (lo len n : ℕ) → lo ≤ n → n < lo + len → P n ≡ true → ((k : ℕ) → lo ≤ k → k < n → P k ≡ true → ⊥) → first P lo len ≡ n
first-is P lo zero n from below passes none = absurd (omega arith)
first-is P lo (suc len) n from below passes none =
    by_case (cases_eq lo n) (λ later. first-is P (lo + 1) len n later (omega arith) passes (λ k low high. none k (omega arith) high))
  where
    not-passing : (b : Bool) → lo < n → P lo ≡ b → P lo ≡ false
    not-passing true less is = absurd (none lo (omega arith) less is)
    not-passing false less is = is

    by_case : (lo ≡ n) ⊎ (lo ≡ n → ⊥) → (lo + 1 ≤ n → first P (lo + 1) len ≡ n) → (if P lo then lo else first P (lo + 1) len) ≡ n
    by_case (inl same) ih = ap (λ b. if b then lo else first P (lo + 1) len) (ap P same ∙ passes) ∙ same
    by_case (inr other) ih =
        let less : lo < n = omega (arith, other) in
        ap (λ b. if b then lo else first P (lo + 1) len) (not-passing (P lo) less refl) ∙ ih (omega (arith, less))

pub filter-head : (P : ℕ → Bool) (lo len : ℕ) → get_or (filter P (range_with_len lo len)) 0 0 ≡ first P lo len
filter-head P lo zero = refl
filter-head P lo (suc len) = by_test (P lo) (filter-head P (lo + 1) len)
  where
    by_test : (b : Bool) → get_or (filter P (range_with_len (lo + 1) len)) 0 0 ≡ first P (lo + 1) len
        → get_or (if b then lo ∷ filter P (range_with_len (lo + 1) len) else filter P (range_with_len (lo + 1) len)) 0 0
        ≡ (if b then lo else first P (lo + 1) len)
    by_test true ih = refl
    by_test false ih = ih

-- ---- how many pass

pub count-more : (P : ℕ → Bool) (b : Bool) (lo len at : ℕ) → lo + len ≡ at → P at ≡ b
    → count_passing P lo (suc len) ≡ (if b then suc (count_passing P lo len) else count_passing P lo len)
count-more P b lo zero at is h =
    let same : lo ≡ at = omega arith in ap (λ (t : Bool). if t then suc (count_passing P (lo + 1) zero) else count_passing P (lo + 1) zero) (ap P same ∙ h)
count-more P b lo (suc len) at is h = by_test (P lo) b (count-more P b (lo + 1) len at (omega arith) h)
  where
    by_test : (t b : Bool) → count_passing P (lo + 1) (suc len) ≡ (if b then suc (count_passing P (lo + 1) len) else count_passing P (lo + 1) len)
        → (if t then suc (count_passing P (lo + 1) (suc len)) else count_passing P (lo + 1) (suc len))
        ≡ (if b then suc (if t then suc (count_passing P (lo + 1) len) else count_passing P (lo + 1) len) else (if t then suc (count_passing P (lo + 1) len) else count_passing P (lo + 1) len))
    by_test true true ih = ap suc ih
    by_test true false ih = ap suc ih
    by_test false true ih = ih
    by_test false false ih = ih

-- they are as many as the list of them is long
pub count-length : (P : ℕ → Bool) (lo len : ℕ) → count_passing P lo len ≡ length (filter P (range_with_len lo len))
count-length P lo zero = refl
count-length P lo (suc len) = by_test (P lo) (count-length P (lo + 1) len)
  where
    by_test : (b : Bool) → count_passing P (lo + 1) len ≡ length (filter P (range_with_len (lo + 1) len))
        → (if b then suc (count_passing P (lo + 1) len) else count_passing P (lo + 1) len)
        ≡ length (if b then lo ∷ filter P (range_with_len (lo + 1) len) else filter P (range_with_len (lo + 1) len))
    by_test true ih = ap suc ih
    by_test false ih = ih

pub count-none : (lo len : ℕ) → count_passing (λ k. false) lo len ≡ 0
count-none lo zero = refl
count-none lo (suc len) = count-none (lo + 1) len

pub count-most : (P : ℕ → Bool) (lo len : ℕ) → count_passing P lo len ≤ len
count-most P lo zero = omega arith
count-most P lo (suc len) = by_test (P lo) (count-most P (lo + 1) len)
  where
    by_test : (b : Bool) → count_passing P (lo + 1) len ≤ len → (if b then suc (count_passing P (lo + 1) len) else count_passing P (lo + 1) len) ≤ suc len
    by_test true ih = omega (arith, ih)
    by_test false ih = omega (arith, ih)

-- of one value as often as positions pass
pub values-replicate : (P : ℕ → Bool) (value : ℤ) (lo len : ℕ) → values_at P lo (replicate len value) ≡ replicate (count_passing P lo len) value
values-replicate P value lo zero = refl
values-replicate P value lo (suc len) = by_test (P lo) (values-replicate P value (lo + 1) len)
  where
    by_test : (b : Bool) → values_at P (lo + 1) (replicate len value) ≡ replicate (count_passing P (lo + 1) len) value
        → (if b then value ∷ values_at P (lo + 1) (replicate len value) else values_at P (lo + 1) (replicate len value))
        ≡ replicate (if b then suc (count_passing P (lo + 1) len) else count_passing P (lo + 1) len) value
    by_test true ih = ap (λ l. value ∷ l) ih
    by_test false ih = ih

pub replicate-range : {A : Type 0} (x : A) (lo len : ℕ) → replicate len x ≡ map (λ k. x) (range_with_len lo len)
replicate-range x lo zero = refl
replicate-range x lo (suc len) = ap (λ l. x ∷ l) (replicate-range x (lo + 1) len)

-- a list by place, with another value at one place
pub set-range : {A : Type 0} (f g : ℕ → A) (lo len x y : ℕ) (v : A) → lo + x ≡ y → x < len → g y ≡ v → ((k : ℕ) → (k ≡ y → ⊥) → f k ≡ g k)
    → set (map f (range_with_len lo len)) x v ≡ map g (range_with_len lo len)
set-range f g lo zero x y v at below new same = absurd (omega arith)
set-range f g lo (suc len) zero y v at below new same =
    let here : y ≡ lo = omega arith in
    ap (λ l. v ∷ l) (rest len (lo + 1) (omega arith)) ∙ ap (λ w. w ∷ map g (range_with_len (lo + 1) len)) (sym new ∙ ap g here)
  where
    rest : (n from : ℕ) → y < from → map f (range_with_len from n) ≡ map g (range_with_len from n)
    rest zero from past = refl
    rest (suc n) from past =
        ap (λ w. w ∷ map f (range_with_len (from + 1) n)) (same from (λ e. omega arith)) ∙ ap (λ l. g from ∷ l) (rest n (from + 1) (omega arith))
set-range f g lo (suc len) (suc x) y v at below new same =
    ap (λ w. w ∷ set (map f (range_with_len (lo + 1) len)) x v) (same lo (λ e. omega arith))
    ∙ ap (λ l. g lo ∷ l) (set-range f g (lo + 1) len x y v (omega arith) (omega arith) new same)
