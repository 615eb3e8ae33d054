-- Members of lists of numbers.
use Rattle.std.proofs.Common.{◌≡◌, ℕ, zero, suc, ◌+◌, ◌<◌, ◌≤◌, ◌==◌, ◌||◌, Bool, true, false, if◌then◌else◌, List, [], ◌∷◌, ◌++◌, filter, All, refl, sym, ◌∙◌, ap, subst, arith, eq-eqb}
use Rattle.std.proofs.lemmas.Bool.{eqb-false, eqb-true}
use Rattle.std.proofs.lemmas.List.Elements.{All-cons, All-head, All-nil, All-tail}
use Rattle.std.specs.List.{list_any, range_with_len}

pub or-right : (a b : Bool) → b ≡ true → (a || b) ≡ true
or-right true b e = refl
or-right false b e = e

-- the number is one of the list
abbrev pub is-one : List ℕ → ℕ → Bool
is-one xs t = list_any (λ v. v == t) xs

pub all-at : (P : ℕ → Type 0) (xs : List ℕ) (t : ℕ) → All P xs → is-one xs t ≡ true → P t
all-at P [] t all any = absurd cc
all-at P (x ∷ xs) t all any = by_case (x == t) refl any (all-at P xs t (All-tail P x xs all))
  where
    by_case : (b : Bool) → (x == t) ≡ b → (b || is-one xs t) ≡ true → (is-one xs t ≡ true → P t) → P t
    by_case true is any rest = subst P (eqb-true x t is) (All-head P x xs all)
    by_case false is any rest = rest any

pub all-of : (P : ℕ → Type 0) (xs : List ℕ) → ((t : ℕ) → is-one xs t ≡ true → P t) → All P xs
all-of P [] each = All-nil P
all-of P (x ∷ xs) each =
    All-cons P x xs (each x (ap (λ b. b || is-one xs x) (eq-eqb x x refl))) (all-of P xs (λ t any. each t (or-right (x == t) (is-one xs t) any)))

pub one-append : (xs ys : List ℕ) (t : ℕ) → is-one (xs ++ ys) t ≡ (is-one xs t || is-one ys t)
one-append [] ys t = refl
one-append (x ∷ xs) ys t = ap (λ b. (x == t) || b) (one-append xs ys t) ∙ grouped (x == t) (is-one xs t) (is-one ys t)
  where
    grouped : (a b c : Bool) → (a || (b || c)) ≡ ((a || b) || c)
    grouped true b c = refl
    grouped false b c = refl

-- a number in a range that passes is one of those that do
pub one-passing : (P : ℕ → Bool) (lo len t : ℕ) → lo ≤ t → t < lo + len → P t ≡ true → is-one (filter P (range_with_len lo len)) t ≡ true
one-passing P lo zero t from below passes = absurd (omega arith)
one-passing P lo (suc len) t from below passes =
    by_case (lo == t) refl (λ above. one-passing P (lo + 1) len t (omega (arith, above, from)) (omega (arith, below)) passes)
  where
    rest : List ℕ
    rest = filter P (range_with_len (lo + 1) len)

    here : (b : Bool) → P lo ≡ b → lo ≡ t → is-one (if b then lo ∷ rest else rest) t ≡ true
    here true is same = ap (λ b. b || is-one rest t) (eq-eqb lo t same)
    here false is same = let e : true ≡ false = sym passes ∙ ap P (sym same) ∙ is in absurd cc

    later : (b : Bool) → is-one rest t ≡ true → is-one (if b then lo ∷ rest else rest) t ≡ true
    later true any = or-right (lo == t) (is-one rest t) any
    later false any = any

    by_case : (b : Bool) → (lo == t) ≡ b → ((lo ≡ t → ⊥) → is-one rest t ≡ true) → is-one (if P lo then lo ∷ rest else rest) t ≡ true
    by_case true is more = here (P lo) refl (eqb-true lo t is)
    by_case false is more = later (P lo) (more (eqb-false lo t is))

-- and each of those that do is one of the range and passes
pub passing-one : (P : ℕ → Bool) (lo len t : ℕ) → is-one (filter P (range_with_len lo len)) t ≡ true → (t < lo + len) × (P t ≡ true)
passing-one P lo zero t any = absurd cc
passing-one P lo (suc len) t any = by_case (P lo) refl any (λ any. let h = passing-one P (lo + 1) len t any in let b = h.0 in (omega (arith, b), h.1))
  where
    rest : List ℕ
    rest = filter P (range_with_len (lo + 1) len)

    here : (b : Bool) → (lo == t) ≡ b → P lo ≡ true → (b || is-one rest t) ≡ true → (is-one rest t ≡ true → (t < lo + suc len) × (P t ≡ true))
        → (t < lo + suc len) × (P t ≡ true)
    here true same is any more = let e = eqb-true lo t same in (omega (arith, e), ap P (sym e) ∙ is)
    here false same is any more = more any

    by_case : (b : Bool) → P lo ≡ b → is-one (if b then lo ∷ rest else rest) t ≡ true → (is-one rest t ≡ true → (t < lo + suc len) × (P t ≡ true))
        → (t < lo + suc len) × (P t ≡ true)
    by_case true is any more = here (lo == t) refl is any more
    by_case false is any more = more any

pub filter-agree : (P Q : ℕ → Bool) (lo len : ℕ) → ((t : ℕ) → lo ≤ t → t < lo + len → P t ≡ Q t) → filter P (range_with_len lo len) ≡ filter Q (range_with_len lo len)
filter-agree P Q lo zero same = refl
filter-agree P Q lo (suc len) same =
    ap (λ b. if b then lo ∷ filter P (range_with_len (lo + 1) len) else filter P (range_with_len (lo + 1) len)) (same lo (omega arith) (omega arith))
    ∙ ap (λ xs. if Q lo then lo ∷ xs else xs) (filter-agree P Q (lo + 1) len (λ t from below. same t (omega (arith, from)) (omega (arith, below))))
