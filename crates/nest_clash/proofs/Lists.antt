-- What lists of touches have, and tests that are true or false.
use Rattle.std.proofs.Common.{◌≡◌, ℕ, zero, suc, ◌<◌, List, [], ◌∷◌, Bool, true, false, ◌||◌, if◌then◌else◌, Option, Some, None, refl, ap, ◌∙◌, arith, ⊎_elim, Contains}
use Rattle.std.specs.List.{list_any}
use Rattle.std.specs.Option.{option_or}
use Rattle.std.proofs.lemmas.Bool.{cases_eq}
use Rattle.array_meaning.specs.Touches.{Touch}
use Rattle.array_meaning.specs.Clashes.{meets, first_of}

pub if_so : {A : Type 0} (b : Bool) (x y : A) → b ≡ true → (if b then x else y) ≡ x
if_so b x y e = ap (λ c. if c then x else y) e

pub if_not : {A : Type 0} (b : Bool) (x y : A) → b ≡ false → (if b then x else y) ≡ y
if_not b x y e = ap (λ c. if c then x else y) e

pub by_cases : {Z : Type 0} (b : Bool) → (b ≡ true → Z) → (b ≡ false → Z) → Z
by_cases true t f = t refl
by_cases false t f = f refl

pub nothing_in : {A : Type 0} (x : A) → Contains [] x → ⊥
nothing_in x h = let z : h.0 < 0 = h.1 in omega (arith, z)

-- one of a list meets a touch
pub some_met : (x : Touch) (ys : List Touch) (y : Touch) → Contains ys y → meets x y ≡ true → list_any (meets x) ys ≡ true
some_met x [] y c e = absurd (nothing_in y c)
some_met x (z ∷ ys) y (zero, lt, here) e =
    let t : meets x z ≡ true = ap (meets x) here ∙ e in ap (λ b. b || list_any (meets x) ys) t
some_met x (z ∷ ys) y (suc k, lt, here) e = by_cases (meets x z)
    (λ t. ap (λ b. b || list_any (meets x) ys) t)
    (λ f. ap (λ b. b || list_any (meets x) ys) f ∙ some_met x ys y (k, omega arith, here) e)

none_left : {A : Type 0} (x y : Option A) → option_or x y ≡ None → (x ≡ None) × (y ≡ None)
none_left None y e = (refl, e)
none_left (Some x) y e = absurd cc

-- where there is no first one, there is none
pub none_of : {A : Type 0} (n : ℕ) (f : ℕ → Option A) → first_of n f ≡ None → (i : ℕ) → i < n → f i ≡ None
none_of zero f e i lt = absurd (omega arith)
none_of (suc n) f e i lt =
    let both = none_left (first_of n f) (f n) e in
    ⊎_elim (λ same. ap f same ∙ both.1) (λ other. none_of n f both.0 i (omega (arith, other))) (cases_eq i n)
