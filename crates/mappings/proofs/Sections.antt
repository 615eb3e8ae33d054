-- Laws on sections of positions.
use Rattle.std.proofs.Common.{◌≡◌, ℕ, zero, suc, ◌+◌, ◌-◌, ◌<◌, ◌≤◌, ◌⊎◌, inl, inr, Bool, true, false, cond, List, ◌∷◌, refl, sym, ◌∙◌, ap, arith, min, max}
use Rattle.std.proofs.lemmas.Bool.Decides.{nat_tests}
use Rattle.std.specs.Prelude.{filter}
use Rattle.std.specs.List.{range_with_len}
use Rattle.mappings.specs.Positions.{in_section}

-- two tests that are true together are one
pub same_test : (a b : Bool) → (a ≡ true → b ≡ true) → (b ≡ true → a ≡ true) → a ≡ b
same_test true true f g = refl
same_test true false f g = sym (f refl)
same_test false true f g = g refl
same_test false false f g = refl

pub in_section_true : (a b j : ℕ) → in_section a b j ≡ true → (a ≤ j) × (j ≤ b)
in_section_true a b j h = grind (arith, nat_tests)

pub in_section_false : (a b j : ℕ) → in_section a b j ≡ false → (j < a) ⊎ (b < j)
in_section_false a b j h = grind (arith, nat_tests)

pub in_section_holds : (a b j : ℕ) → a ≤ j → j ≤ b → in_section a b j ≡ true
in_section_holds a b j h k = grind (arith, nat_tests)

-- the number in front of a filtered list of numbers is kept or not
filter-range_front : (t : Bool) (lo n a b : ℕ) (rest : List ℕ) → in_section a b lo ≡ t
    → rest ≡ range_with_len (max (lo + 1) a) (min (lo + 1 + n) (b + 1) - max (lo + 1) a)
    → cond t (lo ∷ rest) rest ≡ range_with_len (max lo a) (min (lo + suc n) (b + 1) - max lo a)
filter-range_front true lo n a b rest e is =
    let within : (a ≤ lo) × (lo ≤ b) = in_section_true a b lo e in
    let at : lo ≡ max lo a = omega arith in
    let next : max (lo + 1) a ≡ max lo a + 1 = omega arith in
    let count : min (lo + suc n) (b + 1) - max lo a ≡ suc (min (lo + 1 + n) (b + 1) - max (lo + 1) a) = omega arith in
    rw (is, count, next) (ap (λ k. k ∷ range_with_len (max lo a + 1) (min (lo + 1 + n) (b + 1) - (max lo a + 1))) at)
filter-range_front false lo n a b rest e is = outside (in_section_false a b lo e)
  where
    outside : (lo < a) ⊎ (b < lo) → rest ≡ range_with_len (max lo a) (min (lo + suc n) (b + 1) - max lo a)
    outside (inl below) =
        let at : max (lo + 1) a ≡ max lo a = omega arith in
        let count : min (lo + 1 + n) (b + 1) ≡ min (lo + suc n) (b + 1) = omega arith in
        rw (is, at, count) refl
    outside (inr above) =
        let none : min (lo + 1 + n) (b + 1) - max (lo + 1) a ≡ 0 = omega arith in
        let none' : min (lo + suc n) (b + 1) - max lo a ≡ 0 = omega arith in
        rw (is, none, none') refl

-- a test that is true in a section keeps of a list of numbers what stands in the section
pub filter-range : (P : ℕ → Bool) (lo n a b : ℕ) → ((j : ℕ) → lo ≤ j → j < lo + n → P j ≡ in_section a b j)
    → filter P (range_with_len lo n) ≡ range_with_len (max lo a) (min (lo + n) (b + 1) - max lo a)
filter-range P lo zero a b same =
    let none : min (lo + zero) (b + 1) - max lo a ≡ 0 = omega arith in sym (ap (range_with_len (max lo a)) none)
filter-range P lo (suc n) a b same =
    ap (λ t. cond t (lo ∷ filter P (range_with_len (lo + 1) n)) (filter P (range_with_len (lo + 1) n))) (same lo (omega arith) (omega arith))
    ∙ filter-range_front (in_section a b lo) lo n a b (filter P (range_with_len (lo + 1) n)) refl
    (filter-range P (lo + 1) n a b (λ j l u. same j (omega arith) (omega arith)))
