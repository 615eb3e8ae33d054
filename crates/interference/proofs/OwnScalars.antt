-- Names of which each iteration has its own scalar.
use Rattle.std.proofs.Common.{◌≡◌, ℕ, List, [], ◌∷◌, ◌++◌, reverse, nat_eq, Bool, true, false, ◌||◌, refl, ap, sym, ◌∙◌}
use Rattle.std.proofs.lemmas.List.{reverse-append}
use Rattle.std.proofs.lemmas.List.Folds.{list_any-append}
use Rattle.array_meaning.specs.Iterations.{is_in}

or_comm : (a b : Bool) → (a || b) ≡ (b || a)
or_comm true true = refl
or_comm true false = refl
or_comm false true = refl
or_comm false false = refl

or_false : (a : Bool) → (a || false) ≡ a
or_false true = refl
or_false false = refl

in_reverse : (k : ℕ) (xs : List ℕ) → is_in k (reverse xs) ≡ is_in k xs
in_reverse k [] = refl
in_reverse k (x ∷ xs) =
    ap (is_in k) (reverse-append (x ∷ []) xs)
    ∙ list_any-append (nat_eq k) (reverse xs) (x ∷ [])
    ∙ ap (λ b. b || (nat_eq k x || false)) (in_reverse k xs)
    ∙ ap (λ b. is_in k xs || b) (or_false (nat_eq k x))
    ∙ or_comm (is_in k xs) (nat_eq k x)

-- among the indices of inner loops, or among the others
pub in_both : (k : ℕ) (inner own : List ℕ) → (is_in k inner || is_in k own) ≡ is_in k (reverse inner ++ own)
in_both k inner own = ap (λ b. b || is_in k own) (sym (in_reverse k inner)) ∙ sym (list_any-append (nat_eq k) (reverse inner) own)
