-- Tests of all elements of lists.
use Rattle.std.proofs.Common.{◌+◌, ◌≡◌, Bool, true, false, List, [], ◌∷◌, ◌++◌, refl, sym, ap, ◌∙◌}
use Rattle.std.specs.Prelude.{◌&&◌}
use Rattle.std.specs.List.{list_all}

pub and_assoc : (a b c : Bool) → (a && b && c) ≡ (a && (b && c))
and_assoc true b c = refl
and_assoc false b c = refl

pub all_append : {X : Type 0} (test : X → Bool) (xs ys : List X) → list_all test (xs ++ ys) ≡ (list_all test xs && list_all test ys)
all_append test [] ys = refl
all_append test (x ∷ xs) ys = ap (λ b. test x && b) (all_append test xs ys) ∙ sym (and_assoc (test x) (list_all test xs) (list_all test ys))

pub all_append_three : {X : Type 0} (test : X → Bool) (xs ys zs : List X) → list_all test (xs ++ ys ++ zs) ≡ (list_all test xs && list_all test ys && list_all test zs)
all_append_three test xs ys zs = all_append test (xs ++ ys) zs ∙ ap (λ b. b && list_all test zs) (all_append test xs ys)
