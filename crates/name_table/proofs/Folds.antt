-- Tests of all elements of lists that are made of others.
use Rattle.std.proofs.Common.{◌≡◌, Bool, List, [], ◌∷◌, refl, ap}
use Rattle.std.specs.Prelude.{◌&&◌, map}
use Rattle.std.specs.List.{list_all}

pub all_map : {X Y : Type 0} (test : Y → Bool) (f : X → Y) (xs : List X) → list_all test (map f xs) ≡ list_all (λ x. test (f x)) xs
all_map test f [] = refl
all_map test f (x ∷ xs) = ap (λ b. test (f x) && b) (all_map test f xs)
