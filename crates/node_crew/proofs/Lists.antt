-- Lists of images.
use Rattle.std.proofs.Common.{◌≡◌, ℕ, zero, suc, List, [], ◌∷◌, map, set, get_or, refl, ap, ◌∙◌}

-- a write that leaves the image leaves the list of images
pub map_set_or : {A B : Type 0} (f : A → B) (xs : List A) (k : ℕ) (x y : A) → x ≡ get_or xs k x → f y ≡ f x → map f (set xs k y) ≡ map f xs
map_set_or f [] zero x y e p = refl
map_set_or f [] (suc k) x y e p = refl
map_set_or f (z ∷ zs) zero x y e p = ap (λ q. q ∷ map f zs) (p ∙ ap f e)
map_set_or f (z ∷ zs) (suc k) x y e p = ap (λ l. f z ∷ l) (map_set_or f zs k x y e p)
