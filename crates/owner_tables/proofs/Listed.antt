-- Lists by the numbers from 0.
use Rattle.std.proofs.Common.{◌≡◌, ℕ, ◌<◌, List, length, map, get_or, ◌∙◌, ap, arith}
use Rattle.std.proofs.lemmas.List.FromFn.{get_or-map-range_with_len, length-map-range_with_len}
use Rattle.std.specs.List.{range_with_len}

module _ {A : Type 0} (xs : List A) (f : ℕ → A) (count : ℕ) (is : xs ≡ map f (range_with_len 0 count)) (k : ℕ) (below : k < count) where
  pub is-listed : k < length xs
  is-listed = omega (arith, ap length is, length-map-range_with_len f 0 count)

  pub listed-is : (d : A) → get_or xs k d ≡ f k
  listed-is d = ap (λ (ys : List A). get_or ys k d) is ∙ get_or-map-range_with_len f 0 count k k d below (omega arith)
