-- The number of tuples of a space.
use Rattle.std.proofs.Common.{◌≡◌, ℕ, zero, suc, ◌*◌, ◌<◌, List, [], ◌∷◌, length, ap, ◌∙◌, arith}
use Rattle.std.specs.Prelude.{slice_index_or}
use Rattle.hpf_base.specs.ElementOrder.{product}

pub product_zero : (ns : List ℕ) (k d : ℕ) → k < length ns → slice_index_or ns k d ≡ 0 → product ns ≡ 0
product_zero [] k d h e = let f : ⊥ = omega (arith, h) in absurd f
product_zero (n ∷ ns) zero d h e = ap (λ n. n * product ns) e ∙ (let f : 0 * product ns ≡ 0 = omega arith in f)
product_zero (n ∷ ns) (suc k) d h e = ap (λ s. n * s) (product_zero ns k d (let f : k < length ns = omega (arith, h) in f) e) ∙ (let f : n * 0 ≡ 0 = omega arith in f)
