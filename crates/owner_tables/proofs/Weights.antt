-- Weights of the dimensions of a grid.
use Rattle.std.proofs.Common.{◌≡◌, ℕ, zero, suc, ◌+◌, ◌*◌, ◌<◌, ◌≤◌, List, [], ◌∷◌, ◌∙◌, ap, arith, length, get_or, take, All}
use Rattle.std.proofs.Math.Nat.{mul-le-mul_left}
use Rattle.std.proofs.lemmas.List.Elements.{All-tail}
use Rattle.hpf_base.specs.ElementOrder.{product}
use Rattle.hpf_base.proofs.ElementOrder.{product-some}
use Rattle.owner_tables.specs.Columns.{weight}

pub weight-next : (grid : List ℕ) (k : ℕ) → k < length grid → weight grid (k + 1) ≡ weight grid k * get_or grid k 0
weight-next [] k within = absurd (omega arith)
weight-next (e ∷ es) zero within =
    let one : zero + 1 ≡ suc zero = omega arith in ap (λ n. product (take n (e ∷ es))) one ∙ omega arith
weight-next (e ∷ es) (suc k) within =
    let at : suc k + 1 ≡ suc (k + 1) = omega arith in
    let rest : e * weight es (k + 1) ≡ e * (weight es k * get_or es k 0) = ap (λ n. e * n) (weight-next es k (omega arith)) in
    ap (λ n. product (take n (e ∷ es))) at ∙ omega (arith, rest)

pub weight-most : (grid : List ℕ) (k : ℕ) → All (λ e. 1 ≤ e) grid → weight grid k ≤ product grid
weight-most grid zero some = product-some grid some
weight-most [] (suc k) some = omega arith
weight-most (e ∷ es) (suc k) some = mul-le-mul_left e (weight-most es k (All-tail (λ x. 1 ≤ x) e es some))
