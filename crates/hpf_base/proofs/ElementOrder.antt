-- Array-element order, place by place.
use Rattle.std.proofs.Common.{◌≡◌, ℕ, zero, suc, ◌+◌, ◌*◌, ◌<◌, ◌≤◌, List, [], ◌∷◌, sym, ◌∙◌, ap, arith, length, get_or, drop, lit≤}
use Rattle.std.proofs.Math.Nat.{mul_assoc, mul-le-mul_left, mul-zero}
use Rattle.std.proofs.lemmas.List.{drop_more}
use Rattle.std.proofs.lemmas.List.Elements.{All-head, All-tail, All-drop}
use Rattle.std.proofs.lemmas.Nat.{mul-le}
use Rattle.std.specs.Prelude.{All}
use Rattle.hpf_base.specs.ElementOrder.{product}

-- extents that aren't 0 have an element
pub product-some : (extents : List ℕ) → All (λ extent. 1 ≤ extent) extents → 1 ≤ product extents
product-some [] some = lit≤ tt
product-some (extent ∷ extents) some =
    mul-le 1 1 extent (product extents) (All-head (λ e. 1 ≤ e) extent extents some)
    (product-some extents (All-tail (λ e. 1 ≤ e) extent extents some))

pub factor_some : (n m : ℕ) → 1 ≤ n * m → 1 ≤ m
factor_some n zero some = absurd (omega (arith, mul-zero n))
factor_some n (suc m) some = omega arith

-- one extent more is multiplied in
pub product-drop_more : (extents : List ℕ) (n i : ℕ) → i < length extents
    → n * product (drop i extents) ≡ n * get_or extents i 0 * product (drop (i + 1) extents)
product-drop_more extents n i inside =
    ap (λ rest. n * product rest) (drop_more extents i 0 inside) ∙ sym (mul_assoc n (get_or extents i 0) (product (drop (i + 1) extents)))

-- where no extent is 0 the product of the first ones is no greater than that of all
pub product-front : (extents : List ℕ) (n i : ℕ) → i < length extents → n * product (drop i extents) ≡ product extents
    → All (λ extent. 1 ≤ extent) extents → n * get_or extents i 0 ≤ product extents
product-front extents n i inside is some =
    let rest : 1 ≤ product (drop (i + 1) extents) = product-some (drop (i + 1) extents) (All-drop (λ e. 1 ≤ e) (i + 1) extents some) in
    let first = n * get_or extents i 0 in
    let grows : first * 1 ≤ first * product (drop (i + 1) extents) = mul-le-mul_left first rest in
    omega (arith, grows, product-drop_more extents n i inside, is)
