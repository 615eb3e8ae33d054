-- The extents of arrangements, and their product.
use Rattle.std.proofs.Common.{◌≡◌, ℕ, zero, suc, ◌+◌, ◌*◌, ◌<◌, ◌≤◌, Bool, true, false, List, [], ◌∷◌, drop, length, get_or, min, nat_lt, refl, sym, ap, ◌∙◌, arith}
use Rattle.std.specs.Prelude.{All, ◌==◌, ◌&&◌, nat_le}
use Rattle.std.proofs.Math.Nat.{mul_assoc, mul_comm, mul-le-mul_left}
use Rattle.std.proofs.lemmas.Bool.Decides.{nat_tests}
use Rattle.std.proofs.lemmas.List.{drop_more}
use Rattle.std.proofs.lemmas.List.Elements.{All-cons, All-nil}
use Rattle.hpf_base.specs.ElementOrder.{product}
use Rattle.hpf_base.specs.Grid.{IsGrid}
use Rattle.hpf_base.specs.declared.limits.TheConstants.{MAX_NODES, MAX_RANK}
use Rattle.hpf_base.proofs.ElementOrder.{factor_some, product-some}
use Rattle.distribution_rules.specs.Distributed.{has_all_nodes}

-- ---- a product that is cut off

min_times : (a b cap : ℕ) → min (min a cap * b) cap ≡ min (a * b) cap
min_times a zero cap = let none : min a cap * 0 ≡ a * 0 = omega arith in ap (λ m. min m cap) none
min_times a (suc k) cap = by (nat_lt cap a) refl
  where
    by : (t : Bool) → nat_lt cap a ≡ t → min (min a cap * suc k) cap ≡ min (a * suc k) cap
    by true e =
        let past : cap < a = grind (arith, nat_tests) in
        let at : min a cap ≡ cap = omega arith in
        omega (arith, ap (λ m. m * suc k) at)
    by false e =
        let within : a ≤ cap = grind (arith, nat_tests) in
        let at : min a cap ≡ a = omega arith in
        omega (arith, ap (λ m. m * suc k) at)

pub capped_next : (cap : ℕ) (xs : List ℕ) (n nodes z after whole : ℕ) → n < length xs → after ≡ min (nodes * get_or xs n z) cap →
    min (nodes * product (drop n xs)) cap ≡ whole → min (after * product (drop (n + 1) xs)) cap ≡ whole
capped_next cap xs n nodes z after whole within more so_far =
    let x = get_or xs n z in
    let rest = product (drop (n + 1) xs) in
    ap (λ m. min (m * rest) cap) more
    ∙ min_times (nodes * x) rest cap
    ∙ ap (λ m. min m cap) (mul_assoc nodes x rest)
    ∙ ap (λ l. min (nodes * product l) cap) (sym (drop_more xs n z within))
    ∙ so_far

-- ---- arrangements of nodes

-- the factors of a product that isn't 0, and is no greater than a limit
factors : (most : ℕ) (xs : List ℕ) → 1 ≤ product xs → product xs ≤ most → All (λ n. (1 ≤ n) × (n ≤ most)) xs
factors most [] some few = All-nil (λ n. (1 ≤ n) × (n ≤ most))
factors most (x ∷ xs) some few =
    let rest : 1 ≤ product xs = factor_some x (product xs) some in
    let first : 1 ≤ x = factor_some (product xs) x (omega (arith, some, mul_comm x (product xs))) in
    let wide : x * 1 ≤ x * product xs = mul-le-mul_left x rest in
    let long : product xs * 1 ≤ product xs * x = mul-le-mul_left (product xs) first in
    All-cons (λ n. (1 ≤ n) × (n ≤ most)) x xs (first, omega (arith, wide, few))
    (factors most xs rest (omega (arith, long, few, mul_comm x (product xs))))

-- the extents of a grid
pub few_nodes : (ps : List ℕ) → IsGrid ps → All (λ n. (1 ≤ n) × (n ≤ MAX_NODES)) ps
few_nodes ps is = factors MAX_NODES ps (product-some ps is.extents) is.nodes

pub both : (a b : Bool) → (a && b) ≡ true → (a ≡ true) × (b ≡ true)
both true b h = (refl, h)
both false b h = absurd cc

at_most : (a b : ℕ) → nat_le a b ≡ true → a ≤ b
at_most a b h = grind (arith, nat_tests)

same : (a b : ℕ) → (a == b) ≡ true → a ≡ b
same a b h = grind (arith, nat_tests)

-- an arrangement of all nodes of a grid is a grid
pub is_grid : (grid ps : List ℕ) → IsGrid grid → has_all_nodes grid ps ≡ true → IsGrid ps
is_grid grid ps is all =
    let nodes = both (nat_le 1 (length ps) && nat_le (length ps) MAX_RANK) (product ps == product grid) all in
    let ranks = both (nat_le 1 (length ps)) (nat_le (length ps) MAX_RANK) nodes.0 in
    let as_many : product ps ≡ product grid = same (product ps) (product grid) nodes.1 in
    let some : 1 ≤ product grid = product-some grid is.extents in
    let few : product ps ≤ MAX_NODES = omega (arith, as_many, is.nodes) in
    record {
      some = at_most 1 (length ps) ranks.0;
      few = at_most (length ps) MAX_RANK ranks.1;
      extents = λ k d within. (factors MAX_NODES ps (omega (arith, as_many, some)) few k d within).0;
      nodes = few;
    }

pub as_many : (grid ps : List ℕ) → has_all_nodes grid ps ≡ true → product ps ≡ product grid
as_many grid ps all = same (product ps) (product grid) (both (nat_le 1 (length ps) && nat_le (length ps) MAX_RANK) (product ps == product grid) all).1
