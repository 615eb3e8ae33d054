-- The number of rounds up.
use Rattle.std.proofs.Common.{◌≡◌, ℕ, zero, suc, ◌+◌, ◌^◌, ◌<◌, ◌≤◌, ◌⊎◌, inl, inr, true, nat_le, length, get_or, sym, ◌∙◌, ap, arith}
use Rattle.std.proofs.lemmas.Bool.{leb-true, le-leb, lt-leb, cases_lt}
use Rattle.std.proofs.lemmas.List.FromFn.{length-range_with_len, get_or-range_with_len}
use Rattle.std.proofs.lemmas.List.Sums.{position_or_len_is, passes_at_first}
use Rattle.std.proofs.Math.Nat.{pow-suc}
use Rattle.std.specs.List.{range_with_len}
use Rattle.reduction_tree.specs.Tree.{levels}

pub power-some : (k : ℕ) → 0 < 2 ^ k
power-some zero = omega arith
power-some (suc k) = let h = power-some k in let e = pow-suc 2 k in rw e (omega arith)

power-above : (k : ℕ) → k < 2 ^ k
power-above zero = omega arith
power-above (suc k) = let h = power-above k in let e = pow-suc 2 k in rw e (omega arith)

at_number : (nodes k : ℕ) → k < nodes → get_or (range_with_len 0 nodes) k 0 ≡ k
at_number nodes k lt = let e : get_or (range_with_len 0 nodes) k 0 ≡ 0 + k = get_or-range_with_len 0 nodes k 0 lt in e ∙ omega arith

few : (nodes l : ℕ) → ((k : ℕ) → k < l → 2 ^ k < nodes) → l ≤ nodes
few nodes zero below = omega arith
few nodes (suc l) below = let h = below l (omega arith) in let g = power-above l in omega arith

pub levels_is : (nodes l : ℕ) → nodes ≤ 2 ^ l → ((k : ℕ) → k < l → 2 ^ k < nodes) → levels nodes ≡ l
levels_is nodes l enough below =
    let within : l ≤ nodes = few nodes l below in
    let len : length (range_with_len 0 nodes) ≡ nodes = length-range_with_len 0 nodes in
    position_or_len_is (λ r. nat_le nodes (2 ^ r)) (range_with_len 0 nodes) l 0 (omega arith)
    (λ k lt. ap (λ r. nat_le nodes (2 ^ r)) (at_number nodes k (omega arith)) ∙ lt-leb nodes (2 ^ k) (below k lt))
    (λ lt. ap (λ r. nat_le nodes (2 ^ r)) (at_number nodes l (omega arith)) ∙ le-leb nodes (2 ^ l) enough)

pub levels_enough : (nodes : ℕ) → nodes ≤ 2 ^ levels nodes
levels_enough nodes = by_place (levels nodes) (cases_lt (levels nodes) (length (range_with_len 0 nodes))) (passes_at_first (λ r. nat_le nodes (2 ^ r)) (range_with_len 0 nodes) 0)
  where
    by_place : (l : ℕ) → (l < length (range_with_len 0 nodes)) ⊎ (length (range_with_len 0 nodes) ≤ l)
        → (l < length (range_with_len 0 nodes) → nat_le nodes (2 ^ get_or (range_with_len 0 nodes) l 0) ≡ true) → nodes ≤ 2 ^ l
    by_place l (inl lt) passes =
        let len : length (range_with_len 0 nodes) ≡ nodes = length-range_with_len 0 nodes in
        leb-true nodes (2 ^ l) (ap (λ r. nat_le nodes (2 ^ r)) (sym (at_number nodes l (omega arith))) ∙ passes lt)
    by_place l (inr ge) passes =
        let len : length (range_with_len 0 nodes) ≡ nodes = length-range_with_len 0 nodes in
        let g = power-above l in omega arith
