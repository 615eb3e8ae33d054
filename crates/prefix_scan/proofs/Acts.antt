-- Who sends and who takes in a round of a prefix scan.
use Rattle.std.proofs.Common.{◌≡◌, ℕ, ◌+◌, ◌-◌, ◌^◌, ◌<◌, ◌≤◌, ◌⊎◌, inl, inr, Bool, true, false, nat_lt, nat_le, if◌then◌else◌, length, get_or, Some, None, refl, sym, ◌∙◌, ap, arith}
use Rattle.std.proofs.lemmas.Bool.{lt-ltb, le-ltb, ltb-true, ltb-false, leb-false, cases_lt}
use Rattle.std.proofs.lemmas.List.{get_or_past}
use Rattle.std.proofs.lemmas.List.FromFn.{length-range_with_len, get_or-range_with_len}
use Rattle.std.proofs.lemmas.List.Sums.{fails_before_first}
use Rattle.std.proofs.Math.Nat.{pow-le-pow_right}
use Rattle.std.specs.List.{range_with_len}
use Rattle.hpf_base.specs.declared.node.NodeId.{NodeId}
use Rattle.reduction_tree.specs.Tree.{levels, node_id}
use Rattle.reduction_tree.proofs.RoundsUp.{levels_enough}
use Rattle.prefix_scan.specs.Scan.{send_of, take_of}
use Rattle.prefix_scan.proofs.Rounds.{takes}

same_node : (x y : ℕ) → Some (node_id x) ≡ Some (node_id y) → x ≡ y
same_node x y e = let h : node_id x ≡ node_id y = cc in ap (λ (n : NodeId). n.0) h

module _ (nodes r p q : ℕ) where
  sends-true : send_of nodes r p ≡ Some (node_id q) → (p + 2 ^ r ≡ q) × (p + 2 ^ r < nodes)
  sends-true is = by_test (nat_lt (p + 2 ^ r) nodes) refl is
    where
      by_test : (b : Bool) → nat_lt (p + 2 ^ r) nodes ≡ b → (if b then Some (node_id (p + 2 ^ r)) else None) ≡ Some (node_id q) → (p + 2 ^ r ≡ q) × (p + 2 ^ r < nodes)
      by_test true e is = (same_node (p + 2 ^ r) q is, ltb-true (p + 2 ^ r) nodes e)
      by_test false e is = cc

  takes-true : take_of r q ≡ Some (node_id p) → p + 2 ^ r ≡ q
  takes-true is = by_test (nat_lt q (2 ^ r)) refl is
    where
      by_test : (b : Bool) → nat_lt q (2 ^ r) ≡ b → (if b then None else Some (node_id (q - 2 ^ r))) ≡ Some (node_id p) → p + 2 ^ r ≡ q
      by_test true e is = cc
      by_test false e is = let at = same_node (q - 2 ^ r) p is in let le = ltb-false q (2 ^ r) e in omega (arith, at, le)

  pub sends-is-takes : send_of nodes r p ≡ Some (node_id q) → take_of r q ≡ Some (node_id p)
  sends-is-takes is = let e = sends-true is in let at : q - 2 ^ r ≡ p = omega (arith, e.0) in takes r q (omega (arith, e.0)) ∙ ap (λ x. Some (node_id x)) at

  pub takes-is-sends : q < nodes → take_of r q ≡ Some (node_id p) → send_of nodes r p ≡ Some (node_id q)
  takes-is-sends in' is = let e = takes-true is in rw (e, lt-ltb q nodes in') refl

  pub sends-within : send_of nodes r p ≡ Some (node_id q) → q < nodes
  sends-within is = let e = sends-true is in omega (arith, e.0, e.1)

  pub takes-within : q < nodes → take_of r q ≡ Some (node_id p) → p < nodes
  takes-within in' is = let e = takes-true is in omega (arith, e)

at_number : (nodes r : ℕ) → get_or (range_with_len 0 nodes) r r ≡ r
at_number nodes r = by_place (cases_lt r nodes)
  where
    by_place : (r < nodes) ⊎ (nodes ≤ r) → get_or (range_with_len 0 nodes) r r ≡ r
    by_place (inl lt) = let e : get_or (range_with_len 0 nodes) r r ≡ 0 + r = get_or-range_with_len 0 nodes r r lt in e ∙ omega arith
    by_place (inr ge) = let len : length (range_with_len 0 nodes) ≡ nodes = length-range_with_len 0 nodes in get_or_past (range_with_len 0 nodes) r r (omega arith)

-- fewer rounds aren't enough
more-nodes : (nodes r : ℕ) → r < levels nodes → 2 ^ r < nodes
more-nodes nodes r lt =
    leb-false nodes (2 ^ r) (ap (λ k. nat_le nodes (2 ^ k)) (sym (at_number nodes r)) ∙ fails_before_first (λ k. nat_le nodes (2 ^ k)) (range_with_len 0 nodes) r r lt)

-- node 0 sends in each of the rounds
pub first-sends : (nodes r : ℕ) → r < levels nodes → (0 < nodes) × (send_of nodes r 0 ≡ Some (node_id (0 + 2 ^ r)))
first-sends nodes r lt = let h = more-nodes nodes r lt in (omega arith, rw (lt-ltb (0 + 2 ^ r) nodes (omega arith)) refl)

pub over-now : (nodes r p : ℕ) → p < nodes → levels nodes ≤ r → (send_of nodes r p ≡ None) × (take_of r p ≡ None)
over-now nodes r p lt le =
    let enough = levels_enough nodes in
    let more : 2 ^ levels nodes ≤ 2 ^ r = pow-le-pow_right (omega arith) le in
    let below : p < 2 ^ r = omega arith in
    (rw (le-ltb (p + 2 ^ r) nodes (omega arith)) refl, rw (lt-ltb p (2 ^ r) below) refl)
