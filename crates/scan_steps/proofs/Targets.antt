-- To whom a node sends in a round of a scan and from whom it takes, by what it does there.
use Rattle.std.proofs.Common.{◌≡◌, ℕ, ◌+◌, ◌-◌, ◌^◌, ◌<◌, ◌≤◌, Bool, true, false, [], ◌∷◌, filter, Some, None, nat_lt, if◌then◌else◌, refl, sym, ◌∙◌, ap, arith, eq-eqb}
use Rattle.std.proofs.lemmas.Bool.{eqb-true, ltb-true, ltb-false}
use Rattle.std.proofs.lemmas.Option.{none-some, same_Some}
use Rattle.std.specs.List.{range_with_len}
use Rattle.hpf_base.specs.declared.node.NodeId.{NodeId}
use Rattle.machine_steps.specs.Tree.{scan_sends}
use Rattle.prefix_scan.specs.Scan.{send_of, take_of}
use Rattle.tree_steps.proofs.Passing.{none-passes, one-passes}

abbrev numbered : ℕ → NodeId
numbered n = record { 0 = n }

same-node : (p q : NodeId) → Some p ≡ Some q → p.0 ≡ q.0
same-node p q e = ap (λ (n : NodeId). n.0) (same_Some p q e)

module _ (count round id : ℕ) where
  pub sends-to : (q : NodeId) → send_of count round id ≡ Some q → q.0 ∷ [] ≡ filter (scan_sends round id) (range_with_len 0 count)
  sends-to q is = by_test (nat_lt (id + 2 ^ round) count) refl is
    where
      by_test : (b : Bool) → nat_lt (id + 2 ^ round) count ≡ b → (if b then Some (numbered (id + 2 ^ round)) else None) ≡ Some q
          → q.0 ∷ [] ≡ filter (scan_sends round id) (range_with_len 0 count)
      by_test true h e =
          let at : id + 2 ^ round ≡ q.0 = same-node (numbered (id + 2 ^ round)) q e in
          let lt : id + 2 ^ round < count = ltb-true (id + 2 ^ round) count h in
          one-passes (scan_sends round id) count q.0 (omega arith) (eq-eqb q.0 (id + 2 ^ round) (sym at)) (λ j below s. eqb-true j (id + 2 ^ round) s ∙ at)
      by_test false h e = absurd (none-some q e)

  pub sends-to-none : send_of count round id ≡ None → [] ≡ filter (scan_sends round id) (range_with_len 0 count)
  sends-to-none is = by_test (nat_lt (id + 2 ^ round) count) refl is
    where
      by_test : (b : Bool) → nat_lt (id + 2 ^ round) count ≡ b → (if b then Some (numbered (id + 2 ^ round)) else None) ≡ None
          → [] ≡ filter (scan_sends round id) (range_with_len 0 count)
      by_test true h e = absurd (none-some (numbered (id + 2 ^ round)) (sym e))
      by_test false h e =
          let le : count ≤ id + 2 ^ round = ltb-false (id + 2 ^ round) count h in
          none-passes (scan_sends round id) count (λ j below s. let at : j ≡ id + 2 ^ round = eqb-true j (id + 2 ^ round) s in omega arith)

  pub takes-from : id < count → (p : NodeId) → take_of round id ≡ Some p → p.0 ∷ [] ≡ filter (λ p. scan_sends round p id) (range_with_len 0 count)
  takes-from inside p is = by_test (nat_lt id (2 ^ round)) refl is
    where
      by_test : (b : Bool) → nat_lt id (2 ^ round) ≡ b → (if b then None else Some (numbered (id - 2 ^ round))) ≡ Some p
          → p.0 ∷ [] ≡ filter (λ p. scan_sends round p id) (range_with_len 0 count)
      by_test true h e = absurd (none-some p e)
      by_test false h e =
          let at : id - 2 ^ round ≡ p.0 = same-node (numbered (id - 2 ^ round)) p e in
          let ge : 2 ^ round ≤ id = ltb-false id (2 ^ round) h in
          one-passes (λ p. scan_sends round p id) count p.0 (omega arith) (eq-eqb id (p.0 + 2 ^ round) (omega arith))
          (λ j below s. let back : id ≡ j + 2 ^ round = eqb-true id (j + 2 ^ round) s in omega arith)

  pub takes-from-none : take_of round id ≡ None → [] ≡ filter (λ p. scan_sends round p id) (range_with_len 0 count)
  takes-from-none is = by_test (nat_lt id (2 ^ round)) refl is
    where
      by_test : (b : Bool) → nat_lt id (2 ^ round) ≡ b → (if b then None else Some (numbered (id - 2 ^ round))) ≡ None
          → [] ≡ filter (λ p. scan_sends round p id) (range_with_len 0 count)
      by_test true h e =
          let lt : id < 2 ^ round = ltb-true id (2 ^ round) h in
          none-passes (λ p. scan_sends round p id) count (λ j below s. let back : id ≡ j + 2 ^ round = eqb-true id (j + 2 ^ round) s in omega arith)
      by_test false h e = absurd (none-some (numbered (id - 2 ^ round)) (sym e))
