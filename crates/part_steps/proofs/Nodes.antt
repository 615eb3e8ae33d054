-- Nodes among all nodes.
use Rattle.std.proofs.Common.{◌≡◌, ℕ, ◌+◌, ◌-◌, ◌<◌, ◌≤◌, ◌==◌, Bool, List, [], ◌∷◌, filter, min, max, ◌∙◌, ap, sym, arith, Option, None}
use Rattle.std.proofs.lemmas.Bool.Decides.{nat_tests}
use Rattle.std.specs.List.{range_with_len}
use Rattle.storage.specs.Storage.{Spot}
use Rattle.machine_steps.specs.Layout.{Layout}
use Rattle.machine_steps.specs.Message.{computes_left}
use Rattle.mappings.specs.Positions.{in_section}
use Rattle.mappings.proofs.Sections.{filter-range}

-- the one with a number is one of them
pub one-of : (k nodes : ℕ) → k < nodes → filter (λ node. k == node) (range_with_len 0 nodes) ≡ k ∷ []
one-of k nodes lt =
    let first : max 0 k ≡ k = omega arith in
    let count : min (0 + nodes) (k + 1) - max 0 k ≡ 1 = omega arith in
    filter-range (λ node. k == node) 0 nodes k k (λ j ge below. same k j) ∙ ap (λ a. range_with_len a (min (0 + nodes) (k + 1) - max 0 k)) first ∙ ap (range_with_len k) count
  where
    same : (k j : ℕ) → (k == j) ≡ in_section k k j
    same k j = grind (arith, nat_tests)

-- and so is node 0
pub root-of : (nodes : ℕ) → 1 ≤ nodes → filter (λ node. node == 0) (range_with_len 0 nodes) ≡ 0 ∷ []
root-of nodes some = ap (λ (test : ℕ → Bool). filter test (range_with_len 0 nodes)) (λ i node. turned node i) ∙ one-of 0 nodes (omega arith)
  where
    turned : (node : ℕ) → (node == 0) ≡ (0 == node)
    turned node = grind (arith, nat_tests)

-- where nothing is assigned, node 0 computes
pub root-computes : (layouts : List Layout) (nodes : ℕ) (left : Option Spot) → 1 ≤ nodes → left ≡ None → 0 ∷ [] ≡ filter (λ node. computes_left layouts node left) (range_with_len 0 nodes)
root-computes layouts nodes left some e = sym (root-of nodes some) ∙ ap (λ l. filter (λ node. computes_left layouts node l) (range_with_len 0 nodes)) (sym e)
