-- Of a promise.
-- What the nodes have after the rounds of a tree, as each is told of its round by what it receives.
use Rattle.std.specs.Prelude.{◌≡◌, ℕ, zero, suc, ℤ, List, [], map, if◌then◌else◌}
use Rattle.std.specs.List.{range_with_len}
use Rattle.machine_steps.specs.Tree.{levels_of, tree_sends}
use Rattle.tree_steps.specs.Absorbed.{absorbed_values, joined_values}
use Rattle.tree_steps.specs.declared.joining.Joining.{Joining}

-- what a node receives from each node in a round, by what each has: nothing from those that don't send to it
abbrev pub received_by : (nodes round : ℕ) → (has : ℕ → List ℤ) → (p : ℕ) → List (List ℤ)
received_by nodes round has p = map (λ q. if tree_sends (levels_of nodes) round q p then has q else []) (range_with_len 0 nodes)

-- what a node has after so many rounds, where each begins with its item
abbrev pub after_passing : Joining → (nodes : ℕ) → (items : ℕ → List ℤ) → (k p : ℕ) → List ℤ
after_passing joining nodes items zero p = items p
after_passing joining nodes items (suc k) p = absorbed_values (joined_values joining) (levels_of nodes) k p (after_passing joining nodes items k p)
    (received_by nodes k (after_passing joining nodes items k) p)

-- numbers that stand for something, or for nothing: joined with nothing they are what they were
abbrev pub AreSpelled : Joining → List ℤ → Type 0
AreSpelled joining numbers = joined_values joining numbers [] ≡ numbers
