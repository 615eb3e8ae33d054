-- Of a promise.
-- The three nodes at the beginning.
use Rattle.std.specs.Prelude.{ℕ, List, [], ◌∷◌}
use Rattle.node_core_tests.specs.declared.passer.Passer.{Passer}

abbrev pub at_start : ℕ → ℕ → ℕ → Passer
at_start next before number = record { next = next; before = before; turn = 0; phase = 1; number = number }

-- the nodes with these numbers before their first phase
abbrev pub three : ℕ → ℕ → ℕ → List Passer
three a b c = at_start 1 2 a ∷ (at_start 2 0 b ∷ (at_start 0 1 c ∷ []))
