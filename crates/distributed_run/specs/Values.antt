-- Of private clauses.
-- No public clause cites this file.
-- The last values of the elements, as the least owner of each has it.
use Rattle.std.specs.Prelude.{ℕ, ℤ, pos, List, length, map, Option, Some, None, slice_index_or}
use Rattle.std.specs.List.{range_with_len, slice_get}
use Rattle.storage.specs.Storage.{Spot}
use Rattle.array_meaning.specs.Faults.{Fault}
use Rattle.machine_steps.specs.Layout.{Layout, least_owner_of, sizes}
use Rattle.machine_steps.specs.Node.{Node, local_read}
use Rattle.code_meaning.specs.ProgramText.{Text}

module _ (layouts : List Layout) where
  abbrev pub value_on : ℕ → Option (Node Text Fault) → Spot → ℤ
  value_on p None spot = pos 0
  value_on p (Some node) spot = local_read layouts p node.pieces spot

  -- the value of an element, and those of a row
  abbrev pub value_of : List (Node Text Fault) → Spot → ℤ
  value_of last spot =
      let owner = least_owner_of (length last) layouts spot in
      value_on owner (slice_get last owner) spot

  abbrev pub row_values : List (Node Text Fault) → ℕ → List ℤ
  row_values last row = map (λ at. value_of last (record { row = row; at = at })) (range_with_len 0 (slice_index_or (sizes layouts) row 0))
