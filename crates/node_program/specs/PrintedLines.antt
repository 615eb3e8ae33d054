-- Of private clauses.
-- No public clause cites this file. Lines that a PRINT prints.
use Rattle.std.specs.Prelude.{ℕ, List, [], ◌∷◌, ◌++◌, drop, map}
use Rattle.expression_rules.specs.declared.dims.Dim.{Dim}
use Rattle.array_meaning.specs.Faults.{Fault}
use Rattle.machine_steps.specs.Instr.{Instr, Print}
use Rattle.code_meaning.specs.Instructions.{items_of}
use Rattle.node_code.specs.Texts.{print_item}
use Rattle.node_code.specs.declared.instruction.PrintItem.{PrintItem}

-- the line of these bytes
abbrev pub line_of : List ℕ → List ℕ
line_of bytes = drop 1 bytes ++ 10 ∷ []

-- a line of these items is printed
abbrev pub printed : List (List Dim) → List PrintItem → Instr Fault
printed shapes items = Print (items_of shapes (map print_item items)) line_of
