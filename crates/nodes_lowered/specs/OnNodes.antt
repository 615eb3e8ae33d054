-- Of the claim.
-- What it is for the arrays of a program to lie on nodes.
use Rattle.std.specs.Prelude.{◌≡◌, ℕ, zero, suc, List, [], ◌∷◌, length, map, take, ⊤}
use Rattle.hpf_base.specs.declared.index.Shape.{Shape}
use Rattle.syntax_tree.specs.MainProgram.{MainProgram}
use Rattle.name_table.specs.Entries.{entries}
use Rattle.name_table.specs.declared.names.Entry.{Entry}
use Rattle.name_table.specs.declared.names.What.{What}
use Rattle.name_table.specs.declared.names.What.TheVariants as what
use Rattle.directive_check.specs.ProgramMaps.{shape_of}
use Rattle.array_meaning.specs.Execution.{run_block}
use Rattle.array_meaning.specs.Faults.{Fault}
use Rattle.array_meaning.specs.Resolution.{resolved_block, initial_state}
use Rattle.array_meaning.specs.Runs.{Run}
use Rattle.mappings.specs.declared.mapping.Mapping.{Mapping}
use Rattle.machine_steps.specs.Agrees.{AreDealt}
use Rattle.machine_steps.specs.Layout.{IsDealt, Layout, size_of}
use Rattle.machine_steps.specs.Machine.{Machine}
use Rattle.node_code.specs.Instructions.{Instruction, NewMapping}
use Rattle.code_meaning.specs.Instructions.{remappings}
use Rattle.nest_standing.specs.Lowered.{opening}
use Rattle.nest_standing.specs.StatementCode.{block_copies}

-- an array has the shape of its declaration (Fortran 95, 5.1.2.4.1), and each of its elements has an owner; what is no array has no
-- elements
abbrev pub LiesAsDeclared : ℕ → What → Layout → Type 0
LiesAsDeclared count (what.Array ds v) layout = (layout.shape ≡ shape_of ds) × IsDealt count layout
LiesAsDeclared count w layout = size_of layout ≡ 0

-- so many copies, which have no elements before they are made
abbrev pub AreUnmade : ℕ → List Layout → Type 0
AreUnmade zero [] = ⊤
AreUnmade zero (copy ∷ copies) = ⊥
AreUnmade (suc room) [] = ⊥
AreUnmade (suc room) (copy ∷ copies) = (size_of copy ≡ 0) × AreUnmade room copies

-- so the declared names lie on so many nodes, in order, and after them so many copies
abbrev pub LieAsDeclared : (count room : ℕ) → List Entry → List Layout → Type 0
LieAsDeclared count room [] copies = AreUnmade room copies
LieAsDeclared count room (e ∷ es) [] = ⊥
LieAsDeclared count room (e ∷ es) (layout ∷ layouts) = LiesAsDeclared count e.what layout × LieAsDeclared count room es layouts

-- how many copies the code of a program names
abbrev pub program_copies : MainProgram → ℕ
program_copies p = block_copies (length (entries p)) (resolved_block (entries p) p.body)

-- the run of a program in one order, whose outcome is its serial one
abbrev pub program_run : MainProgram → Run
program_run p = run_block (resolved_block (entries p) p.body) (initial_state (entries p))

-- the shapes of the declared names that lie so, before their copies
abbrev pub names_shapes : MainProgram → List Layout → List Shape
names_shapes p layouts = map (λ layout. layout.shape) (take (length (entries p)) layouts)

-- each mapping that the REDISTRIBUTE of a line gives, of these of the program by their numbers, is one of a declared array, and gives each of
-- its elements an owner
abbrev pub MovesDealt : ℕ → MainProgram → List Mapping → (ℕ → List NewMapping) → List Layout → Type 0
MovesDealt count p maps moves layouts = (line : ℕ) → AreDealt count (names_shapes p layouts) (remappings maps (moves line))

-- the machine with whole arrays before the first instruction of a program, where `moves` says of a line which arrays its REDISTRIBUTE moves
abbrev pub program_opening : MainProgram → (ℕ → List NewMapping) → List Layout → Machine Instruction Fault
program_opening p moves layouts =
    opening (length (entries p)) (program_copies p) moves (resolved_block (entries p) p.body) (initial_state (entries p)) layouts
