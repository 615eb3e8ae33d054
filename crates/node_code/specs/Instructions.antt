-- Of the claim.
-- The instructions of node code.
use Rattle.std.specs.Prelude.{ℕ, List, Option}
use Rattle.op_tables.specs.declared.join.Join.{Join}
use Rattle.op_tables.specs.declared.reductions.Reduction.{Reduction}
use Rattle.resolved_program.specs.Statements.{Mark}
use Rattle.node_code.specs.Flat.{Flat, Flats}
use Rattle.node_code.specs.Anchors.{FlatAnchor}
use Rattle.node_code.specs.Forms.{Sub}
use Rattle.node_code.specs.Parallel.{Assignment, Evaluation}
use Rattle.node_code.specs.NestStatements.{NestStatement}

-- an item of a PRINT: bytes, a number over the slots, or the elements of a section
pub data PrintItem : Type 0 where
  PrintBytes : List ℕ → PrintItem
  PrintNumber : Flat → PrintItem
  PrintSection : (array : ℕ) → List Sub → PrintItem

-- an array, by the place of its name, gets the program's mapping of this number
pub record NewMapping : Type 0 where
  pub array : ℕ
  pub map : ℕ

pub data Instruction : Type 0 where
  -- a slot gets a value, or there is a fault
  Set : (line slot : ℕ) → Flat → Instruction
  -- a slot gets the value of an element; Bounds where there is none
  Fetch : (line array : ℕ) → Flats → (slot : ℕ) → Instruction
  -- an element gets a value
  Store : (line array : ℕ) → Flats → Flat → Instruction
  -- Bounds where there is no such element
  TestBounds : (line array : ℕ) → Flats → Instruction
  -- ZeroStride where a slot is 0
  TestStride : (line slot : ℕ) → Instruction
  -- the iteration count of a loop by its first value, last value and step: where it is 0 the run goes on at a target, else a slot gets
  -- what is left of it after the first iteration, in 64 bits; ZeroStride where the step is 0
  Trips : (line first last step left target : ℕ) → Instruction
  Jump : (target : ℕ) → Instruction
  JumpIfZero : (target slot : ℕ) → Instruction
  -- the run is finished
  Halt : Instruction
  -- Shape and SpaceLimit of an assignment, or of an array expression by itself
  Limits : Assignment → Instruction
  OwnLimits : Evaluation → Instruction
  -- SpaceLimit of a FORALL, by its indices and all its subscripts
  ForallLimits : (line : ℕ) → (over : List Sub) → (subscripts : List Flat) → Instruction
  -- NotOneToOne of an assignment of it, by its left side
  OneToOne : (line : ℕ) → (over : List Sub) → (left : List Flat) → Instruction
  -- SpaceLimit and Interfere of a nest of INDEPENDENT loops (HPF 2.0, 5.1), by the mark of its outermost loop
  Check : (line : ℕ) → Mark → Instruction
  -- an assignment at the tuples of its space, and one of a FORALL
  Par : Assignment → Instruction
  ParForall : Assignment → Instruction
  -- a statement of a nest of INDEPENDENT loops, and copies of a nest, by their row, one for each iteration, with their value at the start and
  -- what they lie beside
  ParNest : NestStatement → Instruction
  MakeCopies : (copy : ℕ) → (over : List Sub) → (start : Flat) → (beside : Option FlatAnchor) → Instruction
  -- a copy, by its row, of the extents of an array expression, with 0 everywhere, and its values into the copy; also those of a FORALL's
  -- mask
  MakeCopy : (copy : ℕ) → Evaluation → Instruction
  ParCopy : (copy : ℕ) → Evaluation → Instruction
  ParForallCopy : (copy : ℕ) → Evaluation → Instruction
  -- the run ends with the kept fault of the least key, if there is one
  Verdict : Instruction
  -- a slot gets a reduction of an array expression, or the run ends with the first fault of its tuples
  Reduce : Evaluation → Reduction → (slot : ℕ) → Instruction
  -- Bounds at the first tuple at which an element of a section is out of bounds
  Inside : (line array : ℕ) → List Sub → Instruction
  -- a line of these items is printed
  Print : List PrintItem → Instruction
  -- a slot is joined with the elements of a copy, joined
  FoldCopy : (copy : ℕ) → Join → (slot : ℕ) → Instruction
  -- a slot gets the element of a copy at the last position where the copy `set` is 1, if there is one and the two lie alike
  LastCopy : (copy set slot : ℕ) → Instruction
  -- each element of a copy is joined with those before it, where the copy has one dimension and lies in blocks over all nodes; else it stays
  ScanCopy : (copy : ℕ) → Join → Instruction
  -- arrays get new mappings, one after another (HPF 2.0, 8.3)
  Remap : (line : ℕ) → List NewMapping → Instruction
