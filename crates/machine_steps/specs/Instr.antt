-- Of the claim.
-- What an instruction of node code means. All nodes run the same code, and what an instruction means is a function of numbers that
-- all of them have alike: the slots.
use Rattle.std.specs.Prelude.{ℕ, Bool, ℤ, List, Option, Result}
use Rattle.mappings.specs.declared.mapping.Mapping.{Mapping}
use Rattle.storage.specs.Storage.{Spot}
use Rattle.machine_steps.specs.Layout.{Layout}

-- a run goes on, or is finished, or ended with a fault. A fault is of any type F
pub data Status (F : Type 0) : Type 0 where
  Running : Status F
  Finished : Status F
  Faulted : F → Status F

-- the place of the next instruction, and the slots: scalars and hidden numbers
pub record Control (F : Type 0) : Type 0 where
  pub at : ℕ
  pub slots : List ℤ
  pub status : Status F

-- what a tuple comes to once its reads are known: nothing, a value, or a fault
pub data Outcome (F : Type 0) : Type 0 where
  Nothing : Outcome F
  Value : ℤ → Outcome F
  Breaks : F → Outcome F

-- what is evaluated at tuples: how many there are, and for each tuple, by its number from 0, the elements that are read, and what
-- it comes to by their values. A read of no element has the value 0
pub record Tuples (F : Type 0) : Type 0 where
  pub count : List ℤ → ℕ
  pub reads : List ℤ → ℕ → List (Option Spot)
  pub outcome : List ℤ → ℕ → List ℤ → Outcome F

-- what joins two values, and the value of no elements (Fortran 95, 13.14)
pub record Fold : Type 0 where
  pub join : ℤ → ℤ → ℤ
  pub unit : ℤ

-- a new mapping of an array
pub record Remapping : Type 0 where
  pub row : ℕ
  pub mapping : Mapping

-- the rounds of a redistribution, by the layouts before it: how many there are, and whether in round k node p sends to node q
pub record Rounds : Type 0 where
  pub many : List Layout → ℕ
  pub in_round : List Layout → (k p q : ℕ) → Bool

-- an item of a PRINT: bytes of the slots alone, or of the values of elements, in order; an element that is none is left out
pub data Item : Type 0 where
  Text : (bytes : List ℤ → List ℕ) → Item
  Elements : (tuples : List ℤ → ℕ) → (read : List ℤ → ℕ → Option Spot) → (bytes : List ℤ → List ℕ) → Item

pub data Instr (F : Type 0) : Type 0 where
  -- what touches no array: assignments of slots, jumps, tests, the end
  Local : (Control F → Control F) → Instr F
  -- the value of an element, into a slot. It has 0 where there is none
  Fetch : (element : List ℤ → Result Spot F) → (slot : ℕ) → Instr F
  -- an element is evaluated before the value that it gets
  Store : (element : List ℤ → Result Spot F) → (value : List ℤ → Result ℤ F) → Instr F
  -- all values are taken before any is stored, each in the element that is assigned at its tuple, and faults are kept
  Par : Tuples F → (left : List ℤ → ℕ → Option Spot) → Instr F
  -- the first of the kept faults ends the run
  Verdict : Instr F
  -- values are taken and faults are kept; then the first of these ends the run; then the slot gets the values joined
  Reduce : Tuples F → Fold → (slot : ℕ) → Instr F
  -- a copy with this layout, by the layouts of all rows now and the slots, each element with the value at the start
  MakeCopy : (copy : ℕ) → (layout : List Layout → List ℤ → Layout) → (start : List ℤ → ℤ) → Instr F
  -- the slot is joined with the elements of a copy, joined
  FoldCopy : (copy : ℕ) → Fold → (slot : ℕ) → Instr F
  -- the slot gets the element of a copy at the last position where the other copy is 1. It stays where there is none, or where
  -- the two don't lie alike
  LastCopy : (copy set : ℕ) → (alike : Layout → Layout → Bool) → (slot : ℕ) → Instr F
  -- each element of a copy is joined with those before it, where the copy lies in blocks, one node's after another's. Else it stays
  Scan : (copy : ℕ) → (in_blocks : Layout → Bool) → Fold → Instr F
  -- REDISTRIBUTE (HPF 2.0, 8.3)
  Remap : List Remapping → Rounds → Instr F
  -- the items one after another, and then the line that is made of their bytes
  Print : List Item → (line : List ℕ → List ℕ) → Instr F
