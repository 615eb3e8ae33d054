-- Of private clauses.
-- No public clause cites this file. Elements that are fetched and stored.
use Rattle.std.specs.Prelude.{◌≡◌, ℤ, List, [], Result}
use Rattle.storage.specs.Storage.{Spot}
use Rattle.array_meaning.specs.Faults.{Fault}
use Rattle.machine_steps.specs.Instr.{Instr, Fetch, Store}
use Rattle.code_meaning.specs.Flat.{flat_value}
use Rattle.code_meaning.specs.Instructions.{element_in}
use Rattle.code_meaning.specs.Parallel.{at_line}
use Rattle.node_code.specs.Texts.{flat, flats_of}
use Rattle.node_program.specs.Results.{spot_result, value_result}
use Rattle.node_machine.specs.declared.elements.Fetching.{Fetching}
use Rattle.node_machine.specs.declared.elements.FetchedElement.{FetchedElement}
use Rattle.node_machine.specs.declared.elements.Storing.{Storing}
use Rattle.node_machine.specs.declared.elements.StoredElement.{StoredElement}

-- the instruction is this fetch
abbrev pub IsFetching : Instr Fault → Fetching → Type 0
IsFetching i f = i ≡ Fetch (element_in f.shapes.now.items f.line f.array (flats_of f.subscripts.now.items)) f.slot

-- it is this store
abbrev pub IsStoring : Instr Fault → Storing → Type 0
IsStoring i s = i ≡ Store (element_in s.shapes.now.items s.line s.array (flats_of s.subscripts.now.items)) (λ slots. at_line s.line (flat_value slots [] [] (flat s.value.now)))

-- what the instruction fetches by these slots
pub record IsFetched (i : Instr Fault) (slots : List ℤ) (f : FetchedElement) : Type 0 where
  pub element : List ℤ → Result Spot Fault
  pub is : i ≡ Fetch element f.slot
  pub value : element slots ≡ spot_result f.element

-- what it stores
pub record IsStored (i : Instr Fault) (slots : List ℤ) (s : StoredElement) : Type 0 where
  pub element : List ℤ → Result Spot Fault
  pub value : List ℤ → Result ℤ Fault
  pub is : i ≡ Store element value
  pub spot : element slots ≡ spot_result s.element
  pub stored : value slots ≡ value_result s.value
