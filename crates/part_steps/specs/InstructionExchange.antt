-- Of a promise.
-- What a node exchanges for an instruction.
use Rattle.std.specs.Prelude.{◌≡◌, ℕ, List, ℤ, Some, length}
use Rattle.array_meaning.specs.Faults.{Fault}
use Rattle.machine_steps.specs.Instr.{Instr}
use Rattle.machine_steps.specs.Message.{Part}
use Rattle.owner_tables.specs.Views.{OwnersView}
use Rattle.comm_sets.specs.declared.exchanged.Exchange.{Exchange}
use Rattle.comm_sets.specs.Exchanges.{AreExchanged}
use Rattle.part_steps.specs.InstructionParts.{instruction_part}

-- in the phase of the part that it is by these slots, where the rows lie so; an instruction that is no part exchanges anything
pub record IsExchangeOf (i : Instr Fault) (slots : List ℤ) (owners : OwnersView) (id : ℕ) (e : Exchange) : Type 0 where
  pub exchanged : (part : Part) → instruction_part owners.nodes owners.layouts slots i ≡ Some part → AreExchanged owners.nodes owners.layouts part id e

-- with each of so many nodes
pub record HasLists (nodes : ℕ) (e : Exchange) : Type 0 where
  pub outgoing : length e.outgoing ≡ nodes
  pub incoming : length e.incoming ≡ nodes
