-- Of private clauses.
-- No public clause cites this file. What a node exchanges for the instruction at its place.
use Rattle.array_meaning.specs.Faults.{Fault}
use Rattle.machine_steps.specs.Machine.{instr_at}
use Rattle.machine_steps.specs.Node.{Node}
use Rattle.comm_sets.specs.declared.exchanged.Exchange.{Exchange}
use Rattle.code_meaning.specs.ProgramText.{Text, text_meaning}
use Rattle.owner_tables.specs.Views.{OwnersView}
use Rattle.tuple_values.specs.Statements.{Statement}
use Rattle.part_steps.specs.Exchanged.{IsExchange}
use Rattle.part_steps.specs.Parts.{PartView}
use Rattle.part_steps.specs.declared.who.Who.{Who}
use Rattle.part_steps.specs.InstructionExchange.{IsExchangeOf}

abbrev pub owners_of : Node Text Fault → OwnersView
owners_of a = record { layouts = a.layouts; nodes = a.nodes }

-- by its slots, where the rows lie now
abbrev pub IsExchangeHere : Node Text Fault → Exchange → Type 0
IsExchangeHere a e = IsExchangeOf (instr_at text_meaning a.code a.control.at) a.control.slots (owners_of a) a.id e

-- a statement on its nodes
abbrev pub part_on : Node Text Fault → Who → Statement → PartView
part_on a who w = record { who = who; nodes = a.nodes; layouts = a.layouts; statement = w }

-- what it exchanges for a statement
abbrev pub IsExchangeBy : Node Text Fault → Who → Statement → Exchange → Type 0
IsExchangeBy a who w e = IsExchange (part_on a who w) a.id e
