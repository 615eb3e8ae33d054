-- Of a promise.
-- What a node with a number keeps of exchanges, over the texts of a program.
use Rattle.std.specs.Prelude.{◌≡◌, ℕ, List, ℤ, IfSome, true}
use Rattle.std.specs.Arc.{arc_value}
use Rattle.std.specs.BTreeMap.{get}
use Rattle.std.specs.Ordering.{nat_cmp}
use Rattle.machine_steps.specs.Machine.{instr_at}
use Rattle.node_code.specs.Instructions.{Instruction}
use Rattle.code_meaning.specs.ProgramText.{Text, text_meaning}
use Rattle.owner_tables.specs.Views.{OwnersView}
use Rattle.part_steps.specs.Agreement.{agree_on}
use Rattle.part_steps.specs.InstructionExchange.{IsExchangeOf}
use Rattle.part_steps.specs.declared.kept_exchange.KeptExchange.{KeptExchange}
use Rattle.part_steps.specs.declared.kept_exchanges.KeptExchanges.{KeptExchanges}

-- of the instruction at this place: what the node exchanges for it, by the slots and layouts that are kept with it
abbrev pub IsKeptExchange : List Text → ℕ → ℕ → KeptExchange → Type 0
IsKeptExchange code id at kept = IsExchangeOf (instr_at text_meaning code at) kept.slots.items kept.owners id (arc_value kept.exchange)

-- by places
pub record AreKeptExchanges (code : List Text) (id : ℕ) (exchanges : KeptExchanges) : Type 0 where
  pub all : (at : ℕ) → IfSome (get nat_cmp exchanges.exchanges at) (IsKeptExchange code id at)

-- its slots agree with these on all that the instruction mentions, and its layouts are these
pub record Serves (kept : KeptExchange) (i : Instruction) (slots : List ℤ) (owners : OwnersView) : Type 0 where
  pub agree : agree_on kept.slots.items slots i ≡ true
  pub lies : kept.owners ≡ owners
