-- Kept exchanges that serve by other slots, too.
use Rattle.std.proofs.Common.{◌≡◌, ℕ, List, ℤ, ap, sym, ◌∙◌, subst}
use Rattle.std.specs.Arc.{arc_value}
use Rattle.machine_steps.specs.Machine.{instr_at}
use Rattle.code_meaning.specs.Instructions.{ArrayTable, meaning_of}
use Rattle.node_code.specs.Instructions.{Instruction}
use Rattle.code_meaning.specs.ProgramText.{Text, text_meaning}
use Rattle.owner_tables.specs.Views.{OwnersView}
use Rattle.part_steps.specs.declared.kept_exchange.KeptExchange.{KeptExchange}
use Rattle.part_steps.specs.InstructionExchange.{IsExchangeOf}
use Rattle.part_steps.specs.InstructionParts.{instruction_part}
use Rattle.part_steps.specs.KeptExchanges.{IsKeptExchange, Serves}
use Rattle.part_steps.proofs.SameParts.{parts_same}

module _ (code : List Text) (id : ℕ) (table : ArrayTable) (kept : KeptExchange) (at : ℕ) (i : Instruction) (slots : List ℤ) (owners : OwnersView) where
  -- what it has is what the node exchanges, by these slots and layouts
  pub serving_exchange : Serves kept i slots owners → instr_at text_meaning code at ≡ meaning_of table i → IsKeptExchange code id at kept → IsExchangeOf (instr_at text_meaning code at) slots owners id (arc_value kept.exchange)
  serving_exchange s is p = subst (λ o. IsExchangeOf (instr_at text_meaning code at) slots o id (arc_value kept.exchange)) s.lies (record {
    exchanged = λ part is_part. p.exchanged part (same ∙ is_part);
  }) where
    same : instruction_part kept.owners.nodes kept.owners.layouts kept.slots.items (instr_at text_meaning code at)
        ≡ instruction_part kept.owners.nodes kept.owners.layouts slots (instr_at text_meaning code at)
    same =
        ap (λ i. instruction_part kept.owners.nodes kept.owners.layouts kept.slots.items i) is
        ∙ parts_same kept.slots.items slots kept.owners.nodes kept.owners.layouts table i s.agree
        ∙ ap (λ i. instruction_part kept.owners.nodes kept.owners.layouts slots i) (sym is)
