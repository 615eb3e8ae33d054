use Rattle.std.proofs.Common.{◌≡◌, drop}
use Rattle.code_meaning.specs.Forms.{elementals_at}
use Rattle.node_code.specs.Texts.{forms_of}
use Rattle.array_meaning.specs.Elementals.{Operand}
use Rattle.resolved_program.specs.Made.{before}
use Rattle.term_values.specs.Views.{elemental}
use Rattle.slot_values.proofs.sections.+elemental_at.Given as goal

-- the operands so far, before those that are left
abbrev pub invariant-elementals_at-loop-x : goal.invariant-elementals_at-loop-x
invariant-elementals_at-loop-x l =
    elementals_at l.slots l.axes (forms_of l.x-items) ≡ before (λ e. Operand (elemental e)) l.es.items (elementals_at l.slots l.axes (forms_of (drop l.x-index l.x-items)))
