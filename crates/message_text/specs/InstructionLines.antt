-- Of a promise.
-- The lines of an instruction of node code: those of the part that it is by the slots, or of its redistribution.
use Rattle.std.specs.Prelude.{ℕ, ◌+◌, ◌-◌, max, List, [], ◌∷◌, ◌++◌, length, map, ℤ, None}
use Rattle.mappings.specs.declared.mapping.Mapping.{Mapping}
use Rattle.array_meaning.specs.Sections.{extents}
use Rattle.machine_steps.specs.Layout.{Layout}
use Rattle.machine_steps.specs.Machine.{remapped}
use Rattle.machine_steps.specs.Message.{par_part, reduce_part}
use Rattle.code_meaning.specs.Anchors.{anchor_in}
use Rattle.code_meaning.specs.Forms.{selections_in}
use Rattle.code_meaning.specs.Parallel.{assignment_tuples, assigned_spot, evaluation_tuples, evaluation_extents, copy_spot, reduction_tuples, forall_tuples, forall_spot, forall_mask_tuples}
use Rattle.node_code.specs.declared.nest.NestRole.{NestRole}
use Rattle.node_code.specs.declared.nest.NestRole.TheVariants.{SetsMark}
use Rattle.node_code.specs.NestStatements.{NestStatement, NestLeft, ElementLeft, CopyLeft}
use Rattle.code_meaning.specs.NestStatements.{nest_tuples, nest_spot, copies_extents}
use Rattle.node_code.specs.Instructions.{Instruction, Par, ParForall, ParNest, ParCopy, ParForallCopy, Reduce, Remap}
use Rattle.code_meaning.specs.Instructions.{remappings}
use Rattle.message_text.specs.Parts.{Setting, with_copy, with_copies, with_copied}
use Rattle.message_text.specs.MessageText.{part_lines, redistribution_lines}

-- ---- statements of nests

-- the rows of the copies that a statement of a nest names
abbrev pub left_rows : NestLeft → List ℕ
left_rows (ElementLeft a subs) = []
left_rows (CopyLeft row) = row ∷ []

abbrev pub copy_rows : NestStatement → List ℕ
copy_rows p = map (λ w. w.copy) p.whens ++ (p.copies ++ left_rows p.left)

-- of so many declared names, how many rows there are after them up to the last of these
abbrev pub rows_after : ℕ → List ℕ → ℕ
rows_after n [] = 0
rows_after n (row ∷ rows) = max (row + 1 - n) (rows_after n rows)

-- its lines, where the declared names lie so. The mark of an assignment is no part
abbrev pub nest_lines : NestRole → Setting → List Layout → NestStatement → List ℤ → List ℕ
nest_lines SetsMark s layouts p slots = []
nest_lines role s layouts p slots =
    let ls = with_copies s layouts (rows_after (length layouts) (copy_rows p)) (anchor_in slots p.over p.beside) (copies_extents p.over slots) in
    part_lines (with_copied s p.copies p.names) ls p.line (par_part ls (nest_tuples s.shapes p) (nest_spot s.shapes p) slots)

-- ---- all instructions

-- with these mappings of the program
module _ (maps : List Mapping) where
  -- by the slots, where the declared names lie so. An instruction that sends no message has none
  abbrev pub instruction_lines : Setting → List Layout → Instruction → List ℤ → List ℕ
  instruction_lines s layouts (Par p) slots =
      let ls = with_copy s layouts (anchor_in slots p.over p.beside) (extents (selections_in slots p.over)) in
      part_lines s ls p.line (par_part ls (assignment_tuples s.shapes p) (assigned_spot s.shapes p) slots)
  instruction_lines s layouts (ParForall p) slots =
      let ls = with_copy s layouts (anchor_in slots p.over p.beside) (extents (selections_in slots p.over)) in
      part_lines s ls p.line (par_part ls (forall_tuples s.shapes p) (forall_spot s.shapes p) slots)
  instruction_lines s layouts (ParNest p) slots = nest_lines p.role s layouts p slots
  instruction_lines s layouts (ParCopy copy p) slots =
      let ls = with_copy s layouts (anchor_in slots p.over p.beside) (evaluation_extents p slots) in
      part_lines s ls p.line (par_part ls (evaluation_tuples s.shapes p) (copy_spot copy) slots)
  instruction_lines s layouts (ParForallCopy copy p) slots =
      let ls = with_copy s layouts (anchor_in slots p.over p.beside) (evaluation_extents p slots) in
      part_lines s ls p.line (par_part ls (forall_mask_tuples s.shapes p) (copy_spot copy) slots)
  instruction_lines s layouts (Reduce p r x) slots =
      let ls = with_copy s layouts None (evaluation_extents p slots) in
      part_lines s ls p.line (reduce_part s.nodes ls (reduction_tuples s.shapes p r.made) slots)
  instruction_lines s layouts (Remap line new) slots = redistribution_lines s line layouts (remapped (remappings maps new) layouts)
  instruction_lines s layouts i slots = []
