-- By slots that agree on all that an instruction mentions, it has the same lines.
use Rattle.std.proofs.Common.{◌≡◌, ℕ, ℤ, List, [], length, true, true≢false, Option, None, refl, ap, sym, ◌∙◌}
use Rattle.std.proofs.lemmas.Bool.{and_parts}
use Rattle.std.proofs.lemmas.Option.{same_Some}
use Rattle.mappings.specs.declared.mapping.Mapping.{Mapping}
use Rattle.array_meaning.specs.Sections.{extents}
use Rattle.machine_steps.specs.Layout.{Layout}
use Rattle.machine_steps.specs.Message.{Part, par_part, reduce_part}
use Rattle.node_code.specs.Forms.{Sub}
use Rattle.code_meaning.specs.Anchors.{anchor_in}
use Rattle.code_meaning.specs.Beside.{Anchor}
use Rattle.code_meaning.specs.Forms.{selections_in}
use Rattle.node_code.specs.Instructions as code
use Rattle.code_meaning.specs.Instructions.{ArrayTable}
use Rattle.node_code.specs.Instructions.{Instruction}
use Rattle.code_meaning.specs.Parallel.{assigned_spot, assignment_tuples, copy_spot, evaluation_tuples, forall_mask_tuples, forall_spot, forall_tuples, reduction_tuples}
use Rattle.node_code.specs.NestStatements.{NestStatement}
use Rattle.code_meaning.specs.NestStatements.{nest_tuples, nest_spot, copies_extents}
use Rattle.node_code.specs.declared.nest.NestRole.{NestRole}
use Rattle.node_code.specs.declared.nest.NestRole.TheVariants.{Assigns, Tests, SetsElse, SetsMark}
use Rattle.array_meaning.specs.declared.sections.Selection.{Selection}
use Rattle.code_meaning.specs.ProgramText.{table_on}
use Rattle.part_steps.specs.Agreement.{agree_on, agree_on_subs}
use Rattle.part_steps.proofs.SameAnchors.{assignment_anchor, evaluation_anchor, nest_anchor}
use Rattle.part_steps.proofs.SameParts.{parts_same, selections_same}
use Rattle.message_text.specs.InstructionLines.{copy_rows, rows_after, nest_lines, instruction_lines}
use Rattle.message_text.specs.MessageText.{part_lines}
use Rattle.message_text.specs.Parts.{Setting, with_copy, with_copies, with_copied}

module _ (maps : List Mapping) (s : Setting) (layouts : List Layout) (old new : List ℤ) where
  abbrev table : ArrayTable
  table = table_on s.nodes maps s.shapes

  abbrev lies : Option Anchor → List Sub → List Layout
  lies anchor over = with_copy s layouts anchor (extents (selections_in new over))

  -- a part over a space of the same extents, with a copy beside the same, which is the same where the rows lie as after them
  same : (over : List Sub) (line : ℕ) (before after : Option Anchor) (by_old by_new : List Layout → Part) → agree_on_subs old new over ≡ true → before ≡ after
      → by_old (lies after over) ≡ by_new (lies after over)
      → part_lines s (with_copy s layouts before (extents (selections_in old over))) line (by_old (with_copy s layouts before (extents (selections_in old over))))
      ≡ part_lines s (lies after over) line (by_new (lies after over))
  same over line before after by_old by_new is anchors parts =
      (λ i. part_lines s (with_copy s layouts (anchors i) (extents (selections_same old new [] over is i))) line
      (by_old (with_copy s layouts (anchors i) (extents (selections_same old new [] over is i)))))
      ∙ ap (part_lines s (lies after over) line) parts

  -- a statement of a nest
  nest_part_same : (p : NestStatement) → agree_on old new (code.ParNest p) ≡ true
      → (let ls = with_copies s layouts (rows_after (length layouts) (copy_rows p)) (anchor_in old p.over p.beside) (copies_extents p.over old) in
      part_lines (with_copied s p.copies p.names) ls p.line (par_part ls (nest_tuples s.shapes p) (nest_spot s.shapes p) old))
      ≡ (let ls = with_copies s layouts (rows_after (length layouts) (copy_rows p)) (anchor_in new p.over p.beside) (copies_extents p.over new) in
      part_lines (with_copied s p.copies p.names) ls p.line (par_part ls (nest_tuples s.shapes p) (nest_spot s.shapes p) new))
  nest_part_same p is =
      let told : Setting = with_copied s p.copies p.names in
      let among : Option Anchor → List Selection → List Layout = λ anchor ds. with_copies s layouts (rows_after (length layouts) (copy_rows p)) anchor (extents ds) in
      let anchors = nest_anchor old new p is in
      let spaces = selections_same old new [] p.over (and_parts (agree_on_subs old new p.over) _ is).0 in
      let ls = among (anchor_in new p.over p.beside) (selections_in new p.over) in
      (λ i. part_lines told (among (anchors i) (spaces i)) p.line (par_part (among (anchors i) (spaces i)) (nest_tuples s.shapes p) (nest_spot s.shapes p) old))
      ∙ ap (part_lines told ls p.line) (same_Some _ _ (parts_same old new s.nodes ls table (code.ParNest p) is))

  nest_same : (p : NestStatement) (role : NestRole) → agree_on old new (code.ParNest p) ≡ true → nest_lines role s layouts p old ≡ nest_lines role s layouts p new
  nest_same p Assigns is = nest_part_same p is
  nest_same p Tests is = nest_part_same p is
  nest_same p SetsElse is = nest_part_same p is
  nest_same p SetsMark is = refl

  pub lines_same : (i : Instruction) → agree_on old new i ≡ true → instruction_lines maps s layouts i old ≡ instruction_lines maps s layouts i new
  lines_same (code.Par p) is =
      same p.over p.line (anchor_in old p.over p.beside) (anchor_in new p.over p.beside) (λ ls. par_part ls (assignment_tuples s.shapes p) (assigned_spot s.shapes p) old) (λ ls. par_part ls (assignment_tuples s.shapes p) (assigned_spot s.shapes p) new)
      (and_parts (agree_on_subs old new p.over) _ is).0 (assignment_anchor old new p is) (same_Some _ _ (parts_same old new s.nodes (lies (anchor_in new p.over p.beside) p.over) table (code.Par p) is))
  lines_same (code.ParForall p) is =
      same p.over p.line (anchor_in old p.over p.beside) (anchor_in new p.over p.beside) (λ ls. par_part ls (forall_tuples s.shapes p) (forall_spot s.shapes p) old) (λ ls. par_part ls (forall_tuples s.shapes p) (forall_spot s.shapes p) new)
      (and_parts (agree_on_subs old new p.over) _ is).0 (assignment_anchor old new p is) (same_Some _ _ (parts_same old new s.nodes (lies (anchor_in new p.over p.beside) p.over) table (code.ParForall p) is))
  lines_same (code.ParCopy copy p) is =
      same p.over p.line (anchor_in old p.over p.beside) (anchor_in new p.over p.beside) (λ ls. par_part ls (evaluation_tuples s.shapes p) (copy_spot copy) old) (λ ls. par_part ls (evaluation_tuples s.shapes p) (copy_spot copy) new)
      (and_parts (agree_on_subs old new p.over) _ is).0 (evaluation_anchor old new p is) (same_Some _ _ (parts_same old new s.nodes (lies (anchor_in new p.over p.beside) p.over) table (code.ParCopy copy p) is))
  lines_same (code.ParForallCopy copy p) is =
      same p.over p.line (anchor_in old p.over p.beside) (anchor_in new p.over p.beside) (λ ls. par_part ls (forall_mask_tuples s.shapes p) (copy_spot copy) old) (λ ls. par_part ls (forall_mask_tuples s.shapes p) (copy_spot copy) new)
      (and_parts (agree_on_subs old new p.over) _ is).0 (evaluation_anchor old new p is) (same_Some _ _ (parts_same old new s.nodes (lies (anchor_in new p.over p.beside) p.over) table (code.ParForallCopy copy p) is))
  lines_same (code.Reduce p r x) is =
      same p.over p.line None None (λ ls. reduce_part s.nodes ls (reduction_tuples s.shapes p r.made) old) (λ ls. reduce_part s.nodes ls (reduction_tuples s.shapes p r.made) new)
      (and_parts (agree_on_subs old new p.over) _ is).0 refl (same_Some _ _ (parts_same old new s.nodes (lies None p.over) table (code.Reduce p r x) is))
  lines_same (code.ParNest p) is = nest_same p p.role is
  lines_same i is = absurd (true≢false (sym is))
