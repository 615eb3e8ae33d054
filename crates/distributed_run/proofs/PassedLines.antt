-- The lines of steps are the text of what they pass.
use Rattle.std.proofs.Common.{◌≡◌, ℕ, zero, suc, ◌++◌, ℤ, List, [], ◌∷◌, length, map, take, Option, Some, None, inl, append_assoc, append-nil, option_map, refl, sym, ap, ◌∙◌, subst}
use Rattle.std.specs.List.{slice_get}
use Rattle.std.proofs.lemmas.Option.{slice_get-map}
use Rattle.hpf_base.specs.declared.index.Shape.{Shape}
use Rattle.mappings.specs.declared.mapping.Mapping.{Mapping}
use Rattle.expression_rules.specs.declared.dims.Dim.{Dim}
use Rattle.name_table.specs.declared.names.Entry.{Entry}
use Rattle.array_meaning.specs.Faults.{Fault}
use Rattle.machine_steps.specs.Agrees.{IsValidCode}
use Rattle.machine_steps.specs.Instr.{Remapping, Status, Running, Finished, Faulted}
use Rattle.machine_steps.specs.Layout.{Layout}
use Rattle.machine_steps.specs.Machine.{Machine, step, steps}
use Rattle.code_meaning.specs.Instructions.{ArrayTable, meaning_of, remappings}
use Rattle.node_code.specs.Instructions.{Instruction, NewMapping, Par, ParForall, ParNest, ParCopy, ParForallCopy, Reduce, Remap}
use Rattle.code_meaning.specs.ProgramText.{Text, table_on, text, text_meaning}
use Rattle.node_code.specs.declared.nest.NestRole.{NestRole}
use Rattle.node_code.specs.declared.nest.NestRole.TheVariants.{Assigns, Tests, SetsElse, SetsMark}
use Rattle.node_code.specs.NestStatements.{NestStatement}
use Rattle.lowered_expressions.specs.Passed.{Passed, unless_mark, note, note_at, note_while, passed, passed_now}
use Rattle.passed_states.specs.PassedLayouts.{layouts_after, passed_layouts}
use Rattle.passed_states.proofs.PassedLayouts.{maps-now}
use Rattle.node_run.specs.Coded.{with_code}
use Rattle.node_run.proofs.CodedSteps.{steps-coded}
use Rattle.message_text.specs.Parts.{Setting}
use Rattle.message_text.specs.InstructionLines.{instruction_lines, nest_lines}
use Rattle.messages_lowered.specs.PassedText.{passed_text, setting_by}
use Rattle.distributed_run.specs.StepLines.{lines_at, lines_now, lines_of_steps, lines_while}
use Rattle.distributed_run.proofs.StepLines.{lines-more}

-- what one step more passes
passed-more : (table : ArrayTable) (k : ℕ) (m : Machine Instruction Fault) → passed table (suc k) m ≡ passed table k m ++ passed_now (steps (meaning_of table) k m)
passed-more table zero m = append-nil (passed_now m)
passed-more table (suc k) m =
    ap (λ l. passed_now m ++ l) (passed-more table k (step (meaning_of table) m))
    ∙ sym (append_assoc (passed_now m) (passed table k (step (meaning_of table) m)) (passed_now (steps (meaning_of table) (suc k) m)))

-- with these mappings of the program
module _ (maps : List Mapping) (s : Setting) where
  text-append : (layouts : List Layout) (ps qs : List Passed)
      → passed_text maps s layouts (ps ++ qs) ≡ passed_text maps s layouts ps ++ passed_text maps s (passed_layouts maps ps layouts) qs
  text-append layouts [] qs = refl
  text-append layouts (p ∷ ps) qs =
      ap (λ l. instruction_lines maps s layouts p.instruction p.slots ++ l) (text-append (layouts_after maps p.instruction layouts) ps qs)
      ∙ sym (append_assoc (instruction_lines maps s layouts p.instruction p.slots) (passed_text maps s (layouts_after maps p.instruction layouts) ps)
      (passed_text maps s (passed_layouts maps ps (layouts_after maps p.instruction layouts)) qs))

  -- a mark of a nest's last iteration has no lines
  noted-nest : (p : NestStatement) (layouts : List Layout) (slots : List ℤ) (role : NestRole) → p.role ≡ role
      → instruction_lines maps s layouts (ParNest p) slots ≡ passed_text maps s layouts (unless_mark role (record { instruction = ParNest p; slots = slots }))
  noted-nest p layouts slots Assigns is = sym (append-nil (instruction_lines maps s layouts (ParNest p) slots))
  noted-nest p layouts slots Tests is = sym (append-nil (instruction_lines maps s layouts (ParNest p) slots))
  noted-nest p layouts slots SetsElse is = sym (append-nil (instruction_lines maps s layouts (ParNest p) slots))
  noted-nest p layouts slots SetsMark is = ap (λ r. nest_lines r s layouts p slots) is

  note-lines : (x : Instruction) (layouts : List Layout) (slots : List ℤ) → instruction_lines maps s layouts x slots ≡ passed_text maps s layouts (note x slots)
  note-lines (Par p) layouts slots = sym (append-nil (instruction_lines maps s layouts (Par p) slots))
  note-lines (ParForall p) layouts slots = sym (append-nil (instruction_lines maps s layouts (ParForall p) slots))
  note-lines (ParCopy copy p) layouts slots = sym (append-nil (instruction_lines maps s layouts (ParCopy copy p) slots))
  note-lines (ParForallCopy copy p) layouts slots = sym (append-nil (instruction_lines maps s layouts (ParForallCopy copy p) slots))
  note-lines (Reduce p r x) layouts slots = sym (append-nil (instruction_lines maps s layouts (Reduce p r x) slots))
  note-lines (Remap line new) layouts slots = sym (append-nil (instruction_lines maps s layouts (Remap line new) slots))
  note-lines (ParNest p) layouts slots = noted-nest p layouts slots p.role refl
  note-lines x layouts slots = refl

-- where these names are declared, over so many nodes with mappings and arrays of the program, and `moves` says of a line what it moves
module _ (es : List Entry) (nodes : ℕ) (maps : List Mapping) (dims : List (List Dim)) (moves : ℕ → List NewMapping) where
  abbrev s : Setting
  s = setting_by nodes (map (λ (e : Entry). e.name) es) dims maps moves

  abbrev as_text : Instruction → Text
  as_text = text nodes maps dims

  abbrev table : ArrayTable
  table = table_on nodes maps dims

  abbrev moved : ℕ → List Remapping
  moved line = remappings maps (moves line)

  at-lines : (k : ℕ) (o : Option Instruction) (layouts : List Layout) (slots : List ℤ)
      → lines_at es moved k (option_map as_text o) layouts slots ≡ passed_text maps s (take (length es) layouts) (note_at k o slots)
  at-lines zero (Some x) layouts slots = note-lines maps s x (take (length es) layouts) slots
  at-lines zero None layouts slots = refl
  at-lines (suc k) o layouts slots = refl

  while-lines : (status : Status Fault) (k : ℕ) (o : Option Instruction) (layouts : List Layout) (slots : List ℤ)
      → lines_while es moved status k (option_map as_text o) layouts slots ≡ passed_text maps s (take (length es) layouts) (note_while status k o slots)
  while-lines Running k o layouts slots = at-lines k o layouts slots
  while-lines Finished k o layouts slots = refl
  while-lines (Faulted f) k o layouts slots = refl

  now-lines : (m : Machine Instruction Fault) → lines_now es moved (with_code as_text m) ≡ passed_text maps s (take (length es) m.layouts) (passed_now m)
  now-lines m =
      ap (λ o. lines_while es moved m.control.status m.substep o m.layouts m.control.slots) (slice_get-map as_text m.code m.control.at)
      ∙ while-lines m.control.status m.substep (slice_get m.code m.control.at) m.layouts m.control.slots

  -- over valid code, where as many shapes are known as names
  pub lines-passed : (count : ℕ) (shapes : List Shape) → length shapes ≡ length es → (k : ℕ) (m : Machine Instruction Fault) → m.substep ≡ 0
      → IsValidCode (meaning_of table) count shapes m.code
      → lines_of_steps es moved k (with_code as_text m) ≡ passed_text maps s (take (length es) m.layouts) (passed table k m)
  lines-passed count shapes many zero m first valid = refl
  lines-passed count shapes many (suc k) m first valid =
      let begun : List Layout = take (length es) m.layouts in
      let last : Machine Instruction Fault = steps (meaning_of table) k m in
      let front : List ℕ = passed_text maps s begun (passed table k m) in
      let lie : take (length es) last.layouts ≡ passed_layouts maps (passed table k m) begun =
      subst (λ (n : ℕ). take n last.layouts ≡ passed_layouts maps (passed table k m) (take n m.layouts)) many (maps-now table count shapes k m (inl first) valid) in
      lines-more es moved k (with_code as_text m)
      ∙ (λ i. lines-passed count shapes many k m first valid i ++ lines_now es moved (steps-coded as_text (meaning_of table) text_meaning (λ x. refl) k m i))
      ∙ ap (λ l. front ++ l) (now-lines last)
      ∙ ap (λ ls. front ++ passed_text maps s ls (passed_now last)) lie
      ∙ sym (text-append maps s begun (passed table k m) (passed_now last))
      ∙ ap (passed_text maps s begun) (sym (passed-more table k m))
