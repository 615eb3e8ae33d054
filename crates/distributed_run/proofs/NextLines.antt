-- The lines of the instruction at the place.
use Rattle.std.proofs.Common.{◌≡◌, ℕ, zero, suc, ◌+◌, ◌<◌, ◌≤◌, ◌++◌, ℤ, List, [], ◌∷◌, All, length, map, get_or, take, Some, None, append-nil, refl, sym, ap, ◌∙◌, arith}
use Rattle.std.specs.List.{slice_get}
use Rattle.std.proofs.lemmas.List.{length-map}
use Rattle.std.proofs.lemmas.Option.{slice_get_past}
use Rattle.mappings.specs.declared.mapping.Mapping.{Mapping}
use Rattle.expression_rules.specs.declared.dims.Dim.{Dim}
use Rattle.name_table.specs.declared.names.Entry.{Entry}
use Rattle.array_meaning.specs.Faults.{Fault}
use Rattle.machine_steps.specs.Instr.{Remapping, Status, Running, Finished, Faulted}
use Rattle.machine_steps.specs.Layout.{Layout}
use Rattle.machine_steps.specs.Machine.{Machine}
use Rattle.code_meaning.specs.ProgramText.{Text, text, texts}
use Rattle.node_code.specs.Instructions.{Instruction}
use Rattle.node_code.specs.Texts.{instruction, instructions}
use Rattle.message_text.specs.InstructionLines.{instruction_lines}
use Rattle.node_code.specs.declared.instruction.Instruction.{Instruction as HeldInstruction}
use Rattle.message_lines.specs.TextLines.{text_lines}
use Rattle.distributed_run.specs.StepLines.{lines_now, lines_while}

-- what each text of a program has as its number of nodes is the program's, where it has a text
pub same-nodes : (nodes : ℕ) (maps : List Mapping) (dims : List (List Dim)) (xs : List HeldInstruction) (at count : ℕ) → at < length xs
    → All (λ (t : Text). t.nodes ≡ count) (texts nodes maps dims (instructions xs)) → nodes ≡ count
same-nodes nodes maps dims [] at count lt h = absurd (omega (arith, lt))
same-nodes nodes maps dims (x ∷ xs) at count lt h = h 0 (text nodes maps dims (instruction x)) (omega arith)

module _ (nodes : ℕ) (maps : List Mapping) (dims : List (List Dim)) where
  text-get : (xs : List HeldInstruction) (at : ℕ) (i : HeldInstruction) → at < length xs
      → slice_get (texts nodes maps dims (instructions xs)) at ≡ Some (text nodes maps dims (instruction (get_or xs at i)))
  text-get [] at i lt = absurd (omega (arith, lt))
  text-get (x ∷ xs) zero i lt = refl
  text-get (x ∷ xs) (suc at) i lt = text-get xs at i (omega (arith, lt))

  -- there is a text at each of its places
  pub text-there : (xs : List HeldInstruction) (at : ℕ) → at < length xs → (t : Text) × (slice_get (texts nodes maps dims (instructions xs)) at ≡ Some t)
  text-there [] at lt = absurd (omega (arith, lt))
  text-there (x ∷ xs) zero lt = (text nodes maps dims (instruction x), refl)
  text-there (x ∷ xs) (suc at) lt = text-there xs at (omega (arith, lt))

  -- the text of an instruction of the program
  pub text-here : (code : List Text) (xs : List HeldInstruction) (at : ℕ) (i : HeldInstruction) → code ≡ texts nodes maps dims (instructions xs) → at < length xs → i ≡ get_or xs at i
      → slice_get code at ≡ Some (text nodes maps dims (instruction i))
  text-here code xs at i coded lt there =
      ap (λ c. slice_get c at) coded ∙ text-get xs at i lt ∙ ap (λ x. Some (text nodes maps dims (instruction x))) (sym there)

-- where these names are declared, over so many nodes with mappings and arrays of the program
module _ (es : List Entry) (nodes : ℕ) (maps : List Mapping) (dims : List (List Dim)) (moves : ℕ → List Remapping) where
  past : (s : Status Fault) (k : ℕ) (layouts : List Layout) (slots : List ℤ) → lines_while es moves s k None layouts slots ≡ []
  past Running zero layouts slots = refl
  past Running (suc k) layouts slots = refl
  past Finished k layouts slots = refl
  past (Faulted f) k layouts slots = refl

  no-more : (before : List ℕ) (m : Machine Text Fault) → lines_now es moves m ≡ [] → before ≡ before ++ lines_now es moves m
  no-more before m e = sym (append-nil before) ∙ ap (λ l. before ++ l) (sym e)

  -- and none past the code's end
  pub none-past : (before : List ℕ) (xs : List HeldInstruction) (m : Machine Text Fault) → m.code ≡ texts nodes maps dims (instructions xs) → length xs ≤ m.control.at
      → before ≡ before ++ lines_now es moves m
  none-past before xs m coded le =
      let many : length (instructions xs) ≡ length xs = length-map xs instruction in
      let all : length (texts nodes maps dims (instructions xs)) ≡ length (instructions xs) = length-map (instructions xs) (text nodes maps dims) in
      let none : slice_get m.code m.control.at ≡ None =
      ap (λ code. slice_get code m.control.at) coded ∙ slice_get_past (texts nodes maps dims (instructions xs)) m.control.at (omega (arith, le, many, all)) in
      no-more before m
      (ap (λ o. lines_while es moves m.control.status m.substep o m.layouts m.control.slots) none ∙ past m.control.status m.substep m.layouts m.control.slots)

-- else they are those of the text at the place
pub next-lines : (es : List Entry) (moves : ℕ → List Remapping) (m : Machine Text Fault) (t : Text) → m.control.status ≡ Running → m.substep ≡ 0 → slice_get m.code m.control.at ≡ Some t
    → lines_now es moves m ≡ text_lines es moves t m.layouts m.control.slots
next-lines es moves m t running first here = λ j. lines_while es moves (running j) (first j) (here j) m.layouts m.control.slots

-- lines that are new, where the rows and the slots are those
pub fresh-lines : (es : List Entry) (moves : ℕ → List Remapping) (t : Text) (nodes : ℕ) (maps : List Mapping) (dims : List (List Dim)) (i : Instruction)
    (layouts layouts' : List Layout) (slots slots' : List ℤ) (start new : List ℕ) → t ≡ text nodes maps dims i → start ≡ []
    → new ≡ start ++ instruction_lines maps (record { nodes = nodes; names = map (λ (e : Entry). e.name) es; shapes = dims; moves = moves; copies = []; copied = [] }) (take (length es) layouts) i slots
    → layouts ≡ layouts' → slots ≡ slots' → new ≡ text_lines es moves t layouts' slots'
fresh-lines es moves t nodes maps dims i layouts layouts' slots slots' start new is empty made lies stand =
    made
    ∙ ap (λ l. l ++ instruction_lines maps (record { nodes = nodes; names = map (λ (e : Entry). e.name) es; shapes = dims; moves = moves; copies = []; copied = [] }) (take (length es) layouts) i slots) empty
    ∙ ap (λ x. text_lines es moves x layouts slots) (sym is)
    ∙ (λ j. text_lines es moves t (lies j) (stand j))
