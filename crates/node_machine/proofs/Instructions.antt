-- The instruction at a place of the code, and the steps of instructions without arrays.
use Rattle.std.proofs.Common.{◌≡◌, ℕ, zero, suc, ◌<◌, ◌≤◌, true, List, [], ◌∷◌, length, get_or, Some, refl, sym, ◌∙◌, ap, subst, arith}
use Rattle.std.specs.List.{slice_get}
use Rattle.std.proofs.lemmas.Option.{none-some, same_Some}
use Rattle.mappings.specs.declared.mapping.Mapping.{Mapping}
use Rattle.expression_rules.specs.declared.dims.Dim.{Dim}
use Rattle.array_meaning.specs.Faults.{Fault}
use Rattle.machine_steps.specs.Instr.{Control, Instr, Local}
use Rattle.machine_steps.specs.Machine.{finish, instr_at, instr_of}
use Rattle.machine_steps.specs.Node.{Node, begun_by, done_by}
use Rattle.code_meaning.specs.FaultValues.{fault_values}
use Rattle.node_code.specs.Instructions.{Instruction, Fetch, Store, Par, ParForall, ParNest, MakeCopies, MakeCopy, ParCopy, ParForallCopy, Verdict, Reduce, Print, FoldCopy, LastCopy, ScanCopy, Remap}
use Rattle.code_meaning.specs.Instructions.{meaning_of}
use Rattle.code_meaning.specs.ProgramText.{Text, table_on, text, text_meaning, texts}
use Rattle.node_code.specs.Texts.{instruction, instructions}
use Rattle.node_code.specs.declared.instruction.Instruction.{Instruction as HeldInstruction}
use Rattle.slot_values.specs.LocalInstructions.{is_local, local_control}
use Rattle.node_machine.specs.Steps.{Does, IsLocalAt, IsStepAt, TextDoes}
use Rattle.node_machine.specs.declared.step.Step.{Step}
use Rattle.node_machine.specs.declared.step.Step.TheVariants as step

module _ (nodes : ℕ) (maps : List Mapping) (shapes : List (List Dim)) where
  instr_at-get : (xs : List HeldInstruction) (at : ℕ) (d : HeldInstruction) → at < length xs
      → instr_at text_meaning (texts nodes maps shapes (instructions xs)) at ≡ meaning_of (table_on nodes maps shapes) (instruction (get_or xs at d))
  instr_at-get [] at d lt = absurd (omega arith)
  instr_at-get (x ∷ xs) zero d lt = refl
  instr_at-get (x ∷ xs) (suc at) d lt = instr_at-get xs at d (omega arith)

  pub instr_at-is : (xs : List HeldInstruction) (at : ℕ) (i : HeldInstruction) → at < length xs → i ≡ get_or xs at i
      → instr_at text_meaning (texts nodes maps shapes (instructions xs)) at ≡ meaning_of (table_on nodes maps shapes) (instruction i)
  instr_at-is xs at i lt e = instr_at-get xs at i lt ∙ ap (λ x. meaning_of (table_on nodes maps shapes) (instruction x)) (sym e)

  pub instr_at-end : (xs : List HeldInstruction) (at : ℕ) → length xs ≤ at → instr_at text_meaning (texts nodes maps shapes (instructions xs)) at ≡ Local (finish text_meaning)
  instr_at-end [] at le = refl
  instr_at-end (x ∷ xs) zero le = absurd (omega arith)
  instr_at-end (x ∷ xs) (suc at) le = instr_at-end xs at (omega arith)

  text-get : (xs : List HeldInstruction) (at : ℕ) (d : HeldInstruction) → at < length xs → slice_get (texts nodes maps shapes (instructions xs)) at ≡ Some (text nodes maps shapes (instruction (get_or xs at d)))
  text-get [] at d lt = absurd (omega arith)
  text-get (x ∷ xs) zero d lt = refl
  text-get (x ∷ xs) (suc at) d lt = text-get xs at d (omega arith)

  -- what the instruction has done is what is done at its place
  pub step-is : (xs : List HeldInstruction) (at : ℕ) (i : HeldInstruction) (k : ℕ) (s : Step) → at < length xs → i ≡ get_or xs at i
      → TextDoes (meaning_of (table_on nodes maps shapes) (instruction i)) (instruction i) nodes k s → IsStepAt (texts nodes maps shapes (instructions xs)) at nodes k s
  step-is xs at i k step.End lt e is = absurd is
  step-is xs at i k step.Local lt e is = record {
    text = text nodes maps shapes (instruction i);
    is = text-get xs at i lt ∙ ap (λ x. Some (text nodes maps shapes (instruction x))) (sym e);
    local = is;
  }
  step-is xs at i k s lt e is = subst (λ x. Does x nodes k s) (sym (instr_at-is xs at i lt e)) is

  -- ---- instructions that touch no array

  pub local-inside : (xs : List HeldInstruction) (at : ℕ) → IsLocalAt (texts nodes maps shapes (instructions xs)) at → at < length xs
  local-inside [] at l = absurd (none-some _ l.is)
  local-inside (x ∷ xs) zero l = omega arith
  local-inside (x ∷ xs) (suc at) l = let lt = local-inside xs at (record { text = l.text; is = l.is; local = l.local }) in omega (arith, lt)

  pub local-text : (xs : List HeldInstruction) (at : ℕ) (i : HeldInstruction) → i ≡ get_or xs at i → IsLocalAt (texts nodes maps shapes (instructions xs)) at → is_local (instruction i) ≡ true
  local-text xs at i e l =
      ap (λ (t : Text). is_local t.instruction)
      (same_Some _ _ (ap (λ x. Some (text nodes maps shapes (instruction x))) e ∙ sym (text-get xs at i (local-inside xs at l)) ∙ l.is)) ∙ l.local

  local-meaning : (i : Instruction) → is_local i ≡ true → meaning_of (table_on nodes maps shapes) i ≡ Local (local_control shapes i)
  local-meaning (Fetch line b fs x) is = cc
  local-meaning (Store line b fs f) is = cc
  local-meaning (Par p) is = cc
  local-meaning (ParForall p) is = cc
  local-meaning (ParNest p) is = cc
  local-meaning (MakeCopies copy over start beside) is = cc
  local-meaning (MakeCopy copy p) is = cc
  local-meaning (ParCopy copy p) is = cc
  local-meaning (ParForallCopy copy p) is = cc
  local-meaning Verdict is = cc
  local-meaning (Reduce p o x) is = cc
  local-meaning (Print items) is = cc
  local-meaning (FoldCopy copy o x) is = cc
  local-meaning (LastCopy copy set x) is = cc
  local-meaning (ScanCopy copy o) is = cc
  local-meaning (Remap line new) is = cc
  local-meaning i is = refl

  pub local-step : (count : ℕ) (i : Instruction) (instr : Instr Fault) (a : Node Text Fault) (c : Control Fault)
      → instr ≡ meaning_of (table_on nodes maps shapes) i → is_local i ≡ true → c ≡ local_control shapes i a.control
      → record a { control = c; substep = 0 } ≡ begun_by fault_values count instr a
  local-step count i instr a c at is e =
      ap (λ x. record a { control = x; substep = 0 }) e ∙ ap (λ x. begun_by fault_values count x a) (sym (local-meaning i is) ∙ sym at)

-- it changes nothing after a phase, where it never is
pub local-done : (count : ℕ) (a : Node Text Fault) → IsLocalAt a.code a.control.at → a ≡ done_by fault_values count (instr_at text_meaning a.code a.control.at) a
local-done count a l =
    let is : instr_at text_meaning a.code a.control.at ≡ Local (local_control l.text.shapes l.text.instruction) = ap (instr_of text_meaning) l.is ∙ local-meaning l.text.nodes l.text.maps l.text.shapes l.text.instruction l.local in
    ap (λ x. done_by fault_values count x a) (sym is)
