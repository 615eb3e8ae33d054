-- The instruction at a place of the code, and instructions without arrays.
use Rattle.std.proofs.Common.{◌≡◌, ℕ, zero, suc, ◌<◌, ◌≤◌, true, All, List, [], ◌∷◌, length, get_or, Some, refl, sym, ◌∙◌, ap, arith}
use Rattle.std.specs.List.{slice_get}
use Rattle.std.proofs.lemmas.Option.{none-some, same_Some}
use Rattle.mappings.specs.declared.mapping.Mapping.{Mapping}
use Rattle.expression_rules.specs.declared.dims.Dim.{Dim}
use Rattle.machine_steps.specs.Instr.{Local}
use Rattle.machine_steps.specs.Machine.{finish, instr_at, instr_of}
use Rattle.node_code.specs.Instructions.{Instruction, Fetch, Store, Par, ParForall, ParNest, MakeCopies, MakeCopy, ParCopy, ParForallCopy, Verdict, Reduce, Print, FoldCopy, LastCopy, ScanCopy, Remap}
use Rattle.code_meaning.specs.Instructions.{meaning_of}
use Rattle.code_meaning.specs.ProgramText.{Text, table_on, text, text_meaning, texts}
use Rattle.node_code.specs.Texts.{instruction, instructions}
use Rattle.node_code.specs.declared.instruction.Instruction.{Instruction as HeldInstruction}
use Rattle.slot_values.specs.LocalInstructions.{is_local, local_control}
use Rattle.whole_machine.specs.Places.{IsFor}

module _ (nodes : ℕ) (maps : List Mapping) (shapes : List (List Dim)) where
  text-get : (xs : List HeldInstruction) (at : ℕ) (d : HeldInstruction) → at < length xs
      → slice_get (texts nodes maps shapes (instructions xs)) at ≡ Some (text nodes maps shapes (instruction (get_or xs at d)))
  text-get [] at d lt = absurd (omega arith)
  text-get (x ∷ xs) zero d lt = refl
  text-get (x ∷ xs) (suc at) d lt = text-get xs at d (omega arith)

  pub text-at : (xs : List HeldInstruction) (at : ℕ) (i : HeldInstruction) → at < length xs → i ≡ get_or xs at i
      → slice_get (texts nodes maps shapes (instructions xs)) at ≡ Some (text nodes maps shapes (instruction i))
  text-at xs at i lt e = text-get xs at i lt ∙ ap (λ x. Some (text nodes maps shapes (instruction x))) (sym e)

  pub instr-is : (xs : List HeldInstruction) (at : ℕ) (i : HeldInstruction) → at < length xs → i ≡ get_or xs at i
      → instr_at text_meaning (texts nodes maps shapes (instructions xs)) at ≡ meaning_of (table_on nodes maps shapes) (instruction i)
  instr-is xs at i lt e = ap (instr_of text_meaning) (text-at xs at i lt e)

  pub instr-end : (xs : List HeldInstruction) (at : ℕ) → length xs ≤ at → instr_at text_meaning (texts nodes maps shapes (instructions xs)) at ≡ Local (finish text_meaning)
  instr-end [] at le = refl
  instr-end (x ∷ xs) zero le = absurd (omega arith)
  instr-end (x ∷ xs) (suc at) le = instr-end xs at (omega arith)

  pub is-for : (xs : List HeldInstruction) (at : ℕ) (i : HeldInstruction) → at < length xs → i ≡ get_or xs at i → IsFor (texts nodes maps shapes (instructions xs)) at nodes
  is-for xs at i lt e = record { text = text nodes maps shapes (instruction i); is = text-at xs at i lt e; on = refl }

  -- all texts are for these nodes
  each-for : (xs : List HeldInstruction) (k : ℕ) (d : Text) → k < length (texts nodes maps shapes (instructions xs)) → (get_or (texts nodes maps shapes (instructions xs)) k d).nodes ≡ nodes
  each-for [] k d lt = absurd (omega (arith, lt))
  each-for (x ∷ xs) zero d lt = refl
  each-for (x ∷ xs) (suc k) d lt = each-for xs k d (omega (arith, lt))

  pub all-for : (xs : List HeldInstruction) → All (λ (t : Text). t.nodes ≡ nodes) (texts nodes maps shapes (instructions xs))
  all-for xs = each-for xs

  pub nodes-are : (xs : List HeldInstruction) (at count : ℕ) → IsFor (texts nodes maps shapes (instructions xs)) at count → nodes ≡ count
  nodes-are [] at count h = absurd (none-some _ h.is)
  nodes-are (x ∷ xs) zero count h = ap (λ (t : Text). t.nodes) (same_Some _ _ h.is) ∙ h.on
  nodes-are (x ∷ xs) (suc at) count h = nodes-are xs at count (record { text = h.text; is = h.is; on = h.on })

  -- an instruction that touches no array
  pub local-is : (i : Instruction) → is_local i ≡ true → meaning_of (table_on nodes maps shapes) i ≡ Local (local_control shapes i)
  local-is (Fetch line b fs x) is = cc
  local-is (Store line b fs f) is = cc
  local-is (Par p) is = cc
  local-is (ParForall p) is = cc
  local-is (ParNest p) is = cc
  local-is (MakeCopies copy over start beside) is = cc
  local-is (MakeCopy copy p) is = cc
  local-is (ParCopy copy p) is = cc
  local-is (ParForallCopy copy p) is = cc
  local-is Verdict is = cc
  local-is (Reduce p o x) is = cc
  local-is (Print items) is = cc
  local-is (FoldCopy copy o x) is = cc
  local-is (LastCopy copy set x) is = cc
  local-is (ScanCopy copy o) is = cc
  local-is (Remap line new) is = cc
  local-is i is = refl
