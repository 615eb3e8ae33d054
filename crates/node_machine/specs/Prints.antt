-- Of private clauses.
-- No public clause cites this file. Steps of a PRINT.
use Rattle.std.specs.Prelude.{◌≡◌, ℕ, ℤ, List, ◌∷◌, Option, Some, None}
use Rattle.std.specs.List.{slice_get}
use Rattle.std.specs.Fmt.{signed_decimal}
use Rattle.storage.specs.Storage.{Spot}
use Rattle.array_meaning.specs.Execution.{decimals}
use Rattle.array_meaning.specs.Faults.{Fault}
use Rattle.machine_steps.specs.Instr.{Instr, Item, Elements, Print}
use Rattle.machine_steps.specs.Instr as machine
use Rattle.code_meaning.specs.Flat.{slots_value}
use Rattle.node_code.specs.Instructions.{PrintSection}
use Rattle.code_meaning.specs.Instructions.{item_of}
use Rattle.node_code.specs.Texts.{flat, subs}
use Rattle.node_program.specs.PrintedLines.{line_of}
use Rattle.node_machine.specs.declared.prints.PrintedText.{PrintedText}
use Rattle.node_machine.specs.declared.prints.PrintedText.TheVariants.{Bytes, Number}
use Rattle.node_machine.specs.declared.sections.PrintedSection.{PrintedSection}

-- after so many steps the instruction prints this item
pub record PrintsItem (i : Instr Fault) (k : ℕ) (item : Item) : Type 0 where
  pub items : List Item
  pub is : i ≡ Print items line_of
  pub there : slice_get items k ≡ Some item

-- it ends the line
pub record PrintsLine (i : Instr Fault) (k : ℕ) : Type 0 where
  pub items : List Item
  pub is : i ≡ Print items line_of
  pub over : slice_get items k ≡ None

-- the bytes of a text by the slots
abbrev pub text_of : PrintedText → List ℤ → List ℕ
text_of (Bytes bytes) slots = 32 ∷ bytes.now.items
text_of (Number f) slots = 32 ∷ signed_decimal (slots_value slots (flat f.now))

-- it prints this text
abbrev pub IsPrintedText : Instr Fault → ℕ → PrintedText → Type 0
IsPrintedText i k t = PrintsItem i k (machine.Text (text_of t))

-- it prints the elements of this section
abbrev pub IsPrintedSection : Instr Fault → ℕ → PrintedSection → Type 0
IsPrintedSection i k s = PrintsItem i k (item_of s.shapes.now.items (PrintSection s.array (subs s.section.now.items)))

-- it prints the elements of a section
pub record PrintsSection (i : Instr Fault) (k : ℕ) : Type 0 where
  pub items : List Item
  pub count : List ℤ → ℕ
  pub element : List ℤ → ℕ → Option Spot
  pub is : i ≡ Print items line_of
  pub item : slice_get items k ≡ Some (Elements count element decimals)
