-- Of private clauses.
-- No public clause cites this file. What the instruction at a node's place has it do.
use Rattle.std.specs.Prelude.{◌≡◌, ◌<◌, ◌≤◌, ◌^◌, ℕ, List, [], Some, length, option_map, true, ⊤}
use Rattle.std.specs.List.{slice_get}
use Rattle.hpf_base.specs.declared.index.Shape.{Shape}
use Rattle.hpf_base.specs.declared.limits.TheConstants.{MAX_RANK}
use Rattle.array_meaning.specs.Faults.{Fault}
use Rattle.machine_steps.specs.Instr.{Instr, Local}
use Rattle.machine_steps.specs.Instr as machine
use Rattle.machine_steps.specs.Machine.{finish, instr_at}
use Rattle.machine_steps.specs.Node.{Node, begun_by, done_by}
use Rattle.machine_steps.specs.Rounds.{rounds_on}
use Rattle.code_meaning.specs.FaultValues.{fault_values}
use Rattle.node_code.specs.Instructions.{Instruction, PrintSection}
use Rattle.code_meaning.specs.Instructions.{item_of, lies_alone}
use Rattle.code_meaning.specs.Parallel.{fold_of}
use Rattle.code_meaning.specs.ProgramText.{Text, table_on, text_meaning}
use Rattle.node_code.specs.Texts.{evaluation, flat, flat_anchor, subs}
use Rattle.machine_steps.specs.SameLayouts.{is_same_layout}
use Rattle.slot_values.specs.LocalInstructions.{is_local}
use Rattle.node_machine.specs.Copies.{copying, copying_for_nest}
use Rattle.node_machine.specs.Parts.{IsPar}
use Rattle.node_machine.specs.Prints.{IsPrintedSection, IsPrintedText, PrintsLine, text_of}
use Rattle.node_machine.specs.Reductions.{IsReducing}
use Rattle.node_machine.specs.Remaps.{MappingsFit, remappings_of}
use Rattle.node_machine.specs.Results.{IsFetching, IsStoring}
use Rattle.node_machine.specs.Trees.{IsReduceTree, IsReduceVerdict}
use Rattle.node_machine.specs.declared.step.Step.{Step}
use Rattle.node_machine.specs.declared.step.Step.TheVariants as step

-- the instruction at its place
abbrev pub instr_here : Node Text Fault → Instr Fault
instr_here a = instr_at text_meaning a.code a.control.at

-- the node after the local step before that instruction or a step of it, and after the one after a phase of it
abbrev pub begun : Node Text Fault → Node Text Fault
begun a = begun_by fault_values a.nodes (instr_here a) a

abbrev pub done : Node Text Fault → Node Text Fault
done a = done_by fault_values a.nodes (instr_here a) a

-- an instruction that touches no array stands at the place
pub record IsLocalAt (code : List Text) (at : ℕ) : Type 0 where
  pub text : Text
  pub is : slice_get code at ≡ Some text
  pub local : is_local text.instruction ≡ true

-- the instruction has this done on so many nodes after so many of its steps
abbrev pub Does : Instr Fault → (nodes substep : ℕ) → Step → Type 0
Does i nodes k step.End = ⊥
Does i nodes k step.Local = ⊥
Does i nodes k (step.Fetch f) = IsFetching i f
Does i nodes k (step.Store s) = IsStoring i s
Does i nodes k (step.Par p) = IsPar i p
Does i nodes k step.Verdict = i ≡ machine.Verdict
Does i nodes k (step.ReduceValues r) = IsReducing i k r
Does i nodes k step.ReduceVerdict = IsReduceVerdict i k
Does i nodes k (step.ReduceTree r) = IsReduceTree i k r
Does i nodes k (step.MakeCopy p) = i ≡ copying nodes p.copy (evaluation p.evaluation.now)
Does i nodes k (step.MakeCopies p) = i ≡ copying_for_nest nodes p.copy (subs p.over.now.items) (flat p.start.now) (option_map flat_anchor p.beside.now)
Does i nodes k (step.PrintText t) = IsPrintedText i k t
Does i nodes k (step.PrintSection s) = IsPrintedSection i k s
Does i nodes k step.PrintLine = PrintsLine i k
Does i nodes k (step.FoldCopy f) = i ≡ machine.FoldCopy f.copy (fold_of f.op) f.slot
Does i nodes k (step.LastCopy l) = i ≡ machine.LastCopy l.copy l.set is_same_layout l.slot
Does i nodes k (step.ScanCopy s) = i ≡ machine.Scan s.copy (lies_alone (table_on nodes [] [])) (fold_of s.op)
Does i nodes k (step.Remap new) = i ≡ machine.Remap (remappings_of new) (rounds_on nodes (remappings_of new))

-- the item of a PRINT has this done
abbrev pub IsItemStep : machine.Item → Step → Type 0
IsItemStep item (step.PrintText t) = item ≡ machine.Text (text_of t)
IsItemStep item (step.PrintSection s) = item ≡ item_of s.shapes.now.items (PrintSection s.array (subs s.section.now.items))
IsItemStep item s = ⊥

-- the instruction with this text has this done on so many nodes after so many of its steps
abbrev pub TextDoes : Instr Fault → Instruction → (nodes substep : ℕ) → Step → Type 0
TextDoes i text nodes k step.End = ⊥
TextDoes i text nodes k step.Local = is_local text ≡ true
TextDoes i text nodes k s = Does i nodes k s

-- what is to be done at a place of the code: nothing more at its end
abbrev pub IsStepAt : List Text → (at nodes substep : ℕ) → Step → Type 0
IsStepAt code at nodes k step.End = instr_at text_meaning code at ≡ Local (finish text_meaning)
IsStepAt code at nodes k step.Local = IsLocalAt code at
IsStepAt code at nodes k s = Does (instr_at text_meaning code at) nodes k s

-- what is done fits rows of these shapes on so many nodes: a space has 7 dimensions at most, tables are for as many nodes, and rows have
-- the shapes of those by which they are mapped anew
abbrev pub StepFits : ℕ → List Shape → Step → Type 0
StepFits nodes rows (step.MakeCopy p) = length (evaluation p.evaluation.now).over ≤ MAX_RANK
StepFits nodes rows (step.MakeCopies p) = length (subs p.over.now.items) ≤ MAX_RANK
StepFits nodes rows (step.Remap new) = MappingsFit nodes rows new
StepFits nodes rows s = ⊤

-- a place with an instruction
abbrev pub IsInCode : ℕ → Step → Type 0
IsInCode at step.End = ⊤
IsInCode at s = at < 2 ^ 63
