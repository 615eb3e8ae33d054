-- What a local instruction means is the same with any layout of copies.
use Rattle.std.proofs.Common.{◌≡◌, true, refl}
use Rattle.std.proofs.lemmas.Bool.{false≢true}
use Rattle.machine_steps.specs.Instr.{Local}
use Rattle.code_meaning.specs.Instructions.{ArrayTable, meaning_of}
use Rattle.node_code.specs.Instructions.{Instruction, Set, Fetch, Store, TestBounds, TestStride, Trips, Jump, JumpIfZero, Halt, Limits, OwnLimits, ForallLimits, OneToOne, Check, Par, ParForall, ParNest, MakeCopies, MakeCopy, ParCopy, ParForallCopy, Verdict, Reduce, Inside, Print, FoldCopy, LastCopy, ScanCopy, Remap}
use Rattle.slot_values.specs.LocalInstructions.{is_local, local_control}

pub local_meaning : (table : ArrayTable) (i : Instruction) → is_local i ≡ true → meaning_of table i ≡ Local (local_control table.shapes i)
local_meaning table (Set line x f) h = refl
local_meaning table (Fetch line a fs x) h = absurd (false≢true h)
local_meaning table (Store line a fs f) h = absurd (false≢true h)
local_meaning table (TestBounds line a fs) h = refl
local_meaning table (TestStride line x) h = refl
local_meaning table (Trips line first last step left target) h = refl
local_meaning table (Jump target) h = refl
local_meaning table (JumpIfZero target x) h = refl
local_meaning table Halt h = refl
local_meaning table (Limits p) h = refl
local_meaning table (OwnLimits p) h = refl
local_meaning table (ForallLimits line over fs) h = refl
local_meaning table (OneToOne line over fs) h = refl
local_meaning table (Check line mark) h = refl
local_meaning table (Par p) h = absurd (false≢true h)
local_meaning table (ParForall p) h = absurd (false≢true h)
local_meaning table (ParNest p) h = absurd (false≢true h)
local_meaning table (MakeCopies copy over start beside) h = absurd (false≢true h)
local_meaning table (MakeCopy copy p) h = absurd (false≢true h)
local_meaning table (ParCopy copy p) h = absurd (false≢true h)
local_meaning table (ParForallCopy copy p) h = absurd (false≢true h)
local_meaning table Verdict h = absurd (false≢true h)
local_meaning table (Reduce p o x) h = absurd (false≢true h)
local_meaning table (Inside line a subs) h = refl
local_meaning table (Print items) h = absurd (false≢true h)
local_meaning table (FoldCopy copy o x) h = absurd (false≢true h)
local_meaning table (LastCopy copy set x) h = absurd (false≢true h)
local_meaning table (ScanCopy copy o) h = absurd (false≢true h)
local_meaning table (Remap line new) h = absurd (false≢true h)
