-- Of a promise.
-- What the machine with whole arrays passes: parallel statements, reductions and redistributions, each with the slots before it; and when these
-- are the entries of a trail.
use Rattle.std.specs.Prelude.{◌≡◌, ℕ, zero, suc, ◌<◌, List, [], ◌∷◌, ◌++◌, map, length, slice_index_or, is_some, ℤ, pos, Option, Some, None, ⊤, ◌⊎◌}
use Rattle.std.specs.List.{slice_get}
use Rattle.op_tables.specs.declared.op.Op.{Op}
use Rattle.op_tables.specs.Reductions.{reduction_of}
use Rattle.array_meaning.specs.Faults.{Fault}
use Rattle.array_meaning.specs.Sections.{extents}
use Rattle.array_meaning.specs.Terms.{Term, Terms}
use Rattle.statement_trail.specs.Trail.{Event, Trail, TrailEntry, SectionAssigned, ValuesCopied, Reduced, ForallMask, ElementsAssigned, CopyAssigned, OfNest, Redistributed}
use Rattle.statement_trail.specs.Anchors.{AnchorText}
use Rattle.statement_trail.specs.NestParts.{EnteredNest, NestPart}
use Rattle.nest_syntax.specs.Asked.{Asked}
use Rattle.array_meaning.specs.declared.sections.Sequence.{Sequence}
use Rattle.array_meaning.specs.declared.sections.Selection.TheVariants.{Along}
use Rattle.machine_steps.specs.Instr.{Status, Running}
use Rattle.machine_steps.specs.Machine.{Machine, step}
use Rattle.node_code.specs.declared.nest.NestRole.{NestRole}
use Rattle.node_code.specs.declared.nest.NestRole.TheVariants.{Assigns, SetsMark}
use Rattle.code_meaning.specs.Flat.{slot}
use Rattle.node_code.specs.Flat.{Flat}
use Rattle.node_code.specs.Forms.{ArrayForm, FlatForm}
use Rattle.node_code.specs.NestStatements.{NestStatement, ElementLeft}
use Rattle.code_meaning.specs.Forms.{selections_in, elemental_in, elemental_at}
use Rattle.node_code.specs.Parallel.{When}
use Rattle.code_meaning.specs.Parallel.{evaluation_extents}
use Rattle.lowered_expressions.specs.WellFormed.{AreSubscripts, IsIndexed}
use Rattle.node_code.specs.Instructions.{NewMapping, Instruction, Par, ParForall, ParNest, ParCopy, ParForallCopy, Reduce, Remap}
use Rattle.code_meaning.specs.Instructions.{ArrayTable, meaning_of}
use Rattle.program_code.specs.ExpressionCode.{index_subs, index_form}
use Rattle.lowered_expressions.specs.Anchors.{IsBeside, IsForeknown}
use Rattle.lowered_expressions.specs.NestEvents.{whens_for, AreStored, IsPart}

-- an instruction that is passed, and the slots before it
pub record Passed : Type 0 where
  pub instruction : Instruction
  pub slots : List ℤ

-- the mark of an assignment of a nest is no part
abbrev pub unless_mark : NestRole → Passed → List Passed
unless_mark SetsMark p = []
unless_mark role p = p ∷ []

-- what is noted of an instruction: nothing, but for one that is a part or a redistribution
abbrev pub note : Instruction → List ℤ → List Passed
note (Par p) slots = record { instruction = Par p; slots = slots } ∷ []
note (ParForall p) slots = record { instruction = ParForall p; slots = slots } ∷ []
note (ParNest p) slots = unless_mark p.role (record { instruction = ParNest p; slots = slots })
note (ParCopy copy p) slots = record { instruction = ParCopy copy p; slots = slots } ∷ []
note (ParForallCopy copy p) slots = record { instruction = ParForallCopy copy p; slots = slots } ∷ []
note (Reduce p r x) slots = record { instruction = Reduce p r x; slots = slots } ∷ []
note (Remap line new) slots = record { instruction = Remap line new; slots = slots } ∷ []
note i slots = []

-- it is noted at its first step
abbrev pub note_at : ℕ → Option Instruction → List ℤ → List Passed
note_at zero (Some i) slots = note i slots
note_at zero None slots = []
note_at (suc k) i slots = []

abbrev pub note_while : Status Fault → ℕ → Option Instruction → List ℤ → List Passed
note_while Running substep i slots = note_at substep i slots
note_while status substep i slots = []

abbrev pub passed_now : Machine Instruction Fault → List Passed
passed_now m = note_while m.control.status m.substep (slice_get m.code m.control.at) m.control.slots

-- what so many steps pass
abbrev pub passed : ArrayTable → ℕ → Machine Instruction Fault → List Passed
passed table zero m = []
passed table (suc k) m = passed_now m ++ passed table k (step (meaning_of table) m)

-- ---- against the meaning's trail

-- a mask is read from the copy after so many declared names
abbrev pub IsMaskCopy : ℕ → Option When → Type 0
IsMaskCopy n mask = (w : When) → mask ≡ Some w → w.copy ≡ n

-- by these slots, at each tuple of indices, one form is what the other is
abbrev pub AreSameForms : List ℤ → ArrayForm → ArrayForm → Type 0
AreSameForms slots form other = (indices : List ℤ) → elemental_at slots indices form ≡ elemental_at slots indices other

-- a statement at all iterations of a nest is that part of it
abbrev pub IsNestEvent : ℕ → NestStatement → List ℤ → Event → Type 0
IsNestEvent n p slots event =
    (nest : EnteredNest) × (asked : List Asked) × (part : NestPart) × (event ≡ OfNest nest asked part)
    × (selections_in slots p.over ≡ map Along nest.axes) × (p.whens ≡ whens_for n nest asked) × AreStored n nest asked
    × IsPart n nest p part × IsBeside n p.beside nest.beside

-- or it gives the elements of an array those of the copy after so many declared names, which lies beside nothing
abbrev pub IsCopyEvent : ℕ → NestStatement → List ℤ → Event → Type 0
IsCopyEvent n p slots event =
    (axes : List Sequence) × (a : ℕ) × (ts : Terms) × (f : Flat) × (event ≡ CopyAssigned axes a ts) × (selections_in slots p.over ≡ map Along axes)
    × (p.left ≡ ElementLeft a (index_subs ts)) × (p.right ≡ FlatForm f) × (p.whens ≡ []) × (p.copies ≡ n ∷ []) × (p.names ≡ []) × (p.role ≡ Assigns)
    × (p.beside ≡ None) × AreSubscripts n ts

-- where n names are declared, the instruction is that part of the line, or that redistribution: its constants and the slots that it names give what
-- was evaluated once. `moves` says of a line which arrays its REDISTRIBUTE moves
abbrev pub IsEvent : (ℕ → List NewMapping) → (n : ℕ) → Instruction → List ℤ → ℕ → Event → Type 0
IsEvent moves n (Par p) slots line event =
    (p.line ≡ line) × ((beside : Option AnchorText) × (event ≡ SectionAssigned (is_some p.mask) beside (extents (selections_in slots p.over)) p.array (selections_in slots p.left)
    (elemental_in slots p.right)) × IsMaskCopy n p.mask × IsBeside n p.beside beside × IsForeknown beside)
IsEvent moves n (ParCopy copy p) slots line event =
    (p.line ≡ line) × ((beside : Option AnchorText) × (event ≡ ValuesCopied beside (evaluation_extents p slots) (elemental_in slots p.form)) × (copy ≡ n)
    × IsBeside n p.beside beside × IsForeknown beside)
IsEvent moves n (Reduce p r x) slots line event =
    (p.line ≡ line) × ((o : Op) × (event ≡ Reduced o (evaluation_extents p slots) (elemental_in slots p.form)) × (r ≡ reduction_of o))
IsEvent moves n (ParForall p) slots line event =
    (p.line ≡ line) × ((beside : Option AnchorText) × (axes : List Sequence) × (ts : Terms) × (t : Term) × (event ≡ ElementsAssigned (is_some p.mask) beside axes p.array ts t)
    × (selections_in slots p.over ≡ map Along axes) × (p.left ≡ index_subs ts) × AreSameForms slots p.right (index_form t) × IsMaskCopy n p.mask
    × AreSubscripts n ts × IsIndexed n t × IsBeside n p.beside beside)
IsEvent moves n (ParForallCopy copy p) slots line event =
    (p.line ≡ line) × ((beside : Option AnchorText) × (axes : List Sequence) × (t : Term) × (event ≡ ForallMask beside axes t)
    × (selections_in slots p.over ≡ map Along axes) × (p.form ≡ index_form t) × (copy ≡ n) × IsIndexed n t × IsBeside n p.beside beside)
IsEvent moves n (ParNest p) slots line event = (p.line ≡ line) × (IsNestEvent n p slots event ⊎ IsCopyEvent n p slots event)
IsEvent moves n (Remap l new) slots line event = (l ≡ line) × (event ≡ Redistributed) × (new ≡ moves line)
IsEvent moves n i slots line event = ⊥

-- what is passed is an entry: the slots hold the scalars of that moment, too
pub record IsTrailEntry (moves : ℕ → List NewMapping) (p : Passed) (e : TrailEntry) : Type 0 where
  pub scalars : (k : ℕ) → k < length e.scalars → slot p.slots k ≡ slice_index_or e.scalars k (pos 0)
  pub event : IsEvent moves (length e.scalars) p.instruction p.slots e.line e.event

-- what is passed is a trail, entry by entry
abbrev pub IsTrail : (ℕ → List NewMapping) → List Passed → Trail → Type 0
IsTrail moves [] [] = ⊤
IsTrail moves [] (e ∷ es) = ⊥
IsTrail moves (p ∷ ps) [] = ⊥
IsTrail moves (p ∷ ps) (e ∷ es) = IsTrailEntry moves p e × IsTrail moves ps es
