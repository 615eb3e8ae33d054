-- Of a promise.
-- Valid node code: all that an instruction names is there, each array has a subscript for each of its dimensions, and operators that
-- divide stand where a fault has a line.
use Rattle.std.specs.Prelude.{◌≡◌, ℕ, ◌+◌, ◌<◌, ◌≤◌, nat_eq, List, [], ◌∷◌, map, length, slice_get, Bool, true, false, Option, Some, None, ⊤}
use Rattle.std.specs.List.{AllByRecursion, IsDistinct}
use Rattle.hpf_base.specs.declared.limits.TheConstants.{MAX_RANK}
use Rattle.op_tables.specs.Operators.{can_divide}
use Rattle.node_code.specs.Dim.{Dim}
use Rattle.node_code.specs.Flat.{Flat, Int, Slot, Axis, Read, Operated, Flats, NoFlat, AndFlat}
use Rattle.node_code.specs.Forms.{Sub, SubAt, SubAlong, ArrayForm, FlatForm, SectionForm, OperationForm, Forms, NoForm, AndForm}
use Rattle.node_code.specs.Anchors.{AnchorSub, AnchorAt, AnchorAlong, FlatAnchor}
use Rattle.node_code.specs.Parallel.{When, Assignment, Evaluation}
use Rattle.code_meaning.specs.Parallel.{shape_of}
use Rattle.node_code.specs.NestStatements.{NestLeft, ElementLeft, CopyLeft, NestStatement}
use Rattle.node_code.specs.Instructions as code
use Rattle.node_code.specs.Instructions.{PrintItem, PrintBytes, PrintNumber, PrintSection, NewMapping, Instruction, Set, Fetch, Store, TestBounds, TestStride, Trips, Jump, JumpIfZero, Halt, Limits, OwnLimits, ForallLimits, OneToOne, Check, Par, ParForall, ParNest, MakeCopies, MakeCopy, ParCopy, ParForallCopy, Verdict, Inside, Print, FoldCopy, LastCopy, ScanCopy, Remap}

-- what code names things of: the dimensions of the declared names by their places, how many copies have rows after them, and how many
-- mappings, slots and places of the code there are
pub record CodeTable : Type 0 where
  pub shapes : List (List Dim)
  pub copies : ℕ
  pub maps : ℕ
  pub slots : ℕ
  pub places : ℕ

-- how many expressions
abbrev pub flat_count : Flats → ℕ
flat_count NoFlat = 0
flat_count (AndFlat f fs) = flat_count fs + 1

module _ (table : CodeTable) where
  -- a slot, and a target, which is a place of the code
  abbrev pub IsSlot : ℕ → Type 0
  IsSlot x = x < table.slots

  abbrev pub IsTarget : ℕ → Type 0
  IsTarget target = target < table.places

  -- the row of a copy stands after the declared names
  abbrev pub IsCopy : ℕ → Type 0
  IsCopy copy = (length table.shapes ≤ copy) × (copy < length table.shapes + table.copies)

  -- ---- expressions

  abbrev mutual
    -- an expression over the slots and so many axes, without reads and without operators that divide: it can't fault
    pub IsFlat : ℕ → Flat → Type 0
    IsFlat axes (Int v) = ⊤
    IsFlat axes (Slot k) = IsSlot k
    IsFlat axes (Axis k) = k < axes
    IsFlat axes (Read k) = ⊥
    IsFlat axes (Operated o fs) = (can_divide o ≡ false) × AreFlats axes fs

    pub AreFlats : ℕ → Flats → Type 0
    AreFlats axes NoFlat = ⊤
    AreFlats axes (AndFlat f fs) = IsFlat axes f × AreFlats axes fs

  -- a value that a slot gets, where the operator above all others may divide
  abbrev pub IsValue : Flat → Type 0
  IsValue (Operated o fs) = AreFlats 0 fs
  IsValue f = IsFlat 0 f

  -- a place among the declared names, with one subscript for each dimension, of which there are 7 at most
  abbrev pub IsReference : ℕ → (subscripts : ℕ) → Type 0
  IsReference a subscripts = (a < length table.shapes) × (subscripts ≡ length (shape_of table.shapes a)) × (subscripts ≤ MAX_RANK)

  -- an element of an array
  abbrev pub IsElement : ℕ → Flats → Type 0
  IsElement a fs = IsReference a (flat_count fs) × AreFlats 0 fs

  -- ---- sections and array expressions

  -- a subscript, by three slots where it is a triplet
  abbrev pub IsSub : ℕ → Sub → Type 0
  IsSub axes (SubAt f) = IsFlat axes f
  IsSub axes (SubAlong v) = IsSlot (v + 2)

  -- a section of an array, or in a FORALL an element
  abbrev pub IsSection : ℕ → ℕ → List Sub → Type 0
  IsSection axes a subs = IsReference a (length subs) × AllByRecursion (IsSub axes) subs

  -- a space by the subscripts of a section or the triplets of a FORALL, 7 at most
  abbrev pub IsSpace : List Sub → Type 0
  IsSpace over = (length over ≤ MAX_RANK) × AllByRecursion (IsSub 0) over

  abbrev mutual
    -- what is left of an array expression: any operator may stand over sections
    pub IsForm : ℕ → ArrayForm → Type 0
    IsForm axes (FlatForm f) = IsFlat axes f
    IsForm axes (SectionForm a subs) = IsSection axes a subs
    IsForm axes (OperationForm o fs) = AreForms axes fs

    pub AreForms : ℕ → Forms → Type 0
    AreForms axes NoForm = ⊤
    AreForms axes (AndForm f fs) = IsForm axes f × AreForms axes fs

  -- what copies lie beside: an element of an array, with a subscript for each dimension
  abbrev pub IsAnchorSub : ℕ → AnchorSub → Type 0
  IsAnchorSub axes (AnchorAt f) = IsFlat axes f
  IsAnchorSub axes (AnchorAlong first stride) = IsFlat 0 first × IsFlat 0 stride

  abbrev pub IsAnchor : ℕ → Option FlatAnchor → Type 0
  IsAnchor axes None = ⊤
  IsAnchor axes (Some a) = IsReference a.array (length a.subscripts) × AllByRecursion (IsAnchorSub axes) a.subscripts

  -- a mask, an assignment under one or none, and an array expression by itself
  abbrev pub IsMask : Option When → Type 0
  IsMask None = ⊤
  IsMask (Some w) = IsCopy w.copy

  abbrev pub IsAssignment : ℕ → Assignment → Type 0
  IsAssignment axes p = IsSection axes p.array p.left × IsForm axes p.right × IsSpace p.over × IsMask p.mask × IsAnchor (length p.over) p.beside

  abbrev pub IsEvaluation : ℕ → Evaluation → Type 0
  IsEvaluation axes p = IsForm axes p.form × IsSpace p.over × IsAnchor (length p.over) p.beside

  -- ---- statements of nests

  abbrev mutual
    -- what is evaluated: subscripts over the indices, and what stands outside of them over these and the copies
    pub IsNestForm : (axes values : ℕ) → ArrayForm → Type 0
    IsNestForm axes values (FlatForm f) = IsFlat values f
    IsNestForm axes values (SectionForm a subs) = IsSection axes a subs
    IsNestForm axes values (OperationForm o fs) = AreNestForms axes values fs

    pub AreNestForms : (axes values : ℕ) → Forms → Type 0
    AreNestForms axes values NoForm = ⊤
    AreNestForms axes values (AndForm f fs) = IsNestForm axes values f × AreNestForms axes values fs

  abbrev pub IsNestLeft : ℕ → NestLeft → Type 0
  IsNestLeft axes (ElementLeft a subs) = IsSection axes a subs
  IsNestLeft axes (CopyLeft row) = IsCopy row

  pub record IsNestStatement (p : NestStatement) : Type 0 where
    pub over : IsSpace p.over
    pub whens : AllByRecursion (λ w. IsCopy w.copy) p.whens
    pub copies : AllByRecursion IsCopy p.copies
    pub left : IsNestLeft (length p.over) p.left
    pub right : IsNestForm (length p.over) (length p.over + length p.copies) p.right
    pub beside : IsAnchor (length p.over) p.beside

  -- ---- instructions

  -- an item of a PRINT
  abbrev pub IsItem : PrintItem → Type 0
  IsItem (PrintBytes bytes) = ⊤
  IsItem (PrintNumber f) = IsFlat 0 f
  IsItem (PrintSection a subs) = IsSection 0 a subs

  -- a new mapping of a declared array
  abbrev pub IsNewMapping : NewMapping → Type 0
  IsNewMapping new = (new.array < length table.shapes) × (new.map < table.maps)

  -- in a FORALL, and in the copy of its mask, expressions have an axis for each index
  abbrev pub IsValid : Instruction → Type 0
  IsValid (Set line x f) = IsSlot x × IsValue f
  IsValid (Fetch line a fs x) = IsElement a fs × IsSlot x
  IsValid (Store line a fs f) = IsElement a fs × IsFlat 0 f
  IsValid (TestBounds line a fs) = IsElement a fs
  IsValid (TestStride line x) = IsSlot x
  IsValid (Trips line first last step left target) = IsSlot first × IsSlot last × IsSlot step × IsSlot left × IsTarget target
  IsValid (Jump target) = IsTarget target
  IsValid (JumpIfZero target x) = IsTarget target × IsSlot x
  IsValid Halt = ⊤
  IsValid (Limits p) = IsAssignment 0 p
  IsValid (OwnLimits p) = IsEvaluation 0 p
  IsValid (ForallLimits line over subscripts) = IsSpace over × AllByRecursion (IsFlat (length over)) subscripts
  IsValid (OneToOne line over left) = IsSpace over × AllByRecursion (IsFlat (length over)) left
  IsValid (Check line mark) = ⊤
  IsValid (Par p) = IsAssignment 0 p
  IsValid (ParForall p) = IsAssignment (length p.over) p
  IsValid (ParNest p) = IsNestStatement p
  IsValid (MakeCopies copy over start beside) = IsCopy copy × IsSpace over × IsFlat 0 start × IsAnchor (length over) beside
  IsValid (MakeCopy copy p) = IsCopy copy × IsEvaluation (length p.over) p
  IsValid (ParCopy copy p) = IsCopy copy × IsEvaluation 0 p
  IsValid (ParForallCopy copy p) = IsCopy copy × IsEvaluation (length p.over) p
  IsValid Verdict = ⊤
  IsValid (code.Reduce p r x) = IsEvaluation 0 p × IsSlot x
  IsValid (Inside line a subs) = IsSection 0 a subs
  IsValid (Print items) = AllByRecursion IsItem items
  IsValid (FoldCopy copy j x) = IsCopy copy × IsSlot x
  IsValid (LastCopy copy set x) = IsCopy copy × IsCopy set × IsSlot x
  IsValid (ScanCopy copy j) = IsCopy copy
  IsValid (Remap line new) = AllByRecursion IsNewMapping new × IsDistinct nat_eq (map (λ n. n.array) new)

-- the run doesn't go on to the next place
abbrev pub is_transfer : Instruction → Bool
is_transfer Halt = true
is_transfer (Jump target) = true
is_transfer i = false

-- the last instruction is one of these
abbrev pub is_closed : List Instruction → Bool
is_closed [] = false
is_closed (i ∷ []) = is_transfer i
is_closed (i ∷ j ∷ rest) = is_closed (j ∷ rest)

pub record IsValidNodeCode (table : CodeTable) (instructions : List Instruction) : Type 0 where
  pub each : (at : ℕ) (i : Instruction) → slice_get instructions at ≡ Some i → IsValid table i
  pub whole : length instructions ≡ table.places
  pub closed : is_closed instructions ≡ true
