-- Of the claim.
-- The code of statements and of programs. Each statement takes slots from `b` on anew, and keeps those below.
use Rattle.std.specs.Prelude.{ℕ, ◌+◌, List, [], ◌∷◌, ◌++◌, length, map, max, reverse, pos, Bool, true, false, Option, Some, None, option_map}
use Rattle.op_tables.specs.declared.join.Join.TheVariants.{Sum}
use Rattle.op_tables.specs.declared.op.Op.TheVariants as op
use Rattle.array_meaning.specs.Terms.{Term, Number, Scalar, Apply, Terms, NoTerm, More, list_of, SectionSubscripts, NoSubscript, Triplet, Control}
use Rattle.array_meaning.specs.Statements as statements
use Rattle.array_meaning.specs.Statements.{Item, Text, Value, Elements, SectionAssignment, ElementAssignment, WholeArray, Transformation, CircularShift, Transposition, PrefixSum, Loop, Mark, Unmarked, Outermost, Block, Done, Then, Statement, AssignScalar, AssignElement, AssignSection, Transform, If, Do, Where, Forall, Stop, Exit, Cycle, Continue, Redistribute, Arms, NoArm, Arm}
use Rattle.array_meaning.specs.Forall.{all_subscripts}
use Rattle.array_meaning.specs.Resolution.{whole}
use Rattle.array_meaning.specs.Transformations.{has_shape}
use Rattle.statement_trail.specs.Anchors.{forall_anchor, where_anchor}
use Rattle.statement_trail.specs.TransformedElements.{first_extent, indices_from, source_element}
use Rattle.node_code.specs.declared.nest.NestRole.TheVariants.{Assigns}
use Rattle.node_code.specs.Flat.{Int, Slot, Axis, Operated, NoFlat, AndFlat}
use Rattle.node_code.specs.Forms.{Sub, FlatForm, SectionForm}
use Rattle.node_code.specs.Anchors.{FlatAnchor}
use Rattle.node_code.specs.Parallel.{When, Assignment, Evaluation}
use Rattle.node_code.specs.NestStatements.{NestStatement, ElementLeft}
use Rattle.node_code.specs.Instructions.{NewMapping, PrintItem, PrintBytes, PrintNumber, PrintSection, Instruction, Set, Store, TestBounds, TestStride, Trips, Jump, JumpIfZero, Halt, Limits, OwnLimits, ForallLimits, OneToOne, Check, Par, ParForall, ParNest, MakeCopy, ParCopy, ParForallCopy, ScanCopy, Verdict, Inside, Print, Remap}
use Rattle.program_code.specs.NestCode.{nest_rows, nest_slots, nest_code}
use Rattle.program_code.specs.ExpressionCode.{slots_of, all_slots_of, subscripts_slots, parts_slots, flat_of, flats_of, subs_of, form_of, code_of, codes_of, subscripts_code, parts_code, control_slots, control_code, copied_evaluation, own_evaluation, index_flat, index_subs, index_form, anchor_code}

-- ---- PRINT

abbrev pub item_slots : Item → ℕ
item_slots (Text bytes) = 0
item_slots (Value t) = slots_of t
item_slots (Elements a subs) = subscripts_slots subs

abbrev pub items_slots : List Item → ℕ
items_slots [] = 0
items_slots (i ∷ is) = item_slots i + items_slots is

-- a section is tested where its item stands
abbrev pub item_code : ℕ → ℕ → Item → List Instruction
item_code line b (Value t) = code_of line b t
item_code line b (Elements a subs) =
    subscripts_code line b subs ++ OwnLimits (own_evaluation line (SectionForm a (subs_of b subs))) ∷ Inside line a (subs_of b subs) ∷ []
item_code line b i = []

abbrev pub items_code : ℕ → ℕ → List Item → List Instruction
items_code line b [] = []
items_code line b (i ∷ is) = item_code line b i ++ items_code line (b + item_slots i) is

abbrev pub print_item : ℕ → Item → PrintItem
print_item b (Text bytes) = PrintBytes bytes
print_item b (Value t) = PrintNumber (flat_of b t)
print_item b (Elements a subs) = PrintSection a (subs_of b subs)

abbrev pub print_items : ℕ → List Item → List PrintItem
print_items b [] = []
print_items b (i ∷ is) = print_item b i ∷ print_items (b + item_slots i) is

-- ---- DO and IF

-- a loop over the index x, whose first value, last value, step and iteration count left stand in four slots from v on: its head, and
-- its body, which is given by the places where it begins and where EXIT and CYCLE go
abbrev pub loop_code : ℕ → ℕ → ℕ → ℕ → (ℕ → ℕ → ℕ → List Instruction) → List Instruction
loop_code line pc v x body =
    let leave : ℕ = pc + 3 in
    let again : ℕ = pc + 4 in
    let inside : ℕ = pc + 8 in
    Set line x (Slot v)
    ∷ Trips line v (v + 1) (v + 2) (v + 3) leave
    ∷ Jump inside
    ∷ Jump (inside + length (body inside leave again) + 1)
    ∷ Set line v (Operated op.Add (AndFlat (Slot v) (AndFlat (Slot (v + 2)) NoFlat)))
    ∷ Set line x (Slot v)
    ∷ JumpIfZero leave (v + 3)
    ∷ Set line (v + 3) (Operated op.Sub (AndFlat (Slot (v + 3)) (AndFlat (Int (pos 1)) NoFlat)))
    ∷ (body inside leave again ++ Jump again ∷ [])

-- the condition of an arm into a slot, the arm's body, and what stands after it; both are given by the places where they begin
abbrev pub arm_code : ℕ → ℕ → ℕ → Term → (ℕ → List Instruction) → (ℕ → List Instruction) → List Instruction
arm_code line pc b condition body rest =
    let test = code_of line b condition in
    let x : ℕ = b + slots_of condition in
    let inside : ℕ = pc + length test + 2 in
    let after : ℕ = inside + length (body inside) + 1 in
    test ++ Set line x (flat_of b condition) ∷ JumpIfZero after x ∷ (body inside ++ Jump (after + length (rest after)) ∷ rest after)

-- ---- array assignment and WHERE

-- under a mask: over which space, at which of its tuples, and what the copy of the mask lies beside
pub record Masking : Type 0 where
  pub over : List Sub
  pub when : When
  pub beside : Option FlatAnchor

-- over its left side's own space, or over that of a mask
abbrev pub assignment : ℕ → ℕ → ℕ → SectionSubscripts → Term → Option Masking → Assignment
assignment line b a subs t mask = record {
  line = line;
  array = a;
  left = subs_of b subs;
  right = form_of (b + subscripts_slots subs) t;
  over = space_of mask;
  mask = option_map (λ m. m.when) mask;
  beside = beside_of mask;
} where
  space_of : Option Masking → List Sub
  space_of None = subs_of b subs
  space_of (Some m) = m.over

  beside_of : Option Masking → Option FlatAnchor
  beside_of None = None
  beside_of (Some m) = m.beside

abbrev pub assignment_code : ℕ → ℕ → ℕ → SectionSubscripts → Term → Option Masking → List Instruction
assignment_code line b a subs t mask =
    let p = assignment line b a subs t mask in
    subscripts_code line b subs ++ (parts_code line (b + subscripts_slots subs) t ++ Limits p ∷ Par p ∷ Verdict ∷ [])

-- the assignments of a WHERE, over the space of its mask
abbrev pub masked_slots : List SectionAssignment → ℕ
masked_slots [] = 0
masked_slots (x ∷ xs) = max (subscripts_slots x.subscripts + parts_slots x.right) (masked_slots xs)

abbrev pub masked_code : ℕ → Masking → List SectionAssignment → List Instruction
masked_code b m [] = []
masked_code b m (x ∷ xs) = assignment_code x.line b x.array x.subscripts x.right (Some m) ++ masked_code b m xs

abbrev pub where_true : ℕ → Bool → When
where_true copy value = record { copy = copy; value = value }

-- what the mask's copy lies beside
abbrev pub where_beside : List SectionAssignment → Option FlatAnchor
where_beside assignments = option_map anchor_code (where_anchor assignments)

-- the values of the mask into a copy, and then each assignment where they are true, or, after ELSEWHERE, where they are false
abbrev pub where_code : ℕ → ℕ → ℕ → Term → List SectionAssignment → List SectionAssignment → List Instruction
where_code copy line b mask body others =
    let p : Evaluation = copied_evaluation line (form_of b mask) (where_beside (body ++ others)) in
    let b1 : ℕ = b + parts_slots mask in
    let masking : Bool → Masking = λ value. record { over = p.over; when = where_true copy value; beside = p.beside } in
    parts_code line b mask ++ OwnLimits p ∷ MakeCopy copy p ∷ ParCopy copy p ∷ Verdict ∷ (masked_code b1 (masking true) body ++ masked_code b1 (masking false) others)

-- ---- FORALL

-- its header, as the subscripts of a section of its space
abbrev pub triplets : List Control → SectionSubscripts
triplets [] = NoSubscript
triplets (c ∷ cs) = Triplet c.first c.last c.step (triplets cs)

abbrev pub one_to_one_code : List Sub → List ElementAssignment → List Instruction
one_to_one_code over [] = []
one_to_one_code over (x ∷ xs) = OneToOne x.line over (map index_flat (list_of x.subscripts)) ∷ one_to_one_code over xs

-- what the mask's copy lies beside
abbrev pub forall_beside : List ElementAssignment → Option FlatAnchor
forall_beside assignments = option_map anchor_code (forall_anchor assignments)

abbrev pub forall_mask_code : ℕ → ℕ → List Sub → Option FlatAnchor → Option Term → List Instruction
forall_mask_code copy line over beside None = []
forall_mask_code copy line over beside (Some t) =
    let p : Evaluation = record { line = line; form = index_form t; over = over; beside = beside } in
    MakeCopy copy p ∷ ParForallCopy copy p ∷ Verdict ∷ []

abbrev pub forall_assignment : List Sub → Option When → Option FlatAnchor → ElementAssignment → Assignment
forall_assignment over mask beside x = record {
  line = x.line;
  array = x.array;
  left = index_subs x.subscripts;
  right = index_form x.right;
  over = over;
  mask = mask;
  beside = beside;
}

abbrev pub forall_assignments_code : List Sub → Option When → Option FlatAnchor → List ElementAssignment → List Instruction
forall_assignments_code over mask beside [] = []
forall_assignments_code over mask beside (x ∷ xs) =
    ParForall (forall_assignment over mask beside x) ∷ Verdict ∷ forall_assignments_code over mask beside xs

-- the header, the limits, the values of the mask into a copy, and the assignments one after another; over an empty space none of these
-- does anything but the header
abbrev pub forall_code : ℕ → ℕ → ℕ → List Control → Option Term → List ElementAssignment → List Instruction
forall_code copy line b controls mask body =
    let over = subs_of b (triplets controls) in
    let beside = forall_beside body in
    subscripts_code line b (triplets controls)
    ++ ForallLimits line over (map index_flat (all_subscripts mask body))
    ∷ (one_to_one_code over body
    ++ (forall_mask_code copy line over beside mask ++ forall_assignments_code over (option_map (λ t. where_true copy true) mask) beside body))

-- ---- transformations of whole arrays

-- so many places modulo the first extent, in a slot
abbrev pub turn_operands : WholeArray → Term → Terms
turn_operands x by = More by (More (Number (pos (first_extent x))) NoTerm)

abbrev pub turn_slots : WholeArray → Transformation → ℕ
turn_slots x (CircularShift by) = slots_of (Apply op.Modulo (turn_operands x by))
turn_slots x Transposition = 0
turn_slots x PrefixSum = 0

abbrev pub turn_code : ℕ → ℕ → WholeArray → Transformation → List Instruction
turn_code line b x (CircularShift by) = code_of line b (Apply op.Modulo (turn_operands x by))
turn_code line b x Transposition = []
turn_code line b x PrefixSum = []

abbrev pub turn_in_slot : ℕ → WholeArray → Transformation → Term
turn_in_slot b x (CircularShift by) = Scalar (b + all_slots_of (turn_operands x by))
turn_in_slot b x Transposition = Number (pos 0)
turn_in_slot b x PrefixSum = Number (pos 0)

-- the assignment of elements, over the target's own subscripts, whose triplets stand in slots from b1 on
abbrev pub transform_assignment : ℕ → (b b1 : ℕ) → WholeArray → WholeArray → Transformation → Assignment
transform_assignment line b b1 x y how =
    forall_assignment (subs_of b1 (whole x.dims)) None None
    (record { line = line; array = x.array; subscripts = indices_from 0 x.dims; right = source_element x y how (turn_in_slot b x how) })

abbrev pub in_order : Transformation → List Sub → List Sub
in_order (CircularShift by) subs = subs
in_order Transposition subs = reverse subs
in_order PrefixSum subs = subs

-- all elements of the source, whose triplets stand in slots from b on, in its own space
abbrev pub whole_evaluation : ℕ → ℕ → WholeArray → Evaluation
whole_evaluation line b y = record { line = line; form = SectionForm y.array (subs_of b (whole y.dims)); over = subs_of b (whole y.dims); beside = None }

-- the elements of the target get those of the copy, over its own subscripts, whose triplets stand in slots from b on
abbrev pub copy_assignment : (copy line : ℕ) → ℕ → WholeArray → NestStatement
copy_assignment copy line b x = record {
  line = line;
  over = subs_of b (whole x.dims);
  whens = [];
  copies = copy ∷ [];
  names = [];
  left = ElementLeft x.array (index_subs (indices_from 0 x.dims));
  right = FlatForm (Axis (length x.dims));
  role = Assigns;
  beside = None;
}

-- a prefix sum: the source goes into a copy, in which each element is joined with those before it, and the copy into the target
abbrev pub prefix_code : (copy line : ℕ) → (b1 b2 : ℕ) → WholeArray → WholeArray → List Instruction
prefix_code copy line b1 b2 x y =
    subscripts_code line b2 (whole y.dims)
    ++ MakeCopy copy (whole_evaluation line b2 y) ∷ ParCopy copy (whole_evaluation line b2 y) ∷ ScanCopy copy Sum ∷ ParNest (copy_assignment copy line b1 x) ∷ []

-- what is done where the shapes agree, which has no fault
abbrev pub agreed_code : (copy line : ℕ) → (b b1 b2 : ℕ) → WholeArray → WholeArray → Transformation → List Instruction
agreed_code copy line b b1 b2 x y PrefixSum = prefix_code copy line b1 b2 x y
agreed_code copy line b b1 b2 x y how = ParForall (transform_assignment line b b1 x y how) ∷ []

-- an assignment to the whole source over the space of the target, which has another shape
abbrev pub misfit : ℕ → (b1 b2 : ℕ) → WholeArray → WholeArray → Transformation → Assignment
misfit line b1 b2 x y how = record {
  line = line;
  array = y.array;
  left = subs_of b2 (whole y.dims);
  right = FlatForm (Int (pos 0));
  over = in_order how (subs_of b1 (whole x.dims));
  mask = None;
  beside = None;
}

-- what comes after the triplets of the target: its assignment, or Shape
abbrev pub fitted_code : Bool → (copy line : ℕ) → (b b1 b2 : ℕ) → WholeArray → WholeArray → Transformation → List Instruction
fitted_code true copy line b b1 b2 x y how = agreed_code copy line b b1 b2 x y how
fitted_code false copy line b b1 b2 x y how = subscripts_code line b2 (whole y.dims) ++ Limits (misfit line b1 b2 x y how) ∷ []

abbrev pub transform_code : (copy line : ℕ) → ℕ → WholeArray → WholeArray → Transformation → List Instruction
transform_code copy line b x y how =
    let b1 : ℕ = b + turn_slots x how in
    let b2 : ℕ = b1 + subscripts_slots (whole x.dims) in
    turn_code line b x how ++ (subscripts_code line b1 (whole x.dims) ++ fitted_code (has_shape x y how) copy line b b1 b2 x y how)

-- ---- nests of INDEPENDENT loops

-- the bounds of the outermost loop, which are evaluated once, by their slots
abbrev pub with_bounds : ℕ → List Loop → List Loop
with_bounds v [] = []
with_bounds v (l ∷ ls) = record { index = l.index; control = record { first = Scalar v; last = Scalar (v + 1); step = Scalar (v + 2) } } ∷ ls

-- what is asked at the entry of a nest (HPF 2.0, 5.1), after the bounds are evaluated into the slots from v on
abbrev pub entry_code : ℕ → Mark → ℕ → List Instruction
entry_code line Unmarked v = []
entry_code line (Outermost nest body) v = TestStride line (v + 2) ∷ Check line (Outermost (record nest { loops = with_bounds v nest.loops }) body) ∷ []

-- A nest takes the place of its loops, whose bounds stand in the slots from v on. A nest without statements is its loops
abbrev pub marked_code : (n line : ℕ) → Mark → (v pc : ℕ) → (loops : List Instruction) → List Instruction
marked_code n line (Outermost nest (Then l s rest)) v pc loops = nest_code n line nest (Then l s rest) v pc
marked_code n line mark v pc loops = loops

-- the slots from v on that it takes, where its loops take so many
abbrev pub marked_slots : Mark → (loops : ℕ) → ℕ
marked_slots (Outermost nest (Then l s rest)) loops = nest_slots nest (Then l s rest)
marked_slots mark loops = loops

-- ---- all statements

abbrev mutual
  -- how many slots the code of a statement takes; statements one after the other take the same ones
  pub statement_slots : Statement → ℕ
  statement_slots (AssignScalar k t) = slots_of t
  statement_slots (AssignElement a ts t) = all_slots_of ts + slots_of t
  statement_slots (AssignSection a subs t) = subscripts_slots subs + parts_slots t
  statement_slots (Transform x y how) = turn_slots x how + (subscripts_slots (whole x.dims) + subscripts_slots (whole y.dims))
  statement_slots (If arms other) = max (arms_slots arms) (block_slots other)
  statement_slots (Do mark loop body) = control_slots loop.control + marked_slots mark (4 + block_slots body)
  statement_slots (Where mask body others) = parts_slots mask + max (masked_slots body) (masked_slots others)
  statement_slots (Forall controls mask body) = subscripts_slots (triplets controls)
  statement_slots (statements.Print items) = items_slots items
  statement_slots s = 0

  pub arms_slots : Arms → ℕ
  arms_slots NoArm = 0
  arms_slots (Arm line condition body arms) = max (slots_of condition + 1) (max (block_slots body) (arms_slots arms))

  pub block_slots : Block → ℕ
  block_slots Done = 0
  block_slots (Then line s rest) = max (statement_slots s) (block_slots rest)

-- how many rows after n declared names the code of a statement takes, where its loops take so many: those of a nest have its copies, its stored conditions
-- and its marks
abbrev pub marked_copies : (n : ℕ) → Mark → (loops : ℕ) → ℕ
marked_copies n (Outermost nest (Then l s rest)) loops = nest_rows n nest (Then l s rest)
marked_copies n mark loops = loops

abbrev mutual
  pub statement_copies : (n : ℕ) → Statement → ℕ
  statement_copies n (If arms other) = max (arms_copies n arms) (block_copies n other)
  statement_copies n (Do mark loop body) = marked_copies n mark (block_copies n body)
  statement_copies n s = 0

  pub arms_copies : (n : ℕ) → Arms → ℕ
  arms_copies n NoArm = 0
  arms_copies n (Arm line condition body arms) = max (block_copies n body) (arms_copies n arms)

  -- one is there for the mask of a WHERE or of a FORALL
  pub block_copies : (n : ℕ) → Block → ℕ
  block_copies n Done = 1
  block_copies n (Then line s rest) = max (statement_copies n s) (block_copies n rest)

-- `copy` is the row of the first of the copies, which stand after the declared names. `moves` says of a line which arrays its REDISTRIBUTE moves, and
-- to which mappings: a REDISTRIBUTE is known by its line, since a directive line holds one directive
module _ (copy : ℕ) (moves : ℕ → List NewMapping) where
  abbrev mutual
    -- the statement of a line at a place `pc`, with the places where EXIT and CYCLE go. A DO keeps its four slots from its body
    pub statement_code : ℕ → Statement → ℕ → ℕ → ℕ → ℕ → List Instruction
    statement_code line (AssignScalar k t) b pc leave again = code_of line b t ++ Set line k (flat_of b t) ∷ []
    statement_code line (AssignElement a ts t) b pc leave again =
        let b1 : ℕ = b + all_slots_of ts in
        codes_of line b ts ++ TestBounds line a (flats_of b ts) ∷ (code_of line b1 t ++ Store line a (flats_of b ts) (flat_of b1 t) ∷ [])
    statement_code line (AssignSection a subs t) b pc leave again = assignment_code line b a subs t None
    statement_code line (Transform x y how) b pc leave again = transform_code copy line b x y how
    statement_code line (If arms other) b pc leave again = arms_code arms (λ pc. block_code other b pc leave again) b pc leave again
    statement_code line (Do mark loop body) b pc leave again =
        let v : ℕ = b + control_slots loop.control in
        let c = control_code line b loop.control ++ entry_code line mark v in
        c ++ marked_code copy line mark v (pc + length c) (loop_code line (pc + length c) v loop.index (block_code body (v + 4)))
    statement_code line (Where mask body others) b pc leave again = where_code copy line b mask body others
    statement_code line (Forall controls mask body) b pc leave again = forall_code copy line b controls mask body
    statement_code line (statements.Print items) b pc leave again = items_code line b items ++ Print (print_items b items) ∷ []
    statement_code line Stop b pc leave again = Halt ∷ []
    statement_code line Exit b pc leave again = Jump leave ∷ []
    statement_code line Cycle b pc leave again = Jump again ∷ []
    statement_code line Continue b pc leave again = []
    statement_code line Redistribute b pc leave again = Remap line (moves line) ∷ []

    pub arms_code : Arms → (ℕ → List Instruction) → ℕ → ℕ → ℕ → ℕ → List Instruction
    arms_code NoArm other b pc leave again = other pc
    arms_code (Arm line condition body arms) other b pc leave again =
        arm_code line pc b condition (λ pc. block_code body b pc leave again) (λ pc. arms_code arms other b pc leave again)

    pub block_code : Block → ℕ → ℕ → ℕ → ℕ → List Instruction
    block_code Done b pc leave again = []
    block_code (Then line s rest) b pc leave again =
        let first = statement_code line s b pc leave again in
        first ++ block_code rest b (pc + length first) leave again

-- ---- programs

-- with n declared names. An EXIT or CYCLE outside of loops goes to the Halt at place 1
abbrev pub program_code : ℕ → (ℕ → List NewMapping) → Block → List Instruction
program_code n moves body = Jump 2 ∷ Halt ∷ (block_code n moves body n 2 1 1 ++ Jump 1 ∷ [])
