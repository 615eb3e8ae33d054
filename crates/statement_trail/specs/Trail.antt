-- Of the claim.
-- The trail of a run: the parts of array statements and of nests, and the REDISTRIBUTEs, that are reached, in order, each with the scalars at that
-- moment and with what is evaluated once for it. It is told beside the meaning, which doesn't know of it.
use Rattle.std.specs.Prelude.{ℕ, zero, suc, ◌+◌, List, [], ◌∷◌, ◌++◌, map, ℤ, ◌+ℤ◌, Bool, false, ◌==◌, if◌then◌else◌, is_some, Option, Some, None, unwrap_or, Result, Ok, Err}
use Rattle.hpf_base.specs.ElementOrder.{product}
use Rattle.op_tables.specs.declared.op.Op.{Op}
use Rattle.op_tables.specs.Operators.{wrapped}
use Rattle.nest_syntax.specs.MainProgram.{MainProgram}
use Rattle.nest_syntax.specs.Statement as syntax
use Rattle.nest_syntax.specs.Entry.{Entry}
use Rattle.nest_syntax.specs.Entries.{entries}
use Rattle.nest_syntax.specs.Terms.{Term, Number, Element, Section, Apply, Reduce, Terms, NoTerm, More, SectionSubscripts, NoSubscript, Subscript, Triplet, Control}
use Rattle.nest_syntax.specs.Statements.{SectionAssignment, ElementAssignment, WholeArray, Transformation, CircularShift, Transposition, PrefixSum, Item, Text, Value, Elements, Nest, Block, Done, Then, Statement, AssignScalar, AssignElement, AssignSection, Transform, If, Do, Where, Forall, Print, Redistribute, Mark, Unmarked, Outermost, Arms, NoArm, Arm}
use Rattle.nest_syntax.specs.Faults.{Cause, ◌>>=◌}
use Rattle.nest_syntax.specs.State.{State, set_scalar, place_in}
use Rattle.nest_syntax.specs.Runs.{Completion, Normal, Cycled, Run, normal, one_step}
use Rattle.nest_syntax.specs.Sequence.{Sequence}
use Rattle.nest_syntax.specs.Selection.{Selection}
use Rattle.nest_syntax.specs.Selection.TheVariants.{Along}
use Rattle.nest_syntax.specs.Sections.{sequence_of, extents, space_size}
use Rattle.nest_syntax.specs.Elementals.{Elemental, Selected, sections, own_extents, own_size, array_value}
use Rattle.nest_syntax.specs.Expressions.{value, values, elemental, selections, index_values, all_index_values}
use Rattle.nest_syntax.specs.ArrayAssignments.{Mask, assign_where, assign_all_where, mask_of, negated_mask}
use Rattle.nest_syntax.specs.Forall.{index_extents, all_subscripts, check_limits, check_one_to_one, mask_over, assign_forall}
use Rattle.nest_syntax.specs.Transformations.{extents_of, has_shape, shift_of}
use Rattle.nest_syntax.specs.Iterations.{values_of, iteration_count, in_turns}
use Rattle.nest_syntax.specs.NestEntry.{entered}
use Rattle.nest_syntax.specs.Execution.{condition, item_bytes, run, run_block}
use Rattle.nest_syntax.specs.Resolution.{resolved_block, initial_state}
use Rattle.statement_trail.specs.Anchors.{AnchorText, forall_anchor, where_anchor}
use Rattle.statement_trail.specs.TransformedElements.{axes_of, indices_from, source_element, turn_of}
use Rattle.statement_trail.specs.NestParts.{EnteredNest, NestPart, ScalarPart, ElementPart, ConditionPart, has_statement, conditions_in, conditions_by, in_trip, indices_after, indices_by, entered_nest}
use Rattle.nest_syntax.specs.Asked.{Asked, guard_asked, tested_asked}

pub data Event : Type 0 where
  -- an assignment to a section: whether a mask is over it and what its copy lies beside, the extents of its space, its left side and its right side
  SectionAssigned : (masked : Bool) → (beside : Option AnchorText) → List ℕ → (array : ℕ) → List Selection → Elemental → Event
  -- the mask of a WHERE, with what its copy lies beside, or the source of a prefix sum, whose copy lies beside nothing, and the argument of a reduction,
  -- each with the extents of its space
  ValuesCopied : (beside : Option AnchorText) → List ℕ → Elemental → Event
  Reduced : Op → List ℕ → Elemental → Event
  -- the mask of a FORALL, and one of its assignments or what a circular shift or a transpose is as one, each with what the mask's copy lies beside
  -- and with the values of the indices
  ForallMask : (beside : Option AnchorText) → List Sequence → Term → Event
  ElementsAssigned : (masked : Bool) → (beside : Option AnchorText) → List Sequence → (array : ℕ) → Terms → Term → Event
  -- the elements of a target, with the values of the indices, get those of a copy, which are prefix sums
  CopyAssigned : List Sequence → (array : ℕ) → Terms → Event
  -- a part of a nest, at the iterations at which these stored conditions are as asked for
  OfNest : EnteredNest → List Asked → NestPart → Event
  Redistributed : Event

pub record TrailEntry : Type 0 where
  pub line : ℕ
  pub scalars : List ℤ
  pub event : Event

abbrev pub Trail : Type 0
Trail = List TrailEntry

abbrev pub reached : ℕ → State → Event → Trail
reached line s event = record { line = line; scalars = s.scalars; event = event } ∷ []

-- what comes after an evaluation that has no fault
abbrev pub after_value : {A : Type 0} → Result A Cause → (A → Trail) → Trail
after_value (Ok a) next = next a
after_value (Err c) next = []

-- what comes after a statement that completes normally
abbrev pub after_run : Run → (State → Trail) → Trail
after_run r next = if_normal r.completion where
  if_normal : Completion → Trail
  if_normal Normal = next r.state
  if_normal completion = []

-- ---- the reductions in what is evaluated

-- a reduction of this argument, or a WHERE with this mask, is reached where its shapes and limits are right
abbrev pub over_own_space : ℕ → State → Elemental → (List ℕ → Elemental → Event) → Trail
over_own_space line s x event = after_value (own_size x) (λ n. reached line s (event (own_extents x) x))

abbrev mutual
  -- in a scalar expression
  pub value_trail : ℕ → State → Term → Trail
  value_trail line s (Element a ts) = values_trail line s ts
  value_trail line s (Apply o ts) = values_trail line s ts
  value_trail line s (Reduce o t) = elemental_trail line s t ++ after_value (elemental [] s t) (λ x. over_own_space line s x (Reduced o))
  value_trail line s t = []

  pub values_trail : ℕ → State → Terms → Trail
  values_trail line s NoTerm = []
  values_trail line s (More t ts) = value_trail line s t ++ after_value (value [] s t) (λ v. values_trail line s ts)

  -- in an array expression whose parts are evaluated
  pub elemental_trail : ℕ → State → Term → Trail
  elemental_trail line s (Element a ts) = values_trail line s ts
  elemental_trail line s (Section a subs) = selections_trail line s subs
  elemental_trail line s (Apply o ts) = elementals_trail line s ts
  elemental_trail line s (Reduce o t) = elemental_trail line s t ++ after_value (elemental [] s t) (λ x. over_own_space line s x (Reduced o))
  elemental_trail line s t = []

  pub elementals_trail : ℕ → State → Terms → Trail
  elementals_trail line s NoTerm = []
  elementals_trail line s (More t ts) = elemental_trail line s t ++ after_value (elemental [] s t) (λ x. elementals_trail line s ts)

  pub selections_trail : ℕ → State → SectionSubscripts → Trail
  selections_trail line s NoSubscript = []
  selections_trail line s (Subscript t subs) = value_trail line s t ++ after_value (value [] s t) (λ v. selections_trail line s subs)
  selections_trail line s (Triplet first last step subs) =
      value_trail line s first ++ after_value (value [] s first) (λ a.
      value_trail line s last ++ after_value (value [] s last) (λ b.
      value_trail line s step ++ after_value (sequence_of (Ok a) (Ok b) (value [] s step)) (λ p. selections_trail line s subs)))

abbrev pub control_trail : ℕ → State → Control → Trail
control_trail line s c =
    value_trail line s c.first ++ after_value (value [] s c.first) (λ a.
    value_trail line s c.last ++ after_value (value [] s c.last) (λ b. value_trail line s c.step))

abbrev pub all_controls_trail : ℕ → State → List Control → Trail
all_controls_trail line s [] = []
all_controls_trail line s (c ∷ cs) = control_trail line s c ++ after_value (index_values s c) (λ p. all_controls_trail line s cs)

-- ---- array statements

-- an assignment over the space of its mask, or of its left side where it has none
abbrev pub section_trail : Option (List ℕ) → Option AnchorText → ℕ → ℕ → SectionSubscripts → Term → State → Trail
section_trail mask_extents beside line a subs right s =
    selections_trail line s subs ++ after_value (selections [] s subs) (λ ds.
    elemental_trail line s right ++ after_value (elemental [] s right) (λ x.
    let ns = unwrap_or mask_extents (extents ds) in
    after_value (space_size ns (ds ∷ sections x)) (λ n. reached line s (SectionAssigned (is_some mask_extents) beside ns a ds x))))

-- a circular shift or a transpose is one part, that of its assignment of elements; a prefix sum is two, since its source is copied first
abbrev pub shift_trail : ℕ → State → Transformation → Trail
shift_trail line s (CircularShift by) = value_trail line s by
shift_trail line s Transposition = []
shift_trail line s PrefixSum = []

abbrev pub transformed_trail : WholeArray → WholeArray → Transformation → ℤ → ℕ → State → Trail
transformed_trail x y PrefixSum k line s =
    reached line s (ValuesCopied None (extents_of y) (Selected y.array (map Along (axes_of y))))
    ++ reached line s (CopyAssigned (axes_of x) x.array (indices_from 0 x.dims))
transformed_trail x y how k line s =
    reached line s (ElementsAssigned false None (axes_of x) x.array (indices_from 0 x.dims) (source_element x y how (Number (turn_of x k))))

abbrev pub transform_trail : WholeArray → WholeArray → Transformation → ℕ → State → Trail
transform_trail x y how line s =
    shift_trail line s how ++ after_value (shift_of s how) (λ k.
    if has_shape x y how then transformed_trail x y how k line s else [])

abbrev pub where_trail : List ℕ → Mask → Option AnchorText → List SectionAssignment → State → Trail
where_trail ns mask beside [] s = []
where_trail ns mask beside (b ∷ bs) s =
    section_trail (Some ns) beside b.line b.array b.subscripts b.right s
    ++ after_run (one_step b.line s (assign_where ns mask b s)) (where_trail ns mask beside bs)

abbrev pub forall_trail : Bool → Option AnchorText → List Sequence → ℕ → Mask → List ElementAssignment → State → Trail
forall_trail masked beside axes n mask [] s = []
forall_trail masked beside axes n mask (b ∷ bs) s =
    reached b.line s (ElementsAssigned masked beside axes b.array b.subscripts b.right)
    ++ after_run (one_step b.line s (assign_forall axes n mask b s)) (forall_trail masked beside axes n mask bs)

abbrev pub forall_mask_trail : ℕ → State → Option AnchorText → List Sequence → Option Term → Trail
forall_mask_trail line s beside axes None = []
forall_mask_trail line s beside axes (Some t) = reached line s (ForallMask beside axes t)

-- the parts of a FORALL whose conditions hold
abbrev pub forall_parts_trail : ℕ → List Sequence → Option Term → List ElementAssignment → State → Trail
forall_parts_trail line axes mask body s =
    let n = product (index_extents axes) in
    let beside = forall_anchor body in
    forall_mask_trail line s beside axes mask ++ after_value (mask_over s axes n mask) (λ m. forall_trail (is_some mask) beside axes n m body s)

-- a condition of a FORALL, which one over an empty space doesn't have; its parts have no tuples, and are reached as others
abbrev pub if_not_empty : ℕ → State → Run → Run
if_not_empty n s r = if n == 0 then normal s else r

abbrev pub item_trail : ℕ → State → Item → Trail
item_trail line s (Text bytes) = []
item_trail line s (Value t) = value_trail line s t
item_trail line s (Elements a subs) = selections_trail line s subs

abbrev pub all_items_trail : ℕ → State → List Item → Trail
all_items_trail line s [] = []
all_items_trail line s (i ∷ is) = item_trail line s i ++ after_value (item_bytes s i) (λ bytes. all_items_trail line s is)

-- ---- nests of INDEPENDENT loops

module _ (nest : EnteredNest) where
  -- The statements of a block one after another, each at all iterations. `guard` is the branch in which the block stands, if it does, and its conditions are numbered
  -- from k on in the order of the text. The scalars are those at the nest's entry, but for the indices of inner loops, whose trips are made one after another.
  -- ELSE has no line of its own; its part sends nothing
  abbrev mutual
    pub block_parts : Option ℕ → ℕ → Block → State → Trail
    block_parts guard k Done s = []
    block_parts guard k (Then line statement rest) s =
        statement_parts guard k line statement s ++ block_parts guard (conditions_by statement + k) rest (indices_by statement s)

    pub statement_parts : Option ℕ → ℕ → ℕ → Statement → State → Trail
    statement_parts guard k line (AssignScalar x t) s = reached line s (OfNest nest (guard_asked guard) (ScalarPart x t))
    statement_parts guard k line (AssignElement a ts t) s = reached line s (OfNest nest (guard_asked guard) (ElementPart a ts t))
    statement_parts guard k line (If arms other) s =
        arms_parts guard [] k arms (λ earlier k. if has_statement other
        then reached 0 s (OfNest nest (tested_asked guard earlier) (ConditionPart k None)) ++ block_parts (Some k) (k + 1) other s else []) s
    statement_parts guard k line (Do mark loop body) s =
        in_turns (values_of s loop).count (λ x. block_parts guard k body (in_trip (indices_after body) loop.index (values_of s loop) s x))
    statement_parts guard k line statement s = []

    -- the branches of an IF, where the conditions of earlier ones have these numbers; `other` is that of ELSE
    pub arms_parts : Option ℕ → List ℕ → ℕ → Arms → (List ℕ → ℕ → Trail) → State → Trail
    arms_parts guard earlier k NoArm other s = other earlier k
    arms_parts guard earlier k (Arm line t body arms) other s =
        reached line s (OfNest nest (tested_asked guard earlier) (ConditionPart k (Some t)))
        ++ (block_parts (Some k) (k + 1) body s ++ arms_parts guard (k ∷ earlier) (k + 1 + conditions_in body) arms other s)

-- a nest without an iteration has no part
abbrev pub nest_trail : Nest → Block → State → Trail
nest_trail nest body s = if iteration_count nest s == 0 then [] else block_parts (entered_nest nest body s) None 0 body s

-- a loop that is the outermost of a nest has the nest's parts in place of its own
abbrev pub marked_trail : Mark → (State → Trail) → State → Trail
marked_trail Unmarked loops s = loops s
marked_trail (Outermost nest body) loops s = nest_trail nest body s

-- ---- all statements

-- what comes after an iteration, where the loop goes on
abbrev pub after_iteration : Run → (State → Trail) → Trail
after_iteration r next = if_next r.completion where
  if_next : Completion → Trail
  if_next Normal = next r.state
  if_next Cycled = next r.state
  if_next completion = []

-- the iterations as in the meaning
abbrev pub iterate_trail : ℕ → ℕ → ℤ → ℤ → (State → Run) → (State → Trail) → State → Trail
iterate_trail zero x index step body body_trail s = []
iterate_trail (suc n) x index step body body_trail s =
    body_trail (set_scalar s x index)
    ++ after_iteration (body (set_scalar s x index)) (iterate_trail n x (wrapped (index +ℤ step)) step body body_trail)

abbrev mutual
  -- the trail of the statement of a line
  pub trail : Statement → ℕ → State → Trail
  trail (AssignScalar k right) line s = value_trail line s right
  trail (AssignElement a ts right) line s = values_trail line s ts ++ after_value (values [] s ts >>= place_in s a) (λ k. value_trail line s right)
  trail (AssignSection a subs right) line s = section_trail None None line a subs right s
  trail (Transform x y how) line s = transform_trail x y how line s
  trail (If arms other) line s = arms_trail arms (block_trail other) s
  trail (Do mark loop body) line s =
      control_trail line s loop.control
      ++ after_value (index_values s loop.control) (λ p.
      after_value (entered mark s) (marked_trail mark (iterate_trail p.count loop.index p.first p.step (run_block body) (block_trail body))))
  trail (Where mask body others) line s =
      elemental_trail line s mask ++ after_value (elemental [] s mask) (λ x.
      let beside = where_anchor (body ++ others) in
      over_own_space line s x (ValuesCopied beside) ++ after_value (array_value s x) (λ m.
      where_trail m.extents (mask_of m.elements) beside body s
      ++ after_run (assign_all_where m.extents (mask_of m.elements) body s) (where_trail m.extents (negated_mask m.elements) beside others)))
  trail (Forall controls mask body) line s =
      all_controls_trail line s controls ++ after_value (all_index_values s controls) (λ axes.
      let n = product (index_extents axes) in
      after_run (if_not_empty n s (one_step line s (check_limits axes (all_subscripts mask body) s))) (λ s.
      after_run (if_not_empty n s (check_one_to_one (index_extents axes) body s)) (forall_parts_trail line axes mask body)))
  trail (Print items) line s = all_items_trail line s items
  trail Redistribute line s = reached line s Redistributed
  trail statement line s = []

  pub arms_trail : Arms → (State → Trail) → State → Trail
  arms_trail NoArm other s = other s
  arms_trail (Arm line t body arms) other s =
      value_trail line s t ++ after_value (condition s t) (λ is_met. (if is_met then block_trail body else arms_trail arms other) s)

  pub block_trail : Block → State → Trail
  block_trail Done s = []
  block_trail (Then line statement rest) s = trail statement line s ++ after_run (run statement line s) (block_trail rest)

-- the trail of statements, where these names are declared
abbrev pub trail_of : List Entry → syntax.Block → Trail
trail_of names body = block_trail (resolved_block names body) (initial_state names)

-- the trail of a program
abbrev pub serial_trail : MainProgram → Trail
serial_trail p = trail_of (entries p) p.body
