-- Of the claim.
-- Parallel statements of node code: what is done at each tuple of a space, by the slots and the values of the elements that are read.
use Rattle.std.specs.Prelude.{ℕ, ◌+◌, List, [], ◌∷◌, ◌++◌, length, slice_index_or, ℤ, pos, Bool, true, false, not, Option, Some, None, option_map, Result, Ok, Err}
use Rattle.op_tables.specs.declared.join.Join.{Join}
use Rattle.op_tables.specs.declared.reductions.Made.{Made}
use Rattle.op_tables.specs.Joins.{join, unit}
use Rattle.op_tables.specs.Operators.{is_true}
use Rattle.op_tables.specs.Reductions.{made}
use Rattle.node_code.specs.Dim.{Dim}
use Rattle.storage.specs.Storage.{Spot}
use Rattle.node_code.specs.Faults.{Cause, Fault, ◌>>=◌, with_more, at_tuple}
use Rattle.node_code.specs.State.{element_place, if_in_bounds}
use Rattle.node_code.specs.Selection.{Selection}
use Rattle.node_code.specs.Sections.{extents, subscripts_at, positions, space_size}
use Rattle.node_code.specs.Elementals.{Elemental, Same, Selected, Operation, Elementals, NoOperand, Operand, sections, operated}
use Rattle.aligned_copies.specs.Instr.{Outcome, Nothing, Value, Breaks, Tuples, Fold}
use Rattle.aligned_copies.specs.Space.{space_count}
use Rattle.node_code.specs.Forms.{Sub}
use Rattle.code_meaning.specs.Forms.{selections_at, selections_in, elemental_at, elemental_in}
use Rattle.node_code.specs.Parallel.{When, Assignment, Evaluation}

-- the fault of a cause in a statement of a line
abbrev pub fault_at : ℕ → Cause → Fault
fault_at line c = record { line = line; kind = c.kind; at = c.at }

abbrev pub at_line : {A : Type 0} → ℕ → Result A Cause → Result A Fault
at_line line (Ok a) = Ok a
at_line line (Err c) = Err (fault_at line c)

abbrev pub outcome_of : Result ℤ Fault → Outcome Fault
outcome_of (Ok v) = Value v
outcome_of (Err f) = Breaks f

abbrev pub outcome_if : Bool → Result ℤ Fault → Outcome Fault
outcome_if true r = outcome_of r
outcome_if false r = Nothing

-- ---- masks

abbrev pub as_asked : Bool → Bool → Bool
as_asked true b = b
as_asked false b = not b

-- the copy is read first, at the tuple's number
abbrev pub mask_reads : Option When → ℕ → List (Option Spot)
mask_reads None t = []
mask_reads (Some w) t = Some (record { row = w.copy; at = t }) ∷ []

abbrev pub is_asked : Option When → List ℤ → Bool
is_asked None values = true
is_asked (Some w) values = as_asked w.value (is_true (slice_index_or values 0 (pos 0)))

-- ---- elemental expressions, by the values of what they read

module _ (shapes : List (List Dim)) where
  -- the dimensions of an array
  abbrev pub shape_of : ℕ → List Dim
  shape_of a = slice_index_or shapes a []

  abbrev pub spot_of : ℕ → List ℤ → Option Spot
  spot_of a subscripts = option_map (λ k. record { row = a; at = k }) (element_place (shape_of a) subscripts)

  abbrev mutual
    -- the elements that are read at a tuple, in the order of the text
    pub reads_at : List ℤ → Elemental → List (Option Spot)
    reads_at x (Same v) = []
    reads_at x (Selected a ds) = spot_of a (subscripts_at ds x) ∷ []
    reads_at x (Operation o xs) = all_reads_at x xs

    pub all_reads_at : List ℤ → Elementals → List (Option Spot)
    all_reads_at x NoOperand = []
    all_reads_at x (Operand y ys) = reads_at x y ++ all_reads_at x ys

  abbrev mutual
    -- the value by the values of these, the first of which has a number; bounds are tested where a read stands
    pub value_by_reads : List ℤ → List ℤ → ℕ → Elemental → Result ℤ Cause
    value_by_reads x values from (Same v) = Ok v
    value_by_reads x values from (Selected a ds) =
        if_in_bounds (element_place (shape_of a) (subscripts_at ds x)) >>= (λ k. Ok (slice_index_or values from (pos 0)))
    value_by_reads x values from (Operation o xs) = values_by_reads x values from xs >>= operated o

    pub values_by_reads : List ℤ → List ℤ → ℕ → Elementals → Result (List ℤ) Cause
    values_by_reads x values from NoOperand = Ok []
    values_by_reads x values from (Operand y ys) =
        with_more (value_by_reads x values from y) (values_by_reads x values (from + length (reads_at x y)) ys)

-- ---- assignments to sections

-- what is stored at a tuple: the left side's bounds come before the right side
abbrev pub assigned_value : List (List Dim) → ℕ → List Selection → Elemental → List ℤ → List ℤ → ℕ → Result ℤ Cause
assigned_value shapes a ds y x values from =
    at_tuple x (if_in_bounds (element_place (shape_of shapes a) (subscripts_at ds x)) >>= (λ k. value_by_reads shapes x values from y))

abbrev pub assignment_tuples : List (List Dim) → Assignment → Tuples Fault
assignment_tuples shapes p = record {
  count = λ slots. space_count (extents (selections_in slots p.over));
  reads = λ slots t.
      mask_reads p.mask t ++ reads_at shapes (positions (extents (selections_in slots p.over)) t) (elemental_in slots p.right);
  outcome = λ slots t values.
      outcome_if (is_asked p.mask values) (at_line p.line (assigned_value shapes p.array (selections_in slots p.left) (elemental_in slots p.right)
      (positions (extents (selections_in slots p.over)) t) values (length (mask_reads p.mask t))));
}

-- the element that is assigned
abbrev pub assigned_spot : List (List Dim) → Assignment → List ℤ → ℕ → Option Spot
assigned_spot shapes p slots t = spot_of shapes p.array (subscripts_at (selections_in slots p.left) (positions (extents (selections_in slots p.over)) t))

-- how many tuples its space has, if all its sections have that space
abbrev pub assignment_size : Assignment → List ℤ → Result ℕ Cause
assignment_size p slots =
    space_size (extents (selections_in slots p.over)) (selections_in slots p.left ∷ sections (elemental_in slots p.right))

-- ---- array expressions by themselves: masks, operands of reductions, items of PRINT

abbrev pub evaluation_extents : Evaluation → List ℤ → List ℕ
evaluation_extents p slots = extents (selections_in slots p.over)

abbrev pub evaluation_size : Evaluation → List ℤ → Result ℕ Cause
evaluation_size p slots = space_size (evaluation_extents p slots) (sections (elemental_in slots p.form))

abbrev pub evaluation_tuples : List (List Dim) → Evaluation → Tuples Fault
evaluation_tuples shapes p = record {
  count = λ slots. space_count (evaluation_extents p slots);
  reads = λ slots t. reads_at shapes (positions (evaluation_extents p slots) t) (elemental_in slots p.form);
  outcome = λ slots t values.
      outcome_of (at_line p.line (at_tuple (positions (evaluation_extents p slots) t)
      (value_by_reads shapes (positions (evaluation_extents p slots) t) values 0 (elemental_in slots p.form))));
}

-- ---- reductions: what is made of a value is made at its tuple, so that values are joined in any order and grouping

abbrev pub made_outcome : Made → Outcome Fault → Outcome Fault
made_outcome m Nothing = Nothing
made_outcome m (Value v) = Value (made m v)
made_outcome m (Breaks f) = Breaks f

abbrev pub reduction_tuples : List (List Dim) → Evaluation → Made → Tuples Fault
reduction_tuples shapes p m = record {
  count = (evaluation_tuples shapes p).count;
  reads = (evaluation_tuples shapes p).reads;
  outcome = λ slots t values. made_outcome m ((evaluation_tuples shapes p).outcome slots t values);
}

abbrev pub fold_of : Join → Fold
fold_of j = record { join = join j; unit = unit j }

-- ---- copies

-- its value at a tuple is stored in the copy at the tuple's number
abbrev pub copy_spot : ℕ → List ℤ → ℕ → Option Spot
copy_spot copy slots t = Some (record { row = copy; at = t })

-- ---- FORALL: the space is that of its indices, and forms are evaluated at an index tuple

-- the values of the indices at a tuple
abbrev pub indices_in : List Sub → List ℤ → ℕ → List ℤ
indices_in over slots t = subscripts_at (selections_in slots over) (positions (extents (selections_in slots over)) t)

abbrev pub forall_tuples : List (List Dim) → Assignment → Tuples Fault
forall_tuples shapes p = record {
  count = λ slots. space_count (extents (selections_in slots p.over));
  reads = λ slots t.
      mask_reads p.mask t ++ reads_at shapes (indices_in p.over slots t) (elemental_at slots (indices_in p.over slots t) p.right);
  outcome = λ slots t values.
      outcome_if (is_asked p.mask values) (at_line p.line (assigned_value shapes p.array (selections_at slots (indices_in p.over slots t) p.left)
      (elemental_at slots (indices_in p.over slots t) p.right) (indices_in p.over slots t) values (length (mask_reads p.mask t))));
}

abbrev pub forall_spot : List (List Dim) → Assignment → List ℤ → ℕ → Option Spot
forall_spot shapes p slots t =
    spot_of shapes p.array (subscripts_at (selections_at slots (indices_in p.over slots t) p.left) (indices_in p.over slots t))

-- the mask of a FORALL
abbrev pub forall_mask_tuples : List (List Dim) → Evaluation → Tuples Fault
forall_mask_tuples shapes p = record {
  count = λ slots. space_count (evaluation_extents p slots);
  reads = λ slots t. reads_at shapes (indices_in p.over slots t) (elemental_at slots (indices_in p.over slots t) p.form);
  outcome = λ slots t values.
      outcome_of (at_line p.line (at_tuple (indices_in p.over slots t)
      (value_by_reads shapes (indices_in p.over slots t) values 0 (elemental_at slots (indices_in p.over slots t) p.form))));
}
