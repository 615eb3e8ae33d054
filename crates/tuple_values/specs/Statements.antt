-- Of a promise.
-- What parallel statements are, once the slots are known.
use Rattle.std.specs.Prelude.{◌≡◌, ℕ, List, ◌++◌, length, map, take, drop, ℤ, Bool, true, false, Option, Some, None, option_map, Result}
use Rattle.std.specs.List.{list_all}
use Rattle.op_tables.specs.declared.reductions.Made.{Made}
use Rattle.op_tables.specs.Operators.{is_true}
use Rattle.op_tables.specs.Reductions.{made}
use Rattle.expression_rules.specs.declared.dims.Dim.{Dim}
use Rattle.storage.specs.Storage.{Spot}
use Rattle.array_meaning.specs.Faults.{Cause, Fault, ◌>>=◌, at_tuple}
use Rattle.array_meaning.specs.State.{element_place, if_in_bounds}
use Rattle.array_meaning.specs.declared.sections.Selection.{Selection}
use Rattle.array_meaning.specs.Sections.{subscripts_at, positions}
use Rattle.array_meaning.specs.Elementals.{Elemental}
use Rattle.machine_steps.specs.Instr.{Instr, Outcome, Par, Tuples}
use Rattle.machine_steps.specs.Space.{space_count}
use Rattle.node_code.specs.Forms.{Sub, ArrayForm}
use Rattle.code_meaning.specs.Forms.{selections_at, elemental_at}
use Rattle.code_meaning.specs.NestStatements.{are_asked, nest_elemental, row_spots, when_spots}
use Rattle.node_code.specs.Parallel.{When}
use Rattle.code_meaning.specs.Parallel.{at_line, as_asked, outcome_of, outcome_if, shape_of, reads_at, value_by_reads, made_outcome}
use Rattle.courses.specs.Entries.{axes_in, entries_in}
use Rattle.tuple_values.specs.ByElements.{value_by_elements}

-- what is assigned: nothing, an element of a copy by the tuple's number, or an element of a section; in a FORALL and in a nest the subscripts
-- are expressions of the indices
pub data Target : Type 0 where
  Nowhere : Target
  InCopy : ℕ → Target
  InSection : ℕ → List Selection → Target
  ByIndices : ℕ → List Sub → Target

-- the dimensions of the arrays and the slots; the line; the extents of the space, and the values of the indices of a FORALL or a nest; the
-- masks, and the rows of the copies that are read; whether a fault has its tuple, which in a nest it hasn't; what is assigned; what is
-- evaluated; and what is made of the values, where something is
pub record Statement : Type 0 where
  pub shapes : List (List Dim)
  pub slots : List ℤ
  pub line : ℕ
  pub extents : List ℕ
  pub indices : Option (List Selection)
  pub whens : List When
  pub copies : List ℕ
  pub located : Bool
  pub target : Target
  pub form : ArrayForm
  pub made : Option Made

-- ---- what is assigned

abbrev pub indexed_place : List (List Dim) → List ℤ → Option (List Selection) → List ℕ → ℕ → List Sub → ℕ → Option ℕ
indexed_place shapes slots indices ns a ds t =
    element_place (shape_of shapes a) (subscripts_at (selections_at slots (axes_in indices (entries_in indices ns t)) ds) (entries_in indices ns t))

-- its place in its row; where nothing is assigned no bounds are tested
abbrev pub place_in : List (List Dim) → List ℤ → Option (List Selection) → List ℕ → Target → ℕ → Option ℕ
place_in shapes slots indices ns Nowhere t = Some t
place_in shapes slots indices ns (InCopy row) t = Some t
place_in shapes slots indices ns (InSection a ds) t = element_place (shape_of shapes a) (subscripts_at ds (positions ns t))
place_in shapes slots indices ns (ByIndices a ds) t = indexed_place shapes slots indices ns a ds t

abbrev pub spot_in_row : ℕ → ℕ → Spot
spot_in_row row k = record { row = row; at = k }

abbrev pub left_in : Target → Option ℕ → Option Spot
left_in Nowhere p = None
left_in (InCopy row) p = option_map (spot_in_row row) p
left_in (InSection a ds) p = option_map (spot_in_row a) p
left_in (ByIndices a ds) p = option_map (spot_in_row a) p

-- ---- masks, copies and what is made of values

-- whether the tuple is asked for, by the elements
abbrev pub asks : (Spot → ℤ) → ℕ → When → Bool
asks get t w = as_asked w.value (is_true (get (spot_in_row w.copy t)))

abbrev pub asked_by : (Spot → ℤ) → List When → ℕ → Bool
asked_by get whens t = list_all (asks get t) whens

-- the values of copies
abbrev pub copied_by : (Spot → ℤ) → List ℕ → ℕ → List ℤ
copied_by get rows t = map (λ row. get (spot_in_row row t)) rows

abbrev pub made_by : Option Made → ℤ → ℤ
made_by None v = v
made_by (Some m) v = made m v

abbrev pub outcome_made_by : Option Made → Outcome Fault → Outcome Fault
outcome_made_by None r = r
outcome_made_by (Some m) r = made_outcome m r

-- ---- at a tuple

-- an evaluation at a tuple, which its fault has if faults have their tuples
abbrev pub located_at : Bool → List ℤ → Result ℤ Cause → Result ℤ Cause
located_at true x r = at_tuple x r
located_at false x r = r

module _ (w : Statement) where
  abbrev pub entries : ℕ → List ℤ
  entries t = entries_in w.indices w.extents t

  -- what is read at these entries, and what is evaluated: there expressions outside of subscripts see the values of the copies after the axes
  abbrev pub read_form : List ℤ → Elemental
  read_form x = elemental_at w.slots (axes_in w.indices x) w.form

  abbrev pub form_seeing : List ℤ → List ℤ → Elemental
  form_seeing x seen = nest_elemental w.slots (axes_in w.indices x) seen w.form

  abbrev pub form_at : List ℤ → List ℤ → Elemental
  form_at x copied = form_seeing x (axes_in w.indices x ++ copied)

  abbrev pub tuple_place : ℕ → Option ℕ
  tuple_place t = place_in w.shapes w.slots w.indices w.extents w.target t

  -- the value by the elements: the bounds of what is assigned come first
  abbrev pub value_at : (Spot → ℤ) → ℕ → List ℤ → Result ℤ Cause
  value_at get t x = value_by_elements w.shapes get x (form_at x (copied_by get w.copies t))

  abbrev pub bounded_value : (Spot → ℤ) → ℕ → Result ℤ Cause
  bounded_value get t = if_in_bounds (tuple_place t) >>= (λ k. value_at get t (entries t))

  -- what the tuple comes to by the elements, where the masks ask for it
  abbrev pub asked_outcome : (Spot → ℤ) → ℕ → Outcome Fault
  asked_outcome get t = outcome_made_by w.made (outcome_of (at_line w.line (located_at w.located (entries t) (bounded_value get t))))

  -- how many tuples there are
  abbrev pub tuple_count : ℕ
  tuple_count = space_count w.extents

  -- the elements that are read at a tuple: those of the masks and of the copies come first
  abbrev pub tuple_reads : ℕ → List (Option Spot)
  tuple_reads t = when_spots w.whens t ++ (row_spots w.copies t ++ reads_at w.shapes (entries t) (read_form (entries t)))

  -- the element that is assigned
  abbrev pub tuple_left : ℕ → Option Spot
  tuple_left t = left_in w.target (tuple_place t)

  -- its value, by the values of what is read after the masks
  abbrev pub tuple_value : ℕ → List ℤ → Result ℤ Cause
  tuple_value t values =
      value_by_reads w.shapes (entries t) values (length w.copies) (form_at (entries t) (take (length w.copies) values))

  -- what the tuple comes to, by the values of what is read
  abbrev pub tuple_outcome : ℕ → List ℤ → Outcome Fault
  tuple_outcome t values =
      outcome_made_by w.made (outcome_if (are_asked w.whens values) (at_line w.line (located_at w.located (entries t) (if_in_bounds (tuple_place t)
      >>= (λ k. tuple_value t (drop (length w.whens) values))))))

  -- these are what an instruction evaluates at the tuples, and its left side
  pub record IsStatement (slots : List ℤ) (tuples : Tuples Fault) (assigned : List ℤ → ℕ → Option Spot) : Type 0 where
    pub count : tuple_count ≡ tuples.count slots
    pub reads : (t : ℕ) → tuple_reads t ≡ tuples.reads slots t
    pub outcome : (t : ℕ) (values : List ℤ) → tuple_outcome t values ≡ tuples.outcome slots t values
    pub left : (t : ℕ) → tuple_left t ≡ assigned slots t

-- where nothing is assigned
abbrev pub no_left : List ℤ → ℕ → Option Spot
no_left slots t = None

-- the instruction is this parallel statement, by these slots
pub record IsParallel (i : Instr Fault) (slots : List ℤ) (w : Statement) : Type 0 where
  pub tuples : Tuples Fault
  pub left : List ℤ → ℕ → Option Spot
  pub is : i ≡ Par tuples left
  pub statement : IsStatement w slots tuples left
