-- Of the claim.
-- What a parallel statement of a nest of INDEPENDENT loops (HPF 2.0, 5.1) does at an iteration, by the values of the elements and copies that it reads.
use Rattle.std.specs.Prelude.{ℕ, List, [], ◌∷◌, ◌++◌, length, take, drop, slice_index_or, ℤ, pos, Bool, true, ◌&&◌, Option, Some, option_map, Result}
use Rattle.op_tables.specs.declared.reductions.Made.{Made}
use Rattle.op_tables.specs.declared.reductions.Made.TheVariants as made
use Rattle.op_tables.specs.Operators.{is_true}
use Rattle.node_code.specs.Dim.{Dim}
use Rattle.storage.specs.Storage.{Spot}
use Rattle.node_code.specs.Faults.{Cause, Fault, ◌>>=◌}
use Rattle.node_code.specs.State.{element_place, if_in_bounds}
use Rattle.node_code.specs.Sections.{extents, subscripts_at}
use Rattle.node_code.specs.Elementals.{Elemental, Same, Selected, Operation, Elementals, NoOperand, Operand}
use Rattle.aligned_copies.specs.Instr.{Tuples}
use Rattle.aligned_copies.specs.Space.{space_count}
use Rattle.node_code.specs.declared.nest.NestRole.{NestRole}
use Rattle.node_code.specs.declared.nest.NestRole.TheVariants.{Tests}
use Rattle.code_meaning.specs.Flat.{flat_value, or_zero}
use Rattle.node_code.specs.Forms.{Sub, ArrayForm, FlatForm, SectionForm, OperationForm, Forms, NoForm, AndForm}
use Rattle.code_meaning.specs.Forms.{selections_in, selections_at, elemental_at}
use Rattle.node_code.specs.Parallel.{When}
use Rattle.code_meaning.specs.Parallel.{as_asked, at_line, outcome_if, made_outcome, shape_of, reads_at, value_by_reads, indices_in}
use Rattle.node_code.specs.NestStatements.{NestLeft, ElementLeft, CopyLeft, NestStatement}

-- a condition is stored as its truth
abbrev pub role_made : NestRole → Made
role_made Tests = made.Truth
role_made role = made.Value

-- ---- stored conditions

-- they are read first, each at the iteration's number
abbrev pub row_spots : List ℕ → ℕ → List (Option Spot)
row_spots [] t = []
row_spots (r ∷ rs) t = Some (record { row = r; at = t }) ∷ row_spots rs t

abbrev pub when_spots : List When → ℕ → List (Option Spot)
when_spots [] t = []
when_spots (w ∷ ws) t = Some (record { row = w.copy; at = t }) ∷ when_spots ws t

-- whether all are as asked, by the first of the values
abbrev pub are_asked : List When → List ℤ → Bool
are_asked [] values = true
are_asked (w ∷ ws) values = as_asked w.value (is_true (slice_index_or values 0 (pos 0))) && are_asked ws (drop 1 values)

-- ---- values in an iteration

-- What is evaluated in an iteration. An axis in a subscript is an index of the nest; outside of subscripts it is one of these values, the indices
-- and then the copies. So what is read depends on indices alone
module _ (slots indices values : List ℤ) where
  abbrev mutual
    pub nest_elemental : ArrayForm → Elemental
    nest_elemental (FlatForm f) = Same (or_zero (flat_value slots values [] f))
    nest_elemental (SectionForm a subs) = Selected a (selections_at slots indices subs)
    nest_elemental (OperationForm o fs) = Operation o (nest_elementals fs)

    pub nest_elementals : Forms → Elementals
    nest_elementals NoForm = NoOperand
    nest_elementals (AndForm f fs) = Operand (nest_elemental f) (nest_elementals fs)

module _ (shapes : List (List Dim)) (over : List Sub) where
  -- the place in its row of what is assigned, if there is one
  abbrev pub nest_place : NestLeft → List ℤ → ℕ → Option ℕ
  nest_place (ElementLeft a subs) slots t =
      element_place (shape_of shapes a) (subscripts_at (selections_at slots (indices_in over slots t) subs) (indices_in over slots t))
  nest_place (CopyLeft r) slots t = Some t

  abbrev pub left_row : NestLeft → ℕ
  left_row (ElementLeft a subs) = a
  left_row (CopyLeft r) = r

  -- copies are read before elements
  abbrev pub form_reads : List ℕ → ArrayForm → List ℤ → ℕ → List (Option Spot)
  form_reads copies f slots t = row_spots copies t ++ reads_at shapes (indices_in over slots t) (elemental_at slots (indices_in over slots t) f)

  -- its value, by the values of what is read
  abbrev pub form_value : List ℕ → ArrayForm → List ℤ → ℕ → List ℤ → Result ℤ Cause
  form_value copies f slots t values =
      let x = indices_in over slots t in
      value_by_reads shapes x values (length copies) (nest_elemental slots x (x ++ take (length copies) values) f)

-- how many iterations the nest has
abbrev pub iterations_at : List Sub → List ℤ → ℕ
iterations_at over slots = space_count (extents (selections_in slots over))

-- the bounds of what is assigned come before the value. A fault has no tuple
abbrev pub nest_tuples : List (List Dim) → NestStatement → Tuples Fault
nest_tuples shapes p = record {
  count = iterations_at p.over;
  reads = λ slots t. when_spots p.whens t ++ form_reads shapes p.over p.copies p.right slots t;
  outcome = λ slots t values.
      made_outcome (role_made p.role) (outcome_if (are_asked p.whens values) (at_line p.line (if_in_bounds (nest_place shapes p.over p.left slots t)
      >>= (λ k. form_value shapes p.over p.copies p.right slots t (drop (length p.whens) values)))));
}

abbrev pub nest_spot : List (List Dim) → NestStatement → List ℤ → ℕ → Option Spot
nest_spot shapes p slots t = option_map (λ k. record { row = left_row shapes p.over p.left; at = k }) (nest_place shapes p.over p.left slots t)

-- ---- copies

-- the extents of the copies of a nest: they have a value for each iteration
abbrev pub copies_extents : List Sub → List ℤ → List ℕ
copies_extents over slots = extents (selections_in slots over)
