-- The parallel statements that instructions are.
use Rattle.std.proofs.Common.{◌≡◌, ℕ, zero, suc, ◌+◌, List, [], ◌∷◌, ◌++◌, length, drop, ℤ, pos, Bool, true, false, ◌&&◌, Option, Some, None, Result, Ok, refl, sym, ap, ◌∙◌, subst, append-nil, arith, slice_index_or}
use Rattle.std.specs.Prelude.{option_to_list}
use Rattle.op_tables.specs.declared.reductions.Made.{Made}
use Rattle.op_tables.specs.Operators.{is_true}
use Rattle.expression_rules.specs.declared.dims.Dim.{Dim}
use Rattle.array_meaning.specs.Elementals.{Elemental, Same, Selected, Operation, Elementals, NoOperand, Operand, operated}
use Rattle.array_meaning.specs.Faults.{Cause, Fault, ◌>>=◌, at_tuple, with_more}
use Rattle.array_meaning.specs.State.{element_place, if_in_bounds}
use Rattle.array_meaning.specs.declared.sections.Selection.{Selection}
use Rattle.array_meaning.specs.Sections.{extents, subscripts_at}
use Rattle.machine_steps.specs.Instr.{Outcome}
use Rattle.node_code.specs.Forms.{ArrayForm}
use Rattle.code_meaning.specs.Forms.{selections_in, elemental_at}
use Rattle.code_meaning.specs.NestStatements.{are_asked, nest_elemental, when_spots}
use Rattle.node_code.specs.Parallel.{Assignment, Evaluation, When}
use Rattle.code_meaning.specs.Parallel.{as_asked, at_line, is_asked, outcome_if, outcome_of, mask_reads, shape_of, reads_at, value_by_reads, values_by_reads, assigned_spot, assignment_tuples, copy_spot, evaluation_tuples, forall_mask_tuples, forall_spot, forall_tuples, reduction_tuples}
use Rattle.courses.specs.Entries.{axes_in, entries_in}
use Rattle.tuple_values.specs.Statements.{Statement, Target, Nowhere, InCopy, InSection, ByIndices, IsStatement, no_left, outcome_made_by, place_in, tuple_outcome, tuple_value}
use Rattle.tuple_values.proofs.NestForms.{sees_axes}

-- ---- masks of which there are none or one

mask-spots : (mask : Option When) (t : ℕ) → when_spots (option_to_list mask) t ≡ mask_reads mask t
mask-spots None t = refl
mask-spots (Some w) t = refl

mask-asked : (mask : Option When) (values : List ℤ) → are_asked (option_to_list mask) values ≡ is_asked mask values
mask-asked None values = refl
mask-asked (Some w) values = by_value (as_asked w.value (is_true (slice_index_or values 0 (pos 0))))
  where
    by_value : (b : Bool) → (b && true) ≡ b
    by_value true = refl
    by_value false = refl

-- ---- values by the rest of what is read

none-there : (n : ℕ) → slice_index_or [] n (pos 0) ≡ pos 0
none-there zero = refl
none-there (suc n) = refl

value-after : (from : ℕ) (values : List ℤ) → slice_index_or (drop 1 values) from (pos 0) ≡ slice_index_or values (from + 1) (pos 0)
value-after from [] = none-there from ∙ sym (none-there (from + 1))
value-after from (v ∷ values) =
    let next : suc from ≡ from + 1 = omega arith in
    ap (λ n. slice_index_or (v ∷ values) n (pos 0)) next

module _ (shapes : List (List Dim)) (x : List ℤ) where
  mutual
    dropped : (from : ℕ) (values : List ℤ) (e : Elemental) → value_by_reads shapes x (drop 1 values) from e ≡ value_by_reads shapes x values (from + 1) e
    dropped from values (Same v) = refl
    dropped from values (Selected a ds) = ap (λ v. if_in_bounds (element_place (shape_of shapes a) (subscripts_at ds x)) >>= (λ k. Ok v)) (value-after from values)
    dropped from values (Operation o es) = ap (λ r. r >>= operated o) (all-dropped from values es)

    all-dropped : (from : ℕ) (values : List ℤ) (es : Elementals) → values_by_reads shapes x (drop 1 values) from es ≡ values_by_reads shapes x values (from + 1) es
    all-dropped from values NoOperand = refl
    all-dropped from values (Operand e es) =
        let n : ℕ = length (reads_at shapes x e) in
        let after : (from + n) + 1 ≡ (from + 1) + n = omega arith in
        λ i. with_more (dropped from values e i) ((all-dropped (from + n) values es ∙ ap (λ m. values_by_reads shapes x values m es) after) i)

  mask-dropped : (mask : Option When) (t : ℕ) (values : List ℤ) (e : Elemental)
      → value_by_reads shapes x (drop (length (option_to_list mask)) values) 0 e ≡ value_by_reads shapes x values (length (mask_reads mask t)) e
  mask-dropped None t values e = refl
  mask-dropped (Some w) t values e = dropped 0 values e

-- an expression that sees no copies
no-copies : (slots axes : List ℤ) (f : ArrayForm) → nest_elemental slots axes (axes ++ []) f ≡ elemental_at slots axes f
no-copies slots axes f = ap (λ seen. nest_elemental slots axes seen f) (append-nil axes) ∙ sees_axes slots axes f

-- ---- assignments and evaluations

module _ (shapes : List (List Dim)) (slots : List ℤ) where
  module _ (p : Assignment) where
    -- an assignment over a space, with what is assigned
    abbrev pub assigning : List ℕ → Option (List Selection) → Target → Statement
    assigning ns ix target = record {
      shapes = shapes;
      slots = slots;
      line = p.line;
      extents = ns;
      indices = ix;
      whens = option_to_list p.mask;
      copies = [];
      located = true;
      target = target;
      form = p.right;
      made = None;
    }

    module _ (ns : List ℕ) (ix : Option (List Selection)) (target : Target) (t : ℕ) where
      abbrev x : List ℤ
      x = entries_in ix ns t

      abbrev right : Elemental
      right = elemental_at slots (axes_in ix x) p.right

      abbrev outcome_by : Bool → Result ℤ Cause → Outcome Fault
      outcome_by asked r = outcome_if asked (at_line p.line (at_tuple x (if_in_bounds (place_in shapes slots ix ns target t) >>= (λ k. r))))

      reads-are : when_spots (option_to_list p.mask) t ++ reads_at shapes x right ≡ mask_reads p.mask t ++ reads_at shapes x right
      reads-are = ap (λ rs. rs ++ reads_at shapes x right) (mask-spots p.mask t)

      value-is : (values : List ℤ) → tuple_value (assigning ns ix target) t (drop (length (option_to_list p.mask)) values)
          ≡ value_by_reads shapes x values (length (mask_reads p.mask t)) right
      value-is values =
          ap (value_by_reads shapes x (drop (length (option_to_list p.mask)) values) 0) (no-copies slots (axes_in ix x) p.right)
          ∙ mask-dropped shapes x p.mask t values right

      outcome-is : (values : List ℤ) → tuple_outcome (assigning ns ix target) t values
          ≡ outcome_by (is_asked p.mask values) (value_by_reads shapes x values (length (mask_reads p.mask t)) right)
      outcome-is values = λ i. outcome_by (mask-asked p.mask values i) (value-is values i)

    assignment-is : IsStatement (assigning (extents (selections_in slots p.over)) None (InSection p.array (selections_in slots p.left))) slots
        (assignment_tuples shapes p) (assigned_spot shapes p)
    assignment-is = record {
      count = refl;
      reads = reads-are (extents (selections_in slots p.over)) None (InSection p.array (selections_in slots p.left));
      outcome = outcome-is (extents (selections_in slots p.over)) None (InSection p.array (selections_in slots p.left));
      left = λ t. refl;
    }

    forall-is : IsStatement (assigning (extents (selections_in slots p.over)) (Some (selections_in slots p.over)) (ByIndices p.array p.left)) slots
        (forall_tuples shapes p) (forall_spot shapes p)
    forall-is = record {
      count = refl;
      reads = reads-are (extents (selections_in slots p.over)) (Some (selections_in slots p.over)) (ByIndices p.array p.left);
      outcome = outcome-is (extents (selections_in slots p.over)) (Some (selections_in slots p.over)) (ByIndices p.array p.left);
      left = λ t. refl;
    }

    module _ (w : Statement) (ns : List ℕ) (ix : Option (List Selection)) (over : ns ≡ extents (selections_in slots p.over)) where
      pub assignment_is : (ds : List Selection) → w ≡ assigning ns ix (InSection p.array ds) → ix ≡ None → ds ≡ selections_in slots p.left
          → IsStatement w slots (assignment_tuples shapes p) (assigned_spot shapes p)
      assignment_is ds is indices left =
          subst (λ w. IsStatement w slots (assignment_tuples shapes p) (assigned_spot shapes p))
          (sym (is ∙ (λ i. assigning (over i) (indices i) (InSection p.array (left i))))) assignment-is

      pub forall_is : w ≡ assigning ns ix (ByIndices p.array p.left) → ix ≡ Some (selections_in slots p.over)
          → IsStatement w slots (forall_tuples shapes p) (forall_spot shapes p)
      forall_is is indices =
          subst (λ w. IsStatement w slots (forall_tuples shapes p) (forall_spot shapes p))
          (sym (is ∙ (λ i. assigning (over i) (indices i) (ByIndices p.array p.left)))) forall-is

  module _ (p : Evaluation) where
    -- an array expression over a space, with what its values are assigned to, and what is made of them
    abbrev pub evaluating : List ℕ → Option (List Selection) → Target → Option Made → Statement
    evaluating ns ix target made = record {
      shapes = shapes;
      slots = slots;
      line = p.line;
      extents = ns;
      indices = ix;
      whens = [];
      copies = [];
      located = true;
      target = target;
      form = p.form;
      made = made;
    }

    evaluated : (ns : List ℕ) (ix : Option (List Selection)) (made : Option Made) (t : ℕ) (values : List ℤ) → (let x : List ℤ = entries_in ix ns t in
        outcome_made_by made (outcome_of (at_line p.line (at_tuple x (value_by_reads shapes x values 0 (nest_elemental slots (axes_in ix x) (axes_in ix x ++ []) p.form)))))
        ≡ outcome_made_by made (outcome_of (at_line p.line (at_tuple x (value_by_reads shapes x values 0 (elemental_at slots (axes_in ix x) p.form))))))
    evaluated ns ix made t values =
        let x : List ℤ = entries_in ix ns t in
        ap (λ e. outcome_made_by made (outcome_of (at_line p.line (at_tuple x (value_by_reads shapes x values 0 e))))) (no-copies slots (axes_in ix x) p.form)

    module _ (copy : ℕ) where
      evaluation-is : IsStatement (evaluating (extents (selections_in slots p.over)) None (InCopy copy) None) slots (evaluation_tuples shapes p) (copy_spot copy)
      evaluation-is = record { count = refl; reads = λ t. refl; outcome = evaluated (extents (selections_in slots p.over)) None None; left = λ t. refl }

      mask-is : IsStatement (evaluating (extents (selections_in slots p.over)) (Some (selections_in slots p.over)) (InCopy copy) None) slots
          (forall_mask_tuples shapes p) (copy_spot copy)
      mask-is = record {
        count = refl;
        reads = λ t. refl;
        outcome = evaluated (extents (selections_in slots p.over)) (Some (selections_in slots p.over)) None;
        left = λ t. refl;
      }

    reduction-is : (m : Made) → IsStatement (evaluating (extents (selections_in slots p.over)) None Nowhere (Some m)) slots (reduction_tuples shapes p m) no_left
    reduction-is m = record { count = refl; reads = λ t. refl; outcome = evaluated (extents (selections_in slots p.over)) None (Some m); left = λ t. refl }

    module _ (w : Statement) (ns : List ℕ) (ix : Option (List Selection)) (over : ns ≡ extents (selections_in slots p.over)) where
      pub evaluation_is : (copy : ℕ) → w ≡ evaluating ns ix (InCopy copy) None → ix ≡ None → IsStatement w slots (evaluation_tuples shapes p) (copy_spot copy)
      evaluation_is copy is indices =
          subst (λ w. IsStatement w slots (evaluation_tuples shapes p) (copy_spot copy))
          (sym (is ∙ (λ i. evaluating (over i) (indices i) (InCopy copy) None))) (evaluation-is copy)

      pub mask_is : (copy : ℕ) → w ≡ evaluating ns ix (InCopy copy) None → ix ≡ Some (selections_in slots p.over)
          → IsStatement w slots (forall_mask_tuples shapes p) (copy_spot copy)
      mask_is copy is indices =
          subst (λ w. IsStatement w slots (forall_mask_tuples shapes p) (copy_spot copy))
          (sym (is ∙ (λ i. evaluating (over i) (indices i) (InCopy copy) None))) (mask-is copy)

      pub reduction_is : (m : Made) → w ≡ evaluating ns ix Nowhere (Some m) → ix ≡ None → IsStatement w slots (reduction_tuples shapes p m) no_left
      reduction_is m is indices =
          subst (λ w. IsStatement w slots (reduction_tuples shapes p m) no_left)
          (sym (is ∙ (λ i. evaluating (over i) (indices i) Nowhere (Some m)))) (reduction-is m)
      -- ---- statements of nests
