-- By slots that agree on all that an instruction mentions, it is the same part.
use Rattle.std.proofs.Common.{◌≡◌, ℕ, ◌+◌, List, [], ◌∷◌, ◌++◌, ℤ, Bool, true, false, true≢false, Some, Ok, refl, ap, sym, option_map}
use Rattle.std.specs.Prelude.{◌==◌, ◌&&◌}
use Rattle.std.proofs.lemmas.Bool.Decides.{Decides-int_eq}
use Rattle.array_meaning.specs.State.{element_place}
use Rattle.machine_steps.specs.Space.{space_count}
use Rattle.op_tables.specs.Operators.{wrapped}
use Rattle.array_meaning.specs.declared.sections.Selection.TheVariants.{At, Along}
use Rattle.array_meaning.specs.Elementals.{operated, Same, Selected, Operation, Operand}
use Rattle.array_meaning.specs.Faults.{◌>>=◌, with_more}
use Rattle.array_meaning.specs.Sections.{extents, subscripts_at, positions, value_count}
use Rattle.machine_steps.specs.Layout.{Layout, in_bounds}
use Rattle.machine_steps.specs.Message.{computes_left, first_read, least_or_zero}
use Rattle.node_code.specs.Flat.{Flat, Int, Slot, Axis, Read, Operated, Flats, NoFlat, AndFlat}
use Rattle.code_meaning.specs.Flat.{slot, flat_value, flat_values, or_zero}
use Rattle.node_code.specs.Forms.{Sub, SubAt, SubAlong, ArrayForm, FlatForm, SectionForm, OperationForm, Forms, NoForm, AndForm}
use Rattle.code_meaning.specs.Forms.{sequence_in, selections_at, elemental_at, elementals_at}
use Rattle.node_code.specs.Instructions as code
use Rattle.code_meaning.specs.Instructions.{ArrayTable, meaning_of}
use Rattle.node_code.specs.Instructions.{Instruction}
use Rattle.node_code.specs.NestStatements.{NestLeft, ElementLeft, CopyLeft, NestStatement}
use Rattle.code_meaning.specs.NestStatements.{left_row, nest_place, row_spots, when_spots}
use Rattle.node_code.specs.Parallel.{Assignment, Evaluation}
use Rattle.code_meaning.specs.Parallel.{indices_in, mask_reads, reads_at, shape_of, spot_of}
use Rattle.part_steps.specs.Agreement.{agree_at, agree_on_flat, agree_on_flats, agree_on_subs, agree_on_form, agree_on_forms, agree_on_assignment, agree_on_evaluation, agree_on_left, agree_on_nest, agree_on}
use Rattle.part_steps.specs.InstructionParts.{instruction_part}

pub both : (a b : Bool) → (a && b) ≡ true → (a ≡ true) × (b ≡ true)
both true b is = (refl, is)
both false b is = absurd (true≢false (sym is))

module _ (old new : List ℤ) where
  pub slot_same : (k : ℕ) → agree_at old new k ≡ true → slot old k ≡ slot new k
  slot_same k is = (Decides-int_eq (slot old k) (slot new k)).0 is

  -- ---- expressions and sections, at any index tuple

  mutual
    pub flat_same : (axes : List ℤ) (f : Flat) → agree_on_flat old new f ≡ true → flat_value old axes [] f ≡ flat_value new axes [] f
    flat_same axes (Int v) is = refl
    flat_same axes (Slot k) is = ap Ok (slot_same k is)
    flat_same axes (Axis k) is = refl
    flat_same axes (Read k) is = refl
    flat_same axes (Operated o fs) is = ap (λ r. r >>= operated o) (flats_same axes fs is)

    flats_same : (axes : List ℤ) (fs : Flats) → agree_on_flats old new fs ≡ true → flat_values old axes [] fs ≡ flat_values new axes [] fs
    flats_same axes NoFlat is = refl
    flats_same axes (AndFlat f fs) is = λ i. with_more (flat_same axes f (both _ _ is).0 i) (flats_same axes fs (both _ _ is).1 i)

  sequence_same : (v : ℕ) → (agree_at old new v && (agree_at old new (v + 1) && agree_at old new (v + 2))) ≡ true → sequence_in old v ≡ sequence_in new v
  sequence_same v is =
      let first : slot old v ≡ slot new v = slot_same v (both _ _ is).0 in
      let last : slot old (v + 1) ≡ slot new (v + 1) = slot_same (v + 1) (both _ _ (both _ _ is).1).0 in
      let step : slot old (v + 2) ≡ slot new (v + 2) = slot_same (v + 2) (both _ _ (both _ _ is).1).1 in
      λ i. record { first = first i; step = step i; count = value_count (wrapped (first i)) (wrapped (last i)) (wrapped (step i)) }

  pub selections_same : (axes : List ℤ) (ds : List Sub) → agree_on_subs old new ds ≡ true → selections_at old axes ds ≡ selections_at new axes ds
  selections_same axes [] is = refl
  selections_same axes (SubAt f ∷ ds) is = λ i. At (or_zero (flat_same axes f (both _ _ is).0 i)) ∷ selections_same axes ds (both _ _ is).1 i
  selections_same axes (SubAlong v ∷ ds) is = λ i. Along (sequence_same v (both _ _ is).0 i) ∷ selections_same axes ds (both _ _ is).1 i

  mutual
    elemental_same : (axes : List ℤ) (f : ArrayForm) → agree_on_form old new f ≡ true → elemental_at old axes f ≡ elemental_at new axes f
    elemental_same axes (FlatForm f) is = λ i. Same (or_zero (flat_same axes f is i))
    elemental_same axes (SectionForm a ds) is = ap (Selected a) (selections_same axes ds is)
    elemental_same axes (OperationForm o fs) is = ap (Operation o) (elementals_same axes fs is)

    elementals_same : (axes : List ℤ) (fs : Forms) → agree_on_forms old new fs ≡ true → elementals_at old axes fs ≡ elementals_at new axes fs
    elementals_same axes NoForm is = refl
    elementals_same axes (AndForm f fs) is = λ i. Operand (elemental_same axes f (both _ _ is).0 i) (elementals_same axes fs (both _ _ is).1 i)

  -- the values of a FORALL's indices
  indices_same : (over : List Sub) → agree_on_subs old new over ≡ true → (t : ℕ) → indices_in over old t ≡ indices_in over new t
  indices_same over is t =
      let selected : selections_at old [] over ≡ selections_at new [] over = selections_same [] over is in
      λ i. subscripts_at (selected i) (positions (extents (selected i)) t)

  -- ---- parts

  module _ (nodes : ℕ) (layouts : List Layout) (table : ArrayTable) where
    assignment_same : (p : Assignment) → agree_on_assignment old new p ≡ true →
        instruction_part nodes layouts old (meaning_of table (code.Par p)) ≡ instruction_part nodes layouts new (meaning_of table (code.Par p))
    assignment_same p is =
        let over : selections_at old [] p.over ≡ selections_at new [] p.over = selections_same [] p.over (both _ _ is).0 in
        let left : selections_at old [] p.left ≡ selections_at new [] p.left = selections_same [] p.left (both _ _ (both _ _ is).1).0 in
        let right : elemental_at old [] p.right ≡ elemental_at new [] p.right = elemental_same [] p.right (both _ _ (both _ _ (both _ _ is).1).1).0 in
        λ i. Some (record {
          tuples = space_count (extents (over i));
          reads = λ t. mask_reads p.mask t ++ reads_at table.shapes (positions (extents (over i)) t) (right i);
          computes = λ node t. computes_left layouts node (in_bounds layouts (spot_of table.shapes p.array (subscripts_at (left i) (positions (extents (over i)) t))));
        })

    forall_same : (p : Assignment) → agree_on_assignment old new p ≡ true →
        instruction_part nodes layouts old (meaning_of table (code.ParForall p)) ≡ instruction_part nodes layouts new (meaning_of table (code.ParForall p))
    forall_same p is =
        let over : selections_at old [] p.over ≡ selections_at new [] p.over = selections_same [] p.over (both _ _ is).0 in
        let indices : (t : ℕ) → indices_in p.over old t ≡ indices_in p.over new t = indices_same p.over (both _ _ is).0 in
        let left : (axes : List ℤ) → selections_at old axes p.left ≡ selections_at new axes p.left = λ axes. selections_same axes p.left (both _ _ (both _ _ is).1).0 in
        let right : (axes : List ℤ) → elemental_at old axes p.right ≡ elemental_at new axes p.right = λ axes. elemental_same axes p.right (both _ _ (both _ _ (both _ _ is).1).1).0 in
        λ i. Some (record {
          tuples = space_count (extents (over i));
          reads = λ t. mask_reads p.mask t ++ reads_at table.shapes (indices t i) (right (indices t i) i);
          computes = λ node t. computes_left layouts node (in_bounds layouts (spot_of table.shapes p.array (subscripts_at (left (indices t i) i) (indices t i))));
        })

    -- what is assigned in an iteration of a nest
    left_same : (over : List Sub) (left : NestLeft) → agree_on_subs old new over ≡ true → agree_on_left old new left ≡ true → (t : ℕ)
        → nest_place table.shapes over left old t ≡ nest_place table.shapes over left new t
    left_same over (ElementLeft a ds) overs is t =
        let indices : indices_in over old t ≡ indices_in over new t = indices_same over overs t in
        let left : (axes : List ℤ) → selections_at old axes ds ≡ selections_at new axes ds = λ axes. selections_same axes ds is in
        λ i. element_place (shape_of table.shapes a) (subscripts_at (left (indices i) i) (indices i))
    left_same over (CopyLeft row) overs is t = refl

    nest_same : (p : NestStatement) → agree_on_nest old new p ≡ true →
        instruction_part nodes layouts old (meaning_of table (code.ParNest p)) ≡ instruction_part nodes layouts new (meaning_of table (code.ParNest p))
    nest_same p is =
        let over : selections_at old [] p.over ≡ selections_at new [] p.over = selections_same [] p.over (both _ _ is).0 in
        let indices : (t : ℕ) → indices_in p.over old t ≡ indices_in p.over new t = indices_same p.over (both _ _ is).0 in
        let left : (t : ℕ) → nest_place table.shapes p.over p.left old t ≡ nest_place table.shapes p.over p.left new t = left_same p.over p.left (both _ _ is).0 (both _ _ (both _ _ is).1).0 in
        let right : (axes : List ℤ) → elemental_at old axes p.right ≡ elemental_at new axes p.right = λ axes. elemental_same axes p.right (both _ _ (both _ _ (both _ _ is).1).1).0 in
        λ i. Some (record {
          tuples = space_count (extents (over i));
          reads = λ t. when_spots p.whens t ++ (row_spots p.copies t ++ reads_at table.shapes (indices t i) (right (indices t i) i));
          computes = λ node t. computes_left layouts node (in_bounds layouts (option_map (λ k. record { row = left_row table.shapes p.over p.left; at = k }) (left t i)));
        })

    evaluation_same : (copy : ℕ) (p : Evaluation) → agree_on_evaluation old new p ≡ true →
        instruction_part nodes layouts old (meaning_of table (code.ParCopy copy p)) ≡ instruction_part nodes layouts new (meaning_of table (code.ParCopy copy p))
    evaluation_same copy p is =
        let over : selections_at old [] p.over ≡ selections_at new [] p.over = selections_same [] p.over (both _ _ is).0 in
        let form : elemental_at old [] p.form ≡ elemental_at new [] p.form = elemental_same [] p.form (both _ _ (both _ _ is).1).0 in
        λ i. Some (record {
          tuples = space_count (extents (over i));
          reads = λ t. reads_at table.shapes (positions (extents (over i)) t) (form i);
          computes = λ node t. computes_left layouts node (in_bounds layouts (Some (record { row = copy; at = t })));
        })

    mask_same : (copy : ℕ) (p : Evaluation) → agree_on_evaluation old new p ≡ true →
        instruction_part nodes layouts old (meaning_of table (code.ParForallCopy copy p)) ≡ instruction_part nodes layouts new (meaning_of table (code.ParForallCopy copy p))
    mask_same copy p is =
        let over : selections_at old [] p.over ≡ selections_at new [] p.over = selections_same [] p.over (both _ _ is).0 in
        let indices : (t : ℕ) → indices_in p.over old t ≡ indices_in p.over new t = indices_same p.over (both _ _ is).0 in
        let form : (axes : List ℤ) → elemental_at old axes p.form ≡ elemental_at new axes p.form = λ axes. elemental_same axes p.form (both _ _ (both _ _ is).1).0 in
        λ i. Some (record {
          tuples = space_count (extents (over i));
          reads = λ t. reads_at table.shapes (indices t i) (form (indices t i) i);
          computes = λ node t. computes_left layouts node (in_bounds layouts (Some (record { row = copy; at = t })));
        })

    reduction_same : (p : Evaluation) (o : _) (x : ℕ) → agree_on_evaluation old new p ≡ true →
        instruction_part nodes layouts old (meaning_of table (code.Reduce p o x)) ≡ instruction_part nodes layouts new (meaning_of table (code.Reduce p o x))
    reduction_same p o x is =
        let over : selections_at old [] p.over ≡ selections_at new [] p.over = selections_same [] p.over (both _ _ is).0 in
        let form : elemental_at old [] p.form ≡ elemental_at new [] p.form = elemental_same [] p.form (both _ _ (both _ _ is).1).0 in
        λ i. Some (record {
          tuples = space_count (extents (over i));
          reads = λ t. reads_at table.shapes (positions (extents (over i)) t) (form i);
          computes = λ node t. least_or_zero nodes layouts (in_bounds layouts (first_read (reads_at table.shapes (positions (extents (over i)) t) (form i)))) == node;
        })

    pub parts_same : (i : Instruction) → agree_on old new i ≡ true → instruction_part nodes layouts old (meaning_of table i) ≡ instruction_part nodes layouts new (meaning_of table i)
    parts_same (code.Par p) is = assignment_same p is
    parts_same (code.ParForall p) is = forall_same p is
    parts_same (code.ParNest p) is = nest_same p is
    parts_same (code.ParCopy copy p) is = evaluation_same copy p is
    parts_same (code.ParForallCopy copy p) is = mask_same copy p is
    parts_same (code.Reduce p o x) is = reduction_same p o x is
    parts_same i is = absurd (true≢false (sym is))
