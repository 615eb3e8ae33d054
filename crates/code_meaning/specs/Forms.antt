-- Of the claim.
-- What subscripts and array expressions over the slots are in the meaning, by the slots.
use Rattle.std.specs.Prelude.{ℕ, ◌+◌, List, [], ◌∷◌, ℤ}
use Rattle.op_tables.specs.Operators.{wrapped}
use Rattle.node_code.specs.Sequence.{Sequence}
use Rattle.node_code.specs.Selection.{Selection}
use Rattle.node_code.specs.Selection.TheVariants.{At, Along}
use Rattle.node_code.specs.Sections.{value_count}
use Rattle.node_code.specs.Elementals.{Elemental, Same, Selected, Operation, Elementals, NoOperand, Operand}
use Rattle.code_meaning.specs.Flat.{slot, flat_value, or_zero}
use Rattle.node_code.specs.Forms.{Sub, SubAt, SubAlong, ArrayForm, FlatForm, SectionForm, OperationForm, Forms, NoForm, AndForm}

abbrev pub sequence_in : List ℤ → ℕ → Sequence
sequence_in slots v = record {
  first = slot slots v;
  step = slot slots (v + 2);
  count = value_count (wrapped (slot slots v)) (wrapped (slot slots (v + 1))) (wrapped (slot slots (v + 2)));
}

-- at an index tuple of a FORALL
abbrev pub selections_at : List ℤ → List ℤ → List Sub → List Selection
selections_at slots indices [] = []
selections_at slots indices (SubAt f ∷ subs) = At (or_zero (flat_value slots indices [] f)) ∷ selections_at slots indices subs
selections_at slots indices (SubAlong v ∷ subs) = Along (sequence_in slots v) ∷ selections_at slots indices subs

abbrev mutual
  pub elemental_at : List ℤ → List ℤ → ArrayForm → Elemental
  elemental_at slots indices (FlatForm f) = Same (or_zero (flat_value slots indices [] f))
  elemental_at slots indices (SectionForm a subs) = Selected a (selections_at slots indices subs)
  elemental_at slots indices (OperationForm o fs) = Operation o (elementals_at slots indices fs)

  pub elementals_at : List ℤ → List ℤ → Forms → Elementals
  elementals_at slots indices NoForm = NoOperand
  elementals_at slots indices (AndForm f fs) = Operand (elemental_at slots indices f) (elementals_at slots indices fs)

-- where there are no indices
abbrev pub selections_in : List ℤ → List Sub → List Selection
selections_in slots subs = selections_at slots [] subs

abbrev pub elemental_in : List ℤ → ArrayForm → Elemental
elemental_in slots f = elemental_at slots [] f

abbrev pub elementals_in : List ℤ → Forms → Elementals
elementals_in slots fs = elementals_at slots [] fs
