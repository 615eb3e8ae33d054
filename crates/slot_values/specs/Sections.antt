-- Of private clauses.
-- What one section subscript selects, by the slots.
use Rattle.std.specs.Prelude.{List, [], ℤ}
use Rattle.array_meaning.specs.declared.sections.Selection.{Selection}
use Rattle.array_meaning.specs.declared.sections.Selection.TheVariants.{At, Along}
use Rattle.code_meaning.specs.Flat.{flat_value, or_zero}
use Rattle.node_code.specs.Forms.{Sub, SubAt, SubAlong}
use Rattle.code_meaning.specs.Forms.{sequence_in}

abbrev pub selection_at : List ℤ → List ℤ → Sub → Selection
selection_at slots axes (SubAt f) = At (or_zero (flat_value slots axes [] f))
selection_at slots axes (SubAlong v) = Along (sequence_in slots v)
