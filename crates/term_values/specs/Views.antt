-- Of a promise.
-- What array expressions and their values are, apart from where they lie in memory.
use Rattle.std.specs.Prelude.{List, [], ◌∷◌}
use Rattle.array_meaning.specs.Elementals.{Elemental, Same, Selected, Operation, Elementals, NoOperand, Operand, ArrayValue}
use Rattle.term_values.specs.declared.array_values.ArrayValue.{ArrayValue as HeldArrayValue}
use Rattle.term_values.specs.declared.array_values.Elemental.{Elemental as HeldElemental}
use Rattle.term_values.specs.declared.array_values.Elemental.TheBlock.{Same as Same', Selected as Selected', Operation', Row_of-Elemental, end_of-Elemental, more_of-Elemental}

abbrev mutual
  pub elemental : HeldElemental → Elemental
  elemental (Same' v) = Same v
  elemental (Selected' a ds) = Selected a ds.items
  elemental (Operation' o shape row) = Operation o (elementals row)

  pub elementals : {m : _} → Row_of-Elemental m → Elementals
  elementals end_of-Elemental = NoOperand
  elementals (more_of-Elemental x row) = Operand (elemental x) (elementals row)

-- a list of array expressions
abbrev pub elementals_of : List HeldElemental → Elementals
elementals_of [] = NoOperand
elementals_of (x ∷ xs) = Operand (elemental x) (elementals_of xs)

abbrev pub array_value_of : HeldArrayValue → ArrayValue
array_value_of v = record { extents = v.extents.items; elements = v.elements.items }
