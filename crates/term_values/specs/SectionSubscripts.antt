-- Of private clauses.
-- The subscripts of a section's element, one after the other.
use Rattle.std.specs.Prelude.{List, [], ◌∷◌, ℤ}
use Rattle.op_tables.specs.Operators.{wrapped}
use Rattle.array_meaning.specs.declared.sections.Selection.{Selection}
use Rattle.array_meaning.specs.declared.sections.Selection.TheVariants.{At, Along}
use Rattle.array_meaning.specs.Sections.{nth}

-- the first one, and the positions that it leaves to the others
abbrev pub subscript_at : Selection → List ℤ → ℤ
subscript_at (At i) tuple = i
subscript_at (Along p) [] = p.first
subscript_at (Along p) (x ∷ tuple) = wrapped (nth p x)

abbrev pub positions_after : Selection → List ℤ → List ℤ
positions_after (At i) tuple = tuple
positions_after (Along p) [] = []
positions_after (Along p) (x ∷ tuple) = tuple
