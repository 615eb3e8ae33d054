-- Of a promise.
-- What a tuple of a space has for entries.
use Rattle.std.specs.Prelude.{ℕ, List, [], ℤ, Option, Some, None}
use Rattle.array_meaning.specs.declared.sections.Selection.{Selection}
use Rattle.array_meaning.specs.Sections.{subscripts_at, positions}

-- those of the tuple with a number: positions in the space, or the values of the indices
abbrev pub entries_in : Option (List Selection) → List ℕ → ℕ → List ℤ
entries_in None ns t = positions ns t
entries_in (Some ds) ns t = subscripts_at ds (positions ns t)

-- those that are the axes of expressions, which where there are indices are expressions of these
abbrev pub axes_in : Option (List Selection) → List ℤ → List ℤ
axes_in None x = []
axes_in (Some ds) x = x
