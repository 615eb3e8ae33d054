-- Of the claim.
-- The expressions inside bounds, indices, items of PRINT and formats.
use Rattle.std.specs.Prelude.{List, [], ◌∷◌, ◌++◌, Option, Some, None}
use Rattle.syntax_tree.specs.Expression.{Expression}
use Rattle.syntax_tree.specs.Directive.{Bound, Format, Undistributed, Block, Cyclic, GenBlock}
use Rattle.syntax_tree.specs.Statement.{Axis, Item, Value, Text}

-- what may be there, as a list
abbrev pub present : {A : Type 0} → Option A → List A
present None = []
present (Some a) = a ∷ []

abbrev pub axis_expressions : Axis → List Expression
axis_expressions a = a.first ∷ a.last ∷ present a.step

abbrev pub bound_expressions : Bound → List Expression
bound_expressions b = present b.lower ++ b.upper ∷ []

abbrev pub item_expressions : Item → List Expression
item_expressions (Value e) = e ∷ []
item_expressions (Text bytes) = []

abbrev pub format_expressions : Format → List Expression
format_expressions Undistributed = []
format_expressions (Block m) = present m
format_expressions (Cyclic k) = present k
format_expressions (GenBlock es) = es
