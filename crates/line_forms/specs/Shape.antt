-- Of the claim.
-- The intrinsic procedure that the language leaves out wherever it is named.
use Rattle.std.specs.Prelude.{Bool, List, codes}
use Rattle.std.specs.List.{list_any}
use Rattle.syntax_tree.specs.Lexeme.{Lexeme, Word}
use Rattle.line_forms.specs.Marks.{same}

-- PROCESSORS_SHAPE stands anywhere in the line (HPF 2.0, 7.4)
abbrev pub is_shape : Lexeme → Bool
is_shape l = same (Word (codes "PROCESSORS_SHAPE")) l

abbrev pub names_shape : List Lexeme → Bool
names_shape ts = list_any is_shape ts
