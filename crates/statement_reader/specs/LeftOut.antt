-- Of the claim.
-- Lines that the language leaves out.
use Rattle.std.specs.Prelude.{◌≡◌, Bool, true, false, ◌&&◌, ◌||◌, is_some, List, [], ◌∷◌, ◌⊎◌, codes, bytes_eq}
use Rattle.op_tables.specs.Words.{left_out_words, code_in}
use Rattle.syntax_tree.specs.Lexeme.{Lexeme, Word, Integer}
use Rattle.line_forms.specs.Marks.{starts, colon, key}
use Rattle.line_forms.specs.Grammar.{Value}
use Rattle.line_forms.specs.Printed.{printed, IsWell}
use Rattle.line_forms.specs.Shape.{names_shape}
use Rattle.statement_reader.specs.Forms.{loose_constants}
use Rattle.statement_reader.specs.Reading.{has_bounds}

-- DO alone, with a label, or with WHILE
abbrev pub is_left_out_do : List Lexeme → Bool
is_left_out_do [] = true
is_left_out_do (Integer n ∷ ts) = true
is_left_out_do ts = starts (key (codes "WHILE")) ts

-- a label, a keyword that is left out, the name of a construct, or a DO that is left out begins the line (Fortran 95,
-- 3.2.4 and 8.1)
abbrev pub begins_left_out : List Lexeme → Bool
begins_left_out (Integer n ∷ ts) = true
begins_left_out (Word x ∷ ts) =
    is_some (code_in left_out_words x) || starts colon ts || (bytes_eq (codes "DO") x && is_left_out_do ts)
begins_left_out ts = false

-- an array that is a constant: the line is an INTEGER with PARAMETER, its values and the depth of its expressions aside,
-- and has DIMENSION or an entity with bounds
pub record IsConstantArray (ts : List Lexeme) : Type 0 where
  pub declared : Value loose_constants
  pub well : IsWell loose_constants declared
  pub parts : printed loose_constants declared ≡ ts
  pub array : has_bounds declared ≡ true

-- it begins so, names PROCESSORS_SHAPE, or is a constant array
abbrev pub IsLeftOut : List Lexeme → Type 0
IsLeftOut ts = (begins_left_out ts ≡ true) ⊎ (names_shape ts ≡ true) ⊎ IsConstantArray ts
