-- Of the claim.
-- What spells an expression, and which expressions are well formed (Fortran 95, 7.1).
use Rattle.std.specs.Prelude.{◌≡◌, ℕ, ◌+◌, ◌≤◌, max, true, false, List, [], ◌∷◌, ◌++◌, Some}
use Rattle.op_tables.specs.Words.{is_reserved}
use Rattle.syntax_tree.specs.declared.sign.Sign.TheVariants as sign
use Rattle.syntax_tree.specs.Lexeme.{Lexeme, Word, Integer, Fixed}
use Rattle.syntax_tree.specs.Operators.{binary_of, unary_of, operator_lexeme, level, left_place, right_place, intrinsic, intrinsic_word}
use Rattle.syntax_tree.specs.Expression.{Expression, Number, Truth, Name, Element, Call, Unary, Binary, Closed, Part, One, Range, Glued, Parts, End, More, Maybe, Absent, Present}

-- the lexemes of an expression
abbrev mutual
  pub spelling : Expression → List Lexeme
  spelling (Number n) = Integer n ∷ []
  spelling (Truth true) = Fixed sign.True ∷ []
  spelling (Truth false) = Fixed sign.False ∷ []
  spelling (Name x) = Word x ∷ []
  spelling (Element x ps) = Word x ∷ Fixed sign.Open ∷ parts_spelling ps
  spelling (Call o ps) = Word (intrinsic_word o) ∷ Fixed sign.Open ∷ parts_spelling ps
  spelling (Unary o a) = operator_lexeme o ∷ spelling a
  spelling (Binary o a b) = spelling a ++ operator_lexeme o ∷ spelling b
  spelling (Closed a) = Fixed sign.Open ∷ (spelling a ++ Fixed sign.Close ∷ [])

  pub part_spelling : Part → List Lexeme
  part_spelling (One e) = spelling e
  part_spelling (Range a b c) = maybe_spelling a ++ Fixed sign.Colon ∷ (maybe_spelling b ++ step_spelling c)
  part_spelling (Glued a c) = maybe_spelling a ++ Fixed sign.Colons ∷ spelling c

  pub maybe_spelling : Maybe → List Lexeme
  maybe_spelling Absent = []
  maybe_spelling (Present e) = spelling e

  pub step_spelling : Maybe → List Lexeme
  step_spelling Absent = []
  step_spelling (Present e) = Fixed sign.Colon ∷ spelling e

  -- a list and the parenthesis after it
  pub parts_spelling : Parts → List Lexeme
  parts_spelling End = Fixed sign.Close ∷ []
  parts_spelling (More p ps) = part_spelling p ++ rest_spelling ps

  -- what stands after a part of a list
  pub rest_spelling : Parts → List Lexeme
  rest_spelling End = Fixed sign.Close ∷ []
  rest_spelling (More p ps) = Fixed sign.Comma ∷ (part_spelling p ++ rest_spelling ps)

-- how tightly an expression binds, from 1; a primary binds most tightly
abbrev pub binds : Expression → ℕ
binds (Unary o a) = level o
binds (Binary o a b) = level o
binds e = 9

-- each operand binds at least as tightly as its place asks; a name is in none of the tables of words, and an array's
-- name has a subscript at least
abbrev mutual
  pub IsFormed : Expression → Type 0
  IsFormed (Number n) = Unit {0}
  IsFormed (Truth b) = Unit {0}
  IsFormed (Name x) = is_reserved x ≡ false
  IsFormed (Element x ps) = (is_reserved x ≡ false) × IsList ps
  IsFormed (Call o ps) = (intrinsic (intrinsic_word o) ≡ Some o) × AreArguments ps
  IsFormed (Unary o a) = (unary_of (operator_lexeme o) ≡ Some o) × IsFormed a × (level o + 1 ≤ binds a)
  IsFormed (Binary o a b) = (binary_of (operator_lexeme o) ≡ Some o) × IsFormed a × (left_place o ≤ binds a) × IsFormed b × (right_place o ≤ binds b)
  IsFormed (Closed a) = IsFormed a

  pub IsPart : Part → Type 0
  IsPart (One e) = IsFormed e
  IsPart (Range a b c) = IsMaybe a × IsMaybe b × IsMaybe c
  IsPart (Glued a c) = IsMaybe a × IsFormed c

  pub IsMaybe : Maybe → Type 0
  IsMaybe Absent = Unit {0}
  IsMaybe (Present e) = IsFormed e

  pub IsList : Parts → Type 0
  IsList End = ⊥
  IsList (More p ps) = IsPart p × AreParts ps

  pub AreParts : Parts → Type 0
  AreParts End = Unit {0}
  AreParts (More p ps) = IsPart p × AreParts ps

  pub AreArguments : Parts → Type 0
  AreArguments End = Unit {0}
  AreArguments (More (One e) ps) = IsFormed e × AreArguments ps
  AreArguments (More p ps) = ⊥

-- the greatest number of expressions on a path from the root to a leaf
abbrev mutual
  pub depth : Expression → ℕ
  depth (Number n) = 1
  depth (Truth b) = 1
  depth (Name x) = 1
  depth (Element x ps) = 1 + list_depth ps
  depth (Call o ps) = 1 + list_depth ps
  depth (Unary o a) = 1 + depth a
  depth (Binary o a b) = 1 + max (depth a) (depth b)
  depth (Closed a) = 1 + depth a

  pub part_depth : Part → ℕ
  part_depth (One e) = depth e
  part_depth (Range a b c) = max (maybe_depth a) (max (maybe_depth b) (maybe_depth c))
  part_depth (Glued a c) = max (maybe_depth a) (depth c)

  pub maybe_depth : Maybe → ℕ
  maybe_depth Absent = 0
  maybe_depth (Present e) = depth e

  pub list_depth : Parts → ℕ
  list_depth End = 0
  list_depth (More p ps) = max (part_depth p) (list_depth ps)
