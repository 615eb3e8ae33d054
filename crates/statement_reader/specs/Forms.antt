-- Of the claim.
-- The statements of the language, each by the grammar of its kind (Fortran 95, 5, 7.5, 8, 9.4 and 11.1).
use Rattle.std.specs.Prelude.{◌≡◌, ℕ, Bool, true, false, List, ◌++◌, Option, is_some, codes}
use Rattle.syntax_tree.specs.Lexeme.{Lexeme}
use Rattle.syntax_tree.specs.Expression.{Expression, kept}
use Rattle.syntax_tree.specs.Spelling.{IsFormed}
use Rattle.line_forms.specs.declared.depths.Depths.{Depths}
use Rattle.line_forms.specs.Marks.{comma, opening, closing, colon, colons, equals, star, key, attribute_key}
use Rattle.line_forms.specs.Grammar.{Grammar, Value, Nothing, Identifier, Expr, Item, Prefixed, Suffixed, Sequence, Optional, Choice, CommaList, Header, OptionalToEnd}
use Rattle.line_forms.specs.Parts.{bound, enclosed, optional_enclosed, variable}
use Rattle.line_forms.specs.Printed.{printed, IsWell, value_kept}
use Rattle.line_forms.specs.DeepFront.{deep_front, front_or}
use Rattle.statement_reader.specs.declared.kind.Kind.{Kind}
use Rattle.statement_reader.specs.declared.kind.Kind.TheVariants as kind

-- name [( bound list )]
abbrev pub plain_entity : Grammar
plain_entity = Sequence Identifier (optional_enclosed bound)

-- name [( bound list )] [= expr]
abbrev pub entity : Grammar
entity = Sequence Identifier (Sequence (optional_enclosed bound) (Optional equals Expr))

-- name [( bound list )] = expr
abbrev pub constant_entity : Grammar
constant_entity = Sequence Identifier (Sequence (optional_enclosed bound) (Prefixed equals Expr))

-- name = expr
abbrev pub constant : Grammar
constant = Sequence Identifier (Prefixed equals Expr)

-- ref = expr
abbrev pub assignment : Grammar
assignment = Sequence variable (Prefixed equals Expr)

-- ( expr )
abbrev pub condition : Grammar
condition = Prefixed opening (Suffixed Expr closing)

-- expr, a separator, expr [, the separator, expr]
abbrev pub values : List Lexeme → Grammar
values separator = Sequence Expr (Prefixed separator (Sequence Expr (Optional separator Expr)))

-- name = expr : expr [: expr]
abbrev pub axis : Grammar
axis = Sequence Identifier (Prefixed equals (values colon))

-- name = expr , expr [, expr]
abbrev pub do_head : Grammar
do_head = Sequence Identifier (Prefixed equals (values comma))

-- ( axis list [, expr] )
abbrev pub forall_head : Grammar
forall_head = Prefixed opening (Suffixed (Header axis) closing)

abbrev pub parameter_key : List Lexeme
parameter_key = attribute_key (codes "PARAMETER")

abbrev pub dimension_key : List Lexeme
dimension_key = attribute_key (codes "DIMENSION")

-- [, DIMENSION ( bound list )] :: a list of constants
abbrev pub constants : Grammar → Grammar
constants g = Sequence (Optional dimension_key (enclosed bound)) (Prefixed colons (CommaList g))

-- , PARAMETER [, DIMENSION ( bound list )] :: entities with values | , DIMENSION ( bound list ) :: entities | :: entities
-- | entities without values
abbrev pub declaration : Grammar
declaration =
    Choice parameter_key (constants constant_entity)
    (Choice dimension_key (Sequence (enclosed bound) (Prefixed colons (CommaList entity)))
    (Choice colons (CommaList entity)
    (CommaList plain_entity)))

-- INTEGER , PARAMETER [, DIMENSION ( bound list )] :: entities, with or without values
abbrev pub loose_constants : Grammar
loose_constants = Prefixed (key (codes "INTEGER")) (Prefixed parameter_key (constants entity))

-- two keywords, which may be written as one (Fortran 95, 3.3.1)
abbrev pub keyword_pair : Bool → List ℕ → List ℕ → List ℕ → Grammar → Grammar
keyword_pair true one first second g = Prefixed (key one) g
keyword_pair false one first second g = Prefixed (key first) (Prefixed (key second) g)

abbrev pub grammar : Kind → Grammar
grammar kind.Program = Prefixed (key (codes "PROGRAM")) Identifier
grammar kind.ImplicitNone = Prefixed (key (codes "IMPLICIT")) (Prefixed (key (codes "NONE")) Nothing)
grammar kind.Integer = Prefixed (key (codes "INTEGER")) declaration
grammar kind.Parameter = Prefixed (key (codes "PARAMETER")) (enclosed constant)
grammar kind.Assign = assignment
grammar kind.IfThen = Prefixed (key (codes "IF")) (Suffixed condition (key (codes "THEN")))
grammar (kind.ElseIf glued) = keyword_pair glued (codes "ELSEIF") (codes "ELSE") (codes "IF") (Suffixed condition (key (codes "THEN")))
grammar kind.Else = Prefixed (key (codes "ELSE")) Nothing
grammar (kind.EndIf glued) = keyword_pair glued (codes "ENDIF") (codes "END") (codes "IF") Nothing
grammar kind.Do = Prefixed (key (codes "DO")) do_head
grammar (kind.EndDo glued) = keyword_pair glued (codes "ENDDO") (codes "END") (codes "DO") Nothing
grammar kind.Where = Prefixed (key (codes "WHERE")) (Sequence condition (OptionalToEnd assignment))
grammar (kind.ElseWhere glued) = keyword_pair glued (codes "ELSEWHERE") (codes "ELSE") (codes "WHERE") Nothing
grammar (kind.EndWhere glued) = keyword_pair glued (codes "ENDWHERE") (codes "END") (codes "WHERE") Nothing
grammar kind.Forall = Prefixed (key (codes "FORALL")) (Sequence forall_head (OptionalToEnd assignment))
grammar (kind.EndForall glued) = keyword_pair glued (codes "ENDFORALL") (codes "END") (codes "FORALL") Nothing
grammar kind.Print = Prefixed (key (codes "PRINT")) (Prefixed star (Optional comma (CommaList Item)))
grammar kind.Stop = Prefixed (key (codes "STOP")) Nothing
grammar kind.Exit = Prefixed (key (codes "EXIT")) Nothing
grammar kind.Cycle = Prefixed (key (codes "CYCLE")) Nothing
grammar kind.Continue = Prefixed (key (codes "CONTINUE")) Nothing
grammar kind.End = Prefixed (key (codes "END")) (Optional (key (codes "PROGRAM")) (OptionalToEnd Identifier))

-- IF ( expr )
abbrev pub if_head : Grammar
if_head = Prefixed (key (codes "IF")) condition

-- a statement of a kind; or an IF with a statement after its condition
pub data StatementForm : Type 0 where
  Plain : (k : Kind) → Value (grammar k) → StatementForm
  IfOne : Expression → (k : Kind) → Value (grammar k) → StatementForm

abbrev pub form_printed : StatementForm → List Lexeme
form_printed (Plain k v) = printed (grammar k) v
form_printed (IfOne cond k v) = printed if_head cond ++ printed (grammar k) v

-- a statement that may be the action of an IF (Fortran 95, R216)
abbrev pub is_action : (k : Kind) → Value (grammar k) → Bool
is_action kind.Assign v = true
is_action kind.Where v = is_some v.1
is_action kind.Forall v = is_some v.1
is_action kind.Print v = true
is_action kind.Stop v = true
is_action kind.Exit v = true
is_action kind.Cycle v = true
is_action kind.Continue v = true
is_action k v = false

-- a well-formed statement, however deep its expressions are
abbrev pub IsForm : StatementForm → Type 0
IsForm (Plain k v) = IsWell (grammar k) v
IsForm (IfOne cond k v) = IsFormed cond × (is_action k v ≡ true) × IsWell (grammar k) v

-- the lexemes of a statement up to and with its first expression that is too deep
abbrev pub form_front : Depths → StatementForm → Option (List Lexeme)
form_front depths (Plain k v) = deep_front depths (grammar k) v
form_front depths (IfOne cond k v) = front_or (deep_front depths if_head cond) (printed if_head cond) (deep_front depths (grammar k) v)

-- what a tree keeps of a statement: it doesn't tell ELSE WHERE from ELSEWHERE
abbrev pub as_kept : (k : Kind) → Value (grammar k) → StatementForm
as_kept (kind.ElseWhere true) v = Plain (kind.ElseWhere true) v
as_kept (kind.ElseWhere false) v = Plain (kind.ElseWhere true) v
as_kept k v = Plain k v

abbrev pub form_kept : StatementForm → StatementForm
form_kept (Plain k v) = as_kept k (value_kept (grammar k) v)
form_kept (IfOne cond k v) = IfOne (kept cond) k (value_kept (grammar k) v)
