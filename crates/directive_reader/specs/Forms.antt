-- Of the claim.
-- The directives of the language, each by the grammar of its kind (HPF 2.0, 3, 5.1 and 8.5).
use Rattle.std.specs.Prelude.{◌≡◌, ℕ, Bool, true, false, List, [], ◌∷◌, Option, None, codes}
use Rattle.std.specs.List.{list_any}
use Rattle.syntax_tree.specs.Lexeme.{Lexeme}
use Rattle.line_forms.specs.declared.depths.Depths.{Depths}
use Rattle.line_forms.specs.DeepFront.{deep_front}
use Rattle.line_forms.specs.Marks.{starts, key, attribute_key, opening, closing, colon, colons, star}
use Rattle.line_forms.specs.Grammar.{Grammar, Value, Nothing, Identifier, Expr, Subscript, Prefixed, Suffixed, Sequence, Optional, Choice, Skipped, CommaList}
use Rattle.line_forms.specs.Parts.{bound, enclosed, optional_enclosed}
use Rattle.line_forms.specs.Printed.{printed, IsWell, value_kept}
use Rattle.directive_reader.specs.declared.kind.Kind.{Kind}
use Rattle.directive_reader.specs.declared.kind.Kind.TheVariants as kind

-- name ( bound list )
abbrev pub arrangement : Grammar
arrangement = Sequence Identifier (enclosed bound)

-- [::] list
abbrev pub listed : Grammar → Grammar
listed g = Sequence (Skipped colons) (CommaList g)

-- [( expr )]
abbrev pub size : Grammar
size = Optional opening (Suffixed Expr closing)

-- * | BLOCK [( expr )] | CYCLIC [( expr )] | GEN_BLOCK ( expr list )
abbrev pub format : Grammar
format =
    Choice star Nothing
    (Choice (key (codes "BLOCK")) size (Choice (key (codes "CYCLIC")) size (Prefixed (key (codes "GEN_BLOCK")) (enclosed Expr))))

-- [ONTO name]
abbrev pub onto : Grammar
onto = Optional (key (codes "ONTO")) Identifier

-- name ( format list ) [ONTO name] | ( format list ) [ONTO name] :: name list
abbrev pub distribution : Bool → Grammar
distribution false = Sequence Identifier (Sequence (enclosed format) onto)
distribution true = Sequence (enclosed format) (Sequence onto (Prefixed colons (CommaList Identifier)))

-- : | * | name
abbrev pub source : Grammar
source = Choice colon Nothing (Choice star Nothing Identifier)

-- * | subscript
abbrev pub target : Grammar
target = Choice star Nothing Subscript

-- name [( target list )], after WITH
abbrev pub aligned_with : Grammar → Grammar
aligned_with g = Prefixed (key (codes "WITH")) (Sequence Identifier (Sequence (optional_enclosed target) g))

-- name [( source list )] WITH name [( target list )] | [( source list )] WITH name [( target list )] :: name list
abbrev pub alignment : Bool → Grammar
alignment false = Sequence Identifier (Sequence (optional_enclosed source) (aligned_with Nothing))
alignment true = Sequence (optional_enclosed source) (aligned_with (Prefixed colons (CommaList Identifier)))

abbrev pub grammar : Kind → Grammar
grammar kind.Processors = Prefixed (key (codes "PROCESSORS")) (listed arrangement)
grammar kind.Template = Prefixed (key (codes "TEMPLATE")) (listed arrangement)
grammar kind.Dynamic = Prefixed (key (codes "DYNAMIC")) (listed Identifier)
grammar (kind.Distribute many) = Prefixed (key (codes "DISTRIBUTE")) (distribution many)
grammar (kind.Redistribute many) = Prefixed (key (codes "REDISTRIBUTE")) (distribution many)
grammar (kind.Align many) = Prefixed (key (codes "ALIGN")) (alignment many)
grammar kind.Independent =
    Prefixed (key (codes "INDEPENDENT"))
    (Sequence (Optional (attribute_key (codes "NEW")) (enclosed Identifier)) (Optional (attribute_key (codes "REDUCTION")) (enclosed Identifier)))

-- the words of HPF that begin a directive which is passed over
abbrev pub passed_words : List (List ℕ)
passed_words =
    codes "SEQUENCE" ∷ codes "NO" ∷ codes "INHERIT" ∷ codes "RANGE" ∷ codes "SHADOW" ∷ codes "ON" ∷
    codes "RESIDENT" ∷ codes "TASK_REGION" ∷ codes "END" ∷ []

abbrev pub is_passed : List Lexeme → Bool
is_passed ts = list_any (λ w. starts (key w) ts) passed_words

-- a directive of a kind, or one that is passed over
pub data DirectiveForm : Type 0 where
  Known : (k : Kind) → Value (grammar k) → DirectiveForm
  Passed : List Lexeme → DirectiveForm

abbrev pub form_printed : DirectiveForm → List Lexeme
form_printed (Known k v) = printed (grammar k) v
form_printed (Passed ts) = ts

-- a well-formed directive, however deep its expressions are
abbrev pub IsForm : DirectiveForm → Type 0
IsForm (Known k v) = IsWell (grammar k) v
IsForm (Passed ts) = is_passed ts ≡ true

-- its lexemes up to and with its first expression that is too deep; one that is passed over has no expressions
abbrev pub form_front : Depths → DirectiveForm → Option (List Lexeme)
form_front depths (Known k v) = deep_front depths (grammar k) v
form_front depths (Passed ts) = None

-- what a tree keeps of it
abbrev pub form_kept : DirectiveForm → DirectiveForm
form_kept (Known k v) = Known k (value_kept (grammar k) v)
form_kept (Passed ts) = Passed []
