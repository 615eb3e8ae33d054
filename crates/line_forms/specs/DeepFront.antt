-- Of the claim.
-- What stands of a part of a line up to and with its first expression that is too deep.
use Rattle.std.specs.Prelude.{◌≡◌, Bool, false, List, [], ◌∷◌, ◌++◌, map, Option, Some, None, nat_le, not, if◌then◌else◌}
use Rattle.std.proofs.Common.{inl, inr}
use Rattle.expr_reader.specs.declared.limits.TheConstants.{MAX_DEPTH}
use Rattle.syntax_tree.specs.Lexeme.{Lexeme}
use Rattle.syntax_tree.specs.Expression.{Expression, Part, One, Range, Glued, Maybe, Absent, Present}
use Rattle.syntax_tree.specs.Spelling.{spelling, maybe_spelling, depth}
use Rattle.line_forms.specs.declared.depths.Depths.{Depths}
use Rattle.line_forms.specs.declared.depths.Depths.TheVariants.{Limited, Any}
use Rattle.line_forms.specs.Marks.{comma, colon, colons}
use Rattle.line_forms.specs.Grammar.{Grammar, Value, Output, Shown, Characters, Nothing, Identifier, Expr, Item, Subscript, Prefixed, Suffixed, Sequence, Optional, Choice, Skipped, CommaList, Header, OptionalToEnd}
use Rattle.line_forms.specs.Printed.{printed, with_commas, IsWell}

-- an expression is deeper than 200, where that matters
abbrev pub is_too_deep : Depths → Expression → Bool
is_too_deep Limited e = not (nat_le (depth e) MAX_DEPTH)
is_too_deep Any e = false

-- a front after other lexemes
abbrev pub preceded : List Lexeme → Option (List Lexeme) → Option (List Lexeme)
preceded ks None = None
preceded ks (Some front) = Some (ks ++ front)

-- the front that a part has, or else, after the whole part, that of what stands there
abbrev pub front_or : Option (List Lexeme) → List Lexeme → Option (List Lexeme) → Option (List Lexeme)
front_or (Some front) text next = Some front
front_or None text next = preceded text next

abbrev pub list_front : {A : Type 0} → (A → Option (List Lexeme)) → (A → List Lexeme) → List A → Option (List Lexeme)
list_front front text [] = None
list_front front text (x ∷ []) = front x
list_front front text (x ∷ y ∷ ys) = front_or (front x) (text x) (preceded comma (list_front front text (y ∷ ys)))

-- an expression that stands alone in a line
abbrev pub expr_front : Depths → Expression → Option (List Lexeme)
expr_front depths e = if is_too_deep depths e then Some (spelling e) else None

abbrev pub maybe_front : Depths → Maybe → Option (List Lexeme)
maybe_front depths Absent = None
maybe_front depths (Present e) = expr_front depths e

abbrev pub step_front : Depths → Maybe → Option (List Lexeme)
step_front depths Absent = None
step_front depths (Present e) = preceded colon (expr_front depths e)

abbrev pub mask_front : Depths → Option Expression → Option (List Lexeme)
mask_front depths None = None
mask_front depths (Some e) = preceded comma (expr_front depths e)

abbrev pub output_front : Depths → Output → Option (List Lexeme)
output_front depths (Shown e) = expr_front depths e
output_front depths (Characters bytes) = None

abbrev pub part_front : Depths → Part → Option (List Lexeme)
part_front depths (One e) = expr_front depths e
part_front depths (Range a b c) =
    front_or (maybe_front depths a) (maybe_spelling a) (preceded colon (front_or (maybe_front depths b) (maybe_spelling b) (step_front depths c)))
part_front depths (Glued a c) = front_or (maybe_front depths a) (maybe_spelling a) (preceded colons (expr_front depths c))

-- the lexemes of a part up to and with its first expression that is too deep, among those that stand alone in it
abbrev pub deep_front : Depths → (g : Grammar) → Value g → Option (List Lexeme)
deep_front depths Nothing v = None
deep_front depths Identifier x = None
deep_front depths Expr e = expr_front depths e
deep_front depths Item i = output_front depths i
deep_front depths Subscript p = part_front depths p
deep_front depths (Prefixed ks g) v = preceded ks (deep_front depths g v)
deep_front depths (Suffixed g ks) v = deep_front depths g v
deep_front depths (Sequence g h) v = front_or (deep_front depths g v.0) (printed g v.0) (deep_front depths h v.1)
deep_front depths (Optional ks g) None = None
deep_front depths (Optional ks g) (Some v) = preceded ks (deep_front depths g v)
deep_front depths (Choice ks g h) (inl v) = preceded ks (deep_front depths g v)
deep_front depths (Choice ks g h) (inr v) = deep_front depths h v
deep_front depths (Skipped ks) b = None
deep_front depths (CommaList g) vs = list_front (deep_front depths g) (printed g) vs
deep_front depths (Header g) v =
    front_or (list_front (deep_front depths g) (printed g) v.0) (with_commas (map (printed g) v.0)) (mask_front depths v.1)
deep_front depths (OptionalToEnd g) None = None
deep_front depths (OptionalToEnd g) (Some v) = deep_front depths g v

-- lexemes are too deep for a part: a front of them is that of a well-formed one up to and with its first expression that
-- is too deep, whatever stands after
pub record IsTooDeep (depths : Depths) (g : Grammar) (ts : List Lexeme) : Type 0 where
  pub written : Value g
  pub well : IsWell g written
  pub front : List Lexeme
  pub deep : deep_front depths g written ≡ Some front
  pub rest : List Lexeme
  pub parts : ts ≡ front ++ rest
