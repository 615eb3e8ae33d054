-- Of the claim.
-- The reading of a whole line from left to right.
use Rattle.std.specs.Prelude.{ℕ, Bool, true, false, ◌||◌, List, [], ◌∷◌, drop, codes, is_some, Option, Some, if◌then◌else◌}
use Rattle.std.specs.List.{list_any}
use Rattle.syntax_tree.specs.Lexeme.{Lexeme}
use Rattle.syntax_tree.specs.Expression.{Expression}
use Rattle.line_forms.specs.declared.depths.Depths.{Depths}
use Rattle.line_forms.specs.declared.depths.Depths.TheVariants.{Limited, Any}
use Rattle.line_forms.specs.declared.read_error.ReadError.TheVariants as read_error
use Rattle.line_forms.specs.Marks.{starts, key}
use Rattle.line_forms.specs.Reading.{Reading, Found, Stopped, ◌>>=◌}
use Rattle.line_forms.specs.Grammar.{Grammar, Value, Identifier, OptionalToEnd}
use Rattle.line_forms.specs.Read.{read}
use Rattle.statement_reader.specs.declared.kind.Kind.{Kind}
use Rattle.statement_reader.specs.declared.kind.Kind.TheVariants as kind
use Rattle.statement_reader.specs.FirstWords.{statement_kind}
use Rattle.statement_reader.specs.Forms.{grammar, entity, constants, loose_constants, if_head, StatementForm, Plain, IfOne, as_kept, is_action}
use Rattle.statement_reader.specs.Views.{IsOfKind}

-- the kinds of which a statement may be the action of an IF
abbrev pub is_action_kind : Kind → Bool
is_action_kind kind.Assign = true
is_action_kind kind.Where = true
is_action_kind kind.Forall = true
is_action_kind kind.Print = true
is_action_kind kind.Stop = true
is_action_kind kind.Exit = true
is_action_kind kind.Cycle = true
is_action_kind kind.Continue = true
is_action_kind k = false

abbrev pub is_nothing : List Lexeme → Bool
is_nothing [] = true
is_nothing (t ∷ ts) = false

-- nothing stands after it
abbrev pub ended : {A : Type 0} → A × List Lexeme → Reading A
ended x = if is_nothing x.1 then Found (x.0, []) else Stopped read_error.Malformed

-- a whole line by a grammar, and by that of a kind
abbrev pub whole_of : Depths → (g : Grammar) → List Lexeme → Reading (Value g)
whole_of depths g ts = read depths g ts >>= ended

abbrev pub whole : Depths → (k : Kind) → List Lexeme → Reading (Value (grammar k))
whole depths k ts = whole_of depths (grammar k) ts

-- a whole line that says nothing more than what it is
abbrev pub said : Grammar → StatementForm → List Lexeme → Reading StatementForm
said g form ts = whole_of Limited g ts >>= λ v. Found (form, v.1)

-- what may stand after END PROGRAM
abbrev pub end_program : List Lexeme → Reading (Option (Option (List ℕ)))
end_program ts = whole_of Limited (OptionalToEnd Identifier) ts >>= λ v. Found (Some v.0, v.1)

abbrev pub line : Depths → Kind → List Lexeme → Reading StatementForm
line depths k ts = whole depths k ts >>= λ v. Found (as_kept k v.0, v.1)

-- the action of an IF; a WHERE or FORALL has its assignment there
abbrev pub acting : Depths → Kind → List Lexeme → Reading IsOfKind
acting depths k ts =
    if is_action_kind k then (whole depths k ts >>= λ v. if is_action k v.0 then Found ((k, v.0), v.1) else Stopped read_error.Malformed)
    else Stopped read_error.Malformed

-- an action that says nothing more than what it is
abbrev pub acted : Grammar → IsOfKind → List Lexeme → Reading IsOfKind
acted g a ts = whole_of Limited g ts >>= λ v. Found (a, v.1)

-- an IF after its condition
abbrev pub if_rest : Depths → Expression → List Lexeme → Reading StatementForm
if_rest depths cond ts =
    if starts (key (codes "THEN")) ts then ended (Plain kind.IfThen cond, drop 1 ts)
    else (acting depths (statement_kind ts) ts >>= λ a. Found (IfOne cond a.0.0 a.0.1, a.1))

abbrev pub if_line : Depths → List Lexeme → Reading StatementForm
if_line depths ts = read depths if_head ts >>= λ c. if_rest depths c.0 c.1

abbrev pub line_of : Depths → Kind → List Lexeme → Reading StatementForm
line_of depths kind.IfThen ts = if_line depths ts
line_of depths k ts = line depths k ts

-- the statement that a line is
abbrev pub reading : Depths → List Lexeme → Reading StatementForm
reading depths ts = line_of depths (statement_kind ts) ts

abbrev pub statement : List Lexeme → Reading StatementForm
statement ts = reading Limited ts

-- whether an INTEGER with PARAMETER, its values aside, declares arrays: it has DIMENSION, or an entity has bounds
abbrev pub has_bounds : Value (constants entity) → Bool
has_bounds d = is_some d.0 || list_any (λ e. is_some e.1.0) d.1

abbrev pub constant_array : List Lexeme → Reading Bool
constant_array ts = whole_of Any loose_constants ts >>= λ d. Found (has_bounds d.0, d.1)
