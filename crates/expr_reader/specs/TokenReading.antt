-- Of private clauses.
-- What is read at tokens, and the trees that a function gives, apart from where they lie in memory. No public clause cites
-- this file.
use Rattle.std.specs.Prelude.{◌≡◌, ◌≤◌, ℕ, ◌+◌, List, drop, Option, Some, None, Vec, true, false}
use Rattle.std.specs.declared.alloc.Global.{Global}
use Rattle.source_lines.specs.declared.token.Token.{Token}
use Rattle.syntax_tree.specs.declared.expr.Expr.{Expr}
use Rattle.syntax_tree.specs.Lexeme.{lexemes}
use Rattle.syntax_tree.specs.Expression.{Expression, Part, One, Parts, End, More, Maybe, Absent, Present, arguments_of, expression}
use Rattle.expr_reader.specs.Reading.{Readers, apart, are_arguments, reading}

-- what was read, with the trees apart from where they lie
abbrev pub viewed : {X Y : Type 0} → (X → Y) → Option (X × ℕ) → Option (Y × ℕ)
viewed view None = None
viewed view (Some x) = Some (view x.0, x.1)

-- what was read ends within the tokens
abbrev pub EndsWithin : {X : Type 0} → Option (X × ℕ) → ℕ → Type 0
EndsWithin None n = Unit {0}
EndsWithin (Some x) n = x.1 ≤ n

-- what can be read at the first of the tokens, where `::` and two colons aren't told apart
abbrev pub read : List Token → Readers
read tokens = reading apart (lexemes tokens)

-- what can be read after so many of the tokens
abbrev pub ahead : List Token → ℕ → Readers
ahead tokens d = read (drop d tokens)

-- a tree that may be there
abbrev pub maybe_in : Option Expr → Maybe
maybe_in None = Absent
maybe_in (Some e) = Present (expression e)

-- parts in front of others
abbrev pub append_parts : Parts → Parts → Parts
append_parts End ps = ps
append_parts (More p front) ps = More p (append_parts front ps)

-- what so many tokens with some parts go on to be
abbrev pub with_front : Parts → ℕ → Option (Parts × ℕ) → Option (Parts × ℕ)
with_front front n None = None
with_front front n (Some x) = Some (append_parts front x.0, n + x.1)

-- the expression that a part of a list is
abbrev pub expression_of : Part → Option Expression
expression_of (One e) = Some e
expression_of p = None

-- the expressions that parts are
abbrev pub AreExpressions : Option (Vec Expr Global) → Parts → Type 0
AreExpressions None ps = are_arguments ps ≡ false
AreExpressions (Some es) ps = (are_arguments ps ≡ true) × (arguments_of es.items ≡ ps)
