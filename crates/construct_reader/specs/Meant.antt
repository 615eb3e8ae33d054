-- Of the claim.
-- What the lines of a program mean: its abstract syntax.
use Rattle.std.specs.Prelude.{ℕ, Bool, true, false, List, [], ◌∷◌, map, Option, Some, None, option_map}
use Rattle.std.proofs.Common.{inl, inr}
use Rattle.syntax_tree.specs.Expression.{Expression, Part, Parts, End, More}
use Rattle.syntax_tree.specs.Directive as directive
use Rattle.syntax_tree.specs.Statement as syntax
use Rattle.syntax_tree.specs.MainProgram as main
use Rattle.line_forms.specs.Grammar.{Value, Output, Shown, Characters}
use Rattle.line_forms.specs.Parts as forms
use Rattle.line_forms.specs.Parts.{bound}
use Rattle.statement_reader.specs.declared.kind.Kind.{Kind}
use Rattle.statement_reader.specs.declared.kind.Kind.TheVariants as kind
use Rattle.statement_reader.specs.Forms as statements
use Rattle.statement_reader.specs.Forms.{grammar, assignment, axis, entity, constant_entity, plain_entity, declaration}
use Rattle.directive_reader.specs.declared.kind.Kind.TheVariants as directed
use Rattle.directive_reader.specs.Forms as directives
use Rattle.directive_reader.specs.Forms.{arrangement, format, source, target}
use Rattle.construct_rules.specs.ProgramLine.{LineContent, OfStatement, OfDirective, ProgramLine}
use Rattle.construct_reader.specs.SpelledProgram.{SpelledIndependent, SpelledBlock, EmptyBlock, StatementThen, SpelledStatement, SimpleStatement, IndependentForall, IfConstruct, DoConstruct, WhereConstruct, ForallConstruct, IfBlocks, NoIfBlock, IfBlock, ElsePart, NoElse, Else, SpelledProgram}

-- ---- parts of lines

abbrev pub parts : List Part → Parts
parts [] = End
parts (p ∷ ps) = More p (parts ps)

-- the left side of an assignment: a name, with subscripts or without
abbrev pub variable : Value forms.variable → syntax.Variable
variable v = record { name = v.0; subscripts = option_map parts v.1 }

-- an assignment of a WHERE or FORALL, in the line of this number
abbrev pub assigned : ℕ → Value assignment → syntax.Assignment
assigned n a = record { line = n; left = variable a.0; right = a.1 }

-- the one assignment that stands after WHERE or FORALL, if one does
abbrev pub one : ℕ → Option (Value assignment) → List syntax.Assignment
one n None = []
one n (Some a) = assigned n a ∷ []

abbrev pub axis_of : Value axis → syntax.Axis
axis_of x = record { index = x.0; first = x.1.0; last = x.1.1.0; step = x.1.1.1 }

abbrev pub item : Output → syntax.Item
item (Shown e) = syntax.Value e
item (Characters bytes) = syntax.Text bytes

abbrev pub items : Option (List Output) → List syntax.Item
items None = []
items (Some is) = map item is

-- one expression alone is the upper bound
abbrev pub bound_of : Value bound → directive.Bound
bound_of b = bounds b.0 b.1 where
  bounds : Expression → Option Expression → directive.Bound
  bounds upper None = record { lower = None; upper = upper }
  bounds lower (Some upper) = record { lower = Some lower; upper = upper }

abbrev pub format_of : Value format → directive.Format
format_of (inl star) = directive.Undistributed
format_of (inr (inl m)) = directive.Block m
format_of (inr (inr (inl k))) = directive.Cyclic k
format_of (inr (inr (inr sizes))) = directive.GenBlock sizes

-- `many` says that the names stand after `::`; else one name stands first
abbrev pub distribution : (many : Bool) → Value (directives.distribution many) → directive.Distribution
distribution false d = record { names = d.0 ∷ []; formats = map format_of d.1.0; onto = d.1.1 }
distribution true d = record { names = d.1.1; formats = map format_of d.0; onto = d.1.0 }

abbrev pub source_of : Value source → directive.Source
source_of (inl colon) = directive.Spread
source_of (inr (inl star)) = directive.Collapsed
source_of (inr (inr x)) = directive.Dummy x

abbrev pub target_of : Value target → directive.Target
target_of (inl star) = directive.Replicated
target_of (inr s) = directive.Placed s

abbrev pub alignment : (many : Bool) → Value (directives.alignment many) → directive.Alignment
alignment false a = record { names = a.0 ∷ []; sources = option_map (map source_of) a.1.0; target = a.1.1.0; subscripts = option_map (map target_of) a.1.1.1.0 }
alignment true a = record { names = a.1.1.1; sources = option_map (map source_of) a.0; target = a.1.0; subscripts = option_map (map target_of) a.1.1.0 }

abbrev pub arranged : Value arrangement → directive.Entity
arranged a = record { name = a.0; bounds = Some (map bound_of a.1); start = None }

abbrev pub directive_of : directives.DirectiveForm → directive.Directive
directive_of (directives.Known directed.Processors v) = directive.Processors (map arranged v.1)
directive_of (directives.Known directed.Template v) = directive.Template (map arranged v.1)
directive_of (directives.Known directed.Dynamic v) = directive.Dynamic v.1
directive_of (directives.Known (directed.Distribute many) v) = directive.Distribute (distribution many v)
directive_of (directives.Known (directed.Align many) v) = directive.Align (alignment many v)
directive_of d = directive.Passed

abbrev pub entity_of : Value entity → directive.Entity
entity_of e = record { name = e.0; bounds = option_map (map bound_of) e.1.0; start = e.1.1 }

abbrev pub constant_entity_of : Value constant_entity → directive.Entity
constant_entity_of e = record { name = e.0; bounds = option_map (map bound_of) e.1.0; start = Some e.1.1 }

abbrev pub plain_entity_of : Value plain_entity → directive.Entity
plain_entity_of e = record { name = e.0; bounds = option_map (map bound_of) e.1; start = None }

-- ---- declarations

abbrev pub type_declaration : Value declaration → main.TypeDeclaration
type_declaration (inl c) = record { constant = true; bounds = option_map (map bound_of) c.0; entities = map constant_entity_of c.1 }
type_declaration (inr (inl d)) = record { constant = false; bounds = Some (map bound_of d.0); entities = map entity_of d.1 }
type_declaration (inr (inr (inl es))) = record { constant = false; bounds = None; entities = map entity_of es }
type_declaration (inr (inr (inr es))) = record { constant = false; bounds = None; entities = map plain_entity_of es }

abbrev pub declared_of : LineContent → main.Declared
declared_of (OfStatement (statements.Plain kind.Integer v)) = main.Integer (type_declaration v)
declared_of (OfStatement (statements.Plain kind.Parameter v)) = main.Parameter (map (λ c. record { name = c.0; value = c.1 }) v)
declared_of (OfStatement s) = main.ImplicitNone
declared_of (OfDirective d) = main.Directed (directive_of d)

abbrev pub declaration_of : ProgramLine → main.Declaration
declaration_of l = record { line = l.number; what = declared_of l.what }

-- ---- statements

-- a statement that is whole in its line, by its kind
abbrev pub plain : ℕ → (k : Kind) → Value (grammar k) → syntax.Statement
plain n kind.Assign v = syntax.Assign (variable v.0) v.1
plain n kind.Where v = syntax.Where v.0 (one n v.1) []
plain n kind.Forall v = syntax.Forall (map axis_of v.0.0) v.0.1 (one n v.1)
plain n kind.Print v = syntax.Print (items v)
plain n kind.Stop v = syntax.Stop
plain n kind.Exit v = syntax.Exit
plain n kind.Cycle v = syntax.Cycle
plain n k v = syntax.Continue

-- a statement or a REDISTRIBUTE that is whole in its line; IF with an action is the construct with that alone
abbrev pub single : ℕ → LineContent → syntax.Statement
single n (OfStatement (statements.Plain k v)) = plain n k v
single n (OfStatement (statements.IfOne cond k v)) = syntax.If (syntax.Arm n cond (syntax.Then n (plain n k v) syntax.Done) syntax.NoArm) syntax.Without
single n (OfDirective (directives.Known (directed.Redistribute many) v)) = syntax.Redistribute (distribution many v)
single n (OfDirective d) = syntax.Continue

abbrev pub independent_of : SpelledIndependent → syntax.Independent
independent_of m = record { line = m.number; new = m.new; reduction = m.reduction }

-- a statement of a WHERE or FORALL, where it is an assignment
abbrev pub taken : ℕ → syntax.Statement → List syntax.Assignment → List syntax.Assignment
taken n (syntax.Assign left right) rest = record { line = n; left = left; right = right } ∷ rest
taken n s rest = rest

-- the line of a statement
abbrev pub first_line : IfBlocks → ℕ
first_line NoIfBlock = 0
first_line (IfBlock n cond b glued arms) = n

abbrev pub line_of : SpelledStatement → ℕ
line_of (SimpleStatement l) = l.number
line_of (IndependentForall l) = l.number
line_of (IfConstruct arms other glued) = first_line arms
line_of (DoConstruct mark n head b glued) = n
line_of (WhereConstruct n mask b other glued) = n
line_of (ForallConstruct marked n head b glued) = n

abbrev mutual
  pub statement : SpelledStatement → syntax.Statement
  statement (SimpleStatement l) = single l.number l.what
  statement (IndependentForall l) = single l.number l.what
  statement (IfConstruct arms' other glued) = syntax.If (arms arms') (otherwise other)
  statement (DoConstruct mark n head b glued) =
      syntax.Do (option_map independent_of mark) record { index = head.0; first = head.1.0; last = head.1.1.0; step = head.1.1.1 } (block b)
  statement (WhereConstruct n mask b other glued) = syntax.Where mask (assignments b) (other_assignments other)
  statement (ForallConstruct marked n head b glued) = syntax.Forall (map axis_of head.0) head.1 (assignments b)

  pub block : SpelledBlock → syntax.Block
  block EmptyBlock = syntax.Done
  block (StatementThen s b) = syntax.Then (line_of s) (statement s) (block b)

  pub assignments : SpelledBlock → List syntax.Assignment
  assignments EmptyBlock = []
  assignments (StatementThen s b) = taken (line_of s) (statement s) (assignments b)

  pub other_assignments : ElsePart → List syntax.Assignment
  other_assignments NoElse = []
  other_assignments (Else b) = assignments b

  pub otherwise : ElsePart → syntax.Otherwise
  otherwise NoElse = syntax.Without
  otherwise (Else b) = syntax.With (block b)

  pub arms : IfBlocks → syntax.Arms
  arms NoIfBlock = syntax.NoArm
  arms (IfBlock n cond b glued rest) = syntax.Arm n cond (block b) (arms rest)

-- the name after END PROGRAM
abbrev pub end_name : Option (Option (List ℕ)) → Option (List ℕ)
end_name None = None
end_name (Some x) = x

-- the program that lines spell
abbrev pub meant : SpelledProgram → main.MainProgram
meant p = record {
  name = p.name;
  declarations = map declaration_of p.declarations;
  body = block p.body;
  end_name = end_name p.finish.what;
  end_line = p.finish.number;
}
