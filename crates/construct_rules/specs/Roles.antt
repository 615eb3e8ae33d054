-- Of the claim.
-- What lines are to the lines round them.
use Rattle.std.specs.Prelude.{Bool, true, false, ◌||◌, is_some}
use Rattle.line_forms.specs.Grammar.{Value}
use Rattle.statement_reader.specs.declared.kind.Kind.{Kind}
use Rattle.statement_reader.specs.declared.kind.Kind.TheVariants as kind
use Rattle.statement_reader.specs.Forms as statements
use Rattle.directive_reader.specs.declared.kind.Kind.{Kind as DirectiveKind}
use Rattle.directive_reader.specs.declared.kind.Kind.TheVariants as directive
use Rattle.directive_reader.specs.Forms as directives
use Rattle.construct_rules.specs.declared.role.Clauses.{Clauses}
use Rattle.construct_rules.specs.declared.role.Clauses.TheVariants as clauses
use Rattle.construct_rules.specs.declared.role.Construct.{Construct}
use Rattle.construct_rules.specs.declared.role.Construct.TheVariants as construct
use Rattle.construct_rules.specs.declared.role.Role.{Role}
use Rattle.construct_rules.specs.declared.role.Role.TheVariants as role
use Rattle.construct_rules.specs.ProgramLine.{LineContent, OfStatement, OfDirective}

-- WHERE and FORALL are whole in their line where an assignment stands after them, and else open a construct
abbrev pub whole_or_opens : Construct → Bool → Role
whole_or_opens c true = role.One c
whole_or_opens c false = role.Opens c

abbrev pub plain_role : (k : Kind) → Value (statements.grammar k) → Role
plain_role kind.Program v = role.Program
plain_role kind.ImplicitNone v = role.Declaration
plain_role kind.Integer v = role.Declaration
plain_role kind.Parameter v = role.Declaration
plain_role kind.Assign v = role.Assign
plain_role kind.IfThen v = role.Opens construct.If
plain_role (kind.ElseIf glued) v = role.ElseIf
plain_role kind.Else v = role.Else
plain_role (kind.EndIf glued) v = role.Closes construct.If
plain_role kind.Do v = role.Opens construct.Do
plain_role (kind.EndDo glued) v = role.Closes construct.Do
plain_role kind.Where v = whole_or_opens construct.Where (is_some v.1)
plain_role (kind.ElseWhere glued) v = role.ElseWhere
plain_role (kind.EndWhere glued) v = role.Closes construct.Where
plain_role kind.Forall v = whole_or_opens construct.Forall (is_some v.1)
plain_role (kind.EndForall glued) v = role.Closes construct.Forall
plain_role kind.Print v = role.Plain
plain_role kind.Stop v = role.Plain
plain_role kind.Exit v = role.Jump
plain_role kind.Cycle v = role.Jump
plain_role kind.Continue v = role.Plain
plain_role kind.End v = role.End

-- an IF with an action is whole in its line; it leaves a loop where its action does
abbrev pub action_role : Kind → Role
action_role kind.Exit = role.Jump
action_role kind.Cycle = role.Jump
action_role k = role.Plain

abbrev pub statement_role : statements.StatementForm → Role
statement_role (statements.Plain k v) = plain_role k v
statement_role (statements.IfOne cond k v) = action_role k

-- NEW or REDUCTION stands in an INDEPENDENT
abbrev pub clauses_of : Bool → Clauses
clauses_of true = clauses.Given
clauses_of false = clauses.Absent

abbrev pub known_role : (k : DirectiveKind) → Value (directives.grammar k) → Role
known_role (directive.Redistribute many) v = role.Redistribute
known_role directive.Independent v = role.Independent (clauses_of (is_some v.0 || is_some v.1))
known_role k v = role.SpecificationDirective

abbrev pub directive_role : directives.DirectiveForm → Role
directive_role (directives.Known k v) = known_role k v
directive_role (directives.Passed ts) = role.Passed

abbrev pub role_of : LineContent → Role
role_of (OfStatement s) = statement_role s
role_of (OfDirective d) = directive_role d
