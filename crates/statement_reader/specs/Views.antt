-- Of a promise.
-- What the values of statements are, apart from where they lie in memory.
use Rattle.std.specs.Prelude.{ℕ, Bool, true, false, List, [], ◌∷◌, map, Option, Some, None, option_map}
use Rattle.syntax_tree.specs.declared.decl.Entity.{Entity}
use Rattle.syntax_tree.specs.declared.decl.ConstDef.{ConstDef}
use Rattle.syntax_tree.specs.declared.decl.IntegerDecl.{IntegerDecl}
use Rattle.syntax_tree.specs.declared.stmt.Header.{Header}
use Rattle.syntax_tree.specs.declared.stmt.Item.{Item}
use Rattle.std.proofs.Common.{inl, inr}
use Rattle.syntax_tree.specs.Expression.{Expression, Element, End, expression}
use Rattle.line_forms.specs.Grammar.{Value, Output}
use Rattle.line_forms.specs.Parts.{bound, bound_of, output_of, variable_of}
use Rattle.statement_reader.specs.declared.kind.Kind.{Kind}
use Rattle.statement_reader.specs.declared.kind.Kind.TheVariants as kind
use Rattle.statement_reader.specs.declared.statement.Statement.{Statement}
use Rattle.statement_reader.specs.declared.statement.Statement.TheVariants as statement
use Rattle.statement_reader.specs.declared.statement.Action.{Action}
use Rattle.statement_reader.specs.declared.statement.Action.TheVariants as action
use Rattle.statement_reader.specs.declared.statement.Assignment.{Assignment}
use Rattle.statement_reader.specs.declared.statement.DoHead.{DoHead}
use Rattle.statement_reader.specs.declared.statement.ForallHead.{ForallHead}
use Rattle.statement_reader.specs.Forms.{grammar, plain_entity, entity, constant_entity, constant, assignment, axis, do_head, forall_head, declaration, StatementForm, Plain, IfOne}

abbrev pub entity_of : Entity → Value entity
entity_of e = (e.name, (option_map (λ v. map bound_of v.items) e.dims, option_map expression e.start))

-- the value of a constant, which it always has: without one it is the view of no line, as no name has an empty list after it
abbrev value_in : Option Expression → Expression
value_in None = Element [] End
value_in (Some value) = value

abbrev pub constant_entity_of : Entity → Value constant_entity
constant_entity_of e = (e.name, (option_map (λ v. map bound_of v.items) e.dims, value_in (option_map expression e.start)))

-- the bounds of an entity that has no value: with one it is the view of no line, as no list of bounds is empty
abbrev plain_bounds : Option Expression → Option (List (Value bound)) → Option (List (Value bound))
plain_bounds None dims = dims
plain_bounds (Some value) dims = Some []

abbrev pub plain_entity_of : Entity → Value plain_entity
plain_entity_of e = (e.name, plain_bounds (option_map expression e.start) (option_map (λ v. map bound_of v.items) e.dims))

abbrev pub constant_of : ConstDef → Value constant
constant_of c = (c.name, expression c.value)

abbrev pub assignment_of : Assignment → Value assignment
assignment_of a = (variable_of a.left, expression a.right)

abbrev pub axis_of : Header → Value axis
axis_of h = (h.name, (expression h.first, (expression h.last, option_map expression h.step)))

abbrev pub do_of : DoHead → Value do_head
do_of d = (d.index, (expression d.first, (expression d.last, option_map expression d.step)))

abbrev pub forall_of : ForallHead → Value forall_head
forall_of f = (map axis_of f.axes.items, option_map expression f.mask)

-- a declaration by PARAMETER, `::` and DIMENSION; without `::` none of the others stands, and no list of entities is empty
abbrev declared : Bool → Bool → Option (List (Value bound)) → List Entity → Value declaration
declared true true dims entities = inl (dims, map constant_entity_of entities)
declared false true (Some bounds) entities = inr (inl (bounds, map entity_of entities))
declared false true None entities = inr (inr (inl (map entity_of entities)))
declared false false None entities = inr (inr (inr (map plain_entity_of entities)))
declared constant colons dims entities = inr (inr (inr []))

abbrev pub declaration_of : IntegerDecl → Value declaration
declaration_of d = declared d.constant d.colons (option_map (λ v. map bound_of v.items) d.dims) d.entities.items

abbrev pub item_of : Item → Output
item_of i = output_of i

-- PRINT without items has no comma
abbrev pub items_of : List Item → Option (List Output)
items_of [] = None
items_of (i ∷ is) = Some (map item_of (i ∷ is))

-- END alone, or with PROGRAM and a name; no name is empty, so that END with a name and no PROGRAM is the view of no line
abbrev pub end_of : Bool → Option (List ℕ) → Option (Option (List ℕ))
end_of true name = Some name
end_of false None = None
end_of false (Some name) = Some (Some [])

abbrev pub IsOfKind : Type 0
IsOfKind = (k : Kind) × Value (grammar k)

abbrev pub action_of : Action → IsOfKind
action_of (action.Assign a) = (kind.Assign, assignment_of a)
action_of (action.Where mask one) = (kind.Where, (expression mask, Some (assignment_of one)))
action_of (action.Forall head one) = (kind.Forall, (forall_of head, Some (assignment_of one)))
action_of (action.Print items) = (kind.Print, items_of items.items)
action_of action.Stop = (kind.Stop, tt)
action_of action.Exit = (kind.Exit, tt)
action_of action.Cycle = (kind.Cycle, tt)
action_of action.Continue = (kind.Continue, tt)

abbrev pub form_of : Statement → StatementForm
form_of (statement.Program name) = Plain kind.Program name
form_of statement.ImplicitNone = Plain kind.ImplicitNone tt
form_of (statement.Integer d) = Plain kind.Integer (declaration_of d)
form_of (statement.Parameter cs) = Plain kind.Parameter (map constant_of cs.items)
form_of (statement.Action a) = let v = action_of a in Plain v.0 v.1
form_of (statement.IfOne cond a) = let v = action_of a in IfOne (expression cond) v.0 v.1
form_of (statement.IfThen cond) = Plain kind.IfThen (expression cond)
form_of (statement.ElseIf cond true) = Plain (kind.ElseIf true) (expression cond)
form_of (statement.ElseIf cond false) = Plain (kind.ElseIf false) (expression cond)
form_of statement.Else = Plain kind.Else tt
form_of (statement.EndIf true) = Plain (kind.EndIf true) tt
form_of (statement.EndIf false) = Plain (kind.EndIf false) tt
form_of (statement.Do d) = Plain kind.Do (do_of d)
form_of (statement.EndDo true) = Plain (kind.EndDo true) tt
form_of (statement.EndDo false) = Plain (kind.EndDo false) tt
form_of (statement.Where mask) = Plain kind.Where (expression mask, None)
form_of statement.ElseWhere = Plain (kind.ElseWhere true) tt
form_of (statement.EndWhere true) = Plain (kind.EndWhere true) tt
form_of (statement.EndWhere false) = Plain (kind.EndWhere false) tt
form_of (statement.Forall head) = Plain kind.Forall (forall_of head, None)
form_of (statement.EndForall true) = Plain (kind.EndForall true) tt
form_of (statement.EndForall false) = Plain (kind.EndForall false) tt
form_of (statement.End word name) = Plain kind.End (end_of word name)
