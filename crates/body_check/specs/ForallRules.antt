-- Of the claim.
-- The rules of FORALL (Fortran 95, 7.5.4): its header names none of its indices, and its subscripts are linear. That no reduction stands
-- in it is a restriction of this language.
use Rattle.std.specs.Prelude.{Bool, true, false, ◌&&◌, not, List, []}
use Rattle.std.specs.List.{list_all, flat_map}
use Rattle.hpf_base.specs.declared.refusal.Reason.TheVariants as reason
use Rattle.hpf_base.specs.declared.refusal.Refusal.{Refusal}
use Rattle.op_tables.specs.Arguments.{is_reduction}
use Rattle.syntax_tree.specs.Expression.{Expression, Name as Alone, Element, Call}
use Rattle.syntax_tree.specs.Statement.{Axis, designator}
use Rattle.expression_rules.specs.Symbols.{is_among}
use Rattle.expression_rules.specs.Inner.{present, axis_expressions}
use Rattle.statement_walk.specs.Head.{Head}
use Rattle.statement_walk.specs.Head as head
use Rattle.statement_walk.specs.Heads.{PlacedHead, indices_of}
use Rattle.declarations.specs.Reasons.{at, when}
use Rattle.name_table.specs.declared.names.Entry.{Entry}
use Rattle.body_forms.specs.Names.{BodyNames}
use Rattle.body_forms.specs.Subexpressions.{subexpressions}
use Rattle.body_forms.specs.Subscripts.{has_linear_subscripts}

-- a FORALL assigns elements of arrays, and no scalar
abbrev pub forall_names : List Entry → List Axis → BodyNames
forall_names es axes = record { declared = es; indices = indices_of axes; assigned = [] }

abbrev pub is_reduction_call : Expression → Bool
is_reduction_call (Call o ps) = is_reduction o
is_reduction_call e = false

-- an index, with or without subscripts after it
abbrev pub is_index : BodyNames → Expression → Bool
is_index b (Alone x) = is_among x b.indices
is_index b (Element x ps) = is_among x b.indices
is_index b e = false

-- what may stand inside the expressions of a FORALL, and inside the bounds and steps of its header
abbrev pub may_stand : BodyNames → Expression → Bool
may_stand b e = not (is_reduction_call e) && has_linear_subscripts b e

abbrev pub may_stand_in_header : BodyNames → Expression → Bool
may_stand_in_header b e = may_stand b e && not (is_index b e)

-- an expression with all that is inside it
abbrev pub is_allowed : BodyNames → Expression → Bool
is_allowed b e = list_all (may_stand b) (subexpressions e)

abbrev pub is_allowed_in_header : BodyNames → Expression → Bool
is_allowed_in_header b e = list_all (may_stand_in_header b) (subexpressions e)

-- a header of a FORALL, or an assignment of one, keeps the rules; nothing else breaks them
abbrev pub keeps_forall_rules : List Entry → Head → Bool
keeps_forall_rules es (head.Forall axes mask) =
    list_all (is_allowed_in_header (forall_names es axes)) (flat_map axis_expressions axes)
    && list_all (is_allowed (forall_names es axes)) (present mask)
keeps_forall_rules es (head.ForallAssignment axes left right) =
    is_allowed (forall_names es axes) (designator left) && is_allowed (forall_names es axes) right
keeps_forall_rules es h = true

abbrev pub forall_breaches_at : List Entry → PlacedHead → List Refusal
forall_breaches_at es p = at p.line (when (not (keeps_forall_rules es p.what)) reason.BadSubscript)
