-- Of the claim.
-- The rules of nests of INDEPENDENT loops (HPF 2.0, 5.1), many of them restrictions of this language.
use Rattle.std.specs.Prelude.{ℕ, ℤ, Bool, true, false, ◌&&◌, ◌||◌, not, bytes_eq, List, [], ◌∷◌, ◌++◌, Option, Some, None, option_map}
use Rattle.std.specs.List.{list_all, flat_map}
use Rattle.hpf_base.specs.declared.refusal.Reason.TheVariants as reason
use Rattle.hpf_base.specs.declared.refusal.Refusal.{Refusal}
use Rattle.op_tables.specs.declared.join.Join.{Join}
use Rattle.op_tables.specs.contracts.join.JoinPartialEq.TheImpl.{eq-value}
use Rattle.op_tables.specs.Arguments.{is_reduction}
use Rattle.op_tables.specs.Operators.{is_zero}
use Rattle.syntax_tree.specs.Expression.{Expression, Name as Alone, Element, Call, Part, One, Parts}
use Rattle.syntax_tree.specs.Statement.{Variable, Axis, Independent, Block, designator}
use Rattle.expression_rules.specs.Constants.{value}
use Rattle.expression_rules.specs.declared.evaluated.Evaluated.{Evaluated}
use Rattle.expression_rules.specs.declared.evaluated.Evaluated.TheVariants.{Known}
use Rattle.expression_rules.specs.Inner.{present, axis_expressions, item_expressions, format_expressions}
use Rattle.expression_rules.specs.Symbols.{Name, is_among}
use Rattle.statement_walk.specs.Head.{Head}
use Rattle.statement_walk.specs.Head as head
use Rattle.statement_walk.specs.Heads.{PlacedHead, all_heads}
use Rattle.statement_walk.specs.Nests.{Loop, Nest}
use Rattle.declarations.specs.Reasons.{at, when}
use Rattle.name_table.specs.Entries.{declared_as}
use Rattle.name_table.specs.declared.names.Entry.{Entry}
use Rattle.body_forms.specs.Names.{BodyNames, is_scalar}
use Rattle.body_forms.specs.Subexpressions.{subexpressions, subexpressions_in_parts}
use Rattle.body_forms.specs.Subscripts.{has_linear_subscripts, indices_in, is_empty, items}
use Rattle.nest_check.specs.NestNames.{NestNames, nest_names, all_added, reduction_operator}
use Rattle.nest_check.specs.Paths.{ReachedHead, reached_heads}

-- ---- the form of subscripts

abbrev pub body_names : NestNames → BodyNames
body_names n = record { declared = n.declared; indices = n.indices; assigned = n.assigned }

-- each subscript in an expression is linear in at most one index
abbrev pub is_linear_inside : NestNames → Expression → Bool
is_linear_inside n e = list_all (has_linear_subscripts (body_names n)) (subexpressions e)

-- the expressions of a statement, also of one that may not stand in a nest
abbrev pub head_expressions : Head → List Expression
head_expressions (head.Assignment left right) = designator left ∷ right ∷ []
head_expressions (head.MaskedAssignment mask left right) = designator left ∷ right ∷ []
head_expressions (head.ForallAssignment axes left right) = designator left ∷ right ∷ []
head_expressions (head.Condition cond) = cond ∷ []
head_expressions (head.Independent m) = []
head_expressions (head.Do mark axis) = axis_expressions axis
head_expressions (head.Where mask) = mask ∷ []
head_expressions (head.Forall axes mask) = flat_map axis_expressions axes ++ present mask
head_expressions (head.Print printed) = flat_map item_expressions printed
head_expressions head.Transfer = []
head_expressions (head.Redistribute d) = flat_map format_expressions d.formats

abbrev pub are_linear_inside : NestNames → List Expression → Bool
are_linear_inside n es = list_all (is_linear_inside n) es

-- ---- what expressions may name

-- the variable of the reduction statement in which an expression stands
abbrev pub is_own : Name → Option Name → Bool
is_own x None = false
is_own x (Some y) = bytes_eq x y

-- a REDUCTION variable stands in its reduction statements alone, and the index of an inner loop inside a loop of that index
abbrev pub may_be_named : NestNames → List Name → Option Name → Name → Bool
may_be_named n do_variables own x =
    (not (is_among x n.reduction_names) || is_own x own) && (not (is_among x n.indices) || is_among x n.loops || is_among x do_variables)

-- no reduction stands in a nest
abbrev pub may_stand_in_nest : NestNames → List Name → Option Name → Expression → Bool
may_stand_in_nest n do_variables own (Alone x) = may_be_named n do_variables own x
may_stand_in_nest n do_variables own (Element x ps) = may_be_named n do_variables own x
may_stand_in_nest n do_variables own (Call o ps) = not (is_reduction o)
may_stand_in_nest n do_variables own e = true

abbrev pub is_allowed_in_nest : NestNames → List Name → Option Name → Expression → Bool
is_allowed_in_nest n do_variables own e = list_all (may_stand_in_nest n do_variables own) (subexpressions e)

-- ---- lists

-- a scalar variable that doesn't stand both among these NEW and among these REDUCTION variables
abbrev pub is_well_listed : NestNames → List Name → List Name → Name → Bool
is_well_listed n new reduction x = is_scalar (declared_as n.declared x) && not (is_among x new && is_among x reduction)

-- each name of the lists is one, where those of the nest and of this directive are taken together; and no index is a REDUCTION variable
abbrev pub are_well_listed : NestNames → Independent → Bool
are_well_listed n m =
    list_all (is_well_listed n (all_added n.new_names m.new) (all_added n.reduction_names m.reduction)) m.new
    && list_all (is_well_listed n (all_added n.new_names m.new) (all_added n.reduction_names m.reduction)) m.reduction
    && list_all (λ x. not (is_among x n.indices)) m.reduction

-- ---- bounds and steps of the loops inside the outermost one

-- of the form of a subscript, without an index
abbrev pub is_bound : NestNames → Expression → Bool
is_bound n e = is_empty (indices_in (body_names n) e)

abbrev pub is_nonzero : Evaluated ℤ → Bool
is_nonzero (Known n) = not (is_zero n)
is_nonzero v = false

-- a constant other than 0
abbrev pub is_step : NestNames → Expression → Bool
is_step n e = is_nonzero (value None n.constants e)

abbrev pub is_inner_axis : NestNames → Axis → Bool
is_inner_axis n a = is_bound n a.first && is_bound n a.last && list_all (is_step n) (present a.step)

abbrev pub is_axis_allowed : NestNames → List Name → Axis → Bool
is_axis_allowed n do_variables a = is_inner_axis n a && list_all (is_allowed_in_nest n do_variables None) (axis_expressions a)

-- ---- assignments

abbrev pub is_single : Part → Bool
is_single (One e) = true
is_single p = false

-- a scalar variable, or an element of an array
abbrev pub is_assignable : NestNames → Name → Option Parts → Bool
is_assignable n x None = is_scalar (declared_as n.declared x)
is_assignable n x (Some ps) = list_all is_single (items ps)

-- the first reduction statement of the variable has the same operator
abbrev pub has_one_operator : NestNames → Name → Option Join → Bool
has_one_operator n x None = true
has_one_operator n x (Some o) = list_all (λ p. not (bytes_eq x p.variable) || eq-value.it o p.operator) n.operators

abbrev pub own_variable : Name → Option Join → Option Name
own_variable x o = option_map (λ p. x) o

-- with the operator that it has as a reduction statement
abbrev pub is_assignment_allowed : NestNames → List Name → Variable → Expression → Option Join → Bool
is_assignment_allowed n do_variables left right o =
    is_assignable n left.name left.subscripts
    && (is_allowed_in_nest n do_variables (own_variable left.name o) (designator left) && is_allowed_in_nest n do_variables (own_variable left.name o) right)
    && has_one_operator n left.name o

-- ---- statements

-- an assignment, a condition, a list and an inner loop that isn't INDEPENDENT keep the rules; nothing else may stand in a nest
abbrev pub keeps_nest_rules : NestNames → List Name → Head → Bool
keeps_nest_rules n do_variables (head.Assignment left right) = is_assignment_allowed n do_variables left right (reduction_operator n.reduction_names left right)
keeps_nest_rules n do_variables (head.Condition cond) = is_allowed_in_nest n do_variables None cond
keeps_nest_rules n do_variables (head.Independent m) = are_well_listed n m
keeps_nest_rules n do_variables (head.Do None axis) = is_axis_allowed n do_variables axis
keeps_nest_rules n do_variables h = false

abbrev pub nest_breaches_at : NestNames → PlacedHead → List Refusal
nest_breaches_at n p =
    at p.line (when (not (are_linear_inside n (head_expressions p.what))) reason.BadSubscript
    ++ when (not (keeps_nest_rules n p.do_variables p.what)) reason.BadIndependent)

-- ---- paths

-- a NEW variable, indices aside, that some path hasn't assigned
abbrev pub is_unassigned : NestNames → List Name → Name → Bool
is_unassigned n xs x = is_among x n.new_names && not (is_among x n.indices || is_among x xs)

abbrev pub may_be_read : NestNames → List Name → Expression → Bool
may_be_read n xs (Alone x) = not (is_unassigned n xs x)
may_be_read n xs (Element x ps) = not (is_unassigned n xs x)
may_be_read n xs e = true

abbrev pub is_readable : NestNames → List Name → Expression → Bool
is_readable n xs e = list_all (may_be_read n xs) (subexpressions e)

abbrev pub subexpressions_after : Option Parts → List Expression
subexpressions_after None = []
subexpressions_after (Some ps) = subexpressions_in_parts ps

-- what a statement reads is assigned, and a loop stands under no IF
abbrev pub keeps_path_rules : NestNames → Bool → List Name → Head → Bool
keeps_path_rules n conditional xs (head.Assignment left right) =
    list_all (may_be_read n xs) (subexpressions_after left.subscripts) && is_readable n xs right
keeps_path_rules n conditional xs (head.Condition cond) = is_readable n xs cond
keeps_path_rules n conditional xs (head.Do mark axis) = not conditional && list_all (is_readable n xs) (axis_expressions axis)
keeps_path_rules n conditional xs h = true

abbrev pub path_breaches_at : NestNames → ReachedHead → List Refusal
path_breaches_at n r = at r.line (when (not (keeps_path_rules n r.is_conditional r.assigned r.what)) reason.BadIndependent)

-- ---- nests

-- the lists of a directive
abbrev pub list_breaches : NestNames → Independent → List Refusal
list_breaches n m = at m.line (when (not (are_well_listed n m)) reason.BadIndependent)

-- the bounds and the step of a loop inside the outermost one
abbrev pub axis_breaches : NestNames → ℕ → Axis → List Refusal
axis_breaches n line a =
    at line (when (not (are_linear_inside n (axis_expressions a))) reason.BadSubscript
    ++ when (not (is_axis_allowed n [] a && list_all (is_readable n []) (axis_expressions a))) reason.BadIndependent)

abbrev pub inner_loop_breaches : NestNames → Loop → List Refusal
inner_loop_breaches n l = list_breaches n l.mark ++ axis_breaches n l.line l.axis

abbrev pub loop_breaches : NestNames → List Loop → List Refusal
loop_breaches n [] = []
loop_breaches n (l ∷ ls) = list_breaches n l.mark ++ flat_map (inner_loop_breaches n) ls

abbrev pub body_part_breaches : NestNames → Block → List Refusal
body_part_breaches n b = flat_map (nest_breaches_at n) (all_heads b) ++ flat_map (path_breaches_at n) (reached_heads false [] b)

abbrev pub nest_breaches : List Entry → Nest → List Refusal
nest_breaches es t = loop_breaches (nest_names es t) t.loops ++ body_part_breaches (nest_names es t) t.body
