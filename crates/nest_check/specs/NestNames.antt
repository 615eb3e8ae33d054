-- Of the claim.
-- What the names in a nest of INDEPENDENT loops stand for (HPF 2.0, 5.1).
use Rattle.std.specs.Prelude.{bytes_eq, List, [], ◌∷◌, ◌++◌, map, length, Option, Some, None, if◌then◌else◌}
use Rattle.std.specs.List.{list_any, flat_map}
use Rattle.op_tables.specs.declared.join.Join.{Join}
use Rattle.syntax_tree.specs.Expression.{Expression, Parts}
use Rattle.syntax_tree.specs.Statement.{Variable, Block, Done, Then, Statement, Assign, If, Do, Arms, NoArm, Arm, Otherwise, Without, With}
use Rattle.expression_rules.specs.Symbols.{Name, SymbolTable, is_among, changed}
use Rattle.expression_rules.specs.declared.symbols.Symbol.TheVariants as symbol
use Rattle.statement_walk.specs.Head.{Head}
use Rattle.statement_walk.specs.Head as head
use Rattle.statement_walk.specs.Nests.{Nest}
use Rattle.name_table.specs.declared.names.Entry.{Entry}
use Rattle.name_table.specs.declared.names.What.{What}
use Rattle.name_table.specs.declared.names.What.TheVariants.{Constant, Array}
use Rattle.nest_check.specs.declared.nest_names.Operator.{Operator}
use Rattle.nest_check.specs.ReductionStatements.{operator_in}

-- ---- lists in which each name stands once, at its first place

abbrev pub added : List Name → Name → List Name
added xs x = if is_among x xs then xs else xs ++ x ∷ []

abbrev pub all_added : List Name → List Name → List Name
all_added xs [] = xs
all_added xs (y ∷ ys) = all_added (added xs y) ys

abbrev pub distinct : List Name → List Name
distinct xs = all_added [] xs

-- lists of operators, in which the first one of each variable stands
abbrev pub operator_added : List Operator → Operator → List Operator
operator_added os o = if list_any (λ p. bytes_eq o.variable p.variable) os then os else os ++ o ∷ []

abbrev pub operators_added : List Operator → List Operator → List Operator
operators_added os [] = os
operators_added os (o ∷ more) = operators_added (operator_added os o) more

-- ---- what constant expressions may name: constants, and arrays for their bounds

abbrev pub with_constant : SymbolTable → Name → What → SymbolTable
with_constant t x (Constant n) = changed x (symbol.Constant (Some n)) t
with_constant t x (Array ds n) = changed x (symbol.Array (length ds) (Some ds) (Some n)) t
with_constant t x w = t

abbrev pub with_constants : SymbolTable → List Entry → SymbolTable
with_constants t [] = t
with_constants t (e ∷ es) = with_constants (with_constant t e.name e.what) es

abbrev pub constant_symbols : List Entry → SymbolTable
constant_symbols es = with_constants [] es

-- ---- the assignments and the inner loops of a nest's body

-- in the order of the text; assignments of WHERE and FORALL aren't among them, since they may not stand in a nest
abbrev mutual
  pub inner_heads : Block → List Head
  inner_heads Done = []
  inner_heads (Then line s b) = heads_in s ++ inner_heads b

  pub heads_in : Statement → List Head
  heads_in (Assign left right) = head.Assignment left right ∷ []
  heads_in (If arms rest) = heads_in_arms arms ++ heads_in_rest rest
  heads_in (Do mark axis b) = head.Do mark axis ∷ inner_heads b
  heads_in s = []

  pub heads_in_arms : Arms → List Head
  heads_in_arms NoArm = []
  heads_in_arms (Arm line cond b arms) = inner_heads b ++ heads_in_arms arms

  pub heads_in_rest : Otherwise → List Head
  heads_in_rest Without = []
  heads_in_rest (With b) = inner_heads b

abbrev pub do_variable_of : Head → List Name
do_variable_of (head.Do mark axis) = axis.index ∷ []
do_variable_of h = []

-- a variable without subscripts
abbrev pub alone : Name → Option Parts → List Name
alone x None = x ∷ []
alone x (Some ps) = []

abbrev pub scalar_assigned : Head → List Name
scalar_assigned (head.Assignment left right) = alone left.name left.subscripts
scalar_assigned h = []

-- ---- reduction statements

abbrev pub operator_if : Option Parts → List Name → Name → Expression → Option Join
operator_if None xs x right = if is_among x xs then operator_in x right else None
operator_if (Some ps) xs x right = None

-- the operator of a reduction statement, where these are the variables of the REDUCTION lists; None of any other assignment
abbrev pub reduction_operator : List Name → Variable → Expression → Option Join
reduction_operator xs left right = operator_if left.subscripts xs left.name right

abbrev pub operator_of : Name → Option Join → List Operator
operator_of x None = []
operator_of x (Some o) = record { variable = x; operator = o } ∷ []

abbrev pub operators_of : List Name → Head → List Operator
operators_of xs (head.Assignment left right) = operator_of left.name (reduction_operator xs left right)
operators_of xs h = []

-- ---- the names of a nest

pub record NestNames : Type 0 where
  pub declared : List Entry
  -- the declared constants and arrays
  pub constants : SymbolTable
  -- the indices of its loops, outermost first; with them those of the loops in its body
  pub loops : List Name
  pub indices : List Name
  -- the scalars that its body assigns
  pub assigned : List Name
  -- its NEW and REDUCTION lists, joined
  pub new_names : List Name
  pub reduction_names : List Name
  -- the operator of the first reduction statement of each variable
  pub operators : List Operator

abbrev pub nest_indices : Nest → List Name
nest_indices t = map (λ l. l.axis.index) t.loops

abbrev pub reductions : Nest → List Name
reductions t = distinct (flat_map (λ l. l.mark.reduction) t.loops)

abbrev pub nest_names : List Entry → Nest → NestNames
nest_names es t = record {
  declared = es;
  constants = constant_symbols es;
  loops = nest_indices t;
  indices = distinct (nest_indices t ++ flat_map do_variable_of (inner_heads t.body));
  assigned = distinct (flat_map scalar_assigned (inner_heads t.body));
  new_names = distinct (flat_map (λ l. l.mark.new) t.loops);
  reduction_names = reductions t;
  operators = operators_added [] (flat_map (operators_of (reductions t)) (inner_heads t.body));
}
