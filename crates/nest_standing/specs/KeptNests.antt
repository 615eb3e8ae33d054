-- Of a promise.
-- A nest of a program that breaks no rule, resolved: by its form it is a nest.
use Rattle.std.specs.Prelude.{◌≡◌, ℕ, List, [], true, Some, None}
use Rattle.std.specs.List.{AllByRecursion}
use Rattle.syntax_tree.specs.Expression.{Expression}
use Rattle.syntax_tree.specs.Statement as syntax
use Rattle.syntax_tree.specs.Statement.{Axis, Independent}
use Rattle.statement_walk.specs.Nests.{Nest as NamedNest, loop, in_loop, nest_in}
use Rattle.expression_rules.specs.Constants.{value}
use Rattle.name_table.specs.declared.names.Entry.{Entry}
use Rattle.nest_check.specs.NestNames.{NestNames, constant_symbols, nest_names}
use Rattle.nest_check.specs.NestRules.{is_nonzero}
use Rattle.array_meaning.specs.Statements.{Nest, Do, Outermost}
use Rattle.array_meaning.specs.Resolution.{control_of, term_of, loop_of, with_inner_unmarked, resolved, resolved_block}
use Rattle.fitting_states.specs.FittingStates.{ControlFits, BlockFits}
use Rattle.nest_items.specs.NestForm.{IsStep}
use Rattle.nest_items.specs.BlockForms.{HasForm}

-- the nest of a DO at a line, which is its outermost loop
abbrev pub nest_of : ℕ → Independent → Axis → syntax.Block → NamedNest
nest_of line m axis b = in_loop (loop line m axis) (nest_in b)

-- what its names stand for
abbrev pub names_of : List Entry → ℕ → Independent → Axis → syntax.Block → NestNames
names_of es line m axis b = nest_names es (nest_of line m axis b)

-- a step, which the rules ask to be a constant other than 0, is one in the resolved program too
abbrev pub StepsAre : List Entry → Type 0
StepsAre es = (x : Expression) → is_nonzero (value None (constant_symbols es) x) ≡ true → IsStep (term_of es [] x)

-- the numbers in a nest are of 64 bits
pub record FitsNest (es : List Entry) (b : syntax.Block) : Type 0 where
  pub loops : AllByRecursion (λ l. ControlFits (control_of es [] l.axis)) (nest_in b).loops
  pub body : BlockFits (resolved_block es (nest_in b).body)

-- the DO with this mark, resolved, is a nest by its form
pub record IsKeptNest (es : List Entry) (m : Independent) (axis : Axis) (b : syntax.Block) : Type 0 where
  pub nest : Nest
  pub is : resolved es (syntax.Do (Some m) axis b) ≡ Do (Outermost nest (resolved_block es (nest_in b).body)) (loop_of es axis) (with_inner_unmarked (resolved_block es b))
  pub form : HasForm nest (loop_of es axis) (with_inner_unmarked (resolved_block es b)) (resolved_block es (nest_in b).body)
