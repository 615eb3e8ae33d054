-- Assignments of a nest are none of whole arrays, so none is a transformation.
use Rattle.std.proofs.Common.{◌≡◌, ℕ, Bool, true, true≢false, List, [], Option, Some, None, refl, sym, ap}
use Rattle.std.specs.Prelude.{◌&&◌}
use Rattle.syntax_tree.specs.Expression.{Expression, Parts}
use Rattle.syntax_tree.specs.Statement as syntax
use Rattle.syntax_tree.specs.Statement.{designator}
use Rattle.expression_rules.specs.Symbols.{Name}
use Rattle.statement_walk.specs.Head as head
use Rattle.statement_walk.specs.Heads.{placed}
use Rattle.name_table.specs.Entries.{declared_as}
use Rattle.name_table.specs.declared.names.Entry.{Entry}
use Rattle.name_table.specs.declared.names.What.{What}
use Rattle.name_table.specs.declared.names.What.TheVariants as what
use Rattle.body_forms.specs.Names.{is_scalar}
use Rattle.nest_check.specs.NestNames.{NestNames, reduction_operator}
use Rattle.nest_check.specs.NestRules.{is_allowed_in_nest, is_assignable, has_one_operator, own_variable}
use Rattle.array_meaning.specs.Statements.{Statement, WholeArray, Transformation, Transform}
use Rattle.array_meaning.specs.Resolution.{place_of, array_of, whole_array, transformation_of, transform_between, transform_or, assignment, left_of, term_of, resolved}
use Rattle.name_table.proofs.Tests.{both}
use Rattle.nest_standing.proofs.Ruled.{IsKept}

-- what holds of transformations and of another statement
module _ (P : Statement → Type 0) (names : List Entry) (transforms : (x y : WholeArray) (how : Transformation) → P (Transform x y how)) where
  between : (x y : Option WholeArray) (how : Transformation) (other : Statement) → P other → P (transform_between x y how other)
  between (Some x) (Some y) how other h = transforms x y how
  between (Some x) None how other h = h
  between None y how other h = h

  pub either_statement : (left : Expression) (p : Option (Expression × Transformation)) (other : Statement) → P other → P (transform_or names left p other)
  either_statement left None other h = h
  either_statement left (Some p) other h = between (whole_array names left) (whole_array names p.0) p.1 other h

-- where no whole array is on the left, it is the other statement
no_transform : (names : List Entry) (left : Expression) → whole_array names left ≡ None → (p : Option (Expression × Transformation)) (other : Statement) → transform_or names left p other ≡ other
no_transform names left none None other = refl
no_transform names left none (Some p) other = ap (λ x. transform_between x (whole_array names p.0) p.1 other) none

no_array : (k : ℕ) (w : Option What) → is_scalar w ≡ true → array_of k w ≡ None
no_array k (Some (what.Scalar v)) h = refl
no_array k w h = absurd (true≢false (sym h))

-- the left side of an assignment that keeps the rules
pub assignable : (n : NestNames) (xs : List Name) (x : Name) (subs : Option Parts) (line : ℕ) (right : Expression)
    → IsKept n (placed xs line (head.Assignment (record { name = x; subscripts = subs }) right)) → is_assignable n x subs ≡ true
assignable n xs x subs line right kept =
    let left : syntax.Variable = record { name = x; subscripts = subs } in
    let own : Option Name = own_variable x (reduction_operator n.reduction_names left right) in
    let pair : Bool = is_allowed_in_nest n xs own (designator left) && is_allowed_in_nest n xs own right in
    (both (is_assignable n x subs) pair
    (both (is_assignable n x subs && pair) (has_one_operator n x (reduction_operator n.reduction_names left right)) kept.rules).0).0

not_whole : (n : NestNames) (x : Name) (subs : Option Parts) → is_assignable n x subs ≡ true → whole_array n.declared (designator (record { name = x; subscripts = subs })) ≡ None
not_whole n x None h = no_array (place_of n.declared x) (declared_as n.declared x) h
not_whole n x (Some ps) h = refl

pub plain_assignment : (n : NestNames) (xs : List Name) (line : ℕ) (left : syntax.Variable) (right : Expression) → IsKept n (placed xs line (head.Assignment left right))
    → resolved n.declared (syntax.Assign left right) ≡ assignment (left_of n.declared [] left) (term_of n.declared [] right)
plain_assignment n xs line left right kept =
    no_transform n.declared (designator left) (not_whole n left.name left.subscripts (assignable n xs left.name left.subscripts line right kept))
    (transformation_of n.declared right) (assignment (left_of n.declared [] left) (term_of n.declared [] right))
