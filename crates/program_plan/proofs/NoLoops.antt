-- Statements that are no loops.
use Rattle.std.proofs.Common.{◌≡◌, ℕ, List, [], Option, Some, None, refl}
use Rattle.name_table.specs.declared.names.Entry.{Entry}
use Rattle.syntax_tree.specs.declared.stmt.DoLoop.{DoLoop}
use Rattle.syntax_tree.specs.declared.stmt.StatementKind as StatementKind
use Rattle.syntax_tree.specs.declared.stmt.StatementKind.TheBlock.{Assign as Assign', Do as Do'}
use Rattle.syntax_tree.specs.Expression.{Expression, expression}
use Rattle.syntax_tree.specs.Statement as syntax
use Rattle.array_meaning.specs.Terms.{Term, Scalar, Element, Section}
use Rattle.array_meaning.specs.Statements.{Done, Then, Statement, WholeArray, Transformation, Unmarked}
use Rattle.array_meaning.specs.Resolution.{assignment, inner_mark, left_of, resolved, term_of, transform_between, transform_or, transformation_of, whole_array}
use Rattle.program_plan.specs.Nests.{with_nest}

-- it has no mark, and none is taken from it
abbrev pub IsNoLoop : Statement → Type 0
IsNoLoop s = ((line : ℕ) → Unmarked ≡ inner_mark (Then line s Done)) × (with_nest None s ≡ s)

assignment_none : (t u : Term) → IsNoLoop (assignment t u)
assignment_none (Scalar k) u = (λ line. refl, refl)
assignment_none (Element a ts) u = (λ line. refl, refl)
assignment_none (Section a subs) u = (λ line. refl, refl)
assignment_none t u = (λ line. refl, refl)

between_none : (x y : Option WholeArray) (how : Transformation) (other : Statement) → IsNoLoop other → IsNoLoop (transform_between x y how other)
between_none (Some x) (Some y) how other none = (λ line. refl, refl)
between_none (Some x) None how other none = none
between_none None y how other none = none

transform_none : (names : List Entry) (left : Expression) (p : Option (Expression × Transformation)) (other : Statement) → IsNoLoop other → IsNoLoop (transform_or names left p other)
transform_none names left None other none = none
transform_none names left (Some p) other none = between_none (whole_array names left) (whole_array names p.0) p.1 other none

pub no_loop : (names : List Entry) (line : ℕ) (k : StatementKind.StatementKind) → ((d : DoLoop) → k ≡ StatementKind.Do d → ⊥) → IsNoLoop (resolved names (syntax.statement line k))
no_loop names line (Assign' left right) none =
    transform_none names (syntax.designator (syntax.variable left)) (transformation_of names (expression right)) _
    (assignment_none (left_of names [] (syntax.variable left)) (term_of names [] (expression right)))
no_loop names line (Do' d) none = absurd (none d refl)
no_loop names line k none = (λ line. refl, refl)
