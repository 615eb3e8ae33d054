-- Statements and their blocks, as they lie in memory.
use Rattle.std.proofs.Common.{◌≡◌, ℕ, Bool, List, [], ◌∷◌, map, length, Option, Some, None, Global, refl, sym, ap, ◌∙◌}
use Rattle.std.specs.Prelude.{Vec, option_map}
use Rattle.name_table.specs.declared.names.Entry.{Entry}
use Rattle.syntax_tree.specs.declared.expr.Expr.{Expr}
use Rattle.syntax_tree.specs.declared.stmt.Arm.{Arm as HeldArm, out-Arm}
use Rattle.syntax_tree.specs.declared.stmt.Header.{Header}
use Rattle.syntax_tree.specs.declared.stmt.Stmt.{Stmt}
use Rattle.syntax_tree.specs.declared.stmt.StatementKind as StatementKind
use Rattle.syntax_tree.specs.declared.stmt.StatementKind.TheViews.{is-struct-Arm}
use Rattle.syntax_tree.specs.Expression.{expression}
use Rattle.syntax_tree.specs.Statement as syntax
use Rattle.syntax_tree.specs.Statement.{assignments_of, axis}
use Rattle.syntax_tree.proofs.Rows.{arms_vec, assignments_vec, block_vec}
use Rattle.array_meaning.specs.Statements.{Arm, Done, If, Unmarked, Where}
use Rattle.array_meaning.specs.Resolution.{inner_mark, resolved, resolved_arms, resolved_block, section_assignments, term_of, with_inner_unmarked}
use Rattle.program_plan.proofs.NestLaws.{two}

-- ---- statements of a tree

pub if_else : (names : List Entry) (line : ℕ) (k : StatementKind.StatementKind) (as' : Vec HeldArm Global) (rest : Option (Vec Stmt Global)) (v : Vec Stmt Global) (glued : Bool) →
    k ≡ StatementKind.If as' rest glued → rest ≡ Some v →
    If (resolved_arms names (syntax.arms_of as'.items)) (resolved_block names (syntax.block_of v.items)) ≡ resolved names (syntax.statement line k)
if_else names line k as' rest v glued is some =
    sym (ap (λ k. resolved names (syntax.statement line k)) (is ∙ ap (λ r. StatementKind.If as' r glued) some)
    ∙ (λ i. If (resolved_arms names (arms_vec as' i)) (resolved_block names (block_vec v i))))

pub if_alone : (names : List Entry) (line : ℕ) (k : StatementKind.StatementKind) (as' : Vec HeldArm Global) (rest : Option (Vec Stmt Global)) (glued : Bool) →
    k ≡ StatementKind.If as' rest glued → rest ≡ None → If (resolved_arms names (syntax.arms_of as'.items)) Done ≡ resolved names (syntax.statement line k)
if_alone names line k as' rest glued is none =
    sym (ap (λ k. resolved names (syntax.statement line k)) (is ∙ ap (λ r. StatementKind.If as' r glued) none)
    ∙ ap (λ x. If (resolved_arms names x) Done) (arms_vec as'))

pub where_else : (names : List Entry) (line : ℕ) (k : StatementKind.StatementKind) (mask : Expr) (body : Vec Stmt Global) (rest : Option (Vec Stmt Global)) (v : Vec Stmt Global) (one glued : Bool) →
    k ≡ StatementKind.Where mask body rest one glued → rest ≡ Some v →
    Where (term_of names [] (expression mask)) (section_assignments names (assignments_of body.items)) (section_assignments names (assignments_of v.items)) ≡ resolved names (syntax.statement line k)
where_else names line k mask body rest v one glued is some =
    sym (ap (λ k. resolved names (syntax.statement line k)) (is ∙ ap (λ r. StatementKind.Where mask body r one glued) some)
    ∙ (λ i. Where (term_of names [] (expression mask)) (section_assignments names (assignments_vec body i)) (section_assignments names (assignments_vec v i))))

pub where_alone : (names : List Entry) (line : ℕ) (k : StatementKind.StatementKind) (mask : Expr) (body : Vec Stmt Global) (rest : Option (Vec Stmt Global)) (one glued : Bool) →
    k ≡ StatementKind.Where mask body rest one glued → rest ≡ None →
    Where (term_of names [] (expression mask)) (section_assignments names (assignments_of body.items)) [] ≡ resolved names (syntax.statement line k)
where_alone names line k mask body rest one glued is none =
    sym (ap (λ k. resolved names (syntax.statement line k)) (is ∙ ap (λ r. StatementKind.Where mask body r one glued) none)
    ∙ ap (λ b. Where (term_of names [] (expression mask)) (section_assignments names b) []) (assignments_vec body))

pub forall_is : (names : List Entry) (line : ℕ) (k : StatementKind.StatementKind) (axes : Vec Header Global) (mask : Option Expr) (body : Vec Stmt Global) (one glued marked : Bool) →
    k ≡ StatementKind.Forall axes mask body one glued marked →
    resolved names (syntax.Forall (map axis axes.items) (option_map expression mask) (assignments_of body.items)) ≡ resolved names (syntax.statement line k)
forall_is names line k axes mask body one glued marked is =
    sym (ap (λ k. resolved names (syntax.statement line k)) is
    ∙ ap (λ b. resolved names (syntax.Forall (map axis axes.items) (option_map expression mask) b)) (assignments_vec body))

-- an arm of a tree, by its fields
pub resolved_arm : (names : List Entry) (a : HeldArm) (as' : List HeldArm) → resolved_arms names (syntax.arms_of (a ∷ as'))
    ≡ Arm (out-Arm a).line (term_of names [] (expression (out-Arm a).cond)) (resolved_block names (syntax.block_of (out-Arm a).body.items)) (resolved_arms names (syntax.arms_of as'))
resolved_arm names a as' =
    ap (λ a. resolved_arms names (syntax.arms_of (a ∷ as'))) (is-struct-Arm a)
    ∙ ap (λ b. Arm (out-Arm a).line (term_of names [] (expression (out-Arm a).cond)) (resolved_block names b) (resolved_arms names (syntax.arms_of as'))) (block_vec (out-Arm a).body)

-- ---- loops that aren't marked

-- a block that isn't one statement
pub other_count : (names : List Entry) (ss : List Stmt) → (length ss ≡ 1 → ⊥) →
    (with_inner_unmarked (resolved_block names (syntax.block_of ss)) ≡ resolved_block names (syntax.block_of ss)) × (inner_mark (resolved_block names (syntax.block_of ss)) ≡ Unmarked)
other_count names [] h = (refl, refl)
other_count names (s ∷ []) h = absurd (h refl)
other_count names (s ∷ r ∷ ss) h =
    two s.line r.line (resolved names (syntax.statement s.line s.what)) (resolved names (syntax.statement r.line r.what)) (resolved_block names (syntax.block_of ss))
