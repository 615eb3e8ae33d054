-- The REDISTRIBUTEs of statements, statement by statement.
use Rattle.std.proofs.Common.{◌≡◌, ℕ, Bool, List, [], ◌∷◌, ◌++◌, append_assoc, Option, Some, None, Global, map, refl, sym, ap, ◌∙◌}
use Rattle.std.specs.Prelude.{Vec, option_map}
use Rattle.std.proofs.lemmas.List.{append-nil}
use Rattle.std.proofs.lemmas.Grind.{flat_map-append}
use Rattle.syntax_tree.specs.declared.expr.Expr.{Expr}
use Rattle.syntax_tree.specs.declared.stmt.Arm.{Arm, out-Arm}
use Rattle.syntax_tree.specs.declared.stmt.DoLoop.{DoLoop, out-DoLoop}
use Rattle.syntax_tree.specs.declared.stmt.Header.{Header}
use Rattle.syntax_tree.specs.declared.stmt.StatementKind as StatementKind
use Rattle.syntax_tree.specs.declared.stmt.StatementKind.TheViews.{is-struct-Arm}
use Rattle.syntax_tree.specs.declared.stmt.Stmt.{Stmt}
use Rattle.syntax_tree.specs.Directive.{Distribution}
use Rattle.syntax_tree.specs.Expression.{Expression, expression}
use Rattle.syntax_tree.specs.Statement.{Assignment, Axis, Block, Independent, arms_of, assignments_of, axis, block_of, independent, statement}
use Rattle.syntax_tree.proofs.Rows.{block_vec, do_parts}
use Rattle.expression_rules.specs.Symbols.{Name}
use Rattle.statement_walk.specs.Head as head
use Rattle.statement_walk.specs.Heads.{PlacedHead, arm_heads, heads, independent_heads, indexed, masked, placed, statement_heads}
use Rattle.statement_walk.specs.Views.{arm_alone, elsewhere_of}
use Rattle.statement_walk.proofs.WalkSteps.{arm_step, axis_in, forall_heads, if_alone_heads, if_heads, where_heads}
use Rattle.directive_check.specs.Redistributes.{redistribute_of, redistributes}

both : (a b : List PlacedHead) → redistributes (a ++ b) ≡ redistributes a ++ redistributes b
both a b = flat_map-append (λ h. redistribute_of h.line h.what) a b

-- of a statement and those after it
pub statement_more : (xs : List Name) (s : Stmt) (ss : List Stmt) →
    redistributes (heads xs (block_of (s ∷ ss))) ≡ redistributes (statement_heads xs s.line (statement s.line s.what)) ++ redistributes (heads xs (block_of ss))
statement_more xs s ss = both (statement_heads xs s.line (statement s.line s.what)) (heads xs (block_of ss))

-- of an arm and those after it
inside_arm : (xs : List Name) (a : Arm) → redistributes (arm_alone xs a) ≡ redistributes (heads xs (block_of (out-Arm a).body.items))
inside_arm xs a =
    ap (λ x. redistributes (arm_alone xs x)) (is-struct-Arm a)
    ∙ ap (λ b. redistributes (placed xs (out-Arm a).line (head.Condition (expression (out-Arm a).cond)) ∷ heads xs b)) (block_vec (out-Arm a).body)

pub arm_more : (xs : List Name) (a : Arm) (as' : List Arm) →
    redistributes (arm_heads xs (arms_of (a ∷ as'))) ≡ redistributes (heads xs (block_of (out-Arm a).body.items)) ++ redistributes (arm_heads xs (arms_of as'))
arm_more xs a as' =
    ap redistributes (arm_step xs a as') ∙ both (arm_alone xs a) (arm_heads xs (arms_of as')) ∙ ap (λ l. l ++ redistributes (arm_heads xs (arms_of as'))) (inside_arm xs a)

-- of a DO
past_mark : (xs : List Name) (line : ℕ) (mark : Option Independent) (a : Axis) (b : Block) →
    redistributes (independent_heads xs mark ++ placed xs line (head.Do mark a) ∷ heads (xs ++ a.index ∷ []) b) ≡ redistributes (heads (xs ++ a.index ∷ []) b)
past_mark xs line None a b = refl
past_mark xs line (Some m) a b = refl

pub in_do : (xs : List Name) (line : ℕ) (k : StatementKind.StatementKind) (d : DoLoop) → k ≡ StatementKind.Do d →
    redistributes (heads (xs ++ (out-DoLoop d).index ∷ []) (block_of (out-DoLoop d).body.items)) ≡ redistributes (statement_heads xs line (statement line k))
in_do xs line k d is =
    sym (ap (λ k. redistributes (statement_heads xs line (statement line k))) is
    ∙ ap (λ s. redistributes (statement_heads xs line s)) (do_parts d)
    ∙ past_mark xs line (option_map independent (out-DoLoop d).mark) (axis_in d) (block_of (out-DoLoop d).body.items))

-- of an IF without ELSE, and with it
pub in_if_alone : (xs : List Name) (line : ℕ) (k : StatementKind.StatementKind) (as' : Vec Arm Global) (rest : Option (Vec Stmt Global)) (glued : Bool) →
    k ≡ StatementKind.If as' rest glued → rest ≡ None → redistributes (arm_heads xs (arms_of as'.items)) ≡ redistributes (statement_heads xs line (statement line k))
in_if_alone xs line k as' rest glued is none = ap redistributes (if_alone_heads xs line k as' rest glued is none)

pub in_if : (xs : List Name) (line : ℕ) (k : StatementKind.StatementKind) (as' : Vec Arm Global) (rest : Option (Vec Stmt Global)) (v : Vec Stmt Global) (glued : Bool)
    (before middle after : List (ℕ × Distribution)) → k ≡ StatementKind.If as' rest glued → rest ≡ Some v →
    middle ≡ before ++ redistributes (arm_heads xs (arms_of as'.items)) → after ≡ middle ++ redistributes (heads xs (block_of v.items)) →
    after ≡ before ++ redistributes (statement_heads xs line (statement line k))
in_if xs line k as' rest v glued before middle after is some arms more =
    let a = arm_heads xs (arms_of as'.items) in
    let b = heads xs (block_of v.items) in
    more
    ∙ ap (λ l. l ++ redistributes b) arms
    ∙ append_assoc before (redistributes a) (redistributes b)
    ∙ ap (λ l. before ++ l) (sym (both a b) ∙ ap redistributes (if_heads xs line k as' rest v glued is some))

-- of WHERE and FORALL
none_masked : (xs : List Name) (mask : Expression) (as' : List Assignment) → redistributes (masked xs mask as') ≡ []
none_masked xs mask [] = refl
none_masked xs mask (a ∷ as') = none_masked xs mask as'

none_indexed : (xs : List Name) (axes : List Axis) (as' : List Assignment) → redistributes (indexed xs axes as') ≡ []
none_indexed xs axes [] = refl
none_indexed xs axes (a ∷ as') = none_indexed xs axes as'

after_none : (before more : List (ℕ × Distribution)) → more ≡ [] → before ≡ before ++ more
after_none before more none = sym (ap (λ l. before ++ l) none ∙ append-nil before)

pub none_in_where : (xs : List Name) (line : ℕ) (k : StatementKind.StatementKind) (mask : Expr) (v : Vec Stmt Global) (rest : Option (Vec Stmt Global)) (one glued : Bool)
    (before : List (ℕ × Distribution)) → k ≡ StatementKind.Where mask v rest one glued → before ≡ before ++ redistributes (statement_heads xs line (statement line k))
none_in_where xs line k mask v rest one glued before is =
    let first = masked xs (expression mask) (assignments_of v.items) in
    let last = masked xs (expression mask) (elsewhere_of rest) in
    after_none before (redistributes (statement_heads xs line (statement line k)))
    (ap redistributes (sym (where_heads xs line k mask v rest one glued is)) ∙ both first last
    ∙ (λ i. none_masked xs (expression mask) (assignments_of v.items) i ++ none_masked xs (expression mask) (elsewhere_of rest) i))

pub none_in_forall : (xs : List Name) (line : ℕ) (k : StatementKind.StatementKind) (axes : Vec Header Global) (mask : Option Expr) (v : Vec Stmt Global) (one glued marked : Bool)
    (before : List (ℕ × Distribution)) → k ≡ StatementKind.Forall axes mask v one glued marked → before ≡ before ++ redistributes (statement_heads xs line (statement line k))
none_in_forall xs line k axes mask v one glued marked before is =
    after_none before (redistributes (statement_heads xs line (statement line k)))
    (ap redistributes (sym (forall_heads xs line k axes mask v one glued marked is)) ∙ none_indexed xs (map axis axes.items) (assignments_of v.items))
