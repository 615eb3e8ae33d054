-- Symbol each statement of a walk gives.
use Rattle.std.proofs.Common.{◌≡◌, ℕ, Bool, List, [], ◌∷◌, ◌++◌, Option, Some, None, Global, refl, sym, ap, ◌∙◌, map}
use Rattle.std.specs.Prelude.{Vec, Box, option_map}
use Rattle.std.specs.List.{flat_map}
use Rattle.std.proofs.lemmas.List.{append-nil}
use Rattle.hpf_base.specs.declared.refusal.Refusal.{Refusal}
use Rattle.syntax_tree.specs.declared.expr.Expr.{Expr}
use Rattle.syntax_tree.specs.declared.stmt.Stmt.{Stmt}
use Rattle.syntax_tree.specs.declared.stmt.Arm.{Arm as HeldArm, out-Arm}
use Rattle.syntax_tree.specs.declared.stmt.DoLoop.{DoLoop, out-DoLoop}
use Rattle.syntax_tree.specs.declared.stmt.Header.{Header}
use Rattle.syntax_tree.specs.declared.stmt.StatementKind as StatementKind
use Rattle.syntax_tree.specs.declared.stmt.StatementKind.TheBlock.{struct-Arm, hidden-the_row-Arm-0, back-StatementKind-If-1}
use Rattle.syntax_tree.specs.Expression.{Expression, expression}
use Rattle.syntax_tree.specs.Statement.{Axis, arms, axis, block_of, do_construct, independent, rest_assignments, statement}
use Rattle.expression_rules.specs.Symbols.{Name}
use Rattle.hpf_base.specs.FirstBreach.{earlier, least}
use Rattle.statement_walk.specs.Heads.{PlacedHead, arm_heads, placed, heads, indexed, independent_heads, masked, statement_heads}
use Rattle.statement_walk.specs.Head as head
use Rattle.statement_walk.specs.Views.{arm_alone, elsewhere_of}
use Rattle.syntax_tree.specs.Statement.{arms_of, assignments_in, assignments_of}
use Rattle.expression_rules.proofs.Turns.{least_both, least_more}
use Rattle.statement_walk.proofs.StatementRows.{arm_parts}
use Rattle.syntax_tree.proofs.Rows.{do_parts, arms_vec, assignments_vec, block_vec}

-- one, and what allows inside it
pub more_first : (f : PlacedHead → List Refusal) (p : PlacedHead) (xs ys : List PlacedHead) (own inside result : Option Refusal) →
    own ≡ least (f p) → inside ≡ least (flat_map f xs) → result ≡ earlier own inside → p ∷ xs ≡ ys → result ≡ least (flat_map f ys)
more_first f p xs ys own inside result a b is same =
    is ∙ (λ i. earlier (a i) (b i)) ∙ sym (least_more f p xs) ∙ ap (λ l. least (flat_map f l)) same

-- two lists, one after the other
pub both_first : (f : PlacedHead → List Refusal) (xs ys zs : List PlacedHead) (first last result : Option Refusal) →
    first ≡ least (flat_map f xs) → last ≡ least (flat_map f ys) → result ≡ earlier first last → xs ++ ys ≡ zs → result ≡ least (flat_map f zs)
both_first f xs ys zs first last result a b is same =
    is ∙ (λ i. earlier (a i) (b i)) ∙ sym (least_both f xs ys) ∙ ap (λ l. least (flat_map f l)) same

-- an arm
pub arm_first : (f : PlacedHead → List Refusal) (do_variables : List Name) (a : HeldArm) (own inside result : Option Refusal) →
    own ≡ least (f (placed do_variables (out-Arm a).line (head.Condition (expression (out-Arm a).cond)))) →
    inside ≡ least (flat_map f (heads do_variables (block_of (out-Arm a).body.items))) → result ≡ earlier own inside →
    result ≡ least (flat_map f (arm_alone do_variables a))
arm_first f do_variables a own inside result x y is =
    more_first f (placed do_variables (out-Arm a).line (head.Condition (expression (out-Arm a).cond))) (heads do_variables (block_of (out-Arm a).body.items))
    (arm_alone do_variables a) own inside result x y is (sym (arm_parts do_variables a))

-- a DO
abbrev pub axis_in : DoLoop → Axis
axis_in d = record {
  index = (out-DoLoop d).index;
  first = expression (out-DoLoop d).first;
  last = expression (out-DoLoop d).last;
  step = option_map expression
      (out-DoLoop d).step;
}

pub do_first : (f : PlacedHead → List Refusal) (do_variables pushed : List Name) (line : ℕ) (d : DoLoop) (marked looped inside more result : Option Refusal) →
    marked ≡ least (flat_map f (independent_heads do_variables (option_map independent (out-DoLoop d).mark))) →
    looped ≡ least (f (placed do_variables line (head.Do (option_map independent (out-DoLoop d).mark) (axis_in d)))) →
    pushed ≡ do_variables ++ (out-DoLoop d).index ∷ [] →
    inside ≡ least (flat_map f (heads pushed (block_of (out-DoLoop d).body.items))) →
    more ≡ earlier looped inside → result ≡ earlier marked more →
    result ≡ least (flat_map f (statement_heads do_variables line (do_construct d)))
do_first f do_variables pushed line d marked looped inside more result a b push w m is =
    let own = placed do_variables line (head.Do (option_map independent (out-DoLoop d).mark) (axis_in d)) in
    let body = heads (do_variables ++ (out-DoLoop d).index ∷ []) (block_of (out-DoLoop d).body.items) in
    both_first f (independent_heads do_variables (option_map independent (out-DoLoop d).mark)) (own ∷ body) (statement_heads do_variables line (do_construct d)) marked more result
    a
    (more_first f own body (own ∷ body) looped inside more b (w ∙ ap (λ r. least (flat_map f (heads r (block_of (out-DoLoop d).body.items)))) push) m refl)
    is
    (ap (statement_heads do_variables line) (sym (do_parts d)))

-- the heads of each kind of statement
nothing_after : (xs : List PlacedHead) → ((xs ++ []) ++ []) ++ [] ≡ xs
nothing_after xs = append-nil ((xs ++ []) ++ []) ∙ append-nil (xs ++ []) ∙ append-nil xs

pub if_one_heads : (do_variables : List Name) (line : ℕ) (k : StatementKind.StatementKind) (cond : Expr) (b : Box Stmt Global) (s : Stmt) → k ≡ StatementKind.IfOne cond b → s ≡ b.value →
    placed do_variables line (head.Condition (expression cond)) ∷ statement_heads do_variables s.line (statement s.line s.what)
    ≡ statement_heads do_variables line (statement line k)
if_one_heads do_variables line k cond b s is same =
    ap (λ s. placed do_variables line (head.Condition (expression cond)) ∷ statement_heads do_variables s.line (statement s.line s.what)) same
    ∙ sym (ap (λ k. statement_heads do_variables line (statement line k)) is
    ∙ ap (λ l. placed do_variables line (head.Condition (expression cond)) ∷ l) (nothing_after (statement_heads do_variables b.value.line (statement b.value.line b.value.what))))

pub if_heads : (do_variables : List Name) (line : ℕ) (k : StatementKind.StatementKind) (as' : Vec HeldArm Global) (rest : Option (Vec Stmt Global)) (v : Vec Stmt Global) (glued : Bool) →
    k ≡ StatementKind.If as' rest glued → rest ≡ Some v →
    arm_heads do_variables (arms_of as'.items) ++ heads do_variables (block_of v.items) ≡ statement_heads do_variables line (statement line k)
if_heads do_variables line k as' rest v glued is some =
    sym (ap (λ k. statement_heads do_variables line (statement line k)) (is ∙ ap (λ r. StatementKind.If as' r glued) some)
    ∙ (λ i. arm_heads do_variables (arms_vec as' i) ++ heads do_variables (block_vec v i)))

pub if_alone_heads : (do_variables : List Name) (line : ℕ) (k : StatementKind.StatementKind) (as' : Vec HeldArm Global) (rest : Option (Vec Stmt Global)) (glued : Bool) →
    k ≡ StatementKind.If as' rest glued → rest ≡ None →
    arm_heads do_variables (arms_of as'.items) ≡ statement_heads do_variables line (statement line k)
if_alone_heads do_variables line k as' rest glued is none =
    sym (ap (λ k. statement_heads do_variables line (statement line k)) (is ∙ ap (λ r. StatementKind.If as' r glued) none)
    ∙ append-nil (arm_heads do_variables (arms (hidden-the_row-Arm-0 as')))
    ∙ ap (arm_heads do_variables) (arms_vec as'))

pub forall_heads : (do_variables : List Name) (line : ℕ) (k : StatementKind.StatementKind) (axes : Vec Header Global) (mask : Option Expr) (v : Vec Stmt Global) (one glued marked : Bool) →
    k ≡ StatementKind.Forall axes mask v one glued marked →
    placed do_variables line (head.Forall (map axis axes.items) (option_map expression mask)) ∷ indexed do_variables (map axis axes.items) (assignments_of v.items)
    ≡ statement_heads do_variables line (statement line k)
forall_heads do_variables line k axes mask v one glued marked is =
    sym (ap (λ k. statement_heads do_variables line (statement line k)) is
    ∙ ap (λ l. placed do_variables line (head.Forall (map axis axes.items) (option_map expression mask)) ∷ indexed do_variables (map axis axes.items) l) (assignments_vec v))

elsewhere : (rest : Option (Vec Stmt Global)) → rest_assignments (back-StatementKind-If-1 rest) ≡ elsewhere_of rest
elsewhere None = refl
elsewhere (Some v) = assignments_vec v

pub where_heads : (do_variables : List Name) (line : ℕ) (k : StatementKind.StatementKind) (mask : Expr) (v : Vec Stmt Global) (rest : Option (Vec Stmt Global)) (one glued : Bool) →
    k ≡ StatementKind.Where mask v rest one glued →
    placed do_variables line (head.Where (expression mask)) ∷ (masked do_variables (expression mask) (assignments_of v.items)
    ++ masked do_variables (expression mask) (elsewhere_of rest)) ≡ statement_heads do_variables line (statement line k)
where_heads do_variables line k mask v rest one glued is =
    sym (ap (λ k. statement_heads do_variables line (statement line k)) is
    ∙ (λ i. placed do_variables line (head.Where (expression mask)) ∷ (masked do_variables (expression mask) (assignments_vec v i)
    ++ masked do_variables (expression mask) (elsewhere rest i))))

pub arm_step : (do_variables : List Name) (a : HeldArm) (as' : List HeldArm) → arm_heads do_variables (arms_of (a ∷ as'))
    ≡ arm_alone do_variables a ++ arm_heads do_variables (arms_of as')
arm_step do_variables (struct-Arm n cond shape row glued) as' = refl

map_append : {X Y : Type 0} (f : X → Y) (xs ys : List X) → map f (xs ++ ys) ≡ map f xs ++ map f ys
map_append f [] ys = refl
map_append f (x ∷ xs) ys = ap (λ l. f x ∷ l) (map_append f xs ys)

pub masked_step : (do_variables : List Name) (mask : Expression) (s : Stmt) (ss : List Stmt) →
    masked do_variables mask (assignments_of (s ∷ ss)) ≡ masked do_variables mask (assignments_in s.line s.what) ++ masked do_variables mask (assignments_of ss)
masked_step do_variables mask s ss = map_append _ (assignments_in s.line s.what) (assignments_of ss)

pub indexed_step : (do_variables : List Name) (axes : List Axis) (s : Stmt) (ss : List Stmt) →
    indexed do_variables axes (assignments_of (s ∷ ss)) ≡ indexed do_variables axes (assignments_in s.line s.what) ++ indexed do_variables axes (assignments_of ss)
indexed_step do_variables axes s ss = map_append _ (assignments_in s.line s.what) (assignments_of ss)
