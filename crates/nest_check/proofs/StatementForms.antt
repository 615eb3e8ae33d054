-- What a statement of a tree is, by its fields.
use Rattle.std.proofs.Common.{◌≡◌, ℕ, Bool, List, ◌∷◌, Option, Some, None, Global, sym, ap, ◌∙◌}
use Rattle.std.specs.Prelude.{Vec, Box, option_map}
use Rattle.syntax_tree.specs.declared.expr.Expr.{Expr}
use Rattle.syntax_tree.specs.declared.stmt.Arm.{Arm as HeldArm, out-Arm}
use Rattle.syntax_tree.specs.declared.stmt.DoLoop.{DoLoop, out-DoLoop}
use Rattle.syntax_tree.specs.declared.stmt.StatementKind as StatementKind
use Rattle.syntax_tree.specs.declared.stmt.StatementKind.TheViews.{is-struct-Arm}
use Rattle.syntax_tree.specs.declared.stmt.Mark.{Mark}
use Rattle.syntax_tree.specs.declared.stmt.Stmt.{Stmt}
use Rattle.syntax_tree.specs.Expression.{expression}
use Rattle.syntax_tree.specs.Statement.{Statement, Done, Then, If, Do, NoArm, Arm, Without, With, arms_of, block_of, do_construct, independent, statement}
use Rattle.syntax_tree.proofs.Rows.{arms_vec, block_vec, do_parts}
use Rattle.statement_walk.proofs.WalkSteps.{axis_in}

pub if_one : (line : ℕ) (k : StatementKind.StatementKind) (cond : Expr) (b : Box Stmt Global) (s : Stmt) → k ≡ StatementKind.IfOne cond b → s ≡ b.value →
    statement line k ≡ If (Arm line (expression cond) (Then s.line (statement s.line s.what) Done) NoArm) Without
if_one line k cond b s is same =
    ap (statement line) is ∙ ap (λ s. If (Arm line (expression cond) (Then s.line (statement s.line s.what) Done) NoArm) Without) (sym same)

pub if_with : (line : ℕ) (k : StatementKind.StatementKind) (as' : Vec HeldArm Global) (rest : Option (Vec Stmt Global)) (v : Vec Stmt Global) (glued : Bool) → k ≡ StatementKind.If as' rest glued →
    rest ≡ Some v → statement line k ≡ If (arms_of as'.items) (With (block_of v.items))
if_with line k as' rest v glued is some =
    ap (statement line) (is ∙ ap (λ r. StatementKind.If as' r glued) some) ∙ (λ i. If (arms_vec as' i) (With (block_vec v i)))

pub if_without : (line : ℕ) (k : StatementKind.StatementKind) (as' : Vec HeldArm Global) (rest : Option (Vec Stmt Global)) (glued : Bool) → k ≡ StatementKind.If as' rest glued → rest ≡ None →
    statement line k ≡ If (arms_of as'.items) Without
if_without line k as' rest glued is none = ap (statement line) (is ∙ ap (λ r. StatementKind.If as' r glued) none) ∙ (λ i. If (arms_vec as' i) Without)

pub arm_is : (a : HeldArm) (as' : List HeldArm) → arms_of (a ∷ as') ≡ Arm (out-Arm a).line (expression (out-Arm a).cond) (block_of (out-Arm a).body.items) (arms_of as')
arm_is a as' =
    ap (λ a. arms_of (a ∷ as')) (is-struct-Arm a) ∙ ap (λ b. Arm (out-Arm a).line (expression (out-Arm a).cond) b (arms_of as')) (block_vec (out-Arm a).body)

-- a DO with this mark
abbrev pub do_with : DoLoop → Option Mark → Statement
do_with d mark = Do (option_map independent mark) (axis_in d) (block_of (out-DoLoop d).body.items)

pub do_is : (d : DoLoop) (mark : Option Mark) → (out-DoLoop d).mark ≡ mark → do_construct d ≡ do_with d mark
do_is d mark is = do_parts d ∙ ap (do_with d) is
