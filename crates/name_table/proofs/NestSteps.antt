-- The nests of each kind of statement, and the loops of a nest.
use Rattle.std.proofs.Common.{◌≡◌, ℕ, zero, suc, ◌-◌, Bool, List, [], ◌∷◌, ◌++◌, length, slice_get, arith, Option, Some, None, Global, refl, sym, ap, ◌∙◌}
use Rattle.std.specs.Prelude.{Vec, option_map}
use Rattle.std.specs.List.{flat_map}
use Rattle.std.proofs.lemmas.List.{append-nil}
use Rattle.hpf_base.specs.declared.refusal.Refusal.{Refusal}
use Rattle.hpf_base.specs.FirstBreach.{earlier, least}
use Rattle.syntax_tree.specs.declared.stmt.Stmt.{Stmt}
use Rattle.syntax_tree.specs.declared.stmt.Mark.{Mark}
use Rattle.syntax_tree.specs.declared.stmt.Arm.{Arm as HeldArm, out-Arm}
use Rattle.syntax_tree.specs.declared.stmt.DoLoop.{DoLoop, out-DoLoop}
use Rattle.syntax_tree.specs.declared.stmt.StatementKind as StatementKind
use Rattle.syntax_tree.specs.declared.stmt.StatementKind.TheViews.{is-struct-Arm}
use Rattle.syntax_tree.specs.declared.stmt.StatementKind.TheBlock.{hidden-the_row-Arm-0}
use Rattle.syntax_tree.specs.Statement.{Block, Done, Then, Statement, Do, arms, arms_of, block_of, do_construct, independent, statement}
use Rattle.syntax_tree.proofs.Rows.{do_parts, arms_vec, block_vec}
use Rattle.name_table.specs.NameRules.{nest_breaches}
use Rattle.statement_walk.specs.Nests.{Nest, arm_nests, loop, nest_in, nests, statement_nests}
use Rattle.expression_rules.proofs.Turns.{least_both}
use Rattle.statement_walk.proofs.WalkSteps.{axis_in}

pub if_nests : (line : ℕ) (k : StatementKind.StatementKind) (as' : Vec HeldArm Global) (rest : Option (Vec Stmt Global)) (v : Vec Stmt Global) (glued : Bool) → k ≡ StatementKind.If as' rest glued →
    rest ≡ Some v →
    arm_nests (arms_of as'.items) ++ nests (block_of v.items) ≡ statement_nests line (statement line k)
if_nests line k as' rest v glued is some =
    sym (ap (λ k. statement_nests line (statement line k)) (is ∙ ap (λ r. StatementKind.If as' r glued) some)
    ∙ (λ i. arm_nests (arms_vec as' i) ++ nests (block_vec v i)))

pub if_alone_nests : (line : ℕ) (k : StatementKind.StatementKind) (as' : Vec HeldArm Global) (rest : Option (Vec Stmt Global)) (glued : Bool) → k ≡ StatementKind.If as' rest glued → rest ≡ None →
    arm_nests (arms_of as'.items) ≡ statement_nests line (statement line k)
if_alone_nests line k as' rest glued is none =
    sym (ap (λ k. statement_nests line (statement line k)) (is ∙ ap (λ r. StatementKind.If as' r glued) none)
    ∙ append-nil (arm_nests (arms (hidden-the_row-Arm-0 as')))
    ∙ ap arm_nests (arms_vec as'))

pub arm_step : (a : HeldArm) (as' : List HeldArm) → arm_nests (arms_of (a ∷ as')) ≡ nests (block_of (out-Arm a).body.items) ++ arm_nests (arms_of as')
arm_step a as' = ap (λ a. arm_nests (arms_of (a ∷ as'))) (is-struct-Arm a) ∙ ap (λ b. nests b ++ arm_nests (arms_of as')) (block_vec (out-Arm a).body)

-- a DO by itself, and an INDEPENDENT one
abbrev pub do_of : DoLoop → Option Mark → Statement
do_of d mark = Do (option_map independent mark) (axis_in d) (block_of (out-DoLoop d).body.items)

do_is : (d : DoLoop) (mark : Option Mark) → (out-DoLoop d).mark ≡ mark → do_construct d ≡ do_of d mark
do_is d mark is = do_parts d ∙ ap (do_of d) is

pub plain_nests : (line : ℕ) (d : DoLoop) → (out-DoLoop d).mark ≡ None → nests (block_of (out-DoLoop d).body.items) ≡ statement_nests line (do_construct d)
plain_nests line d is = sym (ap (statement_nests line) (do_is d None is))

-- the loops of the nest in a block
pub marked_loops : (line : ℕ) (d : DoLoop) (m : Mark) → (out-DoLoop d).mark ≡ Some m →
    (nest_in (Then line (do_construct d) Done)).loops ≡ loop line (independent m) (axis_in d) ∷ (nest_in (block_of (out-DoLoop d).body.items)).loops
marked_loops line d m is = ap (λ s. (nest_in (Then line s Done)).loops) (do_is d (Some m) is)

not_alone : (line next : ℕ) (s t : Statement) (b : Block) → (nest_in (Then line s (Then next t b))).loops ≡ []
not_alone line next (Do (Some m) axis body) t b = refl
not_alone line next (Do None axis body) t b = refl
not_alone line next s t b = refl

pub other_loops : (ss : List Stmt) → (length ss ≡ 1 → ⊥) → (nest_in (block_of ss)).loops ≡ []
other_loops [] h = refl
other_loops (s ∷ []) h = absurd (h refl)
other_loops (s ∷ r ∷ ss) h = not_alone s.line r.line (statement s.line s.what) (statement r.line r.what) (block_of ss)

-- the loops after the first one
pub later_loop : (line : ℕ) (d : DoLoop) (m : Mark) (place : ℕ) → (out-DoLoop d).mark ≡ Some m → (place ≡ 0 → ⊥) →
    slice_get (nest_in (Then line (do_construct d) Done)).loops place ≡ slice_get (nest_in (block_of (out-DoLoop d).body.items)).loops (place - 1)
later_loop line d m zero is h = absurd (h refl)
later_loop line d m (suc n) is h =
    let e : suc n - 1 ≡ n = omega arith in
    ap (λ l. slice_get l (suc n)) (marked_loops line d m is) ∙ ap (slice_get (nest_in (block_of (out-DoLoop d).body.items)).loops) (sym e)

-- two lists of nests, one after the other
pub nests_first : (xs ys zs : List Nest) (first last result : Option Refusal) → first ≡ least (flat_map nest_breaches xs) → last ≡ least (flat_map nest_breaches ys) →
    result ≡ earlier first last → xs ++ ys ≡ zs → result ≡ least (flat_map nest_breaches zs)
nests_first xs ys zs first last result a b is same =
    is ∙ (λ i. earlier (a i) (b i)) ∙ sym (least_both nest_breaches xs ys) ∙ ap (λ l. least (flat_map nest_breaches l)) same
