-- The statements on the paths through a nest, one after the other.
use Rattle.std.proofs.Common.{◌≡◌, ℕ, ◌+◌, ◌<◌, Bool, true, List, [], ◌∷◌, ◌++◌, drop, length, get_or, Option, None, refl, sym, ap, ◌∙◌}
use Rattle.std.specs.List.{flat_map}
use Rattle.std.proofs.lemmas.List.{append-nil}
use Rattle.hpf_base.specs.declared.refusal.Refusal.{Refusal}
use Rattle.hpf_base.specs.FirstBreach.{earlier, least}
use Rattle.hpf_base.proofs.FirstBreaches.{earlier_assoc}
use Rattle.syntax_tree.specs.declared.stmt.Arm.{Arm, out-Arm}
use Rattle.syntax_tree.specs.declared.stmt.DoLoop.{DoLoop, out-DoLoop}
use Rattle.syntax_tree.specs.declared.stmt.StatementKind.TheBlock.{struct-Arm}
use Rattle.syntax_tree.specs.declared.stmt.StatementKind.TheViews.{is-struct-Arm}
use Rattle.syntax_tree.specs.declared.stmt.Stmt.{Stmt}
use Rattle.syntax_tree.specs.Expression.{expression}
use Rattle.syntax_tree.specs.Statement.{arms_of, block_of, do_construct, statement}
use Rattle.syntax_tree.proofs.Rows.{block_vec}
use Rattle.statement_walk.specs.Head as head
use Rattle.expression_rules.proofs.Turns.{least_both, least_more}
use Rattle.expression_rules.specs.Symbols.{Name}
use Rattle.nest_check.specs.Gathering.{axis_in, common_with_arm, reached_arm}
use Rattle.nest_check.specs.NestNames.{NestNames}
use Rattle.nest_check.specs.NestRules.{path_breaches_at}
use Rattle.nest_check.specs.Paths.{ReachedHead, assigned_after, assigned_by, assigned_by_arms, common, reached, reached_heads, reached_in, reached_in_arms}
use Rattle.nest_check.proofs.StatementForms.{do_is}
use Rattle.nest_check.proofs.States.{state_next}

abbrev pub first_of : NestNames → List ReachedHead → Option Refusal
first_of n rs = least (flat_map (path_breaches_at n) rs)

-- a turn of the loop over statements
pub walk_next : (n : NestNames) (c : Bool) (ss : List Stmt) (k : ℕ) (s : Stmt) (first found after whole : Option Refusal) (xs ys : List Name) → k < length ss → s ≡ get_or ss k s →
    found ≡ first_of n (reached_in c xs s.line (statement s.line s.what)) → after ≡ earlier first found → ys ≡ assigned_by xs (statement s.line s.what) →
    earlier first (first_of n (reached_heads c xs (block_of (drop k ss)))) ≡ whole →
    earlier after (first_of n (reached_heads c ys (block_of (drop (k + 1) ss)))) ≡ whole
walk_next n c ss k s first found after whole xs ys within is of_one more kept so_far =
    state_next {A = Option Refusal × List Name} (λ a ss. earlier a.0 (first_of n (reached_heads c a.1 (block_of ss))))
    (λ a s. (earlier a.0 (first_of n (reached_in c a.1 s.line (statement s.line s.what))), assigned_by a.1 (statement s.line s.what)))
    (λ a s ss. let own = reached_in c a.1 s.line (statement s.line s.what) in let rest = reached_heads c (assigned_by a.1 (statement s.line s.what)) (block_of ss) in
    ap (earlier a.0) (least_both (path_breaches_at n) own rest) ∙ sym (earlier_assoc a.0 (first_of n own) (first_of n rest)))
    ss k s (first, xs) (after, ys) whole within is (λ i. ((more ∙ ap (earlier first) of_one) i, kept i)) so_far

pub assigned_next : (ss : List Stmt) (k : ℕ) (s : Stmt) (xs ys whole : List Name) → k < length ss → s ≡ get_or ss k s → ys ≡ assigned_by xs (statement s.line s.what) →
    assigned_after xs (block_of (drop k ss)) ≡ whole → assigned_after ys (block_of (drop (k + 1) ss)) ≡ whole
assigned_next ss k s xs ys whole within is kept so_far =
    state_next (λ xs ss. assigned_after xs (block_of ss)) (λ xs s. assigned_by xs (statement s.line s.what)) (λ xs s ss. refl) ss k s xs ys whole within is kept so_far

-- the arms of an IF
pub arm_reached : (xs : List Name) (a : Arm) (as' : List Arm) → reached_in_arms xs (arms_of (a ∷ as')) ≡ reached_arm xs a ++ reached_in_arms xs (arms_of as')
arm_reached xs (struct-Arm n cond shape row glued) as' = refl

arm_common : (xs ys : List Name) (a : Arm) (as' : List Arm) → assigned_by_arms xs ys (arms_of (a ∷ as')) ≡ assigned_by_arms xs (common_with_arm xs ys a) (arms_of as')
arm_common xs ys (struct-Arm n cond shape row glued) as' = refl

pub common_next : (before : List Name) (as' : List Arm) (k : ℕ) (a : Arm) (xs ys whole : List Name) → k < length as' → a ≡ get_or as' k a → ys ≡ common_with_arm before xs a →
    assigned_by_arms before xs (arms_of (drop k as')) ≡ whole → assigned_by_arms before ys (arms_of (drop (k + 1) as')) ≡ whole
common_next before as' k a xs ys whole within is kept so_far =
    state_next (λ xs as'. assigned_by_arms before xs (arms_of as')) (common_with_arm before) (arm_common before) as' k a xs ys whole within is kept so_far

pub arm_parts : (xs : List Name) (a : Arm) →
    reached_arm xs a ≡ reached true xs (out-Arm a).line (head.Condition (expression (out-Arm a).cond)) ∷ reached_heads true xs (block_of (out-Arm a).body.items)
arm_parts xs a =
    ap (reached_arm xs) (is-struct-Arm a)
    ∙ ap (λ b. reached true xs (out-Arm a).line (head.Condition (expression (out-Arm a).cond)) ∷ reached_heads true xs b) (block_vec (out-Arm a).body)

pub arm_keeps : (xs ys : List Name) (a : Arm) → common_with_arm xs ys a ≡ common ys (assigned_after xs (block_of (out-Arm a).body.items))
arm_keeps xs ys a = ap (common_with_arm xs ys) (is-struct-Arm a) ∙ ap (λ b. common ys (assigned_after xs b)) (block_vec (out-Arm a).body)

-- one, and what stands inside it
pub more_first : (n : NestNames) (r : ReachedHead) (rs qs : List ReachedHead) (own inside result : Option Refusal) → own ≡ least (path_breaches_at n r) →
    inside ≡ first_of n rs → result ≡ earlier own inside → r ∷ rs ≡ qs → result ≡ first_of n qs
more_first n r rs qs own inside result a b is same =
    is ∙ (λ i. earlier (a i) (b i)) ∙ sym (least_more (path_breaches_at n) r rs) ∙ ap (first_of n) same

-- one after the other
pub both_first : (n : NestNames) (rs qs ps : List ReachedHead) (first last result : Option Refusal) → first ≡ first_of n rs → last ≡ first_of n qs →
    result ≡ earlier first last → rs ++ qs ≡ ps → result ≡ first_of n ps
both_first n rs qs ps first last result a b is same =
    is ∙ (λ i. earlier (a i) (b i)) ∙ sym (least_both (path_breaches_at n) rs qs) ∙ ap (first_of n) same

pub nothing_after : (rs : List ReachedHead) → ((rs ++ []) ++ []) ++ [] ≡ rs
nothing_after rs = append-nil ((rs ++ []) ++ []) ∙ append-nil (rs ++ []) ∙ append-nil rs

-- a loop
pub do_reached : (c : Bool) (xs : List Name) (line : ℕ) (d : DoLoop) → (own inside result : Option Refusal) (n : NestNames) →
    own ≡ least (path_breaches_at n (reached c xs line (head.Do None (axis_in d)))) → inside ≡ first_of n (reached_heads c xs (block_of (out-DoLoop d).body.items)) →
    result ≡ earlier own inside → result ≡ first_of n (reached_in c xs line (do_construct d))
do_reached c xs line d own inside result n a b is =
    let rest = reached_heads c xs (block_of (out-DoLoop d).body.items) in
    is ∙ (λ i. earlier (a i) (b i)) ∙ sym (least_more (path_breaches_at n) (reached c xs line (head.Do None (axis_in d))) rest)
    ∙ sym (ap (λ s. first_of n (reached_in c xs line s)) (do_is d (out-DoLoop d).mark refl))
