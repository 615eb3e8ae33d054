-- Rows of statements and arms, as they lie in memory, are the lists of their items.
use Rattle.std.proofs.Common.{◌≡◌, ℕ, true, false, Some, option_map, refl, ap, ◌∙◌, Global}
use Rattle.std.specs.Prelude.{Vec}
use Rattle.syntax_tree.specs.declared.stmt.Arm.{Arm as HeldArm, Arm-F, roll-Arm, rolls-Arm'}
use Rattle.syntax_tree.specs.declared.stmt.DoLoop.{DoLoop, DoLoop-F, roll-DoLoop, rolls-DoLoop'}
use Rattle.syntax_tree.specs.Expression.{expression}
use Rattle.syntax_tree.specs.declared.stmt.Stmt.{Stmt}
use Rattle.syntax_tree.specs.declared.stmt.StatementKind.{StatementKind as HeldKind}
use Rattle.syntax_tree.specs.declared.stmt.StatementKind.TheBlock.{Assign, IfOne', If', Do, Where', Forall', Redistribute, Held-StatementKind-If-1, None', Some', struct-Arm, Row_of-Stmt, end_of-Stmt, more_of-Stmt, Row_of-Arm, end_of-Arm, more_of-Arm, hidden-the_row-Stmt-1, items_hidden-the_row-Stmt-1, items-the_row-Stmt, hidden-the_row-Arm-0, items_hidden-the_row-Arm-0, items-the_row-Arm, back-StatementKind-If-1}
use Rattle.statement_reader.specs.Views.{IsOfKind}
use Rattle.construct_reader.specs.SpelledProgram.{StatementThen, IfBlocks, IfBlock, Else, DoConstruct}
use Rattle.construct_reader.specs.Views.{action_in, arm_before, spelled_if_blocks, spelled_arms, assignment_in, begins, spelled_block, spelled_kind, spelled_do, spelled_independent, spelled_else, spelled_row, single}
use Rattle.construct_reader.specs.Build.{are_begun, one_assignment, single_of}

row_items : {m : _} (row : Row_of-Stmt m) → spelled_row row ≡ spelled_block (items-the_row-Stmt m row)
row_items end_of-Stmt = refl
row_items (more_of-Stmt n k row) = ap (StatementThen (spelled_kind n k)) (row_items row)

-- a block
pub row_hidden : (v : Vec Stmt Global) → spelled_row (hidden-the_row-Stmt-1 v) ≡ spelled_block v.items
row_hidden v = row_items (hidden-the_row-Stmt-1 v) ∙ ap spelled_block (items_hidden-the_row-Stmt-1 v)

-- the block of ELSE
pub rest_hidden : (v : Vec Stmt Global) → spelled_else (back-StatementKind-If-1 (Some v)) ≡ Else (spelled_block v.items)
rest_hidden v = ap Else (row_hidden v)

arm_items : {m : _} (row : Row_of-Arm m) → spelled_arms row ≡ spelled_if_blocks (items-the_row-Arm m row)
arm_items end_of-Arm = refl
arm_items (more_of-Arm (struct-Arm n cond shape row glued) arms) = ap (arm_before (struct-Arm n cond shape row glued)) (arm_items arms)

-- the arms of an IF
pub arms_hidden : (v : Vec HeldArm Global) → spelled_arms (hidden-the_row-Arm-0 v) ≡ spelled_if_blocks v.items
arms_hidden v = arm_items (hidden-the_row-Arm-0 v) ∙ ap spelled_if_blocks (items_hidden-the_row-Arm-0 v)

begun_items : (n : ℕ) {m : _} (row : Row_of-Arm m) → begins n row ≡ are_begun n (items-the_row-Arm m row)
begun_items n end_of-Arm = refl
begun_items n (more_of-Arm (struct-Arm m cond shape row glued) arms) = refl

pub begun_hidden : (n : ℕ) (v : Vec HeldArm Global) → begins n (hidden-the_row-Arm-0 v) ≡ are_begun n v.items
begun_hidden n v = begun_items n (hidden-the_row-Arm-0 v) ∙ ap (are_begun n) (items_hidden-the_row-Arm-0 v)

one_items : (n : ℕ) {m : _} (row : Row_of-Stmt m) → assignment_in n row ≡ one_assignment n (items-the_row-Stmt m row)
one_items n end_of-Stmt = refl
one_items n (more_of-Stmt m (Assign left right) end_of-Stmt) = refl
one_items n (more_of-Stmt m k end_of-Stmt) = refl
one_items n (more_of-Stmt m k (more_of-Stmt m' k' row)) = refl

pub one_hidden : (n : ℕ) (v : Vec Stmt Global) → assignment_in n (hidden-the_row-Stmt-1 v) ≡ one_assignment n v.items
one_hidden n v = one_items n (hidden-the_row-Stmt-1 v) ∙ ap (one_assignment n) (items_hidden-the_row-Stmt-1 v)

-- a statement that may be an action is whole in its line
pub whole_kind : (n : ℕ) (k : HeldKind) (a : IsOfKind) → action_in n k ≡ Some a → spelled_kind n k ≡ single_of n a
whole_kind n (IfOne' cond box m k) a h = absurd cc
whole_kind n (If' shape arms rest glued) a h = absurd cc
whole_kind n (Do d) a h = absurd cc
whole_kind n (Where' mask shape row rest false glued) a h = none rest h
  where
    none : (r : Held-StatementKind-If-1) → action_in n (Where' mask shape row r false glued) ≡ Some a → spelled_kind n (Where' mask shape row rest false glued) ≡ single_of n a
    none None' h = absurd cc
    none (Some' s r) h = absurd cc
whole_kind n (Forall' axes mask shape row false glued marked) a h = absurd cc
whole_kind n (Forall' axes mask shape row true false true) a h = absurd cc
whole_kind n (Redistribute d) a h = absurd cc
whole_kind n k a h = ap (single n) h

abbrev HeldLoop : Type 0
HeldLoop = DoLoop-F HeldKind HeldArm DoLoop Stmt

-- a DO construct
pub loop_rolled : (n : ℕ) (x : HeldLoop)
    → spelled_do n (roll-DoLoop x)
    ≡ DoConstruct (option_map spelled_independent x.mark) n (x.index, (expression x.first, (expression x.last, option_map expression x.step)))
    (spelled_block x.body.items) x.glued
loop_rolled n x =
    ap (spelled_do n) (rolls-DoLoop' x)
    ∙ ap
    (λ b.
    DoConstruct (option_map spelled_independent x.mark) n (x.index, (expression x.first, (expression x.last, option_map expression x.step))) b
    x.glued) (row_hidden x.body)

abbrev PlainArm : Type 0
PlainArm = Arm-F HeldKind HeldArm DoLoop Stmt

-- an arm
pub arm_rolled : (x : PlainArm) (arms : IfBlocks) → arm_before (roll-Arm x) arms ≡ IfBlock x.line (expression x.cond) (spelled_block x.body.items) x.glued arms
arm_rolled x arms =
    ap (λ a. arm_before a arms) (rolls-Arm' x)
    ∙ ap (λ b. IfBlock x.line (expression x.cond) b x.glued arms) (row_hidden x.body)
