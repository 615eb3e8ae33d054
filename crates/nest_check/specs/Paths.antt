-- Of the claim.
-- What every path through the body of a nest has assigned (HPF 2.0, 5.1). A path takes one branch of an IF, and may take no turn of a DO.
use Rattle.std.specs.Prelude.{ℕ, Bool, true, List, [], ◌∷◌, ◌++◌}
use Rattle.std.specs.List.{filter}
use Rattle.syntax_tree.specs.Statement.{Block, Done, Then, Statement, Assign, If, Do, Arms, NoArm, Arm, Otherwise, Without, With}
use Rattle.expression_rules.specs.Symbols.{Name, is_among}
use Rattle.statement_walk.specs.Head.{Head}
use Rattle.statement_walk.specs.Head as head
use Rattle.nest_check.specs.NestNames.{all_added, alone}

abbrev pub common : List Name → List Name → List Name
common xs ys = filter (λ x. is_among x ys) xs

-- the scalars that every path to the end of statements has assigned, where xs are those before them. Of an IF, ys are common to ELSE and to the
-- arms before these
abbrev mutual
  pub assigned_after : List Name → Block → List Name
  assigned_after xs Done = xs
  assigned_after xs (Then line s b) = assigned_after (assigned_by xs s) b

  pub assigned_by : List Name → Statement → List Name
  assigned_by xs (Assign left right) = all_added xs (alone left.name left.subscripts)
  assigned_by xs (If arms rest) = assigned_by_arms xs (assigned_by_rest xs rest) arms
  assigned_by xs s = xs

  pub assigned_by_arms : List Name → List Name → Arms → List Name
  assigned_by_arms xs ys NoArm = ys
  assigned_by_arms xs ys (Arm line cond b arms) = assigned_by_arms xs (common ys (assigned_after xs b)) arms

  pub assigned_by_rest : List Name → Otherwise → List Name
  assigned_by_rest xs Without = xs
  assigned_by_rest xs (With b) = assigned_after xs b

-- a statement with its line, whether it stands under an IF, and the scalars that every path to it has assigned
pub record ReachedHead : Type 0 where
  pub line : ℕ
  pub is_conditional : Bool
  pub assigned : List Name
  pub what : Head

abbrev pub reached : Bool → List Name → ℕ → Head → ReachedHead
reached c xs line what = record { line = line; is_conditional = c; assigned = xs; what = what }

-- the statements of a block that may stand in a nest
abbrev mutual
  pub reached_heads : Bool → List Name → Block → List ReachedHead
  reached_heads c xs Done = []
  reached_heads c xs (Then line s b) = reached_in c xs line s ++ reached_heads c (assigned_by xs s) b

  pub reached_in : Bool → List Name → ℕ → Statement → List ReachedHead
  reached_in c xs line (Assign left right) = reached c xs line (head.Assignment left right) ∷ []
  reached_in c xs line (If arms rest) = reached_in_arms xs arms ++ reached_in_rest xs rest
  reached_in c xs line (Do mark axis b) = reached c xs line (head.Do mark axis) ∷ reached_heads c xs b
  reached_in c xs line s = []

  pub reached_in_arms : List Name → Arms → List ReachedHead
  reached_in_arms xs NoArm = []
  reached_in_arms xs (Arm line cond b arms) = reached true xs line (head.Condition cond) ∷ (reached_heads true xs b ++ reached_in_arms xs arms)

  pub reached_in_rest : List Name → Otherwise → List ReachedHead
  reached_in_rest xs Without = []
  reached_in_rest xs (With b) = reached_heads true xs b
