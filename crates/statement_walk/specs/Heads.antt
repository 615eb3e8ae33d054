-- Of the claim.
-- What a program's statements say one by one, in the order of the text (Fortran 95, 2.3 and 8.1; HPF 2.0, 5.1): each with its
-- line and with the indices of the DO loops round it.
use Rattle.std.specs.Prelude.{ℕ, List, [], ◌∷◌, ◌++◌, map, Option, Some, None}
use Rattle.syntax_tree.specs.Expression.{Expression}
use Rattle.syntax_tree.specs.Statement.{Assignment, Axis, Independent, Block, Done, Then, Statement, Assign, If, Do, Where, Forall, Print, Continue, Redistribute, Arms, NoArm, Arm, Otherwise, Without, With}
use Rattle.expression_rules.specs.Symbols.{Name}
use Rattle.statement_walk.specs.Head.{Head}
use Rattle.statement_walk.specs.Head as head

-- a statement with its line and with the indices of the DO loops round it, outermost first
pub record PlacedHead : Type 0 where
  pub line : ℕ
  pub do_variables : List Name
  pub what : Head

abbrev pub placed : List Name → ℕ → Head → PlacedHead
placed xs line what = record { line = line; do_variables = xs; what = what }

abbrev pub indices_of : List Axis → List Name
indices_of axes = map (λ a. a.index) axes

-- the assignments of a WHERE, and of a FORALL
abbrev pub masked : List Name → Expression → List Assignment → List PlacedHead
masked xs mask body = map (λ a. placed xs a.line (head.MaskedAssignment mask a.left a.right)) body

abbrev pub indexed : List Name → List Axis → List Assignment → List PlacedHead
indexed xs axes body = map (λ a. placed xs a.line (head.ForallAssignment axes a.left a.right)) body

abbrev pub independent_heads : List Name → Option Independent → List PlacedHead
independent_heads xs None = []
independent_heads xs (Some m) = placed xs m.line (head.Independent m) ∷ []

-- the statements of a block, one by one
abbrev mutual
  pub heads : List Name → Block → List PlacedHead
  heads xs Done = []
  heads xs (Then line s b) = statement_heads xs line s ++ heads xs b

  pub statement_heads : List Name → ℕ → Statement → List PlacedHead
  statement_heads xs line (Assign left right) = placed xs line (head.Assignment left right) ∷ []
  statement_heads xs line (If arms rest) = arm_heads xs arms ++ else_heads xs rest
  statement_heads xs line (Do mark axis b) =
      independent_heads xs mark ++ placed xs line (head.Do mark axis) ∷ heads (xs ++ axis.index ∷ []) b
  statement_heads xs line (Where mask body elsewhere) =
      placed xs line (head.Where mask) ∷ (masked xs mask body ++ masked xs mask elsewhere)
  statement_heads xs line (Forall axes mask body) = placed xs line (head.Forall axes mask) ∷ indexed xs axes body
  statement_heads xs line (Print items) = placed xs line (head.Print items) ∷ []
  statement_heads xs line (Redistribute d) = placed xs line (head.Redistribute d) ∷ []
  statement_heads xs line Continue = []
  statement_heads xs line s = placed xs line head.Transfer ∷ []

  pub arm_heads : List Name → Arms → List PlacedHead
  arm_heads xs NoArm = []
  arm_heads xs (Arm line cond b arms) = placed xs line (head.Condition cond) ∷ (heads xs b ++ arm_heads xs arms)

  pub else_heads : List Name → Otherwise → List PlacedHead
  else_heads xs Without = []
  else_heads xs (With b) = heads xs b

-- those of a whole program
abbrev pub all_heads : Block → List PlacedHead
all_heads b = heads [] b
