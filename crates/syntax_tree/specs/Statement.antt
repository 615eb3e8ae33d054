-- Of the claim.
-- The abstract syntax of statements (Fortran 95, 7.5, 8.1 and 9.4; HPF 2.0, 5.1), and what it is of a tree: what they say,
-- apart from where they lie in memory and from spellings that change nothing. IF, WHERE or FORALL in one line, with an action
-- or an assignment after it, is the construct with that alone.
use Rattle.std.specs.Prelude.{ℕ, List, [], ◌∷◌, ◌++◌, map, Option, Some, None, option_map}
use Rattle.syntax_tree.specs.declared.expr.Ref.{Ref}
use Rattle.syntax_tree.specs.declared.expr.Expr.TheBlock.{Held-Ref-subs, Ref-subs-None', Ref-subs-Some', back-Ref-subs}
use Rattle.syntax_tree.specs.declared.stmt.Arm.{Arm as HeldArm}
use Rattle.syntax_tree.specs.declared.stmt.DoLoop.{DoLoop}
use Rattle.syntax_tree.specs.declared.stmt.Header.{Header}
use Rattle.syntax_tree.specs.declared.stmt.Item.{Item as HeldItem}
use Rattle.syntax_tree.specs.declared.stmt.Item.TheVariants as item
use Rattle.syntax_tree.specs.declared.stmt.Mark.{Mark}
use Rattle.syntax_tree.specs.declared.stmt.Stmt.{Stmt}
use Rattle.syntax_tree.specs.declared.stmt.StatementKind.{StatementKind}
use Rattle.syntax_tree.specs.declared.stmt.StatementKind.TheBlock.{Assign as Assign', IfOne', If', Do as Do', Where', Forall', Print as Print', Stop as Stop', Exit as Exit', Cycle as Cycle', Continue as Continue', Redistribute as Redistribute', struct-Arm, struct-DoLoop, Row_of-Stmt, end_of-Stmt, more_of-Stmt, Row_of-Arm, end_of-Arm, more_of-Arm, Held-StatementKind-If-1, None', Some'}
use Rattle.syntax_tree.specs.Expression.{Expression, Name, Element, Parts, expression, subscripts}
use Rattle.syntax_tree.specs.Directive.{Distribution, distribution}

-- a variable: a name, and the subscripts after it, the first dimension first (Fortran 95, 6)
pub record Variable : Type 0 where
  pub name : List ℕ
  pub subscripts : Option Parts

-- an assignment of a WHERE or FORALL, with the number of its line
pub record Assignment : Type 0 where
  pub line : ℕ
  pub left : Variable
  pub right : Expression

-- the values that an index of a DO or FORALL takes (Fortran 95, 8.1.4.1.1 and 7.5.4.1)
pub record Axis : Type 0 where
  pub index : List ℕ
  pub first : Expression
  pub last : Expression
  pub step : Option Expression

-- INDEPENDENT: the number of its line, and the names of its NEW and REDUCTION lists (HPF 2.0, 5.1)
pub record Independent : Type 0 where
  pub line : ℕ
  pub new : List (List ℕ)
  pub reduction : List (List ℕ)

-- an item of a PRINT: an expression, or the bytes of a character constant (Fortran 95, 9.4)
pub data Item : Type 0 where
  Value : Expression → Item
  Text : List ℕ → Item

mutual
  -- statements one after the other, each with the number of its line
  pub data Block : Type 0 where
    Done : Block
    Then : ℕ → Statement → Block → Block

  pub data Statement : Type 0 where
    Assign : Variable → Expression → Statement
    -- the IF construct (Fortran 95, 8.1.2)
    If : Arms → Otherwise → Statement
    -- the DO construct (8.1.4), with the INDEPENDENT before it
    Do : Option Independent → Axis → Block → Statement
    -- the mask, the assignments, and those after ELSEWHERE (7.5.3)
    Where : Expression → List Assignment → List Assignment → Statement
    -- the indices, the mask, and the assignments (7.5.4)
    Forall : List Axis → Option Expression → List Assignment → Statement
    Print : List Item → Statement
    Stop : Statement
    Exit : Statement
    Cycle : Statement
    Continue : Statement
    Redistribute : Distribution → Statement

  -- IF and its ELSE IFs in order, each with the number of its line, its condition and its block
  pub data Arms : Type 0 where
    NoArm : Arms
    Arm : ℕ → Expression → Block → Arms → Arms

  -- the block of ELSE
  pub data Otherwise : Type 0 where
    Without : Otherwise
    With : Block → Otherwise

-- a variable as an expression
abbrev pub designator : Variable → Expression
designator v = named v.name v.subscripts where
  named : List ℕ → Option Parts → Expression
  named x None = Name x
  named x (Some ps) = Element x ps

-- ---- what these are of a tree

abbrev pub subscripts_of : Held-Ref-subs → Option Parts
subscripts_of Ref-subs-None' = None
subscripts_of (Ref-subs-Some' shape row) = Some (subscripts row)

abbrev pub variable : Ref → Variable
variable r = record { name = r.name; subscripts = subscripts_of (back-Ref-subs r.subs) }

abbrev pub axis : Header → Axis
axis h = record { index = h.name; first = expression h.first; last = expression h.last; step = option_map expression h.step }

abbrev pub independent : Mark → Independent
independent m = record { line = m.line; new = m.new; reduction = m.reduction }

abbrev pub item_of : HeldItem → Item
item_of (item.Value e) = Value (expression e)
item_of (item.Text bytes) = Text bytes

-- the assignments of a block, in order; nothing else stands in a WHERE or FORALL
abbrev pub assignments : {m : _} → Row_of-Stmt m → List Assignment
assignments end_of-Stmt = []
assignments (more_of-Stmt n (Assign' left right) row) = record { line = n; left = variable left; right = expression right } ∷ assignments row
assignments (more_of-Stmt n kind row) = assignments row

abbrev pub rest_assignments : Held-StatementKind-If-1 → List Assignment
rest_assignments None' = []
rest_assignments (Some' shape row) = assignments row

-- the statement of a line
abbrev mutual
  pub statement : ℕ → StatementKind → Statement
  statement n (Assign' left right) = Assign (variable left) (expression right)
  statement n (IfOne' cond box m kind) = If (Arm n (expression cond) (Then m (statement m kind) Done) NoArm) Without
  statement n (If' shape arms' rest glued) = If (arms arms') (otherwise rest)
  statement n (Do' loop) = do_construct loop
  statement n (Where' mask shape row rest one glued) = Where (expression mask) (assignments row) (rest_assignments rest)
  statement n (Forall' axes mask shape row one glued marked) = Forall (map axis axes.items) (option_map expression mask) (assignments row)
  statement n (Print' items) = Print (map item_of items.items)
  statement n Stop' = Stop
  statement n Exit' = Exit
  statement n Cycle' = Cycle
  statement n Continue' = Continue
  statement n (Redistribute' d) = Redistribute (distribution d)

  pub do_construct : DoLoop → Statement
  do_construct (struct-DoLoop index first last step mark shape row glued) =
      Do (option_map independent mark) record { index = index; first = expression first; last = expression last; step = option_map expression step } (block row)

  pub block : {m : _} → Row_of-Stmt m → Block
  block end_of-Stmt = Done
  block (more_of-Stmt n kind row) = Then n (statement n kind) (block row)

  pub otherwise : Held-StatementKind-If-1 → Otherwise
  otherwise None' = Without
  otherwise (Some' shape row) = With (block row)

  pub arms : {m : _} → Row_of-Arm m → Arms
  arms end_of-Arm = NoArm
  arms (more_of-Arm (struct-Arm n cond shape row glued) rest) = Arm n (expression cond) (block row) (arms rest)

-- the same of lists
abbrev pub block_of : List Stmt → Block
block_of [] = Done
block_of (s ∷ ss) = Then s.line (statement s.line s.what) (block_of ss)

abbrev pub arms_of : List HeldArm → Arms
arms_of [] = NoArm
arms_of (struct-Arm n cond shape row glued ∷ rest) = Arm n (expression cond) (block row) (arms_of rest)

abbrev pub assignments_in : ℕ → StatementKind → List Assignment
assignments_in n (Assign' left right) = record { line = n; left = variable left; right = expression right } ∷ []
assignments_in n kind = []

abbrev pub assignments_of : List Stmt → List Assignment
assignments_of [] = []
assignments_of (s ∷ ss) = assignments_in s.line s.what ++ assignments_of ss
