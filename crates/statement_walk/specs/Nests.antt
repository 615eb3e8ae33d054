-- Of the claim.
-- Nests of INDEPENDENT loops (HPF 2.0, 5.1): an INDEPENDENT DO, and within it, as long as the whole body is one further
-- INDEPENDENT DO, that loop too.
use Rattle.std.specs.Prelude.{ℕ, List, [], ◌∷◌, ◌++◌, Some, None}
use Rattle.syntax_tree.specs.Statement.{Axis, Independent, Block, Done, Then, Statement, If, Do, Arms, NoArm, Arm, Otherwise, Without, With}

-- a loop of a nest, with the line of its DO
pub record Loop : Type 0 where
  pub line : ℕ
  pub mark : Independent
  pub axis : Axis

-- a nest: its loops, outermost first, and the body of the innermost one
pub record Nest : Type 0 where
  pub loops : List Loop
  pub body : Block

abbrev pub loop : ℕ → Independent → Axis → Loop
loop line mark axis = record { line = line; mark = mark; axis = axis }

abbrev pub in_loop : Loop → Nest → Nest
in_loop l n = record n { loops = l ∷ n.loops }

-- what stands in the body of a loop of a nest
abbrev pub nest_in : Block → Nest
nest_in (Then line (Do (Some mark) axis b) Done) = in_loop (loop line mark axis) (nest_in b)
nest_in b = record { loops = []; body = b }

-- the nests that stand in no other nest
abbrev mutual
  pub nests : Block → List Nest
  nests Done = []
  nests (Then line s b) = statement_nests line s ++ nests b

  pub statement_nests : ℕ → Statement → List Nest
  statement_nests line (Do (Some mark) axis b) = in_loop (loop line mark axis) (nest_in b) ∷ []
  statement_nests line (Do None axis b) = nests b
  statement_nests line (If arms rest) = arm_nests arms ++ else_nests rest
  statement_nests line s = []

  pub arm_nests : Arms → List Nest
  arm_nests NoArm = []
  arm_nests (Arm line cond b arms) = nests b ++ arm_nests arms

  pub else_nests : Otherwise → List Nest
  else_nests Without = []
  else_nests (With b) = nests b
