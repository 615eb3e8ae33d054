-- Of a promise.
-- Blocks in which each nest is one by its form.
use Rattle.std.specs.Prelude.{ℕ, ◌≤◌, length, Bool, false}
use Rattle.array_meaning.specs.TheConstants.{MAX_INDICES}
use Rattle.op_tables.specs.declared.join.Join.{Join}
use Rattle.array_meaning.specs.Statements.{Loop, Nest, Block, Done, Then, Statement, If, Do, Unmarked, Outermost, Arms, NoArm, Arm}
use Rattle.nest_syntax.specs.NestKinds.{kind_of}
use Rattle.nest_items.specs.Standing.{AreKinds}
use Rattle.nest_items.specs.NestForm.{IsNest, TextsKeep}
use Rattle.nest_items.specs.Paths.{PathsAssign}

-- a nest by its form, for some operators of its REDUCTION variables: the kinds of its names are those that its lists give, every path assigns
-- its NEW variables, and it has no more loops than an array has dimensions. `all` are its indices and those of the loops in it
pub record HasForm (nest : Nest) (loop : Loop) (block body : Block) : Type 0 where
  pub operators : ℕ → Join
  pub all : ℕ → Bool
  pub form : IsNest (kind_of operators nest body) all nest loop block body
  pub kinds : AreKinds (kind_of operators nest body) nest body
  pub paths : PathsAssign (kind_of operators nest body) (λ k. false) body
  pub texts : TextsKeep all body
  pub few : length nest.loops ≤ MAX_INDICES

-- each nest in a block
abbrev mutual
  pub BlockHasForms : Block → Type 0
  BlockHasForms Done = Unit {0}
  BlockHasForms (Then line statement rest) = HasForms statement × BlockHasForms rest

  pub HasForms : Statement → Type 0
  HasForms (If arms other) = ArmsHaveForms arms × BlockHasForms other
  HasForms (Do (Outermost nest body) loop block) = HasForm nest loop block body
  HasForms (Do Unmarked loop body) = BlockHasForms body
  HasForms statement = Unit {0}

  pub ArmsHaveForms : Arms → Type 0
  ArmsHaveForms NoArm = Unit {0}
  ArmsHaveForms (Arm line t body arms) = BlockHasForms body × ArmsHaveForms arms
