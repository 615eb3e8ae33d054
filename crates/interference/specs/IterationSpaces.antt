-- Of private clauses.
-- The iterations of a nest in code (HPF 2.0, 5.1), by the definitions.
use Rattle.std.specs.Prelude.{◌≡◌, ℕ, List, [], ◌∷◌, ◌++◌, Option, Some, None}
use Rattle.hpf_base.specs.ElementOrder.{product}
use Rattle.resolved_program.specs.declared.statements.Loop.{Loop as HeldLoop}
use Rattle.resolved_program.specs.declared.statements.Nest.{Nest as HeldNest}
use Rattle.resolved_program.specs.declared.statements.Statement.{Statement as HeldStatement}
use Rattle.resolved_program.specs.Resolved.{block_of, inner_loops, innermost, loop_of}
use Rattle.array_meaning.specs.Statements.{Loop, Nest, Block}
use Rattle.array_meaning.specs.State.{State}
use Rattle.array_meaning.specs.Forall.{index_extents, indices_at}
use Rattle.array_meaning.specs.Iterations.{nest_axes, nest_indices, with_indices}
use Rattle.array_meaning.specs.Touches.{Touch, assigned_in, touches}
use Rattle.interference.specs.declared.indices.InnerLoop.{InnerLoop}
use Rattle.interference.specs.declared.indices.IterationSpace.{IterationSpace}

-- the nest whose outermost loop has this body
abbrev pub nest_of : HeldNest → HeldLoop → List HeldStatement → Nest
nest_of nest l body = record { line = nest.line; loops = loop_of l ∷ inner_loops nest.inner_loops (block_of body); new = nest.new.items; reduction = nest.reduction.items }

-- the body of its innermost loop
abbrev pub innermost_of : HeldNest → List HeldStatement → Block
innermost_of nest body = innermost nest.inner_loops (block_of body)

-- a loop in code, where there is one, and so many inside it; and what stands in the last of them
abbrev pub loops_from : Option InnerLoop → ℕ → List Loop
loops_from None n = []
loops_from (Some inner) n = loop_of inner.head.now ∷ inner_loops n (block_of inner.body.now.items)

abbrev pub innermost_from : Option InnerLoop → ℕ → Block → Block
innermost_from None n block = block
innermost_from (Some inner) n block = innermost n (block_of inner.body.now.items)

-- a space is that of a nest in a state
pub record IsSpaceOf (nest : Nest) (s : State) (space : IterationSpace) : Type 0 where
  pub indices : space.indices.items ≡ nest_indices nest
  pub axes : space.axes.items ≡ nest_axes s nest

-- how many iterations a space has
abbrev pub iterations_in : IterationSpace → ℕ
iterations_in space = product (index_extents space.axes.items)

-- the state in which the indices of a space are as they are in the iteration of a number
abbrev pub at_number : IterationSpace → State → ℕ → State
at_number space s i = with_indices space.indices.items (indices_at space.axes.items i) s

-- what the iteration of a number touches
abbrev pub touches_at : HeldNest → IterationSpace → Block → State → ℕ → List Touch
touches_at nest space body s i = touches (assigned_in body) (nest.new.items ++ nest.reduction.items ++ space.indices.items) (at_number space s i) body
