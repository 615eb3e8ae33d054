-- Of private clauses.
-- A statement that is all of a body, where it is a loop of a nest (HPF 2.0, 5.1).
use Rattle.std.specs.Prelude.{ℕ, List, [], ◌∷◌}
use Rattle.array_meaning.specs.Statements.{Loop, Block, Statement, Do}
use Rattle.resolved_program.specs.Resolved.{inner_loops, innermost}

-- this one and so many inside it; and what stands in the last of them
abbrev pub loops_of : ℕ → Statement → List Loop
loops_of n (Do mark loop body) = loop ∷ inner_loops n body
loops_of n statement = []

abbrev pub innermost_in : ℕ → Statement → Block → Block
innermost_in n (Do mark loop body) block = innermost n body
innermost_in n statement block = block
