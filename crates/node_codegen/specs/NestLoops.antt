-- Of private clauses.
-- No public clause cites this file. A loop that is all of a body, where there is one (HPF 2.0, 5.1).
use Rattle.std.specs.Prelude.{ℕ, List, [], ◌∷◌, Option, Some, None}
use Rattle.array_meaning.specs.Statements.{Loop, Block}
use Rattle.resolved_program.specs.Resolved.{block_of, inner_loops, innermost, loop_of}
use Rattle.node_codegen.specs.declared.nest_loops.InnerLoop.{InnerLoop}

-- this one and so many inside it; and what stands in the last of them
abbrev pub loops_from : Option InnerLoop → ℕ → List Loop
loops_from None n = []
loops_from (Some inner) n = loop_of inner.head.now ∷ inner_loops n (block_of inner.body.now.items)

abbrev pub innermost_from : Option InnerLoop → ℕ → Block → Block
innermost_from None n block = block
innermost_from (Some inner) n block = innermost n (block_of inner.body.now.items)
