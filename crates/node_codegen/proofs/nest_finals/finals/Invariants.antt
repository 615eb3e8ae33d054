use Rattle.std.proofs.Common.{◌≡◌, ◌++◌, drop, map}
use Rattle.resolved_program.specs.Resolved.{block_of}
use Rattle.node_codegen.specs.NestFinals.{final, finals_by}
use Rattle.node_codegen.proofs.nest_finals.finals.Given as goal

-- those so far, before those of the scalars that are left
abbrev pub invariant-loop-j : goal.invariant-loop-j
invariant-loop-j l =
    map final l.made.items ++ finals_by l.w (block_of l.body.items) l.j (drop l.j l.w.scalars.items) ≡ finals_by l.w (block_of l.body.items) 0 l.w.scalars.items
