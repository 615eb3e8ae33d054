use Rattle.std.proofs.Common.{◌≡◌, ◌++◌, replicate}
use Rattle.nodes_lowered.specs.ProgramLayouts.{empty_layout}
use Rattle.compiled_program.proofs.rows.push_copies.Given as goal

abbrev pub invariant-loop-copy : goal.invariant-loop-copy
invariant-loop-copy l = l.owners ≡ record { layouts = l.initial.owners.layouts ++ replicate l.copy (empty_layout l.nodes); nodes = l.nodes }
