use Rattle.std.proofs.Common.{◌≡◌, drop}
use Rattle.resolved_program.specs.Resolved.{terms_of}
use Rattle.term_values.specs.States.{state_of}
use Rattle.interference.specs.Walks.{all_read, walk_of}
use Rattle.interference.proofs.touches.+read.Given as goal

-- what is left leads to the whole
abbrev pub invariant-note_all_reads-loop-t : goal.invariant-note_all_reads-loop-t
invariant-note_all_reads-loop-t l = all_read (walk_of l.w) (state_of l.s) (terms_of (drop l.t-index l.t-items)) ≡ all_read (walk_of l.fn.w) (state_of l.s) (terms_of l.t-items)
