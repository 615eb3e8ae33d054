use Rattle.std.proofs.Common.{◌≡◌, drop, map}
use Rattle.array_meaning.specs.ArrayAssignments.{assign_all_where}
use Rattle.resolved_program.specs.Resolved.{section_assignment}
use Rattle.term_values.specs.States.{state_of}
use Rattle.serial_run.specs.SectionStores.{branch_mask}
use Rattle.serial_run.proofs.where_construct.assign_all_where.Given as goal

-- what is left to run from here is the whole
abbrev pub invariant-loop-b : goal.invariant-loop-b
invariant-loop-b l =
    assign_all_where l.fn.space.extents.now (branch_mask l.fn.space.branch l.fn.space.mask.now) (map section_assignment l.fn.body.items) (state_of l.fn.s)
    ≡ assign_all_where l.fn.space.extents.now (branch_mask l.fn.space.branch l.fn.space.mask.now) (map section_assignment (drop l.b-index l.b-items)) (state_of l.s)
