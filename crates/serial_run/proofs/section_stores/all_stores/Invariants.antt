use Rattle.std.proofs.Common.{◌≡◌, Ok}
use Rattle.array_meaning.specs.Elementals.{each}
use Rattle.array_meaning.specs.Sections.{positions}
use Rattle.term_values.specs.States.{state_of}
use Rattle.term_values.specs.Views.{elemental}
use Rattle.serial_run.specs.PositionTuples.{ArePositions}
use Rattle.serial_run.specs.SectionStores.{branch_mask, kept_of, masked_store}
use Rattle.serial_run.proofs.section_stores.all_stores.Given as goal

-- the stores of the tuples so far, and the tuple of this turn
abbrev pub invariant-loop-t : goal.invariant-loop-t
invariant-loop-t l =
    (kept_of (each (positions l.space.extents.now) (masked_store (state_of l.s) l.space.extents.now (branch_mask l.space.branch l.space.mask.now) l.sides.array l.sides.left.now (elemental l.sides.right.now)) l.t)
    ≡ Ok l.stores.items)
    × ArePositions l.space.extents.now l.t l.x
