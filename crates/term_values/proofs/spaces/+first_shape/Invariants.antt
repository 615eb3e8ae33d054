use Rattle.std.proofs.Common.{◌≡◌, drop}
use Rattle.array_meaning.specs.Elementals.{all_sections}
use Rattle.term_values.specs.Spaces.{first_shape}
use Rattle.term_values.specs.Views.{elementals_of}
use Rattle.term_values.proofs.spaces.+first_shape.Given as goal

-- no section stands before the operands that are left
abbrev pub invariant-first_shape_of_all-loop-x : goal.invariant-first_shape_of_all-loop-x
invariant-first_shape_of_all-loop-x l = first_shape (all_sections (elementals_of l.x-items)) ≡ first_shape (all_sections (elementals_of (drop l.x-index l.x-items)))
