use Rattle.std.proofs.Common.{◌≡◌, drop}
use Rattle.std.specs.List.{list_all}
use Rattle.array_meaning.specs.Elementals.{all_sections}
use Rattle.array_meaning.specs.Sections.{is_selection_in_limits}
use Rattle.term_values.specs.Views.{elementals_of}
use Rattle.term_values.proofs.spaces.+in_limits.Given as goal

-- what is left decides
abbrev pub invariant-all_are_in_limits-loop-x : goal.invariant-all_are_in_limits-loop-x
invariant-all_are_in_limits-loop-x l =
    list_all (list_all is_selection_in_limits) (all_sections (elementals_of l.x-items)) ≡ list_all (list_all is_selection_in_limits) (all_sections (elementals_of (drop l.x-index l.x-items)))
