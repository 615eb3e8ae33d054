use Rattle.std.proofs.Common.{◌≡◌, drop}
use Rattle.std.specs.List.{list_all}
use Rattle.array_meaning.specs.Elementals.{all_sections}
use Rattle.array_meaning.specs.Sections.{is_conformable}
use Rattle.term_values.specs.Views.{elementals_of}
use Rattle.term_values.proofs.spaces.+conformable.Given as goal

-- what is left decides
abbrev pub invariant-all_conformable-loop-x : goal.invariant-all_conformable-loop-x
invariant-all_conformable-loop-x l =
    list_all (is_conformable l.ns) (all_sections (elementals_of l.x-items)) ≡ list_all (is_conformable l.ns) (all_sections (elementals_of (drop l.x-index l.x-items)))
