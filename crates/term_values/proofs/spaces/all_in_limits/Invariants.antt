use Rattle.std.proofs.Common.{◌≡◌, drop}
use Rattle.std.specs.List.{list_all}
use Rattle.array_meaning.specs.Sections.{is_selection_in_limits}
use Rattle.term_values.proofs.spaces.all_in_limits.Given as goal

-- what is left decides
abbrev pub invariant-loop-d : goal.invariant-loop-d
invariant-loop-d l = list_all is_selection_in_limits l.ds ≡ list_all is_selection_in_limits (drop l.d-index l.ds)
