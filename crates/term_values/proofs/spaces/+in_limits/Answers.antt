use Rattle.std.proofs.Common.{◌∙◌, ap}
use Rattle.std.specs.List.{list_all}
use Rattle.array_meaning.specs.Sections.{is_selection_in_limits}
use Rattle.term_values.proofs.Operands.{sections_are}
use Rattle.term_values.proofs.spaces.+in_limits.Goals as goal

pub are_in_limits-returns-in-Operation : goal.are_in_limits-returns-in-Operation
are_in_limits-returns-in-Operation t c =
    c.all_are_in_limits.ensures ∙ ap (list_all (list_all is_selection_in_limits)) (sections_are c.args.x.now c.in-Operation.field-0 c.in-Operation.xs c.in-Operation.is)
