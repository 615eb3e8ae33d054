-- Of a promise.
-- What contracts see of parts.
use Rattle.tuple_values.specs.Views.{statement}
use Rattle.part_steps.specs.declared.part.Part.{Part}
use Rattle.part_steps.specs.Parts.{PartView}

abbrev pub part_view : Part → PartView
part_view p = record { who = p.who; nodes = p.owners.now.nodes; layouts = p.owners.now.layouts; statement = statement p.statement.now }
