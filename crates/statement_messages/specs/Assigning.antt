-- Of a promise.
-- Who computes the tuples of an assignment.
use Rattle.machine_steps.specs.Message.{Part}
use Rattle.owner_tables.specs.Views.{OwnersView}
use Rattle.part_steps.specs.Parts.{part_of}
use Rattle.part_steps.specs.declared.who.Who.TheVariants.{Left}
use Rattle.tuple_values.specs.Statements.{Statement}

-- the owners of what is assigned, where the rows lie so
abbrev pub assigning : OwnersView → Statement → Part
assigning owners w = part_of (record { who = Left; nodes = owners.nodes; layouts = owners.layouts; statement = w })
