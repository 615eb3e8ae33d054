use Rattle.storage.specs.Spots.{spot_of}
use Rattle.machine_steps.proofs.Owners.{spot-below}
use Rattle.owner_tables.proofs.held_values.local_value.Goals as goal

pub address-at-requires-clause-at : goal.address-at-requires-clause-at
address-at-requires-clause-at c = spot-below c.args.owners.now.layouts c.args.id (spot_of c.args.spot) c.requires.owner
