use Rattle.std.proofs.Common.{◌∙◌, ap, if◌then◌else◌, None, Some}
use Rattle.storage.specs.Spots.{spot_of}
use Rattle.machine_steps.specs.Layout.{address}
use Rattle.machine_steps.proofs.Owners.{owned_there}
use Rattle.owner_tables.proofs.owners.Owners.held.Goals as goal

pub returns : goal.returns
returns c =
    let layouts = c.args.self.now.layouts in
    let spot = spot_of c.args.spot in
    c.found.ensures ∙ ap (λ b. if b then Some (address layouts c.args.node spot) else None) (owned_there layouts c.args.node spot)
