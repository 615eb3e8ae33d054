use Rattle.std.proofs.Common.{Some, None, if◌then◌else◌, sym, ◌∙◌, ap}
use Rattle.machine_steps.specs.Layout.{in_bounds}
use Rattle.storage.specs.Spots.{spot_of}
use Rattle.tuple_values.specs.Spots.{read_of}
use Rattle.part_steps.proofs.Nodes.{root-computes}
use Rattle.part_steps.proofs.computing.assigners.Goals as goal

pub returns-else-is_in_bounds : goal.returns-else-is_in_bounds
returns-else-is_in_bounds c =
    let owners = c.args.owners.now in
    root-computes owners.layouts owners.nodes (in_bounds owners.layouts (read_of c.args.left)) c.requires
    (ap (λ left. in_bounds owners.layouts (read_of left)) c.in-Some.is ∙ ap (λ b. if b then Some (spot_of c.in-Some.spot) else None) (sym c.is_in_bounds.ensures ∙ c.if-is_in_bounds.false))

pub returns-in-None : goal.returns-in-None
returns-in-None c =
    let owners = c.args.owners.now in
    root-computes owners.layouts owners.nodes (in_bounds owners.layouts (read_of c.args.left)) c.requires (ap (λ left. in_bounds owners.layouts (read_of left)) c.in-None.is)
