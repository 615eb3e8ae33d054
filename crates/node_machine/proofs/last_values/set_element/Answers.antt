use Rattle.std.proofs.Common.{◌≡◌, true, sym, ◌∙◌, ap, rules}
use Rattle.machine_steps.specs.Layout.{owns_spot}
use Rattle.node_machine.specs.Folds.{element_of}
use Rattle.node_machine.proofs.LastLaws.{alike-owned}
use Rattle.node_machine.proofs.last_values.set_element.Goals as goal

pub local_value-requires-clause-owner : goal.local_value-requires-clause-owner
local_value-requires-clause-owner c =
    let layouts = c.args.owners.now.layouts in
    let owns : owns_spot layouts c.args.id (element_of c.args.copy c.args.at) ≡ true = search rules in
    sym (ap (λ owned. owned c.args.id c.args.at) (alike-owned layouts c.args.copy c.args.set c.requires.alike)) ∙ owns
