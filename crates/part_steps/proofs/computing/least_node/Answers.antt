use Rattle.std.proofs.Common.{◌≡◌, [], ◌∷◌, if◌then◌else◌, Some, None, get_or, sym, ◌∙◌, ap}
use Rattle.machine_steps.specs.Layout.{in_bounds, owns_spot}
use Rattle.machine_steps.specs.Message.{least_or_zero}
use Rattle.storage.specs.Spots.{spot_of}
use Rattle.owner_tables.proofs.Ranges.{filter-head}
use Rattle.tuple_values.specs.Spots.{read_of}
use Rattle.part_steps.proofs.computing.least_node.Goals as goal

pub returns-then-is_in_bounds : goal.returns-then-is_in_bounds
returns-then-is_in_bounds c =
    let owners = c.args.owners.now in
    let spot = spot_of c.in-Some.spot in
    let inside : in_bounds owners.layouts (read_of c.args.read) ≡ Some spot =
    ap (λ read. in_bounds owners.layouts (read_of read)) c.in-Some.is ∙ ap (λ b. if b then Some spot else None) (sym c.is_in_bounds.ensures ∙ c.if-is_in_bounds.true) in
    c.first_or_zero.ensures ∙ ap (λ xs. get_or xs 0 0 ∷ []) c.owners.ensures ∙ ap (λ k. k ∷ []) (filter-head (λ node. owns_spot owners.layouts node spot) 0 owners.nodes)
    ∙ ap (λ read. least_or_zero owners.nodes owners.layouts read ∷ []) (sym inside)
