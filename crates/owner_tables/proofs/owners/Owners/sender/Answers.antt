use Rattle.std.proofs.Common.{get_or, sym, ◌∙◌}
use Rattle.std.proofs.lemmas.Bool.{lt-ltb, true≢false}
use Rattle.storage.specs.Spots.{spot_of}
use Rattle.machine_steps.specs.Layout.{sizes}
use Rattle.machine_steps.proofs.Owners.{no-owner}
use Rattle.owner_tables.proofs.owners.Owners.sender.Goals as goal

pub returns-else-is_in_bounds-clause-value : goal.returns-else-is_in_bounds-clause-value
returns-else-is_in_bounds-clause-value c =
    let layouts = c.args.self.now.layouts in
    let spot = c.args.spot in
    sym (no-owner c.args.self.now.nodes layouts (spot_of spot)
    (λ below. true≢false (sym (lt-ltb spot.at (get_or (sizes layouts) spot.row 0) below) ∙ sym c.if-is_in_bounds.ensures)))
