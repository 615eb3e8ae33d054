use Rattle.std.proofs.Common.{◌&&◌, nat_eq, nat_lt, get_or, refl}
use Rattle.machine_steps.specs.Layout.{sizes}
use Rattle.comm_sets.specs.Moves.{moves}
use Rattle.comm_sets.proofs.Marking.{none-moves}
use Rattle.comm_sets.proofs.Noting.{noted-none, noted-same}
use Rattle.comm_sets.proofs.remapping.move_row.Goals as goal

pub returns-then-is_unchanged : goal.returns-then-is_unchanged
returns-then-is_unchanged c =
    let old = c.args.before.now in
    let new = c.args.after.now in
    let row = c.args.row in
    noted-same (λ other s. (nat_eq row s.row && nat_lt s.at (get_or (sizes old.layouts) row 0)) && moves old.nodes old.layouts new.layouts c.args.end other s)
    (λ other lt s. none-moves old.nodes old.layouts new.layouts c.args.end row (c.if-is_unchanged.ensures.same refl) other s (nat_lt s.at (get_or (sizes old.layouts) row 0)))
    (noted-none c.args.messages.now)
