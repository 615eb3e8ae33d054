use Rattle.std.proofs.Common.{◌≡◌, ◌&&◌, nat_eq, nat_lt, get_or, length, ap, ◌∙◌, arith}
use Rattle.machine_steps.specs.Layout.{sizes}
use Rattle.comm_sets.specs.Moves.{moves}
use Rattle.message_elements.proofs.AllSpots.{both-tests}
use Rattle.comm_sets.proofs.Noting.{noted-more}
use Rattle.comm_sets.proofs.Sent.{all-rows, are-filters, rows-more}
use Rattle.comm_sets.proofs.remapping.moved.Goals as goal

pub loop-row-preserved : goal.loop-row-preserved
loop-row-preserved c =
    let old = c.args.before.now in
    let row = c.loop-row.row in
    noted-more c.loop-row.invariant c.in_ok-move_row.ensures (λ other lt s.
    let size = get_or (sizes old.layouts) in
    both-tests (nat_eq row s.row && nat_lt s.at (size row 0)) (nat_lt s.row row && nat_lt s.at (size s.row 0)) (moves old.nodes old.layouts c.args.after.now.layouts c.args.end other s)
    ∙ ap (λ b. b && moves old.nodes old.layouts c.args.after.now.layouts c.args.end other s) (rows-more (sizes old.layouts) row s))

pub returns : goal.returns
returns c =
    let old = c.args.before.now in
    let done : c.loop-row.row ≡ length old.layouts = omega (arith, c.rows-row-end.ensures) in
    are-filters old.nodes old.layouts c.loop-row.messages c.arrange.new.self (moves old.nodes old.layouts c.args.after.now.layouts c.args.end) c.loop-row.invariant c.arrange.ensures
    (λ other s. ap (λ b. b && moves old.nodes old.layouts c.args.after.now.layouts c.args.end other s)
    (ap (λ rows. nat_lt s.row rows && nat_lt s.at (get_or (sizes old.layouts) s.row 0)) done ∙ all-rows old.layouts s))
