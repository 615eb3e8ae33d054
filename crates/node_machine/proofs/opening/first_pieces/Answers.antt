use Rattle.std.proofs.Common.{◌≡◌, length, get_or, replicate, slice_index_or, pos, ap, ◌∙◌, rules}
use Rattle.machine_steps.specs.Layout.{count_passing, owned_in, sizes}
use Rattle.node_machine.proofs.FirstPieces.{first_pieces-all, first_pieces-length, first_pieces-more}
use Rattle.node_machine.proofs.opening.first_pieces.Goals as goal

pub loop-row-preserved : goal.loop-row-preserved
loop-row-preserved c =
    let n = count_passing (owned_in c.args.owners.now.layouts c.loop-row.row c.args.id) 0 (slice_index_or (sizes c.args.owners.now.layouts) c.loop-row.row 0) in
    let same : c.in_ok-of_one.field-0 ≡ replicate n (get_or c.args.starts.now c.loop-row.row (pos 0)) = search rules in
    first_pieces-more c.args.id c.args.owners.now.layouts c.args.starts.now c.loop-row.row (pos 0) _ _ _ c.requires.rows c.loop-row-test.true c.in_ok-push.ensures.items same c.loop-row.invariant

pub returns-clause-pieces : goal.returns-clause-pieces
returns-clause-pieces c = first_pieces-all c.args.id c.args.owners.now.layouts c.args.starts.now c.loop-row.row _ c.requires.rows c.loop-row-test.false c.loop-row.invariant

pub returns-clause-count : goal.returns-clause-count
returns-clause-count c =
    ap length (first_pieces-all c.args.id c.args.owners.now.layouts c.args.starts.now c.loop-row.row _ c.requires.rows c.loop-row-test.false c.loop-row.invariant)
    ∙ first_pieces-length c.args.id c.args.owners.now.layouts c.args.starts.now c.requires.rows
