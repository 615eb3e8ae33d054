use Rattle.std.proofs.Common.{◌+◌, ◌*◌, ◌++◌, List, ℤ, ◌∙◌, ap, sym, arith, get_or, pos, map}
use Rattle.std.specs.List.{range_with_len}
use Rattle.hpf_base.proofs.Ranges.{map-range_agree}
use Rattle.machine_steps.specs.Node.{local_read}
use Rattle.storage.specs.Spots.{spot_of}
use Rattle.storage.specs.Storage.{row_of}
use Rattle.owner_tables.specs.Lines.{line_spot}
use Rattle.owner_tables.proofs.held_values.push_held.Goals as goal

pub returns-clause-pushed : goal.returns-clause-pushed
returns-clause-pushed c =
    let line = c.held_line-line.result in
    let row = row_of c.args.pieces.now c.args.spot.row in
    c.in_ok-push_line.ensures
    ∙ ap (λ (xs : List ℤ). c.args.values.now.items ++ map (λ k. get_or xs (line.first + k * line.step) (pos 0)) (range_with_len 0 line.count)) c.piece_of.ensures
    ∙ ap (λ l. c.args.values.now.items ++ l)
    (map-range_agree (λ k. get_or row (line.first + k * line.step) (pos 0))
    (λ k. local_read c.args.owners.now.layouts c.args.id c.args.pieces.now (line_spot (spot_of c.args.spot) c.args.step k)) 0 line.count
    (λ k from below. ap (λ n. get_or row n (pos 0)) (sym (c.held_line-line.ensures.held k (omega (arith, below))).1)))
