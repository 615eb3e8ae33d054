use Rattle.std.proofs.Common.{◌≡◌, length, ◌∙◌, ap, arith}
use Rattle.std.proofs.lemmas.List.{length-map}
use Rattle.hpf_base.proofs.Ranges.{map-range_push}
use Rattle.machine_steps.specs.Layout.{size_of, sizes}
use Rattle.remap_steps.specs.Redistributions.{moved_row}
use Rattle.remap_steps.proofs.Made.{seen}
use Rattle.remap_steps.proofs.Moved.{all-rows}
use Rattle.remap_steps.proofs.redistribution.Redistribution.moved_pieces.Goals as goal

pub loop-row-preserved : goal.loop-row-preserved
loop-row-preserved c =
    map-range_push (moved_row c.args.self.now c.args.pieces.now c.args.received.now) c.loop-row.rows.items c.push.new.self.items c.in_ok-moved_row.field-0 c.loop-row.row
    c.in_ok-push.ensures.items c.loop-row.invariant c.in_ok-moved_row.ensures

pub returns : goal.returns
returns c =
    let v = c.args.self.now in
    let s = seen c.self.inside v c.self.view_is c.self.invariant in
    let many : length c.self.inside.before.layouts ≡ length v.old = ap length s.old in
    let done : c.loop-row.row ≡ length (sizes v.old) = omega (arith, c.rows-row-end.ensures, many, length-map v.old size_of) in
    c.loop-row.invariant ∙ all-rows v c.args.pieces.now c.args.received.now c.loop-row.row done
