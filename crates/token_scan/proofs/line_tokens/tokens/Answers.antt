use Rattle.token_scan.proofs.LineScan.{scanned_blank}
use Rattle.token_scan.proofs.line_tokens.tokens.Goals as goal

pub loop-place-preserved-in-Blank : goal.loop-place-preserved-in-Blank
loop-place-preserved-in-Blank c =
    scanned_blank c.as_slice-bytes.result.now c.args.line.now.bytes c.loop-place.place c.loop-place.found.items c.loop-place.is_past_limit
    c.in_ok-first_piece.field-0 c.loop-place.invariant
    c.as_slice-bytes.ensures c.in-Blank.is c.in_ok-first_piece.ensures
