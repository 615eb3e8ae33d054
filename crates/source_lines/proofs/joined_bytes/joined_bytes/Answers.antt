use Rattle.std.proofs.Common.{◌≡◌, ◌+◌, ◌∷◌, [], ◌++◌, map, take, sym, ap, ◌∙◌, append_assoc}
use Rattle.std.specs.List.{join_with_byte}
use Rattle.std.proofs.lemmas.List.{map_more}
use Rattle.source_lines.specs.LogicalLines.{body, continuing_body}
use Rattle.source_lines.proofs.LineLaws.{join_more}
use Rattle.source_lines.proofs.joined_bytes.joined_bytes.Goals as goal

pub loop-line-preserved : goal.loop-line-preserved
loop-line-preserved c =
    let i = c.loop-line.line-index in
    let line = c.line-item.result in
    let first = body c.args.line.now in
    let pieces = map continuing_body (take i c.args.lines.now) in
    let last = continuing_body line in
    let one_more : map continuing_body (take (i + 1) c.args.lines.now) ≡ pieces ++ last ∷ [] =
    map_more continuing_body c.args.lines.now i line c.loop-line-test.true ∙ ap (λ r. pieces ++ continuing_body r ∷ []) (sym c.line-item.is) in
    let extended : c.extend_from_slice.new.self.items ≡ c.push.new.self.items ++ c.continuing_body.result.now = c.in_ok-extend_from_slice.ensures.items in
    let pushed : c.push.new.self.items ≡ c.loop-line.bytes.items ++ 32 ∷ [] = c.in_ok-push.ensures.items in
    rw one_more
    (extended ∙ rw (pushed, c.loop-line.invariant, c.continuing_body.ensures) (append_assoc (join_with_byte 32 (first ∷ pieces)) (32 ∷ []) last)
    ∙ sym (join_more 32 first pieces last))
