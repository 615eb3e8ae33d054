use Rattle.std.proofs.Common.{◌≡◌, ◌&&◌, ◌||◌, nat_eq, nat_lt, length, ◌∙◌, ap, arith}
use Rattle.pair_messages.specs.Moved.{is_moved}
use Rattle.pair_messages.proofs.Moving.{all-rows, row-more}
use Rattle.pair_messages.proofs.remapping.Ends.moved.Goals as goal

pub loop-row-preserved : goal.loop-row-preserved
loop-row-preserved c s =
    let self = c.args.self.now in
    let moved = is_moved self.before.now.nodes self.before.now.layouts self.after.now.layouts self.from self.to s in
    let row = c.loop-row.row in
    c.in_ok-add_row.ensures s ∙ ap (λ b. (nat_eq row s.row && moved) || b) (c.loop-row.invariant s) ∙ row-more row s.row moved

pub returns : goal.returns
returns c s =
    let self = c.args.self.now in
    let moved = is_moved self.before.now.nodes self.before.now.layouts self.after.now.layouts self.from self.to s in
    let done : c.loop-row.row ≡ length self.before.now.layouts = omega (arith, c.rows-row-end.ensures) in
    c.loop-row.invariant s ∙ ap (λ rows. nat_lt s.row rows && moved) done
    ∙ all-rows self.before.now.nodes self.before.now.layouts self.after.now.layouts self.from self.to s
