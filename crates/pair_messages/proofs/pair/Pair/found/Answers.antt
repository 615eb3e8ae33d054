use Rattle.std.proofs.Common.{◌∙◌}
use Rattle.course_forms.specs.Views.{named_of, names_of}
use Rattle.visited_tuples.specs.Owned.{owns_named}
use Rattle.pair_messages.specs.Sent.{computes_named}
use Rattle.pair_messages.proofs.Whole.{by-axes, computes-owned}
use Rattle.pair_messages.proofs.pair.Pair.found.Goals as goal

pub returns : goal.returns
returns c s =
    let self = c.args.self.now in
    let takers = self.takers.now.layouts in
    let ns = self.extents.now in
    let left = named_of self.left.now in
    let lies = c.lies.ensures c.if-not-lies.false in
    c.in_ok-spots.ensures s
    ∙ by-axes self.owners.now.nodes self.owners.now.layouts ns (names_of c.args.reads.now) (computes_named takers ns left self.to) self.from self.to
    (owns_named takers self.to left) (λ t below. computes-owned ns takers left lies.0 self.to t lies.1 (c.is_inside.ensures c.if-not-is_inside.false t below)) s
