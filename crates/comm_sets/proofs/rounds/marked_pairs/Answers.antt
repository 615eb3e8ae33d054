use Rattle.std.proofs.Common.{◌++◌, sym, ◌∙◌, ap}
use Rattle.comm_sets.specs.Marks.{is_marked_pair}
use Rattle.comm_sets.proofs.Pairs.{passing, source-more}
use Rattle.comm_sets.proofs.rounds.marked_pairs.Goals as goal

pub loop-from-preserved : goal.loop-from-preserved
loop-from-preserved c =
    let test = is_marked_pair c.args.marks.now in
    let from = c.loop-from.from in
    c.in_ok-push_pairs.ensures ∙ ap (λ ps. ps ++ passing test from c.args.nodes) c.loop-from.invariant ∙ sym (source-more test c.args.nodes from)
