use Rattle.std.proofs.Common.{[], ◌∷◌, ◌++◌, filter, sym, ◌∙◌, ap}
use Rattle.std.proofs.lemmas.List.{append_assoc}
use Rattle.comm_sets.specs.Marks.{is_marked_pair}
use Rattle.machine_steps.specs.Rounds.{pair_of}
use Rattle.comm_sets.proofs.Pairs.{passing, target-more}
use Rattle.comm_sets.proofs.rounds.push_pairs.Goals as goal

pub loop-to-preserved : goal.loop-to-preserved
loop-to-preserved c =
    let test = is_marked_pair c.args.marks.now in
    let from = c.args.from in
    let to = c.loop-to.to in
    let more = filter test (pair_of from to ∷ []) in
    c.in_ok-push_pair.ensures ∙ ap (λ ps. ps ++ more) c.loop-to.invariant ∙ append_assoc c.args.pairs.now.items (passing test from to) more
    ∙ ap (λ ps. c.args.pairs.now.items ++ ps) (sym (target-more test from to))
