use Rattle.std.proofs.Common.{◌≡◌, ◌≢◌, ◌≤◌, ◌*◌, false, List, All, IfOk, filter, map, replicate, sym, ◌∙◌, ap, subst, arith}
use Rattle.std.specs.List.{AllPairs}
use Rattle.letters.specs.declared.pair.Pair.{Pair}
use Rattle.redistribute_rounds.specs.Rounds.{IsBetween}
use Rattle.comm_sets.specs.Marks.{is_marked, is_marked_pair}
use Rattle.machine_steps.specs.Rounds.{all_pairs, color_rounds, moving_pairs}
use Rattle.comm_sets.proofs.Pairs.{marked-moving}
use Rattle.covering_rounds.proofs.Pairs.{kept-between, kept-distinct}
use Rattle.comm_sets.proofs.rounds.remap_rounds.Goals as goal

pub rounds-requires-clause-between : goal.rounds-requires-clause-between
rounds-requires-clause-between c =
    let nodes = c.nodes-nodes.result in
    let marks = c.deref.result.now in
    subst (λ (pairs : List Pair). All (IsBetween nodes) pairs) (sym (c.deref-2.ensures.value ∙ c.in_ok-pairs.ensures))
    (kept-between nodes (λ pair. is_marked marks pair.from.0 pair.to.0))

pub rounds-requires-clause-distinct : goal.rounds-requires-clause-distinct
rounds-requires-clause-distinct c =
    let nodes = c.nodes-nodes.result in
    let marks = c.deref.result.now in
    subst (λ (pairs : List Pair). AllPairs (λ one other. one ≢ other) pairs) (sym (c.deref-2.ensures.value ∙ c.in_ok-pairs.ensures))
    (kept-distinct nodes (λ pair. is_marked marks pair.from.0 pair.to.0))

pub returns : goal.returns
returns c =
    let old = c.args.before.now in
    let new = c.args.after.now in
    let count = c.nodes-nodes.ensures.value in
    let few : old.nodes ≤ 64 = omega (arith, c.nodes-nodes.ensures.few) in
    let none : c.in_ok-marks.marks.items ≡ replicate (old.nodes * 64) false = c.in_ok-marks.ensures ∙ ap (λ n. replicate (n * 64) false) count in
    let pairs : c.deref-2.result.now ≡ moving_pairs old.nodes old.layouts new.layouts =
    c.deref-2.ensures.value ∙ c.in_ok-pairs.ensures ∙ (λ i. filter (is_marked_pair (c.deref.ensures.value i)) (all_pairs (count i)))
    ∙ marked-moving old.nodes old.layouts new.layouts c.in_ok-marks.marks.items c.mark_rows.new.marks.items few none c.in_ok-mark_rows.ensures in
    subst (λ (all : List (List Pair)). IfOk c.rounds.result (λ rounds. map (λ v. v.items) rounds.list.items ≡ all)) (λ i. color_rounds (count i) (pairs i)) c.rounds.ensures.value
