use Rattle.std.proofs.Common.{◌≡◌, ℕ, ◌+◌, ◌<◌, All, List, get_or, length, map, take, arith, ap, subst, sym, ◌∙◌}
use Rattle.std.proofs.lemmas.List.{take_all}
use Rattle.std.specs.List.{range_with_len}
use Rattle.machine_steps.specs.Layout.{owned_in, sizes}
use Rattle.owner_tables.specs.Samples.{AreSamples, owners_by}
use Rattle.comm_sets.specs.Marks.{any_moved}
use Rattle.covering_rounds.specs.Moved.{is_moved}
use Rattle.comm_sets.proofs.Marking.{in_row, marked-more, marked-same}
use Rattle.comm_sets.proofs.Sampled.{any-more, any-moved-samples}
use Rattle.comm_sets.proofs.marks.mark_elements.Goals as goal

pub mark_element-requires-clause-spot : goal.mark_element-requires-clause-spot
mark_element-requires-clause-spot c =
    let n = get_or (sizes c.args.before.now.layouts) c.args.row 0 in
    let below : List ℕ → Type 0 = λ ns. All (λ at. at < n) ns in
    subst below (sym c.deref-at-items.ensures.value) c.in_ok-positions.ensures.below c.loop-at.at-index 0 (omega arith)

pub loop-at-preserved : goal.loop-at-preserved
loop-at-preserved c =
    let old = c.args.before.now in
    let new = c.args.after.now in
    let ns = c.deref-at-items.result.now in
    let i = c.loop-at.at-index in
    let inside : i < length ns = omega arith in
    marked-more (any_moved old.nodes old.layouts new.layouts (map (in_row c.args.row) (take (i + 1) ns))) c.loop-at.invariant c.mark_element.ensures
    (λ from to lt lt'. any-more (is_moved old.nodes old.layouts new.layouts from to) c.args.row i ns inside)

pub returns : goal.returns
returns c =
    let old = c.args.before.now in
    let new = c.args.after.now in
    let ns = c.deref-at-items.result.now in
    let n = get_or (sizes old.layouts) c.args.row 0 in
    let all : take c.loop-at.at-index ns ≡ ns = take_all c.loop-at.at-index ns (omega arith) in
    let owners : ℕ → List ℕ = owners_by old.nodes (owned_in old.layouts c.args.row) in
    let others : ℕ → List ℕ = owners_by new.nodes (owned_in new.layouts c.args.row) in
    marked-same (any_moved old.nodes old.layouts new.layouts (map (in_row c.args.row) (range_with_len 0 n)))
    (λ from to lt lt'.
    ap (λ xs. any_moved old.nodes old.layouts new.layouts (map (in_row c.args.row) xs) from to) all
    ∙ any-moved-samples old.nodes new.nodes old.layouts new.layouts c.args.row n ns c.requires.nodes
    (subst (AreSamples n owners others) (sym c.deref-at-items.ensures.value) c.in_ok-positions.ensures) from to lt')
    c.loop-at.invariant
