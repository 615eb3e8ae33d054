use Rattle.std.proofs.Common.{◌≡◌, ℕ, ◌<◌, nat_eq, not, ◌&&◌, List, All, filter, sym, ◌∙◌, ap, subst}
use Rattle.std.specs.List.{list_any, range_with_len}
use Rattle.machine_steps.specs.Layout.{least_owner_of, owns_spot}
use Rattle.storage.specs.Spots.{spot_of}
use Rattle.covering_rounds.specs.Moved.{is_moved}
use Rattle.comm_sets.proofs.Computing.{are-nodes}
use Rattle.comm_sets.proofs.Marking.{at-element, marked-same}
use Rattle.comm_sets.proofs.marks.mark_element.Goals as goal

pub mark_targets-requires-clause-targets : goal.mark_targets-requires-clause-targets
mark_targets-requires-clause-targets c =
    let owns = λ (node : ℕ). owns_spot c.args.after.now.layouts node (spot_of c.args.spot) in
    let all : List ℕ → Type 0 = λ nodes. All (λ node. node < c.args.before.now.nodes) nodes in
    subst all (sym (c.owners.ensures ∙ ap (λ count. filter owns (range_with_len 0 count)) (sym c.requires.nodes))) (are-nodes owns c.args.before.now.nodes)

pub returns : goal.returns
returns c =
    let old = c.args.before.now in
    let new = c.args.after.now in
    let spot = spot_of c.args.spot in
    let owns = λ (node : ℕ). owns_spot new.layouts node spot in
    let owners : c.owners.result.now ≡ filter owns (range_with_len 0 old.nodes) = c.owners.ensures ∙ ap (λ count. filter owns (range_with_len 0 count)) (sym c.requires.nodes) in
    marked-same (λ from to. is_moved old.nodes old.layouts new.layouts from to spot)
    (λ from to lt lt'.
    ap (λ least. nat_eq least from && (list_any (λ node. nat_eq node to) c.owners.result.now && not (owns_spot old.layouts to spot))) c.least_owner-from.ensures.value
    ∙ ap (λ targets. nat_eq (least_owner_of old.nodes old.layouts spot) from && (list_any (λ node. nat_eq node to) targets && not (owns_spot old.layouts to spot))) owners
    ∙ at-element old.nodes old.layouts new.layouts spot from to lt') c.mark_targets.ensures
