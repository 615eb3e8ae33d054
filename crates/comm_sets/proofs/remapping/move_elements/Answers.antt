use Rattle.std.proofs.Common.{◌&&◌, ◌<◌, All, List, ℕ, get_or, length, nat_eq, nat_lt, take, arith, ap, refl, subst, sym, ◌∙◌}
use Rattle.std.proofs.lemmas.List.{take_all}
use Rattle.std.proofs.lemmas.List.Folds.{list_any_more}
use Rattle.std.specs.List.{list_any}
use Rattle.machine_steps.specs.Layout.{sizes}
use Rattle.comm_sets.specs.Moves.{has_at, moves}
use Rattle.comm_sets.proofs.Computing.{are-nodes}
use Rattle.comm_sets.proofs.Ends.{end-elements}
use Rattle.comm_sets.proofs.Marking.{or_turned}
use Rattle.message_elements.proofs.AllSpots.{both-tests}
use Rattle.comm_sets.proofs.Noting.{both-within, noted-more, noted-same}
use Rattle.comm_sets.proofs.remapping.move_elements.Goals as goal

pub move_spot-requires-clause-spot : goal.move_spot-requires-clause-spot
move_spot-requires-clause-spot c =
    let old = c.args.before.now in
    let n = get_or (sizes old.layouts) c.args.row 0 in
    let below : List ℕ → Type 0 = λ ps. All (λ at. at < n) ps in
    subst below (sym (c.deref-at-items.ensures.value ∙ c.in_ok-positions.ensures)) (are-nodes (has_at old.layouts c.args.after.now.layouts c.args.end c.args.row) n) c.loop-at.at-index 0 (omega arith)

pub loop-at-preserved : goal.loop-at-preserved
loop-at-preserved c =
    let old = c.args.before.now in
    let row = c.args.row in
    let ps = c.deref-at-items.result.now in
    let i = c.loop-at.at-index in
    let inside : i < length ps = omega arith in
    noted-more c.loop-at.invariant c.in_ok-move_spot.ensures (λ other lt s.
    let here = nat_eq (get_or ps i 0) s.at in
    let so_far = list_any (λ at. nat_eq at s.at) (take i ps) in
    both-tests (nat_eq row s.row && here) (nat_eq row s.row && so_far) (moves old.nodes old.layouts c.args.after.now.layouts c.args.end other s)
    ∙ ap (λ b. b && moves old.nodes old.layouts c.args.after.now.layouts c.args.end other s)
    (both-within (nat_eq row s.row) here so_far ∙ ap (λ b. nat_eq row s.row && b) (or_turned here so_far ∙ sym (list_any_more (λ at. nat_eq at s.at) ps i 0 inside))))

pub returns : goal.returns
returns c =
    let old = c.args.before.now in
    let new = c.args.after.now in
    let row = c.args.row in
    let ps = c.deref-at-items.result.now in
    let n = get_or (sizes old.layouts) row 0 in
    let all = take_all c.loop-at.at-index ps (omega arith) ∙ c.deref-at-items.ensures.value ∙ c.in_ok-positions.ensures in
    noted-same (λ other s. (nat_eq row s.row && nat_lt s.at n) && moves old.nodes old.layouts new.layouts c.args.end other s)
    (λ other lt s.
    ap (λ xs. (nat_eq row s.row && list_any (λ at. nat_eq at s.at) xs) && moves old.nodes old.layouts new.layouts c.args.end other s) all
    ∙ end-elements old.nodes old.layouts new.layouts c.requires.owned c.args.end row n other s refl)
    c.loop-at.invariant
