use Rattle.std.proofs.Common.{◌≡◌, ℕ, ◌<◌, All, List, get_or, subst, sym, ◌∙◌, ap, arith}
use Rattle.machine_steps.specs.Layout.{owned_in, sizes}
use Rattle.comm_sets.proofs.Computing.{are-nodes}
use Rattle.remap_steps.proofs.Made.{seen}
use Rattle.remap_steps.proofs.redistribution.Redistribution.made_row.Goals as goal

pub value_after-requires-clause-spot : goal.value_after-requires-clause-spot
value_after-requires-clause-spot c =
    let r = c.self.inside in
    let v = c.args.self.now in
    let s = seen r v c.self.view_is c.self.invariant in
    let row = c.args.row in
    let i = c.loop-at.at-index in
    let n = get_or (sizes r.after.layouts) row 0 in
    let below : List ℕ → Type 0 = λ ps. All (λ at. at < n) ps in
    let inside : get_or c.deref-at-items.result.now i 0 < n =
    subst below (sym (c.deref-at-items.ensures.value ∙ c.in_ok-positions.ensures)) (are-nodes (owned_in r.after.layouts row r.id) n) i 0 (omega arith) in
    let size : n ≡ get_or (sizes v.old) row 0 =
    ap (λ ns. get_or ns row 0) (sym c.self.invariant.sizes) ∙ ap (λ layouts. get_or (sizes layouts) row 0) s.old in
    omega (arith, inside, size)
