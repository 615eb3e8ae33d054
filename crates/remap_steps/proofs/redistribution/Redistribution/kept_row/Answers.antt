use Rattle.std.proofs.Common.{get_or, refl, sym, ◌∙◌, ap}
use Rattle.machine_steps.specs.Layout.{count_passing, owned_in, sizes}
use Rattle.remap_steps.proofs.Made.{seen}
use Rattle.remap_steps.proofs.Moved.{row-kept}
use Rattle.remap_steps.proofs.redistribution.Redistribution.kept_row.Goals as goal

pub returns-then-is_unchanged : goal.returns-then-is_unchanged
returns-then-is_unchanged c =
    let v = c.args.self.now in
    let s = seen c.self.inside v c.self.view_is c.self.invariant in
    let row = c.args.row in
    row-kept v c.args.pieces.now c.args.received.now row c.values_of-piece.result.now
    (sym (ap (λ layouts. owned_in layouts row) s.old) ∙ c.if-is_unchanged.ensures.same refl ∙ ap (λ layouts. owned_in layouts row) s.new)
    c.values_of-piece.ensures
    (c.if-piece-owned.true ∙ c.owned.ensures ∙ (λ i. count_passing (owned_in (s.old i) row (s.id i)) 0 (get_or (sizes (s.old i)) row 0)))
