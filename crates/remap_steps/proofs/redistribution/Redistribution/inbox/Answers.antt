use Rattle.std.proofs.Common.{◌≡◌, ℕ, [], ◌∷◌, ◌++◌, filter, sym, ◌∙◌, ap, arith}
use Rattle.std.specs.List.{range_with_len}
use Rattle.comm_sets.proofs.Computing.{filter-more}
use Rattle.comm_sets.proofs.Parcels.{sources-below}
use Rattle.remap_steps.specs.Redistributions.{sends_in}
use Rattle.remap_steps.proofs.Made.{seen}
use Rattle.remap_steps.proofs.redistribution.Redistribution.inbox.Goals as goal

pub loop-source-preserved : goal.loop-source-preserved
loop-source-preserved c =
    let v = c.args.self.now in
    let sends = λ (from : ℕ). sends_in v c.args.round from v.id in
    c.in_ok-push_source.ensures ∙ ap (λ xs. xs ++ filter sends (c.loop-source.source ∷ [])) c.loop-source.invariant ∙ sym (filter-more sends c.loop-source.source)

pub returns-clause-below : goal.returns-clause-below
returns-clause-below c =
    let v = c.args.self.now in
    let s = seen c.self.inside v c.self.view_is c.self.invariant in
    let sends = λ (from : ℕ). sends_in v c.args.round from v.id in
    let done : c.loop-source.source ≡ v.nodes = omega (arith, c.nodes-source-end.ensures.value, s.nodes) in
    sources-below sends v.nodes c.loop-source.inbox.items (c.loop-source.invariant ∙ ap (λ n. filter sends (range_with_len 0 n)) done)
