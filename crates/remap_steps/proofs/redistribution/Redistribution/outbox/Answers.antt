use Rattle.std.proofs.Common.{◌≡◌, ℕ, [], ◌∷◌, ◌++◌, filter, map, sym, ◌∙◌, ap, arith}
use Rattle.std.specs.List.{range_with_len}
use Rattle.machine_steps.specs.Node.{local_read, parcel}
use Rattle.comm_sets.proofs.Parcels.{targets-below}
use Rattle.remap_steps.specs.Redistributions.{message_between, sends_in}
use Rattle.remap_steps.proofs.Made.{seen}
use Rattle.remap_steps.proofs.Nodes.{map-more}
use Rattle.remap_steps.proofs.redistribution.Redistribution.outbox.Goals as goal

pub loop-target-preserved : goal.loop-target-preserved
loop-target-preserved c =
    let v = c.args.self.now in
    let body = λ (to : ℕ). map (local_read v.old v.id c.args.pieces.now) (message_between v v.id to) in
    let sends = sends_in v c.args.round v.id in
    c.in_ok-push_parcel.ensures ∙ ap (λ xs. xs ++ map (parcel body) (filter sends (c.loop-target.target ∷ []))) c.loop-target.invariant
    ∙ sym (map-more (parcel body) sends c.loop-target.target)

pub returns-clause-targets : goal.returns-clause-targets
returns-clause-targets c =
    let v = c.args.self.now in
    let s = seen c.self.inside v c.self.view_is c.self.invariant in
    let body = λ (to : ℕ). map (local_read v.old v.id c.args.pieces.now) (message_between v v.id to) in
    let sends = sends_in v c.args.round v.id in
    let done : c.loop-target.target ≡ v.nodes = omega (arith, c.nodes-target-end.ensures.value, s.nodes) in
    targets-below sends body v.nodes c.loop-target.outbox.items (c.loop-target.invariant ∙ ap (λ n. map (parcel body) (filter sends (range_with_len 0 n))) done)
