use Rattle.std.proofs.Common.{◌≡◌, ◌∷◌, [], false, pos, slice_index_or, ap, ◌∙◌, rules}
use Rattle.machine_steps.specs.Layout.{owns_spot}
use Rattle.storage.specs.Spots.{spot_of}
use Rattle.node_machine.proofs.FetchLaws.{fetch-received}
use Rattle.node_machine.proofs.fetches.fetched_value.Goals as goal

pub returns : goal.returns
returns c =
    let owners = c.args.owners.now in
    let apart : owns_spot owners.layouts c.args.id (spot_of c.args.spot) ≡ false = search rules in
    c.first_of.ensures
    ∙ ap (λ vs. slice_index_or vs 0 (pos 0) ∷ []) (c.received.ensures ∙ ap (λ p. slice_index_or c.args.post.now.received p []) c.least_owner.ensures.value)
    ∙ ap (λ v. v ∷ []) (fetch-received owners.nodes owners.layouts (spot_of c.args.spot) c.requires.at c.args.id c.args.pieces.now c.args.post.now.received apart)
