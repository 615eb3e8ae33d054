use Rattle.std.proofs.Common.{rules, pos, get_or, ◌∙◌, ap, arith, w64}
use Rattle.std.proofs.lemmas.Int.{to_z-of_z}
use Rattle.storage.specs.Storage.{row_of}
use Rattle.machine_steps.specs.Layout.{least_owner_of}
use Rattle.storage.specs.Spots.{spot_of}
use Rattle.distributed_run.proofs.LastValues.{least-has, value-by}
use Rattle.distributed_run.proofs.outcome.value_of.Goals as goal

pub address-at-requires-clause-owner : goal.address-at-requires-clause-owner
address-at-requires-clause-owner c =
    rw (c.least_owner-node.ensures.value) (least-has c.args.owners.now.nodes c.args.owners.now.layouts (spot_of c.args.spot) c.requires.owned c.requires.at).0

pub returns : goal.returns
returns c =
    to_z-of_z w64 c.value_at.result (search rules) ∙ c.value_at.ensures
    ∙ ap (λ xs. get_or xs c.address-at.result (pos 0)) c.piece.ensures
    ∙ ap (λ at. get_or (row_of c.index-last-node.result.pieces c.args.spot.row) at (pos 0)) c.address-at.ensures
    ∙ value-by c.args.owners.now.layouts c.args.last.now (spot_of c.args.spot) c.least_owner-node.result c.index-last-node.result
    (c.least_owner-node.ensures.value ∙ ap (λ n. least_owner_of n c.args.owners.now.layouts (spot_of c.args.spot)) c.requires.nodes)
    (omega (arith, c.least_owner-node.ensures.below, c.requires.nodes)) c.index-last-node.is
