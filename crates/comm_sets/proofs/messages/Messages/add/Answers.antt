use Rattle.std.proofs.Common.{◌<◌, ◌&&◌, nat_eq, length, map, set, ap, subst, arith}
use Rattle.std.proofs.lemmas.List.{length-map}
use Rattle.storage.specs.Storage.{is_same_spot}
use Rattle.storage.specs.Spots.{spot_of}
use Rattle.comm_sets.specs.Noted.{Lists, Noted}
use Rattle.comm_sets.proofs.Noting.{noted-row}
use Rattle.comm_sets.proofs.messages.Messages.add.Goals as goal

pub returns : goal.returns
returns c =
    let rows = c.self.inside.lists.items in
    let inside : c.args.node < length rows = omega (arith, ap length c.self.view_is, length-map rows (λ v. map spot_of v.items)) in
    subst (λ (before : Lists). Noted before (map (λ v. map spot_of v.items) (set rows c.args.node c.note.new.list)) (λ other s. nat_eq c.args.node other && is_same_spot (spot_of c.args.spot) s))
    c.self.view_is
    (noted-row (λ v. map spot_of v.items) rows c.args.node c.index_mut.result.now c.note.new.list (spot_of c.args.spot) inside c.in_ok-note.ensures c.index_mut.ensures.value)
