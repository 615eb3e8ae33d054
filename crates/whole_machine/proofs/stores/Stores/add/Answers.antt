use Rattle.std.proofs.Common.{w64, SFits, ◌∙◌, ap, rules}
use Rattle.std.proofs.lemmas.Int.{to_z-of_z}
use Rattle.storage.specs.Storage.{write}
use Rattle.storage.specs.Spots.{spot_of}
use Rattle.whole_machine.specs.Stores.{stored_all}
use Rattle.whole_machine.proofs.StoreLaws.{stored-more}
use Rattle.whole_machine.proofs.stores.Stores.add.Goals as goal

pub returns : goal.returns
returns c rows =
    let list = c.args.self.now.list.items in
    let fits : SFits w64 c.args.value.now = search rules in
    ap (λ xs. stored_all xs rows) c.in_ok-push.ensures.items
    ∙ stored-more list _ rows
    ∙ ap (λ v. write (stored_all list rows) (spot_of c.args.spot) v) (to_z-of_z w64 c.args.value.now fits)
