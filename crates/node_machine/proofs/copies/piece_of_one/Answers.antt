use Rattle.std.proofs.Common.{SFits, w64, replicate, sym, ◌∙◌, rules}
use Rattle.std.proofs.lemmas.Int.{to_z-of_z}
use Rattle.machine_steps.specs.Layout.{owned_by, size_of}
use Rattle.owner_tables.proofs.Ranges.{values-replicate}
use Rattle.node_machine.proofs.copies.piece_of_one.Goals as goal

pub returns : goal.returns
returns c =
    let value = c.args.value.now in
    let fits : SFits w64 c.args.value.now = search rules in
    c.in_ok-row.ensures ∙ (λ i. replicate (c.owned.ensures i) (to_z-of_z w64 value fits i))
    ∙ sym (values-replicate (owned_by c.args.table.now.layout c.args.id) value 0 (size_of c.args.table.now.layout))
