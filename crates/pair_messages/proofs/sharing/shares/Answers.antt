use Rattle.std.proofs.Common.{◌==◌, ◌∙◌, sym, ap}
use Rattle.std.specs.List.{list_any}
use Rattle.machine_steps.specs.Layout.{owned_by}
use Rattle.pair_messages.proofs.Sharers.{is-passing}
use Rattle.pair_messages.proofs.sharing.shares.Goals as goal

pub returns : goal.returns
returns c at below owns =
    c.contains.ensures.value ∙ sym (ap (list_any (λ v. v == c.args.other)) (c.sharers.ensures.owners at below owns))
    ∙ is-passing (λ n. owned_by c.args.table.now.layout n at) c.args.table.now.nodes c.args.other c.requires.other
