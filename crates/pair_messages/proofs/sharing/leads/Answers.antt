use Rattle.std.proofs.Common.{◌≡◌, ◌==◌, ◌∙◌, sym, ap, None, slice_get}
use Rattle.std.specs.Option.{option_copied}
use Rattle.machine_steps.specs.Layout.{owned_by}
use Rattle.pair_messages.proofs.Sharers.{first-of, one-passes}
use Rattle.pair_messages.proofs.sharing.leads.Goals as goal

pub returns-in-Some : goal.returns-in-Some
returns-in-Some c at below owns =
    ap (λ n. n == c.args.node)
    (sym (first-of (λ other. owned_by c.args.table.now.layout other at) 0 c.args.table.now.nodes c.in-Some.least.now c.sharers.result.now
    (c.sharers.ensures.owners at below owns) (sym c.first.ensures.value ∙ ap option_copied c.in-Some.is)))

pub returns-in-None : goal.returns-in-None
returns-in-None c at below owns =
    let none : slice_get c.sharers.result.now 0 ≡ None = sym c.first.ensures.value ∙ ap option_copied c.in-None.is in
    absurd (one-passes (λ other. owned_by c.args.table.now.layout other at) c.args.table.now.nodes c.args.node c.requires owns
    (ap (λ l. slice_get l 0) (c.sharers.ensures.owners at below owns) ∙ none))
