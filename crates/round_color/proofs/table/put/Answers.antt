use Rattle.std.proofs.Common.{◌∙◌, ap, slice_set}
use Rattle.round_color.specs.Table.{seen}
use Rattle.round_color.proofs.Tables.{seen-set}
use Rattle.round_color.proofs.table.put.Goals as goal

pub returns : goal.returns
returns c =
    ap (λ k. seen c.args.nodes (slice_set c.args.table.now k c.args.color)) c.place-at.ensures.value
    ∙ seen-set c.args.nodes c.args.table.now c.args.source c.args.target c.args.color c.requires.source c.requires.target c.requires.size
