use Rattle.std.proofs.Common.{◌∙◌, ◌+◌, ◌*◌, ◌/◌, ap}
use Rattle.distribution.proofs.CountLaws.{count-cyclic}
use Rattle.distribution.proofs.counts.cyclic_up_to.Goals as goal

pub returns : goal.returns
returns c =
    ap (λ n. c.args.last / (c.args.k * c.args.procs) * c.args.k + n) c.within.ensures
    ∙ count-cyclic c.args.k c.args.procs c.args.node c.args.last c.requires.some c.requires.node
