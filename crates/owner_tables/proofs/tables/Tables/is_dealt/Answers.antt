use Rattle.owner_tables.specs.Numbers.{least_at}
use Rattle.owner_tables.proofs.TableLaws.{seen}
use Rattle.owner_tables.proofs.tables.Tables.is_dealt.Goals as goal

pub returns : goal.returns
returns c = λ at below.
    let l = seen c.self.inside c.args.self.now c.self.view_is c.self.invariant in
    (least_at c.args.self.now.nodes c.args.self.now.layout at, l.below at below, l.owner at below)
