use Rattle.std.proofs.Common.{◌∙◌, arith}
use Rattle.owner_tables.proofs.TableLaws.{seen}
use Rattle.owner_tables.proofs.tables.Tables.owned.Goals as goal

pub index-requires : goal.index-requires
index-requires c =
    let l = seen c.self.inside c.args.self.now c.self.view_is c.self.invariant in omega (arith, l.counts, c.requires)

pub returns : goal.returns
returns c =
    let l = seen c.self.inside c.args.self.now c.self.view_is c.self.invariant in
    c.index.ensures ∙ l.owned c.args.node c.index.result.now c.requires
