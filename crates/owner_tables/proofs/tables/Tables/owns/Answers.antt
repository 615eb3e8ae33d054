use Rattle.std.proofs.Common.{◌==◌, ◌∙◌, ap, arith}
use Rattle.owner_tables.specs.Numbers.{least_at}
use Rattle.owner_tables.proofs.TableLaws.{seen}
use Rattle.owner_tables.proofs.tables.Tables.owns.Goals as goal

pub index-requires : goal.index-requires
index-requires c =
    let l = seen c.self.inside c.args.self.now c.self.view_is c.self.invariant in omega (arith, l.leaders, c.requires.node)

pub returns : goal.returns
returns c =
    let l = seen c.self.inside c.args.self.now c.self.view_is c.self.invariant in
    ap (λ n. n == c.index.result.now) c.least_owner.ensures.value
    ∙ ap (λ n. least_at c.args.self.now.nodes c.args.self.now.layout c.args.at == n) (c.index.ensures ∙ l.led c.args.node c.index.result.now c.requires.node)
    ∙ l.owns c.args.node c.args.at c.requires.node c.requires.at
