use Rattle.std.proofs.Common.{◌∙◌, arith}
use Rattle.owner_tables.proofs.TableLaws.{seen, seen-by}
use Rattle.owner_tables.proofs.tables.Tables.address.Goals as goal

pub overflow_cast-at : goal.overflow_cast-at
overflow_cast-at c =
    let l = seen c.self.inside c.args.self.now c.self.view_is c.self.invariant in omega (arith, l.small, c.requires.at)

pub find_at-requires-clause-columns : goal.find_at-requires-clause-columns
find_at-requires-clause-columns c =
    let l = seen-by c.self.inside c.args.self.now c.self.view_is c.self.invariant c.deref.result.now c.deref.ensures.value in
    (c.args.self.now.nodes, c.requires.node, l.filled c.args.at c.requires.at)

pub find_at-requires-clause-parts : goal.find_at-requires-clause-parts
find_at-requires-clause-parts c =
    let l = seen-by c.self.inside c.args.self.now c.self.view_is c.self.invariant c.deref.result.now c.deref.ensures.value in
    omega (arith, l.least c.args.at c.requires.at, l.below c.args.at c.requires.at, l.few)

pub find_at-requires-clause-address : goal.find_at-requires-clause-address
find_at-requires-clause-address c =
    let l = seen-by c.self.inside c.args.self.now c.self.view_is c.self.invariant c.deref.result.now c.deref.ensures.value in
    omega (arith, l.address-few c.args.node c.args.at c.requires.node c.requires.at, c.requires.at, l.small)

pub returns : goal.returns
returns c =
    let l = seen-by c.self.inside c.args.self.now c.self.view_is c.self.invariant c.deref.result.now c.deref.ensures.value in
    c.find_at.ensures.address ∙ l.address c.args.node c.args.at c.requires.node c.requires.at c.requires.owner
