use Rattle.std.proofs.Common.{◌+◌, ◌∙◌, ap, arith}
use Rattle.machine_steps.specs.Layout.{owned_by}
use Rattle.owner_tables.proofs.TableLaws.{seen, seen-by}
use Rattle.owner_tables.proofs.tables.Tables.least_owner.Goals as goal

pub overflow_cast-at : goal.overflow_cast-at
overflow_cast-at c =
    let l = seen c.self.inside c.args.self.now c.self.view_is c.self.invariant in omega (arith, l.small, c.requires)

pub parts_at-requires-clause-columns : goal.parts_at-requires-clause-columns
parts_at-requires-clause-columns c =
    let l = seen-by c.self.inside c.args.self.now c.self.view_is c.self.invariant c.deref.result.now c.deref.ensures.value in (c.args.self.now.nodes, l.filled c.args.at c.requires)

pub parts_at-requires-clause-small : goal.parts_at-requires-clause-small
parts_at-requires-clause-small c =
    let l = seen-by c.self.inside c.args.self.now c.self.view_is c.self.invariant c.deref.result.now c.deref.ensures.value in
    omega (arith, l.least c.args.at c.requires, l.below c.args.at c.requires, l.few)

pub overflow_add-result : goal.overflow_add-result
overflow_add-result c =
    let l = seen-by c.self.inside c.args.self.now c.self.view_is c.self.invariant c.deref.result.now c.deref.ensures.value in
    omega (arith, c.parts_at.ensures, l.least c.args.at c.requires, l.below c.args.at c.requires, l.few)

pub returns-clause-value : goal.returns-clause-value
returns-clause-value c =
    let l = seen-by c.self.inside c.args.self.now c.self.view_is c.self.invariant c.deref.result.now c.deref.ensures.value in omega (arith, c.parts_at.ensures, l.least c.args.at c.requires)

pub returns-clause-below : goal.returns-clause-below
returns-clause-below c =
    let l = seen-by c.self.inside c.args.self.now c.self.view_is c.self.invariant c.deref.result.now c.deref.ensures.value in
    omega (arith, c.parts_at.ensures, l.least c.args.at c.requires, l.below c.args.at c.requires)

pub returns-clause-owner : goal.returns-clause-owner
returns-clause-owner c =
    let l = seen-by c.self.inside c.args.self.now c.self.view_is c.self.invariant c.deref.result.now c.deref.ensures.value in
    ap (λ node. owned_by c.args.self.now.layout node c.args.at) (ap (λ n. c.self.inside.numbers.base + n) c.parts_at.ensures ∙ l.least c.args.at c.requires)
    ∙ l.owner c.args.at c.requires
