use Rattle.std.proofs.Common.{◌<◌, subst, arith}
use Rattle.mappings.specs.declared.mapping.Form.TheVariants.{Gen}
use Rattle.mappings.specs.Mapping.{IsForm}
use Rattle.mappings.proofs.GenBlocks.{gen-within}
use Rattle.distribution.proofs.owners.owner.Goals as goal

-- the owner is one of the processors
below : (c : goal.After-owner) → c.owner.result < c.args.line.now.procs
below c =
    let line = c.args.line.now in
    let given : IsForm (Gen c.in-Gen.sizes) line.extent line.procs = subst (λ f. IsForm f line.extent line.procs) c.in-Gen.is c.requires.line.form in
    let within = gen-within c.in-Gen.sizes c.args.pos c.requires.from (omega (arith, c.requires.upto, given.2)) in
    omega (arith, c.owner.ensures, within.0, given.0)

pub overflow_cast-result-in-Gen : goal.overflow_cast-result-in-Gen
overflow_cast-result-in-Gen c = omega (arith, below c, c.requires.line.few)

pub returns-in-Gen-clause-below : goal.returns-in-Gen-clause-below
returns-in-Gen-clause-below c = below c
