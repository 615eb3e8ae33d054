use Rattle.std.proofs.Common.{◌≡◌, ℕ, ◌+◌, ◌*◌, true, ◌∙◌, ap, arith}
use Rattle.hpf_base.specs.ElementOrder.{product}
use Rattle.machine_steps.specs.Layout.{count_passing, owned_by, size_of}
use Rattle.machine_steps.proofs.Owners.{owned-below}
use Rattle.owner_tables.specs.Columns.{extents_along}
use Rattle.owner_tables.proofs.Ranges.{count-most}
use Rattle.owner_tables.proofs.RankLaws.{tables-ranked}
use Rattle.owner_tables.proofs.SampleLaws.{columns-size}
use Rattle.owner_tables.proofs.StretchLaws.{stretch-held}
use Rattle.owner_tables.proofs.TableLaws.{seen, seen-by}
use Rattle.owner_tables.proofs.tables.Tables.line_from.Goals as goal

pub overflow_cast-at : goal.overflow_cast-at
overflow_cast-at c =
    let l = seen c.self.inside c.args.self.now c.self.view_is c.self.invariant in
    omega (arith, l.small, owned-below c.args.self.now.layout c.args.node c.args.at c.requires.owned)

pub overflow_cast-step : goal.overflow_cast-step
overflow_cast-step c =
    let l = seen c.self.inside c.args.self.now c.self.view_is c.self.invariant in omega (arith, l.small, l.size, c.if-step-self.false)

pub stretch_in-stretch-requires-clause-columns : goal.stretch_in-stretch-requires-clause-columns
stretch_in-stretch-requires-clause-columns c =
    let l = seen-by c.self.inside c.args.self.now c.self.view_is c.self.invariant c.deref.result.now c.deref.ensures.value in
    (c.args.self.now.nodes, c.requires.node, l.filled c.args.at (owned-below c.args.self.now.layout c.args.node c.args.at c.requires.owned))

pub stretch_in-stretch-requires-clause-ranks : goal.stretch_in-stretch-requires-clause-ranks
stretch_in-stretch-requires-clause-ranks c =
    let below = owned-below c.args.self.now.layout c.args.node c.args.at c.requires.owned in
    tables-ranked c.self.inside c.args.self.now c.self.view_is c.self.invariant (omega (arith, below)) c.deref.result.now c.deref.ensures.value

pub stretch_in-stretch-requires-clause-at : goal.stretch_in-stretch-requires-clause-at
stretch_in-stretch-requires-clause-at c =
    let below = owned-below c.args.self.now.layout c.args.node c.args.at c.requires.owned in
    let many : product (extents_along c.deref.result.now) ≡ size_of c.args.self.now.layout =
    ap (λ cs. product (extents_along cs)) c.deref.ensures.value ∙ columns-size c.self.inside c.args.self.now c.self.view_is c.self.invariant (omega (arith, below)) in
    omega (arith, below, many)

pub returns-clause-held : goal.returns-clause-held
returns-clause-held c = λ k less.
    let l = seen-by c.self.inside c.args.self.now c.self.view_is c.self.invariant c.deref.result.now c.deref.ensures.value in
    let below = owned-below c.args.self.now.layout c.args.node c.args.at c.requires.owned in
    let many : product (extents_along c.deref.result.now) ≡ size_of c.args.self.now.layout =
    ap (λ cs. product (extents_along cs)) c.deref.ensures.value ∙ columns-size c.self.inside c.args.self.now c.self.view_is c.self.invariant (omega (arith, below)) in
    let line = c.stretch_in-stretch.ensures.line in
    stretch-held c.self.inside c.deref.result.now c.args.self.now.layout c.args.self.now.nodes l c.args.node c.args.at (c.args.at + k * c.args.step)
    (k * c.stretch_in-stretch.result.apart) c.args.first c.requires.node c.requires.owned c.requires.first
    (omega (arith, line.inside k (omega (arith, less)), many)) (line.parts k (omega (arith, less))) (line.addresses k (omega (arith, less)))

pub returns-clause-fits : goal.returns-clause-fits
returns-clause-fits c = λ k less.
    let l = seen c.self.inside c.args.self.now c.self.view_is c.self.invariant in
    let layout = c.args.self.now.layout in
    let at : ℕ = c.args.at + k * c.args.step in
    let held : (owned_by layout c.args.node at ≡ true) × (count_passing (owned_by layout c.args.node) 0 at ≡ c.args.first + k * c.stretch_in-stretch.result.apart) =
    returns-clause-held c k less in
    omega (arith, held.1, count-most (owned_by layout c.args.node) 0 at, owned-below layout c.args.node at held.0, l.small)
