use Rattle.std.proofs.Common.{◌≡◌, ◌+◌, ◌-◌, ◌==◌, sym, ◌∙◌, ap, subst, arith, length, min, filter}
use Rattle.mappings.specs.declared.mapping.Form.TheVariants.{Gen}
use Rattle.mappings.specs.GenBlock.{size_before}
use Rattle.mappings.specs.Mapping.{IsForm}
use Rattle.mappings.specs.Owner.{coordinate_under}
use Rattle.mappings.specs.Positions.{section}
use Rattle.distribution.proofs.CountLaws.{count-whole, count-gen}
use Rattle.distribution.proofs.counts.owned_up_to.Goals as goal

pub returns-in-Whole : goal.returns-in-Whole
returns-in-Whole c =
    let one : c.args.line.now.procs ≡ 1 = subst (λ f. IsForm f c.args.line.now.extent c.args.line.now.procs) c.in-Whole.is c.requires.line.form in
    subst (λ f. c.args.last ≡ length (filter (λ j. coordinate_under f c.args.line.now.procs j == c.args.node) (section 1 c.args.last))) (sym c.in-Whole.is)
    (count-whole c.args.node c.args.last (omega (arith, one, c.requires.node)))

pub returns-in-Gen : goal.returns-in-Gen
returns-in-Gen c =
    let line = c.args.line.now in
    let given : IsForm (Gen c.in-Gen.sizes) line.extent line.procs = subst (λ f. IsForm f line.extent line.procs) c.in-Gen.is c.requires.line.form in
    c.within.ensures
    ∙ ap (λ n. min c.args.last n - c.before-in-Gen.result) c.end.ensures.value
    ∙ ap (λ n. min c.args.last (size_before c.in-Gen.sizes (c.args.node + 1)) - n) c.before-in-Gen.ensures
    ∙ subst (λ f. min c.args.last (size_before c.in-Gen.sizes (c.args.node + 1)) - size_before c.in-Gen.sizes c.args.node
    ≡ length (filter (λ j. coordinate_under f line.procs j == c.args.node) (section 1 c.args.last))) (sym c.in-Gen.is)
    (count-gen c.in-Gen.sizes line.procs c.args.node c.args.last (omega (arith, given.0, c.requires.node)) (omega (arith, given.2, c.requires.last)))
