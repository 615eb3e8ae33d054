use Rattle.std.proofs.Common.{◌≡◌, IfOk, ap, ◌∙◌, subst}
use Rattle.std.proofs.lemmas.List.{at_drop_all}
use Rattle.program_code.specs.ExpressionCode.{index_flat, index_flats}
use Rattle.statement_trail.specs.NestTerms.{all_indexed, indexed}
use Rattle.statement_trail.specs.NestParts.{index_in}
use Rattle.node_code.specs.Flat.{Operated}
use Rattle.node_code.specs.Texts.{flat}
use Rattle.node_code.proofs.Rows.{operated_vec}
use Rattle.resolved_program.proofs.Forms.{apply_is}
use Rattle.resolved_program.specs.Resolved.{terms_of}
use Rattle.expression_code.proofs.Lists.{flats_made}
use Rattle.anchor_code.proofs.axes.+nest_flat.Goals as goal

pub nest_flat-returns-in-Apply : goal.nest_flat-returns-in-Apply
nest_flat-returns-in-Apply t c =
    subst (λ w. IfOk c.operated.result (λ f. flat f ≡ index_flat (indexed (index_in c.args.axes.now 0) w)))
    (apply_is c.args.t.now _ c.in-Apply.operands c.deref.result.now c.in-Apply.is c.deref.ensures.value) c.operated.ensures

pub operated-returns : goal.operated-returns
operated-returns t c = operated_vec c.args.op c.in_ok-nest_flats.field-0 ∙ ap (Operated c.args.op) c.in_ok-nest_flats.ensures

pub nest_flats-returns : goal.nest_flats-returns
nest_flats-returns t c =
    flats_made c.loop-t.flats.items _ _ (at_drop_all (λ ts. index_flats (all_indexed (index_in c.args.axes.now 0) (terms_of ts))) c.args.terms.now c.loop-t.t-index c.loop-t-test.false)
    c.loop-t.invariant
