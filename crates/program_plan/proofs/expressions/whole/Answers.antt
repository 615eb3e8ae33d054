use Rattle.std.proofs.Common.{arith, ◌+◌, drop, pos, sym, ◌∙◌}
use Rattle.std.specs.Prelude.{slice_index_or}
use Rattle.std.proofs.lemmas.List.{drop_more}
use Rattle.expression_rules.specs.declared.dims.Dim.{Dim}
use Rattle.array_meaning.specs.Resolution.{whole}
use Rattle.resolved_program.specs.Resolved.{with_subscript}
use Rattle.resolved_program.proofs.Made.{made_all, made_next, subscripts_made}
use Rattle.program_plan.proofs.expressions.whole.Goals as goal

abbrev zero_dim : Dim
zero_dim = record { lower = pos 0; upper = pos 0 }

pub loop-dim-preserved : goal.loop-dim-preserved
loop-dim-preserved c =
    let dims = c.args.dims.now in
    let n = c.loop-dim.dim-index in
    made_next with_subscript whole dims n (slice_index_or dims n zero_dim) c.loop-dim.subscripts.items c.push.new.self.items c.all_of.result (whole dims)
    (drop_more dims n zero_dim c.loop-dim-test.true) c.in_ok-push.ensures.items (c.all_of.ensures (whole (drop (n + 1) dims))) c.loop-dim.invariant

pub returns : goal.returns
returns c =
    sym (subscripts_made c.loop-dim.subscripts.items)
    ∙ made_all with_subscript whole c.args.dims.now c.loop-dim.dim-index c.loop-dim.subscripts.items (whole c.args.dims.now) (omega arith) c.loop-dim.invariant
