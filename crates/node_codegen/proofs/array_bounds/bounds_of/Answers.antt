use Rattle.std.proofs.Common.{map, refl, ap, ◌∙◌}
use Rattle.program_code.specs.StatementCode.{triplets}
use Rattle.resolved_program.specs.Resolved.{control}
use Rattle.resolved_program.proofs.Made.{joined_all}
use Rattle.node_codegen.proofs.Bounds.{bounds, whole_bounds}
use Rattle.node_codegen.proofs.array_bounds.bounds_of.Goals as goal

pub returns : goal.returns
returns c =
    let dims = c.args.dims.now in
    ap triplets (joined_all (map bounds) dims c.loop-d.d-index (map control c.loop-d.bounds.items) (map bounds dims) c.loop-d-test.false refl c.loop-d.invariant) ∙ whole_bounds dims
