use Rattle.std.proofs.Common.{ap, ◌∙◌}
use Rattle.node_code.specs.Flat.{Operated}
use Rattle.node_code.specs.Texts.{flats_of}
use Rattle.node_code.proofs.Rows.{operated_vec}
use Rattle.node_codegen.proofs.loops.of_two.Goals as goal

pub returns : goal.returns
returns c = operated_vec c.args.op c.in_ok-vec.field-0 ∙ ap (λ l. Operated c.args.op (flats_of l)) c.in_ok-vec.ensures.items
