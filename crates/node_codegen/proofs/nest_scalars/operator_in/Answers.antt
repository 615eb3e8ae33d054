use Rattle.std.proofs.Common.{ap, ◌∙◌}
use Rattle.std.specs.Prelude.{unwrap_or}
use Rattle.op_tables.specs.declared.join.Join.TheVariants.{Sum}
use Rattle.resolved_program.specs.Resolved.{block_of}
use Rattle.program_code.specs.NestCode.{rights_of}
use Rattle.node_codegen.specs.NestScalars.{first_operator}
use Rattle.node_codegen.proofs.NestOperators.{operator_first}
use Rattle.node_codegen.proofs.nest_scalars.operator_in.Goals as goal

pub returns : goal.returns
returns c =
    c.unwrap_or.ensures
    ∙ ap (λ o. unwrap_or o Sum) (c.first_operator.ensures.operator ∙ ap (λ l. first_operator (rights_of c.args.k (block_of l))) c.deref.ensures.value)
    ∙ operator_first (rights_of c.args.k (block_of c.args.body.now.items))
