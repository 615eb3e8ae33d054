use Rattle.std.proofs.Common.{Some, sym, ap, ◌∙◌}
use Rattle.std.specs.Prelude.{option_map}
use Rattle.program_code.specs.ExpressionCode.{anchor_code}
use Rattle.statement_trail.specs.NestParts.{index_in}
use Rattle.anchor_code.proofs.lefts.nest_beside.Goals as goal

pub returns-in-None : goal.returns-in-None
returns-in-None c = sym (ap (option_map anchor_code) (c.in-None.ensures (index_in c.args.indices.now 0)))

pub returns-in_ok-a-in-Some : goal.returns-in_ok-a-in-Some
returns-in_ok-a-in-Some c = ap Some c.in_ok-a-in-Some.ensures ∙ sym (ap (option_map anchor_code) (c.in-Some.ensures (index_in c.args.indices.now 0)))
