-- Of private clauses.
-- No public clause cites this file. What an assignment of a WHERE stands under (Fortran 95, 7.5.3), as code holds it.
use Rattle.std.specs.Prelude.{Option, option_map}
use Rattle.node_code.specs.declared.anchor.FlatAnchor.{FlatAnchor as HeldAnchor}
use Rattle.node_code.specs.declared.parallel.When.{When as HeldWhen}
use Rattle.node_code.specs.Forms.{ArrayForm}
use Rattle.node_code.specs.Texts.{flat_anchor, when}
use Rattle.program_code.specs.ExpressionCode.{first_subs, or_no_sub}
use Rattle.program_code.specs.StatementCode.{Masking}

abbrev pub masking : ArrayForm → HeldWhen → Option HeldAnchor → Masking
masking mask branch beside = record { over = or_no_sub (first_subs mask); when = when branch; beside = option_map flat_anchor beside }
