use Rattle.std.proofs.Common.{ap, ◌∙◌}
use Rattle.syntax_tree.specs.Lexeme.{lexemes}
use Rattle.line_forms.specs.declared.read_error.ReadError.TheVariants.{Malformed, TooDeep}
use Rattle.line_forms.specs.Reading.{Stopped}
use Rattle.statement_reader.proofs.Theorem.{array_tells, no_array}
use Rattle.statement_reader.proofs.verdict.is_constant_array.Goals as goal

pub returns-in-Ok : goal.returns-in-Ok
returns-in-Ok c = array_tells (lexemes c.args.tokens.now) c.in-Ok.array c.in-Ok.ensures

pub returns-in-Err-Malformed : goal.returns-in-Err-Malformed
returns-in-Err-Malformed c = no_array (lexemes c.args.tokens.now) Malformed (c.in-Err-Malformed.ensures (λ m. cc) ∙ ap Stopped c.in-Err-Malformed.field-0-is)

pub returns-in-Err-TooDeep : goal.returns-in-Err-TooDeep
returns-in-Err-TooDeep c = no_array (lexemes c.args.tokens.now) TooDeep (c.in-Err-TooDeep.ensures (λ m. cc) ∙ ap Stopped c.in-Err-TooDeep.field-0-is)
