use Rattle.std.proofs.Common.{sym, subst}
use Rattle.hpf_base.specs.Refusal.{IsRefusalBy}
use Rattle.syntax_tree.specs.Lexeme.{lexemes}
use Rattle.statement_reader.specs.Breaches.{IsBreachOn}
use Rattle.statement_reader.specs.Gives.{Tells}
use Rattle.statement_reader.specs.LeftOut.{IsLeftOut}
use Rattle.statement_reader.specs.Views.{form_of}
use Rattle.statement_reader.proofs.Theorem.{is_statement, no_breach, found_left_out}
use Rattle.statement_reader.proofs.verdict.read_statement.Goals as goal

pub returns-then-left_out-clause-refused : goal.returns-then-left_out-clause-refused
returns-then-left_out-clause-refused c =
    let ts = lexemes c.args.tokens.now in
    subst (IsRefusalBy (IsBreachOn c.args.line ts)) (sym c.at.ensures)
    (found_left_out c.args.line ts (form_of c.in-Ok-statement.read) c.in-Ok-statement.ensures (subst (λ b. Tells b (IsLeftOut ts)) c.if-left_out.true c.in-Ok.ensures))

pub returns-clause-read : goal.returns-clause-read
returns-clause-read c =
    let ts = lexemes c.args.tokens.now in
    is_statement ts (form_of c.in-Ok-statement.read) c.in-Ok-statement.ensures (subst (λ b. Tells b (IsLeftOut ts)) c.if-left_out.false c.in-Ok.ensures)

pub returns-clause-fine : goal.returns-clause-fine
returns-clause-fine c =
    let ts = lexemes c.args.tokens.now in
    no_breach ts (form_of c.in-Ok-statement.read) c.in-Ok-statement.ensures (subst (λ b. Tells b (IsLeftOut ts)) c.if-left_out.false c.in-Ok.ensures)
