-- What was read of a line, by its kind.
use Rattle.std.proofs.Common.{◌≡◌, List, Result, sym, subst}
use Rattle.syntax_tree.specs.Lexeme.{Lexeme}
use Rattle.line_forms.specs.declared.read_error.ReadError.{ReadError}
use Rattle.line_forms.specs.declared.depths.Depths.TheVariants.{Limited}
use Rattle.statement_reader.specs.declared.kind.Kind.{Kind}
use Rattle.statement_reader.specs.declared.statement.Action.{Action}
use Rattle.statement_reader.specs.declared.statement.Statement.{Statement}
use Rattle.statement_reader.specs.FirstWords.{statement_kind}
use Rattle.statement_reader.specs.Reading.{acting, line_of, statement}
use Rattle.statement_reader.specs.Gives.{GivesWhole}
use Rattle.statement_reader.specs.Views.{action_of, form_of}

pub by_kind : (k : Kind) (ts : List Lexeme) (result : Result Statement ReadError) → statement_kind ts ≡ k
    → GivesWhole form_of result (line_of Limited k ts) → GivesWhole form_of result (statement ts)
by_kind k ts result h m = subst (λ k. GivesWhole form_of result (line_of Limited k ts)) (sym h) m

pub by_action_kind : (k : Kind) (ts : List Lexeme) (result : Result Action ReadError) → statement_kind ts ≡ k
    → GivesWhole action_of result (acting Limited k ts) → GivesWhole action_of result (acting Limited (statement_kind ts) ts)
by_action_kind k ts result h m = subst (λ k. GivesWhole action_of result (acting Limited k ts)) (sym h) m
