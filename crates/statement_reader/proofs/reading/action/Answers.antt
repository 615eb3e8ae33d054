use Rattle.syntax_tree.specs.Lexeme.{lexemes}
use Rattle.statement_reader.specs.declared.kind.Kind.TheVariants as kind
use Rattle.statement_reader.proofs.ByKind.{by_action_kind}
use Rattle.statement_reader.proofs.reading.action.Goals as goal

pub returns-in-Assign : goal.returns-in-Assign
returns-in-Assign c = by_action_kind kind.Assign (lexemes c.args.tokens.now) _ (cc) c.assign_action.ensures

pub returns-in-Where : goal.returns-in-Where
returns-in-Where c = by_action_kind kind.Where (lexemes c.args.tokens.now) _ (cc) c.where_action.ensures

pub returns-in-Forall : goal.returns-in-Forall
returns-in-Forall c = by_action_kind kind.Forall (lexemes c.args.tokens.now) _ (cc) c.forall_action.ensures

pub returns-in-Print : goal.returns-in-Print
returns-in-Print c = by_action_kind kind.Print (lexemes c.args.tokens.now) _ (cc) c.print_action.ensures

pub returns-in-Stop : goal.returns-in-Stop
returns-in-Stop c = by_action_kind kind.Stop (lexemes c.args.tokens.now) _ (cc) c.word_action.ensures

pub returns-in-Exit : goal.returns-in-Exit
returns-in-Exit c = by_action_kind kind.Exit (lexemes c.args.tokens.now) _ (cc) c.word_action-in-Exit.ensures

pub returns-in-Cycle : goal.returns-in-Cycle
returns-in-Cycle c = by_action_kind kind.Cycle (lexemes c.args.tokens.now) _ (cc) c.word_action-in-Cycle.ensures

pub returns-in-Continue : goal.returns-in-Continue
returns-in-Continue c = by_action_kind kind.Continue (lexemes c.args.tokens.now) _ (cc) c.word_action-in-Continue.ensures
