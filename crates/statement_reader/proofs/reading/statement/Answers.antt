use Rattle.std.proofs.Common.{true, false}
use Rattle.syntax_tree.specs.Lexeme.{lexemes}
use Rattle.statement_reader.specs.declared.kind.Kind.TheVariants as kind
use Rattle.statement_reader.proofs.ByKind.{by_kind}
use Rattle.statement_reader.proofs.reading.statement.Goals as goal

pub returns-in-ElseIf-true : goal.returns-in-ElseIf-true
returns-in-ElseIf-true c = by_kind (kind.ElseIf true) (lexemes c.args.tokens.now) _ (cc) c.one_word_else_if.ensures

pub returns-in-ElseIf-false : goal.returns-in-ElseIf-false
returns-in-ElseIf-false c = by_kind (kind.ElseIf false) (lexemes c.args.tokens.now) _ (cc) c.two_word_else_if.ensures

pub returns-in-EndIf-true : goal.returns-in-EndIf-true
returns-in-EndIf-true c = by_kind (kind.EndIf true) (lexemes c.args.tokens.now) _ (cc) c.alone-in-EndIf-true.ensures

pub returns-in-EndIf-false : goal.returns-in-EndIf-false
returns-in-EndIf-false c = by_kind (kind.EndIf false) (lexemes c.args.tokens.now) _ (cc) c.end_of.ensures

pub returns-in-EndDo-true : goal.returns-in-EndDo-true
returns-in-EndDo-true c = by_kind (kind.EndDo true) (lexemes c.args.tokens.now) _ (cc) c.alone-in-EndDo-true.ensures

pub returns-in-EndDo-false : goal.returns-in-EndDo-false
returns-in-EndDo-false c = by_kind (kind.EndDo false) (lexemes c.args.tokens.now) _ (cc) c.end_of-in-EndDo-false.ensures

pub returns-in-ElseWhere-true : goal.returns-in-ElseWhere-true
returns-in-ElseWhere-true c = by_kind (kind.ElseWhere true) (lexemes c.args.tokens.now) _ (cc) c.alone-in-ElseWhere-true.ensures

pub returns-in-ElseWhere-false : goal.returns-in-ElseWhere-false
returns-in-ElseWhere-false c = by_kind (kind.ElseWhere false) (lexemes c.args.tokens.now) _ (cc) c.pair-in-ElseWhere-false.ensures

pub returns-in-EndWhere-true : goal.returns-in-EndWhere-true
returns-in-EndWhere-true c = by_kind (kind.EndWhere true) (lexemes c.args.tokens.now) _ (cc) c.alone-in-EndWhere-true.ensures

pub returns-in-EndWhere-false : goal.returns-in-EndWhere-false
returns-in-EndWhere-false c = by_kind (kind.EndWhere false) (lexemes c.args.tokens.now) _ (cc) c.end_of-in-EndWhere-false.ensures

pub returns-in-EndForall-true : goal.returns-in-EndForall-true
returns-in-EndForall-true c = by_kind (kind.EndForall true) (lexemes c.args.tokens.now) _ (cc) c.alone-in-EndForall-true.ensures

pub returns-in-EndForall-false : goal.returns-in-EndForall-false
returns-in-EndForall-false c = by_kind (kind.EndForall false) (lexemes c.args.tokens.now) _ (cc) c.end_of-in-EndForall-false.ensures
