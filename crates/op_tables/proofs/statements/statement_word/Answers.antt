use Rattle.op_tables.proofs.statements.statement_word.Goals as goal

pub returns : goal.returns
returns c = c.code.ensures _ c.statement_words.ensures
