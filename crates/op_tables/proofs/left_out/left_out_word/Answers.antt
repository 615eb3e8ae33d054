use Rattle.op_tables.proofs.left_out.left_out_word.Goals as goal

pub returns : goal.returns
returns c = c.code.ensures _ c.left_out_words.ensures
