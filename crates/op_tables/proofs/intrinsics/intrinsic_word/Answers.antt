use Rattle.op_tables.proofs.intrinsics.intrinsic_word.Goals as goal

pub returns : goal.returns
returns c = c.code.ensures _ c.intrinsic_words.ensures
