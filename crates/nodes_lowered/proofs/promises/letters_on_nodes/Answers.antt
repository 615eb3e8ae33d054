use Rattle.nodes_lowered.proofs.Runs.{letters-on-nodes}
use Rattle.nodes_lowered.proofs.promises.letters_on_nodes.Goals as goal

pub returns : goal.returns
returns c = λ nodes p maps moves layouts some rules fit laid dealt. letters-on-nodes nodes p maps moves layouts some rules fit (c.all_are_known.ensures p) laid dealt
