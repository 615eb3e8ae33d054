use Rattle.nodes_lowered.proofs.Runs.{run-on-nodes}
use Rattle.nodes_lowered.proofs.promises.programs_run_on_nodes.Goals as goal

pub returns : goal.returns
returns c = λ nodes p maps moves layouts some rules fit laid dealt. run-on-nodes nodes p maps moves layouts some rules fit (c.all_are_known.ensures p) laid dealt
