use Rattle.std.proofs.Common.{◌≡◌, ◌∙◌, arith}
use Rattle.machine_steps.specs.Tree.{levels_of}
use Rattle.node_run.proofs.TreeActs.{levels-least, same-levels}
use Rattle.tree_steps.proofs.rounds.levels_of.Goals as goal

pub returns-clause-value : goal.returns-clause-value
returns-clause-value c = c.levels.ensures.value ∙ same-levels c.args.nodes

pub returns-clause-low : goal.returns-clause-low
returns-clause-low c =
    let e : c.levels.result ≡ levels_of c.args.nodes = c.levels.ensures.value ∙ same-levels c.args.nodes in
    let le = levels-least c.args.nodes 6 c.requires.few in omega arith
