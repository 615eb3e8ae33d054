-- Of the claim.
-- What a run on nodes leaves.
use Rattle.std.specs.Prelude.{◌≡◌, ◌*◌, ℕ, List, length}
use Rattle.std.specs.Arc.{arc_value}
use Rattle.hpf_base.specs.ElementOrder.{product}
use Rattle.syntax_tree.specs.MainProgram.{MainProgram}
use Rattle.node_program.specs.Programs.{code_of}
use Rattle.compiled_program.specs.GridRuns.{RunsOnGrid, grid_nodes, grid_opening}
use Rattle.compiled_program.specs.ProgramRuns.{program_steps}
use Rattle.stations.specs.Ended.{AreClosed}
use Rattle.distributed_run.specs.declared.ran.Ran.{Ran}

-- the code is that of the program on the grid, whose nodes are phased and end as the program does in every order of their steps. There is a
-- queue for each ordered pair of nodes, and on each just the letters of the nodes' lockstep run were sent, in order, and all were taken
pub record IsRunOf (grid : List ℕ) (p : MainProgram) (ran : Ran) : Type 0 where
  pub code : code_of (arc_value ran.code) ≡ (grid_opening grid p).code
  pub runs : RunsOnGrid grid p
  pub count : length ran.closed.items ≡ product grid * product grid
  pub closed : AreClosed program_steps (grid_nodes grid p) ran.closed.items
