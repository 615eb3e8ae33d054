-- An accepted program on the nodes of its grid.
use Rattle.std.proofs.Common.{◌≡◌, ℕ, ◌*◌, ◌<◌, ◌≤◌, ◌^◌, List, length, sym, ap, subst, ◌∙◌, arith}
use Rattle.std.specs.Prelude.{Some}
use Rattle.std.specs.Arc.{arc_value}
use Rattle.std.specs.List.{slice_get}
use Rattle.hpf_base.specs.ElementOrder.{product}
use Rattle.hpf_base.specs.Grid.{IsGrid}
use Rattle.hpf_base.proofs.ElementOrder.{product-some}
use Rattle.syntax_tree.specs.MainProgram.{MainProgram, main_program}
use Rattle.fitting_states.specs.FittingStates.{ProgramFits}
use Rattle.accepted_program.specs.declared.accepted.AcceptedProgram.{AcceptedProgram}
use Rattle.array_meaning.specs.Faults.{Fault}
use Rattle.node_law.specs.Cores.{start}
use Rattle.node_law.specs.Phases.{Lockstep}
use Rattle.node_law.specs.Reached.{EndsInLockstep}
use Rattle.stations.specs.Ended.{AreClosed}
use Rattle.stations.specs.Lettered.{IsLettered}
use Rattle.node_numbers.proofs.Numbered.{openings-lettered}
use Rattle.machine_steps.specs.Node.{Node}
use Rattle.code_meaning.specs.FaultValues.{fault_values}
use Rattle.code_meaning.specs.ProgramText.{Text, text_meaning}
use Rattle.node_program.specs.Programs.{code_of}
use Rattle.compiled_program.specs.GridRuns.{AreLastOnGrid, RunsOnGrid, grid_nodes, grid_opening}
use Rattle.compiled_program.specs.NewMappings.{program_mappings, program_remaps}
use Rattle.compiled_program.specs.OnNodes.{program_copies}
use Rattle.compiled_program.specs.ProgramLayouts.{start_layouts}
use Rattle.compiled_program.specs.ProgramRuns.{program_steps}
use Rattle.compiled_program.proofs.StartLaid.{program-laid}
use Rattle.compiled_program.proofs.Accepted.{arrays-valid, moves-valid}
use Rattle.distributed_run.proofs.GridLaws.{AllMovesDealt, RunsOnNodes}
use Rattle.distributed_run.specs.Ran.{IsRunOf}
use Rattle.distributed_run.specs.declared.ran.Ran.{Ran}

module _ (a : AcceptedProgram) (is : IsGrid a.grid.now) (fit : ProgramFits (main_program a.program.tree)) where
  abbrev grid : List ℕ
  grid = a.grid.now

  abbrev p : MainProgram
  p = main_program a.program.tree

  module _ (runs : RunsOnNodes) (dealt : AllMovesDealt) (first : List (Node Text Fault)) (begin : first ≡ grid_nodes grid p) where
    run : RunsOnGrid grid p
    run =
        runs (product grid) p (program_mappings grid p) (program_remaps grid p) (start_layouts grid p)
        (let some : 1 ≤ product grid = product-some grid is.extents in omega (arith, some)) a.keeps.anywhere fit
        (program-laid grid (program_copies p) p is (arrays-valid a)) (dealt grid (program_copies p) p is (arrays-valid a) (moves-valid a))

    as_many : length first ≡ product grid
    as_many = ap length begin ∙ run.count

    pub few : length first < 2 ^ 32
    few = omega (arith, as_many, is.nodes)

    pub lettered : (k : ℕ) (node : Node Text Fault) → slice_get first k ≡ Some node → IsLettered program_steps (length first) k node
    lettered k node there =
        subst (λ count. IsLettered program_steps count k node) (sym as_many)
        (openings-lettered fault_values text_meaning (product grid) (grid_opening grid p) k node (ap (λ ns. slice_get ns k) (sym begin) ∙ there))

    pub phased : Lockstep program_steps (slice_get first)
    phased = subst (λ ns. Lockstep program_steps (slice_get ns)) (sym begin) run.phased

    pub last-ends : (last : List (Node Text Fault)) → EndsInLockstep program_steps (start first) last → EndsInLockstep program_steps (start (grid_nodes grid p)) last
    last-ends last ends = subst (λ ns. EndsInLockstep program_steps (start ns) last) begin ends

    pub last-nodes : (last : List (Node Text Fault)) → EndsInLockstep program_steps (start first) last
        → AreLastOnGrid grid p last
    last-nodes last ends = run.ends last (last-ends last ends)

    -- what the run leaves
    pub is-run : (ran : Ran) → code_of (arc_value ran.code) ≡ (grid_opening grid p).code → length ran.closed.items ≡ length first * length first
        → AreClosed program_steps first ran.closed.items → IsRunOf grid p ran
    is-run ran code count closed = record {
      code = code;
      runs = run;
      count = count ∙ ap (λ n. n * n) as_many;
      closed = subst (λ ns. AreClosed program_steps ns ran.closed.items) begin closed;
    }
