use Rattle.std.proofs.Common.{◌∙◌, ap}
use Rattle.hpf_base.specs.ElementOrder.{product}
use Rattle.syntax_tree.specs.MainProgram.{main_program}
use Rattle.directive_check.specs.ProgramMaps.{start_maps}
use Rattle.run_report.specs.MapText.{map_text}
use Rattle.hpf_words.specs.declared.job.Action.TheVariants.{Map}
use Rattle.hpf_run.specs.Outcome.{map_done}
use Rattle.hpf_run.specs.Reply.{action_memory}
use Rattle.hpf_run.proofs.TopLaws.{done-meant}
use Rattle.hpf_run.proofs.actions.map_reply.Goals as goal

pub map_text-requires : goal.map_text-requires
map_text-requires c = c.args.accepted.now.valid.arrays

pub returns-in-Ok : goal.returns-in-Ok
returns-in-Ok c = λ arrays.
    let accepted = c.args.accepted.now in
    let grid = accepted.grid.now in
    let p = main_program accepted.program.tree in
    done-meant grid arrays p Map c.in-Ok.text.items (map_text (product grid) (start_maps grid p))
    (c.in-Ok.ensures ∙ ap (map_text (product grid)) accepted.starts) map_done

pub returns-in-Err : goal.returns-in-Err
returns-in-Err c = λ arrays. action_memory
