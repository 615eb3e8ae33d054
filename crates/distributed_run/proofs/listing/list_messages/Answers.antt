use Rattle.std.proofs.Common.{◌≡◌, IsSome, refl, sym, ap, ◌∙◌, subst}
use Rattle.std.specs.Arc.{arc_value}
use Rattle.std.proofs.lemmas.Option.{same_Some}
use Rattle.syntax_tree.specs.MainProgram.{main_program}
use Rattle.array_meaning.specs.Serial.{serial}
use Rattle.serial_run.specs.Outcomes.{end_seen}
use Rattle.node_program.specs.Openings.{opening_machine}
use Rattle.node_program.specs.Programs.{code_of}
use Rattle.compiled_program.specs.GridRuns.{grid_opening}
use Rattle.compiled_program.specs.ProgramRuns.{end_by_status}
use Rattle.distributed_run.proofs.AcceptedLines.{end-so, text-so}
use Rattle.distributed_run.proofs.listing.list_messages.Goals as goal

pub run_machine-requires : goal.run_machine-requires
run_machine-requires c =
    c.in_ok-machine.ensures
    ∙ (λ i. opening_machine (code_of (arc_value c.in_ok-compiled.compiled.text)) (c.deref.ensures.value i) c.in_ok-compiled.compiled.owners.layouts (c.deref-2.ensures.value i))
    ∙ c.in_ok-compiled.ensures.opening

pub invariant_of-run_machine-clause-known : goal.invariant_of-run_machine-clause-known
invariant_of-run_machine-clause-known c = c.all_are_known.ensures (main_program c.args.accepted.now.program.tree)

pub end_of-requires : goal.end_of-requires
end_of-requires c =
    let begins : c.in_ok-machine.machine ≡ grid_opening c.args.accepted.now.grid.now (main_program c.args.accepted.now.program.tree) =
    c.in_ok-machine.ensures
    ∙ (λ i. opening_machine (code_of (arc_value c.in_ok-compiled.compiled.text)) (c.deref.ensures.value i) c.in_ok-compiled.compiled.owners.layouts (c.deref-2.ensures.value i))
    ∙ c.in_ok-compiled.ensures.opening in
    let end = end-so c.args.accepted.now c.compile_program.ensures.grid c.in_ok-compiled.ensures.numbers c.accepted_texts_lowered.ensures c.accepted_moves_are_dealt.ensures c.moves_by_number.ensures
    c.in_ok-machine.machine c.run_machine.new.machine c.new-text.result.items c.run_machine.new.text.items c.new-text.ensures.items begins
    c.in_ok-run_machine.ensures.lines c.in_ok-run_machine.ensures.over in
    subst IsSome (sym (ap end_by_status c.status.ensures ∙ end)) refl

pub returns : goal.returns
returns c =
    let p = main_program c.args.accepted.now.program.tree in
    let begins : c.in_ok-machine.machine ≡ grid_opening c.args.accepted.now.grid.now p =
    c.in_ok-machine.ensures
    ∙ (λ i. opening_machine (code_of (arc_value c.in_ok-compiled.compiled.text)) (c.deref.ensures.value i) c.in_ok-compiled.compiled.owners.layouts (c.deref-2.ensures.value i))
    ∙ c.in_ok-compiled.ensures.opening in
    let end = end-so c.args.accepted.now c.compile_program.ensures.grid c.in_ok-compiled.ensures.numbers c.accepted_texts_lowered.ensures c.accepted_moves_are_dealt.ensures c.moves_by_number.ensures
    c.in_ok-machine.machine c.run_machine.new.machine c.new-text.result.items c.run_machine.new.text.items c.new-text.ensures.items begins
    c.in_ok-run_machine.ensures.lines c.in_ok-run_machine.ensures.over in
    record {
      text = text-so c.args.accepted.now c.compile_program.ensures.grid c.in_ok-compiled.ensures.numbers c.accepted_texts_lowered.ensures c.accepted_moves_are_dealt.ensures c.moves_by_number.ensures
          c.in_ok-machine.machine c.run_machine.new.machine c.new-text.result.items c.run_machine.new.text.items c.new-text.ensures.items begins
          c.in_ok-run_machine.ensures.lines c.in_ok-run_machine.ensures.over;
      end = same_Some (end_seen c.in_ok-end.end) (serial p).end (sym c.in_ok-end.ensures ∙ ap end_by_status c.status.ensures ∙ end);
    }
