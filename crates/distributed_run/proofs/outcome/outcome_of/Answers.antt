use Rattle.std.proofs.Common.{IsSome, length, map, refl, ap, subst, sym, ◌∙◌, arith}
use Rattle.std.proofs.lemmas.Option.{same_Some}
use Rattle.std.specs.List.{range_with_len, slice_get}
use Rattle.hpf_base.specs.ElementOrder.{product}
use Rattle.syntax_tree.specs.MainProgram.{MainProgram, main_program}
use Rattle.array_meaning.specs.Faults.{Fault}
use Rattle.array_meaning.specs.Serial.{Outcome, serial}
use Rattle.machine_steps.specs.Instr.{Control}
use Rattle.machine_steps.specs.Layout.{AreOwned}
use Rattle.compiled_program.specs.NewMappings.{program_mappings, program_remaps}
use Rattle.compiled_program.specs.ProgramLayouts.{start_layouts}
use Rattle.compiled_program.specs.ProgramRuns.{end_by_status}
use Rattle.serial_run.specs.Outcomes.{end_seen}
use Rattle.distributed_run.specs.Values.{row_values}
use Rattle.distributed_run.proofs.LastValues.{arrays-are, finished}
use Rattle.distributed_run.proofs.outcome.outcome_of.Goals as goal

pub first-root-requires : goal.first-root-requires
first-root-requires c = omega (arith, ap length c.deref.ensures.value, c.requires.many, c.requires.some)

pub last_arrays-requires-clause-nodes : goal.last_arrays-requires-clause-nodes
last_arrays-requires-clause-nodes c =
    (c.requires.each 0 c.first-root.result.now (ap (λ ns. slice_get ns 0) (sym c.deref.ensures.value) ∙ c.first-root.ensures)).among
    ∙ sym c.requires.many ∙ ap length (sym c.deref-2.ensures.value)

pub last_arrays-requires-clause-owned : goal.last_arrays-requires-clause-owned
last_arrays-requires-clause-owned c =
    let root = c.requires.each 0 c.first-root.result.now (ap (λ ns. slice_get ns 0) (sym c.deref.ensures.value) ∙ c.first-root.ensures) in
    subst (λ k. AreOwned k c.first-root.result.now.layouts) (sym root.among) (subst (AreOwned (product c.args.accepted.now.grid.now)) (sym root.laid) c.requires.owned)

pub end_of-requires : goal.end_of-requires
end_of-requires c =
    let root = c.requires.each 0 c.first-root.result.now (ap (λ ns. slice_get ns 0) (sym c.deref.ensures.value) ∙ c.first-root.ensures) in
    subst IsSome (sym (ap end_by_status c.status.ensures ∙ ap (λ (k : Control Fault). end_by_status k.status) root.stands ∙ c.requires.ended)) refl

pub returns-clause-outcome : goal.returns-clause-outcome
returns-clause-outcome c =
    let p : MainProgram = main_program c.args.accepted.now.program.tree in
    let o : Outcome = serial p in
    let first = start_layouts c.args.accepted.now.grid.now p in
    let root = c.requires.each 0 c.first-root.result.now (ap (λ ns. slice_get ns 0) (sym c.deref.ensures.value) ∙ c.first-root.ensures) in
    let ended = ap (λ (k : Control Fault). end_by_status k.status) root.stands ∙ c.requires.ended in
    record {
      printed = c.in_ok-printed.ensures.items ∙ c.printed.ensures ∙ root.printed;
      end = same_Some (end_seen c.in_ok-end.end) o.end (sym c.in_ok-end.ensures ∙ ap end_by_status c.status.ensures ∙ ended);
      arrays = λ end. c.in_ok-arrays.ensures (finished c.first-root.result.now.control.status o.end ended end)
          ∙ ap (λ ns. map (row_values c.first-root.result.now.layouts ns) (range_with_len 0 c.len.result)) c.deref-2.ensures.value
          ∙ ap (λ k. map (row_values c.first-root.result.now.layouts c.args.last.items) (range_with_len 0 k)) (c.len.ensures ∙ ap length c.args.accepted.now.names)
          ∙ arrays-are (product c.args.accepted.now.grid.now) p (program_mappings c.args.accepted.now.grid.now p) (program_remaps c.args.accepted.now.grid.now p) first c.args.last.items c.requires end c.first-root.result.now.layouts root.laid;
    }
