use Rattle.std.proofs.Common.{◌≡◌, length, sym, ◌∙◌, ap, subst}
use Rattle.std.proofs.lemmas.List.{length-set}
use Rattle.std.specs.Arc.{arc_value}
use Rattle.machine_steps.specs.Instr.{MakeCopy}
use Rattle.machine_steps.specs.Machine.{instr_at}
use Rattle.code_meaning.specs.ProgramText.{text_meaning}
use Rattle.owner_tables.specs.Views.{OwnersView}
use Rattle.node_program.specs.Fits.{FitsRows}
use Rattle.node_program.specs.Programs.{code_of}
use Rattle.node_machine.specs.Steps.{instr_here}
use Rattle.node_program.proofs.FitLaws.{copy-fits}
use Rattle.node_machine.proofs.node.Node.put_copy.Goals as goal

pub invariant_of-self : goal.invariant_of-self
invariant_of-self c =
    let k = c.self.inside in
    let made = c.requires.made in
    let here : instr_at text_meaning (code_of (arc_value k.program)) k.control.at ≡ MakeCopy c.args.made.copy made.layout made.start = ap instr_here c.self.view_is ∙ made.is in
    record {
      one = c.self.invariant.one;
      few = c.self.invariant.few;
      owners = ap (λ (o : OwnersView). o.nodes) c.set.ensures ∙ c.self.invariant.owners;
      pieces = c.set_piece.ensures.count ∙ c.self.invariant.pieces
          ∙ sym (ap (λ (o : OwnersView). length o.layouts) c.set.ensures ∙ length-set k.owners.layouts c.args.made.copy c.in_ok-table.table.layout);
      next_to = c.self.invariant.next_to;
      next_from = c.self.invariant.next_from;
      fits = subst (λ (o : OwnersView). FitsRows (arc_value k.program) o.layouts) (sym c.set.ensures)
          (copy-fits (arc_value k.program) k.owners.layouts k.control.at c.args.made.copy made.layout made.start c.in_ok-table.table.layout here c.self.invariant.fits);
      exchanges = c.self.invariant.exchanges;
    }
