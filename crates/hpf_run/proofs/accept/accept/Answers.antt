use Rattle.std.proofs.Common.{subst, sym}
use Rattle.std.proofs.lemmas.Result.{err_from_is_err_and}
use Rattle.syntax_tree.specs.MainProgram.{main_program}
use Rattle.hpf_reader.specs.ProgramText.{IsMeantBy}
use Rattle.accepted_program.specs.Accepted.{KeepsRulesOn}
use Rattle.hpf_run.proofs.AcceptLaws.{unaccepted, unread}
use Rattle.hpf_run.proofs.accept.accept.Goals as goal

pub returns-in_err-tree-clause-refused : goal.returns-in_err-tree-clause-refused
returns-in_err-tree-clause-refused c =
    let error = err_from_is_err_and c.from_residual.result c.from_residual.ensures.1 in
    rw (error.1, error.2)
    (unread c.args.form c.args.grid.now c.args.text.now c.in_err-tree.field-0.0 c.in_err-tree.ensures.refused)

pub returns-in_err-accepted-clause-refused : goal.returns-in_err-accepted-clause-refused
returns-in_err-accepted-clause-refused c =
    let error = err_from_is_err_and c.from_residual-in_err-accepted.result c.from_residual-in_err-accepted.ensures.1 in
    rw (error.1, error.2)
    (unaccepted c.args.form c.args.grid.now c.args.text.now (main_program c.in_ok-tree.tree) c.in_err-accepted.field-0.0 c.in_ok-tree.ensures.fine c.in_ok-tree.ensures.meant
    c.in_err-accepted.ensures.refused)

pub returns-clause-accepted : goal.returns-clause-accepted
returns-clause-accepted c =
    let accepted = c.in_ok-accepted.accepted in
    record {
      read = c.in_ok-tree.ensures.fine;
      means = subst (λ t. IsMeantBy c.args.form c.args.text.now (main_program t)) (sym c.in_ok-accepted.ensures.tree) c.in_ok-tree.ensures.meant;
      keeps = subst (λ g. KeepsRulesOn g (main_program accepted.program.tree)) c.in_ok-accepted.ensures.grid accepted.keeps;
    }
