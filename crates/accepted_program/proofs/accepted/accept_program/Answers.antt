use Rattle.std.proofs.Common.{sym, ◌∙◌, ap, subst}
use Rattle.std.proofs.lemmas.Result.{err_from_is_err_and}
use Rattle.hpf_base.specs.FirstBreach.{Among}
use Rattle.hpf_base.specs.Refusal.{IsRefusalBy, NoBreach}
use Rattle.syntax_tree.specs.MainProgram.{main_program}
use Rattle.declarations.specs.Declarations.{symbol_table}
use Rattle.name_table.specs.Entries.{entries}
use Rattle.name_table.specs.Resolved.{HasNoBreach}
use Rattle.body_check.specs.BodyRules.{body_breaches}
use Rattle.directive_check.specs.MappingRules.{mapping_breaches}
use Rattle.accepted_program.proofs.Refusals.{misbodied, mismapped, misnamed}
use Rattle.accepted_program.proofs.accepted.accept_program.Goals as goal

pub returns-in_err-program-clause-refused : goal.returns-in_err-program-clause-refused
returns-in_err-program-clause-refused c =
    let error = err_from_is_err_and c.from_residual.result c.from_residual.ensures.1 in
    rw (error.1, error.2)
    (misnamed c.args.grid.now (main_program c.args.tree) c.in_err-program.field-0.0 c.in_err-program.ensures.refused)

pub check_mapping-requires-clause-table : goal.check_mapping-requires-clause-table
check_mapping-requires-clause-table c =
    c.in_ok-program.ensures.table ∙ ap (λ t. symbol_table (main_program t).declarations) (sym c.in_ok-program.ensures.tree)

pub check_mapping-requires-clause-names : goal.check_mapping-requires-clause-names
check_mapping-requires-clause-names c = c.in_ok-program.ensures.names ∙ ap (λ t. entries (main_program t)) (sym c.in_ok-program.ensures.tree)

pub check_mapping-requires-clause-resolved : goal.check_mapping-requires-clause-resolved
check_mapping-requires-clause-resolved c = subst (λ t. HasNoBreach (main_program t)) (sym c.in_ok-program.ensures.tree) c.in_ok-program.ensures.fine

pub returns-in_err-maps-clause-refused : goal.returns-in_err-maps-clause-refused
returns-in_err-maps-clause-refused c =
    let error = err_from_is_err_and c.from_residual-in_err-maps.result c.from_residual-in_err-maps.ensures.1 in
    rw (error.1, error.2)
    (mismapped c.args.grid.now (main_program c.args.tree) c.in_err-maps.field-0.0 c.in_ok-program.ensures.fine
    (subst (λ t. IsRefusalBy (Among (mapping_breaches c.args.grid.now (main_program t))) c.in_err-maps.field-0.0) c.in_ok-program.ensures.tree
    c.in_err-maps.ensures.refused))

pub returns-in_err-check_bodies-clause-refused : goal.returns-in_err-check_bodies-clause-refused
returns-in_err-check_bodies-clause-refused c =
    let error = err_from_is_err_and c.from_residual-in_err-check_bodies.result c.from_residual-in_err-check_bodies.ensures.1 in
    let same = c.in_ok-program.ensures.tree in
    rw (error.1, error.2)
    (misbodied c.args.grid.now (main_program c.args.tree) c.in_err-check_bodies.field-0.0 c.in_ok-program.ensures.fine
    (subst (λ t. NoBreach (Among (mapping_breaches c.args.grid.now (main_program t)))) same c.in_ok-maps.ensures.fine)
    (subst (λ es. IsRefusalBy (Among (body_breaches es (main_program c.args.tree).body)) c.in_err-check_bodies.field-0.0) c.in_ok-program.ensures.names
    (subst (λ t. IsRefusalBy (Among (body_breaches c.in_ok-program.program.names (main_program t).body)) c.in_err-check_bodies.field-0.0) same
    c.in_err-check_bodies.ensures.refused)))

pub invariant_of-result : goal.invariant_of-result
invariant_of-result c =
    let same = sym c.in_ok-program.ensures.tree in
    let p = main_program c.in_ok-program.program.tree in
    let own = c.in_ok-program.ensures.names ∙ ap (λ t. entries (main_program t)) same in
    record {
      keeps = record {
        anywhere = record {
          resolved = subst (λ t. HasNoBreach (main_program t)) same c.in_ok-program.ensures.fine;
          bodies_fine = subst (λ es. NoBreach (Among (body_breaches es p.body))) own c.in_ok-check_bodies.ensures.fine;
        };
        mapped = c.in_ok-maps.ensures.fine;
      };
      names = own;
      starts = c.in_ok-maps.ensures.arrays;
      moves = c.in_ok-maps.ensures.moves;
      valid = c.in_ok-maps.ensures.valid;
    }
