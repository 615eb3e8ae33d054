use Rattle.std.proofs.Common.{ℕ, subst}
use Rattle.statement_reader.specs.declared.statement.Statement.TheVariants as statement
use Rattle.statement_reader.specs.Views.{form_of}
use Rattle.construct_rules.specs.declared.role.Construct.TheVariants as construct
use Rattle.construct_reader.specs.Draft.{IsAfter, end_part, innermost, status}
use Rattle.construct_reader.specs.NextLine.{statement_line}
use Rattle.construct_reader.proofs.Taken.{close_is, end_do_form, end_forall_form, end_if_form, end_where_form, on_ok}
use Rattle.construct_reader.proofs.next_line.statement.Goals as goal

pub returns-in-EndIf : goal.returns-in-EndIf
returns-in-EndIf c =
    on_ok
    (λ d. (n : ℕ) → IsAfter c.args.draft (statement_line n (end_part (innermost (status c.args.draft).opens) c.in-EndIf.glued)) d)
    (IsAfter c.args.draft (statement_line c.args.line (form_of c.args.what)))
    (λ d h.
    subst (λ f. IsAfter c.args.draft (statement_line c.args.line f) d)
    (close_is (status c.args.draft) c.args.what (statement.EndIf c.in-EndIf.glued) construct.If c.in-EndIf.glued c.in-EndIf.is (end_if_form c.in-EndIf.glued) c.requires.takes)
    (h c.args.line))
    c.close.result
    c.close.ensures

pub returns-in-EndDo : goal.returns-in-EndDo
returns-in-EndDo c =
    on_ok
    (λ d. (n : ℕ) → IsAfter c.args.draft (statement_line n (end_part (innermost (status c.args.draft).opens) c.in-EndDo.glued)) d)
    (IsAfter c.args.draft (statement_line c.args.line (form_of c.args.what)))
    (λ d h.
    subst (λ f. IsAfter c.args.draft (statement_line c.args.line f) d)
    (close_is (status c.args.draft) c.args.what (statement.EndDo c.in-EndDo.glued) construct.Do c.in-EndDo.glued c.in-EndDo.is (end_do_form c.in-EndDo.glued) c.requires.takes)
    (h c.args.line))
    c.close-in-EndDo.result
    c.close-in-EndDo.ensures

pub returns-in-EndWhere : goal.returns-in-EndWhere
returns-in-EndWhere c =
    on_ok
    (λ d. (n : ℕ) → IsAfter c.args.draft (statement_line n (end_part (innermost (status c.args.draft).opens) c.in-EndWhere.glued)) d)
    (IsAfter c.args.draft (statement_line c.args.line (form_of c.args.what)))
    (λ d h.
    subst (λ f. IsAfter c.args.draft (statement_line c.args.line f) d)
    (close_is (status c.args.draft) c.args.what (statement.EndWhere c.in-EndWhere.glued) construct.Where c.in-EndWhere.glued c.in-EndWhere.is
    (end_where_form c.in-EndWhere.glued) c.requires.takes)
    (h c.args.line))
    c.close-in-EndWhere.result
    c.close-in-EndWhere.ensures

pub returns-in-EndForall : goal.returns-in-EndForall
returns-in-EndForall c =
    on_ok
    (λ d. (n : ℕ) → IsAfter c.args.draft (statement_line n (end_part (innermost (status c.args.draft).opens) c.in-EndForall.glued)) d)
    (IsAfter c.args.draft (statement_line c.args.line (form_of c.args.what)))
    (λ d h.
    subst (λ f. IsAfter c.args.draft (statement_line c.args.line f) d)
    (close_is (status c.args.draft) c.args.what (statement.EndForall c.in-EndForall.glued) construct.Forall c.in-EndForall.glued c.in-EndForall.is
    (end_forall_form c.in-EndForall.glued) c.requires.takes)
    (h c.args.line))
    c.close-in-EndForall.result
    c.close-in-EndForall.ensures
