-- Each line is one more of those that the definition goes through.
use Rattle.std.proofs.Common.{◌∙◌, subst}
use Rattle.construct_rules.specs.Breaches.{IsNestBreach}
use Rattle.hpf_base.specs.FirstBreach.{IsFirstOrNone}
use Rattle.construct_rules.specs.ProgramLine.{lines_of}
use Rattle.construct_rules.proofs.Finding.{found, found_next, found_end, stated_before, declared_after_line, declares_after, in_roles, role_at, roles_left}
use Rattle.construct_rules.proofs.breaches.first_breach.Goals as goal

pub least_reason-reason-requires : goal.least_reason-reason-requires
least_reason-reason-requires c = λ statement stated.
    declares_after _ _ _ _ _ c.deref-in-loop-i.ensures.value (in_roles c.args.lines.now _ c.in_ok-roles.ensures _ c.loop-i-test.true) c.index-role.ensures statement
    (c.loop-i.invariant.1 stated)

pub loop-i-preserved : goal.loop-i-preserved
loop-i-preserved c = (
  c.loop-i.invariant.0
      ∙ found_next _ _ _ _ _ _ _ _ _ _ _ _ c.loop-i-test.true c.index-lines-i.is
      (role_at c.args.lines.now _ c.in_ok-roles.ensures _ c.loop-i-test.true _ _ c.index-lines-i.is c.index-role.ensures)
      (roles_left c.args.lines.now _ (c.deref-in-loop-i.ensures.value ∙ c.in_ok-roles.ensures) _ c.loop-i-test.true)
      c.least_reason-reason.ensures c.at_line.ensures c.earlier-first.ensures c.in_ok-go_after.ensures,
  λ stated.
      let before = stated_before _ _ _ c.in_ok-go_after.ensures stated in
      declared_after_line _ _ _ _ (in_roles c.args.lines.now _ c.in_ok-roles.ensures _ c.loop-i-test.true) c.index-role.ensures before.1 (c.loop-i.invariant.1 before.0),
)

pub returns : goal.returns
returns c =
    subst (IsFirstOrNone (IsNestBreach c.args.last (lines_of c.args.lines.now)))
    (c.loop-i.invariant.0 ∙ found_end _ _ _ _ _ _ _ _ _ c.loop-i-test.false c.max.ensures c.end_reason.ensures c.at_line-2.ensures c.earlier.ensures)
    (found c.args.last (lines_of c.args.lines.now))
