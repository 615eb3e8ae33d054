-- The first of what the bodies of a program break.
use Rattle.std.proofs.Common.{◌≡◌, List, Option, sym, ap, subst, ◌∙◌}
use Rattle.hpf_base.specs.declared.refusal.Refusal.{Refusal}
use Rattle.hpf_base.specs.FirstBreach.{Among, IsFirstOrNone, least}
use Rattle.hpf_base.proofs.FirstBreaches.{least_first}
use Rattle.syntax_tree.specs.declared.stmt.Stmt.{Stmt}
use Rattle.syntax_tree.specs.Statement.{block_of}
use Rattle.name_table.specs.declared.names.Entry.{Entry}
use Rattle.body_check.specs.BodyRules.{body_breaches}

pub first_in_bodies : (es : List Entry) (stmts body : List Stmt) (found first : Option Refusal) → found ≡ least (body_breaches es (block_of stmts)) → stmts ≡ body →
    found ≡ first → IsFirstOrNone (Among (body_breaches es (block_of body))) first
first_in_bodies es stmts body found first is same found_is =
    subst (IsFirstOrNone (Among (body_breaches es (block_of body))))
    (sym (is ∙ ap (λ ss. least (body_breaches es (block_of ss))) same) ∙ found_is)
    (least_first (body_breaches es (block_of body)))
