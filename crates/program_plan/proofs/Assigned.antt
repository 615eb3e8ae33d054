-- The assignments of WHERE and FORALL, as they lie in memory.
use Rattle.std.proofs.Common.{◌≡◌, ℕ, List, [], ◌∷◌, Global, sym, ap, ◌∙◌}
use Rattle.std.specs.Prelude.{Vec}
use Rattle.std.proofs.lemmas.List.{append-nil}
use Rattle.expression_rules.specs.Symbols.{Name}
use Rattle.name_table.specs.declared.names.Entry.{Entry}
use Rattle.syntax_tree.specs.declared.expr.Expr.{Expr}
use Rattle.syntax_tree.specs.declared.expr.Ref.{Ref}
use Rattle.syntax_tree.specs.declared.stmt.StatementKind as StatementKind
use Rattle.syntax_tree.specs.Expression.{expression}
use Rattle.syntax_tree.specs.Statement.{assignments_in, variable}
use Rattle.array_meaning.specs.Resolution.{element_assignments, left_of, section_assignments, term_of, to_element, to_section}
use Rattle.resolved_program.specs.declared.terms.Term.{Term as HeldTerm}
use Rattle.resolved_program.specs.declared.terms.Term.TheVariants as held
use Rattle.resolved_program.specs.declared.terms.SectionSubscript.{SectionSubscript as HeldSubscript}
use Rattle.resolved_program.specs.Resolved.{element_assignment, section_assignment, term}
use Rattle.resolved_program.proofs.Rows.{element_vec, section_vec}

pub section_added : (names : List Entry) (n : ℕ) (k : StatementKind.StatementKind) (l : Ref) (r : Expr) (left right : HeldTerm) (a : ℕ) (v : Vec HeldSubscript Global) →
    k ≡ StatementKind.Assign l r → left ≡ held.Section a v → term left ≡ left_of names [] (variable l) → term right ≡ term_of names [] (expression r) →
    section_assignment (record { line = n; array = a; subscripts = v; right = right }) ∷ [] ≡ section_assignments names (assignments_in n k)
section_added names n k l r left right a v is section left_is right_is =
    let side = sym (section_vec a v) ∙ ap term (sym section) ∙ left_is in
    (λ i. to_section n (side i) (right_is i))
    ∙ sym (append-nil (to_section n (left_of names [] (variable l)) (term_of names [] (expression r))))
    ∙ ap (λ k. section_assignments names (assignments_in n k)) (sym is)

pub element_added : (names : List Entry) (indices : List Name) (n : ℕ) (k : StatementKind.StatementKind) (l : Ref) (r : Expr) (left right : HeldTerm) (a : ℕ) (v : Vec HeldTerm Global) →
    k ≡ StatementKind.Assign l r → left ≡ held.Element a v → term left ≡ left_of names indices (variable l) → term right ≡ term_of names indices (expression r) →
    element_assignment (record { line = n; array = a; subscripts = v; right = right }) ∷ [] ≡ element_assignments names indices (assignments_in n k)
element_added names indices n k l r left right a v is element left_is right_is =
    let side = sym (element_vec a v) ∙ ap term (sym element) ∙ left_is in
    (λ i. to_element n (side i) (right_is i))
    ∙ sym (append-nil (to_element n (left_of names indices (variable l)) (term_of names indices (expression r))))
    ∙ ap (λ k. element_assignments names indices (assignments_in n k)) (sym is)
