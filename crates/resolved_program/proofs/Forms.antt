-- What an expression is, by the match that took it apart and the list that its `Vec` was read as.
use Rattle.std.proofs.Common.{◌≡◌, ℕ, Global, List, sym, ap, ◌∙◌}
use Rattle.std.specs.Prelude.{Vec}
use Rattle.op_tables.specs.declared.op.Op.{Op}
use Rattle.array_meaning.specs.Terms.{Apply, Element, Section}
use Rattle.resolved_program.specs.declared.terms.Term.{Term as HeldTerm}
use Rattle.resolved_program.specs.declared.terms.Term.TheVariants as held
use Rattle.resolved_program.specs.declared.terms.SectionSubscript.{SectionSubscript as HeldSubscript}
use Rattle.resolved_program.specs.Resolved.{term, terms_of, subscripts_of}
use Rattle.resolved_program.proofs.Rows.{apply_vec, element_vec, section_vec}

pub element_is : (t : HeldTerm) (a : ℕ) (v : Vec HeldTerm Global) (ts : List HeldTerm) → t ≡ held.Element a v → ts ≡ v.items → Element a (terms_of ts) ≡ term t
element_is t a v ts is all = ap (λ l. Element a (terms_of l)) all ∙ sym (element_vec a v) ∙ ap term (sym is)

pub section_is : (t : HeldTerm) (a : ℕ) (v : Vec HeldSubscript Global) (ds : List HeldSubscript) → t ≡ held.Section a v → ds ≡ v.items → Section a (subscripts_of ds) ≡ term t
section_is t a v ds is all = ap (λ l. Section a (subscripts_of l)) all ∙ sym (section_vec a v) ∙ ap term (sym is)

pub apply_is : (t : HeldTerm) (o : Op) (v : Vec HeldTerm Global) (ts : List HeldTerm) → t ≡ held.Apply o v → ts ≡ v.items → Apply o (terms_of ts) ≡ term t
apply_is t o v ts is all = ap (λ l. Apply o (terms_of l)) all ∙ sym (apply_vec o v) ∙ ap term (sym is)
