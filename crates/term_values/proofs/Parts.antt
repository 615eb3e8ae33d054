-- The parts of an evaluation are those of an expression.
use Rattle.std.proofs.Common.{◌≡◌, ℕ, List, ℤ, ap, sym, ◌∙◌, Global}
use Rattle.std.specs.Prelude.{Vec}
use Rattle.op_tables.specs.declared.op.Op.{Op}
use Rattle.resolved_program.specs.declared.terms.Term.{Term as HeldTerm}
use Rattle.resolved_program.specs.declared.terms.Term.TheVariants as held
use Rattle.resolved_program.specs.declared.terms.SectionSubscript.{SectionSubscript as HeldSubscript}
use Rattle.resolved_program.specs.Resolved.{term, terms_of, subscripts_of}
use Rattle.resolved_program.proofs.Rows.{element_vec, section_vec, apply_vec}
use Rattle.array_meaning.specs.Expressions.{value, elemental}
use Rattle.array_meaning.specs.State.{State}
use Rattle.term_values.specs.Parts.{element_value, operation, operation_value, same, selected}

module _ (indices : List ℤ) (s : State) where
  pub element_value_is : (t : HeldTerm) (a : ℕ) (ts : Vec HeldTerm Global) → t ≡ held.Element a ts → element_value indices s a (terms_of ts.items) ≡ value indices s (term t)
  element_value_is t a ts is = ap (value indices s) (sym (element_vec a ts) ∙ ap term (sym is))

  pub operation_value_is : (t : HeldTerm) (o : Op) (ts : Vec HeldTerm Global) → t ≡ held.Apply o ts → operation_value indices s o (terms_of ts.items) ≡ value indices s (term t)
  operation_value_is t o ts is = ap (value indices s) (sym (apply_vec o ts) ∙ ap term (sym is))

  pub same_element_is : (t : HeldTerm) (a : ℕ) (ts : Vec HeldTerm Global) → t ≡ held.Element a ts → same (element_value indices s a (terms_of ts.items)) ≡ elemental indices s (term t)
  same_element_is t a ts is = ap (elemental indices s) (sym (element_vec a ts) ∙ ap term (sym is))

  pub selected_is : (t : HeldTerm) (a : ℕ) (ds : Vec HeldSubscript Global) → t ≡ held.Section a ds → selected indices s a (subscripts_of ds.items) ≡ elemental indices s (term t)
  selected_is t a ds is = ap (elemental indices s) (sym (section_vec a ds) ∙ ap term (sym is))

  pub operation_is : (t : HeldTerm) (o : Op) (ts : Vec HeldTerm Global) → t ≡ held.Apply o ts → operation indices s o (terms_of ts.items) ≡ elemental indices s (term t)
  operation_is t o ts is = ap (elemental indices s) (sym (apply_vec o ts) ∙ ap term (sym is))
