-- The subscripts in an element and in an operator's operands.
use Rattle.std.proofs.Common.{◌≡◌, ℕ, Vec, Global, sym, ap, ◌∙◌}
use Rattle.op_tables.specs.declared.op.Op.{Op}
use Rattle.resolved_program.specs.declared.terms.Term.{Term as HeldTerm}
use Rattle.resolved_program.specs.declared.terms.Term.TheVariants as held
use Rattle.resolved_program.specs.Resolved.{term, terms_of}
use Rattle.resolved_program.proofs.Rows.{apply_vec, element_vec}
use Rattle.array_meaning.specs.Terms.{list_of}
use Rattle.array_meaning.specs.Forall.{subscripts_in, subscripts_in_all}

pub element_subscripts : (t : HeldTerm) (a : ℕ) (v : Vec HeldTerm Global) → t ≡ held.Element a v → list_of (terms_of v.items) ≡ subscripts_in (term t)
element_subscripts t a v is = sym (ap subscripts_in (ap term is ∙ element_vec a v))

pub apply_subscripts : (t : HeldTerm) (o : Op) (v : Vec HeldTerm Global) → t ≡ held.Apply o v → subscripts_in_all (terms_of v.items) ≡ subscripts_in (term t)
apply_subscripts t o v is = sym (ap subscripts_in (ap term is ∙ apply_vec o v))
