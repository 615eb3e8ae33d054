-- What the parts of an expression come to, once their parts have values.
use Rattle.std.proofs.Common.{◌≡◌, ◌∙◌, ℕ, List, [], ◌∷◌, length, ℤ, pos, ap, sym, Result, Ok, Err, arith}
use Rattle.std.specs.Prelude.{slice_index_or}
use Rattle.op_tables.specs.declared.op.Op.{Op}
use Rattle.array_meaning.specs.Terms.{Term, Terms, NoTerm, More}
use Rattle.array_meaning.specs.Faults.{Cause, ◌>>=◌, with_more}
use Rattle.array_meaning.specs.State.{State, array, element, place_in}
use Rattle.array_meaning.specs.Elementals.{operated}
use Rattle.array_meaning.specs.Expressions.{value, values}
use Rattle.resolved_program.specs.declared.terms.Term.{Term as HeldTerm}
use Rattle.resolved_program.specs.Resolved.{term, terms_of}
use Rattle.term_values.specs.Parts.{element_value, operation_value, variable_place}
use Rattle.term_values.proofs.Pairs.{pair_values}

no_place : (c : Cause) (k : ℕ) → (let x : Result ℕ Cause = Err c in x) ≡ Ok k → ⊥
no_place c k e = cc

module _ (indices : List ℤ) (s : State) where
  -- the element at a place
  pub element_is : (a : ℕ) (ts : Terms) (k : ℕ) (v : ℤ) → variable_place indices s a ts ≡ Ok k → v ≡ slice_index_or (array s a).elements k (pos 0) →
      element_value indices s a ts ≡ Ok v
  element_is a ts k v place is = cases (values indices s ts) place where
    cases : (r : Result (List ℤ) Cause) → (r >>= place_in s a) ≡ Ok k → (r >>= element s a) ≡ Ok v
    cases (Ok is') e = ap (λ p. p >>= (λ k. Ok (slice_index_or (array s a).elements k (pos 0)))) e ∙ ap Ok (sym is)
    cases (Err c) e = absurd (no_place c k e)

  -- the place by one and by two subscripts
  pub place_by_one : (a : ℕ) (t : Term) (i : ℤ) (k : ℕ) → value indices s t ≡ Ok i → place_in s a (i ∷ []) ≡ Ok k → variable_place indices s a (More t NoTerm) ≡ Ok k
  place_by_one a t i k here place = ap (λ r. with_more r (Ok []) >>= place_in s a) here ∙ place

  pub place_by_two : (a : ℕ) (ts : List HeldTerm) (d : HeldTerm) (i j : ℤ) (k : ℕ) → length ts ≡ 2 → value indices s (term (slice_index_or ts 0 d)) ≡ Ok i →
      value indices s (term (slice_index_or ts 1 d)) ≡ Ok j → place_in s a (i ∷ j ∷ []) ≡ Ok k → variable_place indices s a (terms_of ts) ≡ Ok k
  place_by_two a ts d i j k two first second place = ap (λ r. r >>= place_in s a) (pair_values indices s ts d i j two first second) ∙ place

  -- an operator of one and of two operands
  pub operation_of_one : (o : Op) (ts : List HeldTerm) (d : HeldTerm) (a v : ℤ) → length ts ≡ 1 → value indices s (term (slice_index_or ts 0 d)) ≡ Ok a → operated o (a ∷ []) ≡ Ok v →
      operation_value indices s o (terms_of ts) ≡ Ok v
  operation_of_one o [] d a v one here is = let f : ⊥ = omega (arith, one) in absurd f
  operation_of_one o (t ∷ u ∷ ts) d a v one here is = let f : ⊥ = omega (arith, one) in absurd f
  operation_of_one o (t ∷ []) d a v one here is = ap (λ r. with_more r (Ok []) >>= operated o) here ∙ is

  pub operation_of_two : (o : Op) (ts : List HeldTerm) (d : HeldTerm) (a b v : ℤ) → length ts ≡ 2 → value indices s (term (slice_index_or ts 0 d)) ≡ Ok a →
      value indices s (term (slice_index_or ts 1 d)) ≡ Ok b → operated o (a ∷ b ∷ []) ≡ Ok v → operation_value indices s o (terms_of ts) ≡ Ok v
  operation_of_two o ts d a b v two first second is = ap (λ r. r >>= operated o) (pair_values indices s ts d a b two first second) ∙ is
