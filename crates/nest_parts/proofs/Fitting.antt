-- Values fit 64 bits.
use Rattle.std.proofs.Common.{◌≡◌, ℕ, ◌/◌, ◌%◌, List, [], ◌∷◌, length, get_or, Bool, false, Option, Some, None, Result, Ok, Err, refl, ap, sym, ◌∙◌, subst, ℤ, pos, arith, ⊎_elim, FitsSigned, w64, length-set}
use Rattle.std.specs.List.{AllByRecursion}
use Rattle.std.proofs.lemmas.Bool.{cases_lt}
use Rattle.std.proofs.lemmas.List.{get_or_past}
use Rattle.op_tables.specs.declared.op.Op.{Op}
use Rattle.op_tables.specs.Operators.{operator_value}
use Rattle.storage.specs.Storage.{Storage, row_of, read}
use Rattle.nest_syntax.specs.NestKinds.{Kind, has_copies}
use Rattle.nest_order.specs.Copies.{scalar_at}
use Rattle.nest_order.specs.Scalars.{AllFit}
use Rattle.array_meaning.specs.Terms.{Term, Number, Scalar, Index, Element, Section, Apply, Reduce, Terms, NoTerm, More}
use Rattle.array_meaning.specs.Faults.{Cause, ◌>>=◌, with_more}
use Rattle.array_meaning.specs.State.{State, no_array, scalar, array, set_scalar, place_in}
use Rattle.array_meaning.specs.declared.sections.Sequence.{Sequence}
use Rattle.array_meaning.specs.Expressions.{value, values}
use Rattle.array_meaning.specs.Elementals.{operated, unless_zero}
use Rattle.array_meaning.specs.Iterations.{turn_value, with_indices}
use Rattle.array_meaning.specs.Forall.{indices_at}
use Rattle.nest_items.specs.StateStorage.{state_of}
use Rattle.nest_items.specs.Standing.{Stands, AllStand}
use Rattle.nest_parts.specs.NestParts.{IsGood}
use Rattle.nest_items.proofs.Storing.{scalar-at, array-at, by_cases, if_so, if_not, state-scalars, state-arrays}
use Rattle.nest_items.proofs.IndexFits.{zero_fits, set_fits}
use Rattle.fitting_states.proofs.OperatorRanges.{operators_fit}
use Rattle.nest_parts.proofs.Nearness.{element_value}

pub good_set : (kinds : ℕ → Kind) (s : State) (x : ℕ) (p : Sequence) (j : ℕ) → IsGood kinds s → IsGood kinds (set_scalar s x (turn_value p j))
good_set kinds s x p j h = record {
  fit = set_fits s x p j h.fit;
  there = λ k t. omega (arith, h.there k t, length-set s.scalars x (turn_value p j));
}

pub good_at : (kinds : ℕ → Kind) (xs : List ℕ) (ps : List Sequence) (i : ℕ) (s : State) → IsGood kinds s → IsGood kinds (with_indices xs (indices_at ps i) s)
good_at kinds [] ps i s h = h
good_at kinds (x ∷ xs) [] i s h = h
good_at kinds (x ∷ xs) (p ∷ ps) i s h = good_set kinds (with_indices xs (indices_at ps (i / p.count)) s) x p (i % p.count) (good_at kinds xs ps (i / p.count) s h)

module _ (kinds : ℕ → Kind) (s : State) (good : IsGood kinds s) (m : Storage) (fit : AllFit m) where
  scalar_fits : (k : ℕ) → FitsSigned w64 (scalar (state_of kinds s m) k)
  scalar_fits k = ⊎_elim
      (λ lt. subst (FitsSigned w64) (sym (scalar-at kinds s m k lt)) (by_cases (has_copies (kinds k))
      (λ t. subst (FitsSigned w64) (sym (if_so (has_copies (kinds k)) (read m (scalar_at k)) (scalar s k) t)) (fit (scalar_at k)))
      (λ f. subst (FitsSigned w64) (sym (if_not (has_copies (kinds k)) (read m (scalar_at k)) (scalar s k) f)) (good.fit k))))
      (λ le. subst (FitsSigned w64) (sym (get_or_past (state_of kinds s m).scalars k (pos 0) (omega (arith, le, state-scalars kinds s m)))) zero_fits)
      (cases_lt k (length s.scalars))

  element_fits : (a p : ℕ) → has_copies (kinds a) ≡ false → FitsSigned w64 (get_or (array (state_of kinds s m) a).elements p (pos 0))
  element_fits a p c = ⊎_elim
      (λ lt. subst (λ x. FitsSigned w64 (get_or x.elements p (pos 0))) (sym (array-at kinds s m a lt ∙ if_not (has_copies (kinds a)) (array s a) (record (array s a) { elements = row_of m a }) c))
      (fit (record { row = a; at = p })))
      (λ le. subst (λ x. FitsSigned w64 (get_or x.elements p (pos 0))) (sym (get_or_past (state_of kinds s m).arrays a no_array (omega (arith, le, state-arrays kinds s m)))) zero_fits)
      (cases_lt a (length s.arrays))

  place_fits : (a : ℕ) (r : Result ℕ Cause) (v : ℤ) → has_copies (kinds a) ≡ false
      → r >>= (λ k. Ok (get_or (array (state_of kinds s m) a).elements k (pos 0))) ≡ Ok v → FitsSigned w64 v
  place_fits a (Ok p) v c e = let same : get_or (array (state_of kinds s m) a).elements p (pos 0) ≡ v = cc in subst (FitsSigned w64) same (element_fits a p c)
  place_fits a (Err x) v c e = absurd cc

  more_fit : (r : Result ℤ Cause) (rs : Result (List ℤ) Cause) (ws : List ℤ) → ((v : ℤ) → r ≡ Ok v → FitsSigned w64 v)
      → ((vs : List ℤ) → rs ≡ Ok vs → AllByRecursion (FitsSigned w64) vs) → with_more r rs ≡ Ok ws → AllByRecursion (FitsSigned w64) ws
  more_fit (Ok v) (Ok vs) ws f g e = let same : v ∷ vs ≡ ws = cc in subst (AllByRecursion (FitsSigned w64)) same (f v refl, g vs refl)
  more_fit (Ok v) (Err c) ws f g e = absurd cc
  more_fit (Err c) rs ws f g e = absurd cc

  applied_fits : (o : Op) (r : Result (List ℤ) Cause) (v : ℤ) → ((vs : List ℤ) → r ≡ Ok vs → AllByRecursion (FitsSigned w64) vs) → r >>= operated o ≡ Ok v → FitsSigned w64 v
  applied_fits o (Ok vs) v f e = operators_fit o vs v (f vs refl) (some (operator_value o vs) e) where
    some : (x : Option ℤ) → unless_zero x ≡ Ok v → x ≡ Some v
    some None e = absurd cc
    some (Some w) e = let same : w ≡ v = cc in ap Some same
  applied_fits o (Err c) v f e = absurd cc

  mutual
    pub value_fits : (free : ℕ → Bool) (own : Option ℕ) (t : Term) → Stands kinds free own t → (v : ℤ) → value [] (state_of kinds s m) t ≡ Ok v → FitsSigned w64 v
    value_fits free own (Number w) h v e = let same : w ≡ v = cc in subst (FitsSigned w64) same h
    value_fits free own (Scalar k) h v e = let same : scalar (state_of kinds s m) k ≡ v = cc in subst (FitsSigned w64) same (scalar_fits k)
    value_fits free own (Index k) h v e = let same : pos 0 ≡ v = cc in subst (FitsSigned w64) same zero_fits
    value_fits free own (Element a ts) h v e = place_fits a (values [] s ts >>= place_in s a) v h.0 (sym (element_value kinds s free m a ts h.1) ∙ e)
    value_fits free own (Section a subs) h v e = let same : pos 0 ≡ v = cc in subst (FitsSigned w64) same zero_fits
    value_fits free own (Apply o ts) h v e = applied_fits o (values [] (state_of kinds s m) ts) v (values_fit free own ts h) e
    value_fits free own (Reduce o t) h v e = absurd h

    pub values_fit : (free : ℕ → Bool) (own : Option ℕ) (ts : Terms) → AllStand kinds free own ts → (vs : List ℤ) → values [] (state_of kinds s m) ts ≡ Ok vs
        → AllByRecursion (FitsSigned w64) vs
    values_fit free own NoTerm h vs e = let same : [] ≡ vs = cc in subst (AllByRecursion (FitsSigned w64)) same tt
    values_fit free own (More t ts) h vs e = more_fit (value [] (state_of kinds s m) t) (values [] (state_of kinds s m) ts) vs (value_fits free own t h.0) (values_fit free own ts h.1) e
