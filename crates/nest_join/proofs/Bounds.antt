-- The values of bounds and of steps of inner loops, by states and by slots.
use Rattle.std.proofs.Common.{◌≡◌, ℕ, List, [], ◌∷◌, ℤ, pos, Bool, true, false, not, Result, Ok, unwrap_or, if◌then◌else◌, refl, ap, ◌∙◌}
use Rattle.std.specs.Result.{result_unwrap_or}
use Rattle.op_tables.specs.Operators.{wrapped, is_zero, value_of}
use Rattle.array_meaning.specs.Terms.{Term, Number, Scalar, Index, Element, Section, Apply, Reduce, Terms, NoTerm, More}
use Rattle.array_meaning.specs.Faults.{Cause, ◌>>=◌, with_more, fails}
use Rattle.array_meaning.specs.declared.faults.FaultKind.TheVariants.{ZeroStride}
use Rattle.array_meaning.specs.State.{State, scalar}
use Rattle.array_meaning.specs.declared.sections.Sequence.{Sequence}
use Rattle.array_meaning.specs.Sections.{sequence_of, value_count}
use Rattle.array_meaning.specs.Elementals.{operated}
use Rattle.array_meaning.specs.Expressions.{value, values}
use Rattle.code_meaning.specs.Flat.{slot, flat_value, flat_values, slots_value}
use Rattle.program_code.specs.ExpressionCode.{index_flat, index_flats}
use Rattle.lowered_expressions.specs.WellFormed.{IsSubscript, AreSubscripts}
use Rattle.lowered_expressions.proofs.Terms.{total}
use Rattle.nest_items.specs.Naming.{IsNaming, AreNaming}
use Rattle.nest_items.specs.NestForm.{IsStep}
use Rattle.nest_items.proofs.FormStands.{closed_is}
use Rattle.program_code.specs.NestCode.{step_flat}

-- a bound has no fault, and is its value by the names in it
module _ (n : ℕ) where
  mutual
    pub bound-ok : (s : State) (t : Term) → IsSubscript n t → (v : ℤ) × (value [] s t ≡ Ok v)
    bound-ok s (Number v) ok = (v, refl)
    bound-ok s (Scalar k) ok = (scalar s k, refl)
    bound-ok s (Index k) ok = (_, refl)
    bound-ok s (Element a ts) ok = absurd ok
    bound-ok s (Section a subs) ok = absurd ok
    bound-ok s (Apply o ts) ok = let vs = bounds-ok s ts ok.1 in (value_of o vs.0, ap (λ r. r >>= operated o) vs.1 ∙ total o vs.0 ok.0)
    bound-ok s (Reduce o t) ok = absurd ok

    bounds-ok : (s : State) (ts : Terms) → AreSubscripts n ts → (vs : List ℤ) × (values [] s ts ≡ Ok vs)
    bounds-ok s NoTerm ok = ([], refl)
    bounds-ok s (More t ts) ok =
        let v = bound-ok s t ok.0 in
        let vs = bounds-ok s ts ok.1 in
        (v.0 ∷ vs.0, ap (λ r. with_more r (values [] s ts)) v.1 ∙ ap (with_more (Ok v.0)) vs.1)

  module _ (s s' : State) (Name : ℕ → Type 0) (same : (k : ℕ) → Name k → scalar s' k ≡ scalar s k) where
    mutual
      pub bound-same : (t : Term) → IsSubscript n t → IsNaming Name (λ a. ⊥) t → value [] s' t ≡ value [] s t
      bound-same (Number v) ok names = refl
      bound-same (Scalar k) ok names = ap Ok (same k names)
      bound-same (Index k) ok names = refl
      bound-same (Element a ts) ok names = absurd ok
      bound-same (Section a subs) ok names = absurd ok
      bound-same (Apply o ts) ok names = ap (λ r. r >>= operated o) (bounds-same ts ok.1 names)
      bound-same (Reduce o t) ok names = absurd ok

      bounds-same : (ts : Terms) → AreSubscripts n ts → AreNaming Name (λ a. ⊥) ts → values [] s' ts ≡ values [] s ts
      bounds-same NoTerm ok names = refl
      bounds-same (More t ts) ok names = λ i. with_more (bound-same t ok.0 names.0 i) (bounds-same ts ok.1 names.1 i)

  module _ (s : State) (slots : List ℤ) (Name : ℕ → Type 0) (held : (k : ℕ) → Name k → slot slots k ≡ scalar s k) where
    mutual
      pub bound-flat : (t : Term) → IsSubscript n t → IsNaming Name (λ a. ⊥) t → flat_value slots [] [] (index_flat t) ≡ value [] s t
      bound-flat (Number v) ok names = refl
      bound-flat (Scalar k) ok names = ap Ok (held k names)
      bound-flat (Index k) ok names = refl
      bound-flat (Element a ts) ok names = absurd ok
      bound-flat (Section a subs) ok names = absurd ok
      bound-flat (Apply o ts) ok names = ap (λ r. r >>= operated o) (bound-flats ts ok.1 names)
      bound-flat (Reduce o t) ok names = absurd ok

      bound-flats : (ts : Terms) → AreSubscripts n ts → AreNaming Name (λ a. ⊥) ts → flat_values slots [] [] (index_flats ts) ≡ values [] s ts
      bound-flats NoTerm ok names = refl
      bound-flats (More t ts) ok names = λ i. with_more (bound-flat t ok.0 names.0 i) (bound-flats ts ok.1 names.1 i)

-- a step is the same number in each state and by all slots, and isn't 0
module _ (t : Term) (h : IsStep t) where
  pub step-value : (s : State) → value [] s t ≡ Ok h.number
  step-value s = closed_is s t h.number h.is

  pub step-flat : (slots : List ℤ) → slots_value slots (step_flat t) ≡ h.number
  step-flat slots = ap (λ o. unwrap_or o (pos 0)) h.is

  pub step-some : not (is_zero h.number) ≡ true
  step-some = ap not h.nonzero

abbrev pub sequence_at : ℤ → ℤ → ℤ → Sequence
sequence_at a b c = record { first = a; step = c; count = value_count (wrapped a) (wrapped b) (wrapped c) }

abbrev no_values : Sequence
no_values = record { first = pos 0; step = pos 1; count = 0 }

-- the values of a control
pub control-values : (r1 r2 r3 : Result ℤ Cause) (a b c : ℤ) → r1 ≡ Ok a → r2 ≡ Ok b → r3 ≡ Ok c → not (is_zero c) ≡ true
    → result_unwrap_or (sequence_of r1 r2 r3) no_values ≡ sequence_at a b c
control-values r1 r2 r3 a b c e1 e2 e3 some = (λ i. result_unwrap_or (sequence_of (e1 i) (e2 i) (e3 i)) no_values) ∙ by_test (is_zero c) some
  where
    by_test : (t : Bool) → not t ≡ true → result_unwrap_or (if t then fails ZeroStride else Ok (sequence_at a b c)) no_values ≡ sequence_at a b c
    by_test true h = cc
    by_test false h = refl
