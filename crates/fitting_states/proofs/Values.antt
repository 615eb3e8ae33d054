-- Expressions whose numbers are of 64 bits have values of 64 bits, where they have one.
use Rattle.std.proofs.Common.{◌≡◌, ℕ, zero, suc, ◌/◌, List, [], ◌∷◌, get_or, Option, Some, None, Result, Ok, Err, IfOk, refl, subst, ℤ, pos, Bool, true, false, if◌then◌else◌, FitsSigned, w64}
use Rattle.std.specs.Bool.{⊤}
use Rattle.std.specs.List.{AllByRecursion}
use Rattle.std.specs.Result.{result_unwrap_or}
use Rattle.std.proofs.Math.Facts.{sfits_lit}
use Rattle.op_tables.specs.declared.op.Op.{Op}
use Rattle.op_tables.specs.Operators.{wrapped, is_zero, operator_value}
use Rattle.op_tables.specs.Reductions.{reduced}
use Rattle.array_meaning.specs.Terms.{Term, Number, Scalar, Index, Element, Section, Apply, Reduce, Terms, NoTerm, More, SectionSubscripts, NoSubscript, Subscript, Triplet, Control}
use Rattle.array_meaning.specs.Statements.{Loop}
use Rattle.array_meaning.specs.declared.faults.FaultKind.TheVariants.{ZeroStride}
use Rattle.array_meaning.specs.Faults.{Cause, ◌>>=◌, fails}
use Rattle.array_meaning.specs.State.{State, array, place_in, element}
use Rattle.array_meaning.specs.declared.sections.Sequence.{Sequence}
use Rattle.array_meaning.specs.declared.sections.Selection.{Selection}
use Rattle.array_meaning.specs.declared.sections.Selection.TheVariants.{At, Along}
use Rattle.array_meaning.specs.Sections.{value_count, sequence_of, subscripts_at, positions}
use Rattle.array_meaning.specs.Elementals.{Elemental, Same, Selected, Operation, Elementals, NoOperand, Operand, unless_zero, operated, value_at, values_at, ArrayValue, own_extents, own_size, values_over, array_value, reduction}
use Rattle.array_meaning.specs.Expressions.{index_value, value, values, elemental, elementals, selections, index_values}
use Rattle.array_meaning.specs.Forall.{indices_at}
use Rattle.array_meaning.specs.Iterations.{values_of}
use Rattle.fitting_states.specs.FittingStates.{StateFits, TermFits, TermsFit, SubscriptsFit, ControlFits}
use Rattle.fitting_states.proofs.OperatorRanges.{zero_fits, wraps_fit, operators_fit}
use Rattle.fitting_states.proofs.ReductionRanges.{reduced_fits}
use Rattle.fitting_states.proofs.Outcomes.{has_any, then_has, more_have, each_has}

abbrev Fits : ℤ → Type 0
Fits v = FitsSigned w64 v

-- values, those of an index and what a section subscript selects
abbrev pub ValuesFit : List ℤ → Type 0
ValuesFit vs = AllByRecursion (FitsSigned w64) vs

abbrev pub SequenceFits : Sequence → Type 0
SequenceFits p = FitsSigned w64 p.first × FitsSigned w64 p.step

abbrev pub SelectionFits : Selection → Type 0
SelectionFits (At i) = FitsSigned w64 i
SelectionFits (Along p) = SequenceFits p

-- an array expression whose parts are evaluated
abbrev mutual
  pub ElementalFits : Elemental → Type 0
  ElementalFits (Same v) = FitsSigned w64 v
  ElementalFits (Selected a ds) = AllByRecursion SelectionFits ds
  ElementalFits (Operation o xs) = ElementalsFit xs

  pub ElementalsFit : Elementals → Type 0
  ElementalsFit NoOperand = Unit {0}
  ElementalsFit (Operand x xs) = ElementalFits x × ElementalsFit xs

-- ---- operators, indices and triplets

operated_fits : (o : Op) (vs : List ℤ) → ValuesFit vs → IfOk (operated o vs) Fits
operated_fits o vs h = by (operator_value o vs) refl where
  by : (x : Option ℤ) → operator_value o vs ≡ x → IfOk (unless_zero x) Fits
  by None e = tt
  by (Some v) e = operators_fit o vs v h e

pub index_fits : (xs : List ℤ) (k : ℕ) → ValuesFit xs → FitsSigned w64 (index_value xs k)
index_fits [] k h = zero_fits
index_fits (x ∷ xs) zero h = h.0
index_fits (x ∷ xs) (suc k) h = index_fits xs k h.1

-- the values of the indices of a FORALL or of a nest
pub indices_fit : (axes : List Sequence) (t : ℕ) → ValuesFit (indices_at axes t)
indices_fit [] t = tt
indices_fit (p ∷ axes) t = (wraps_fit _, indices_fit axes (t / p.count))

sequence_fits : (x y z : Result ℤ Cause) → IfOk x Fits → IfOk z Fits → IfOk (sequence_of x y z) SequenceFits
sequence_fits (Ok a) (Ok b) (Ok c) f h = by (is_zero c) where
  by : (zero : Bool) → IfOk (if zero then fails ZeroStride else Ok record { first = a; step = c; count = value_count (wrapped a) (wrapped b) (wrapped c) }) SequenceFits
  by true = tt
  by false = (f, h)
sequence_fits (Ok a) (Ok b) (Err e) f h = tt
sequence_fits (Ok a) (Err e) z f h = tt
sequence_fits (Err e) y z f h = tt

-- ---- in a state of 64 bits, with such indices

module _ (s : State) (fits : StateFits s) where
  pub element_fits : (a : ℕ) (is : List ℤ) → IfOk (element s a is) (FitsSigned w64)
  element_fits a is = by (place_in s a is) where
    by : (r : Result ℕ Cause) → IfOk (r >>= (λ k. Ok (get_or (array s a).elements k (pos 0)))) Fits
    by (Ok k) = fits.elements a k
    by (Err c) = tt

  -- at each tuple
  mutual
    pub value_at_fits : (x : Elemental) → ElementalFits x → (tuple : List ℤ) → IfOk (value_at s tuple x) (FitsSigned w64)
    value_at_fits (Same v) h tuple = h
    value_at_fits (Selected a ds) h tuple = element_fits a (subscripts_at ds tuple)
    value_at_fits (Operation o xs) h tuple = then_has ValuesFit Fits (values_at s tuple xs) (operated o) (values_at_fit xs h tuple) (operated_fits o)

    values_at_fit : (xs : Elementals) → ElementalsFit xs → (tuple : List ℤ) → IfOk (values_at s tuple xs) ValuesFit
    values_at_fit NoOperand h tuple = tt
    values_at_fit (Operand x xs) h tuple = more_have Fits (value_at s tuple x) (values_at s tuple xs) (value_at_fits x h.0 tuple) (values_at_fit xs h.1 tuple)

  pub array_value_fits : (x : Elemental) → ElementalFits x → IfOk (array_value s x) (λ v. ValuesFit v.elements)
  array_value_fits x h =
      let ns = own_extents x in
      let P : ArrayValue → Type 0 = λ v. ValuesFit v.elements in
      then_has (λ n. ⊤) P (own_size x) (λ n. values_over s ns x n >>= (λ vs. Ok record { extents = ns; elements = vs })) (has_any (own_size x)) (λ n any.
      then_has ValuesFit P (values_over s ns x n) (λ vs. Ok record { extents = ns; elements = vs })
      (each_has Fits (positions ns) (λ t. value_at s (positions ns t) x) (λ t. value_at_fits x h (positions ns t)) n) (λ vs g. g))

  reduction_fits : (o : Op) (x : Elemental) → ElementalFits x → IfOk (reduction s o x) Fits
  reduction_fits o x h = then_has (λ v. ValuesFit v.elements) Fits (array_value s x) (λ v. Ok (reduced o v.elements)) (array_value_fits x h) (λ v g. reduced_fits o v.elements g)

  module _ (indices : List ℤ) (known : ValuesFit indices) where
    mutual
      pub value_fits : (t : Term) → TermFits t → IfOk (value indices s t) (FitsSigned w64)
      value_fits (Number v) h = h
      value_fits (Scalar k) h = fits.scalars k
      value_fits (Index k) h = index_fits indices k known
      value_fits (Element a ts) h = then_has ValuesFit Fits (values indices s ts) (element s a) (values_fit ts h) (λ is g. element_fits a is)
      value_fits (Section a subs) h = zero_fits
      value_fits (Apply o ts) h = then_has ValuesFit Fits (values indices s ts) (operated o) (values_fit ts h) (operated_fits o)
      value_fits (Reduce o t) h = then_has ElementalFits Fits (elemental indices s t) (reduction s o) (elemental_fits t h) (reduction_fits o)

      pub values_fit : (ts : Terms) → TermsFit ts → IfOk (values indices s ts) ValuesFit
      values_fit NoTerm h = tt
      values_fit (More t ts) h = more_have Fits (value indices s t) (values indices s ts) (value_fits t h.0) (values_fit ts h.1)

      pub elemental_fits : (t : Term) → TermFits t → IfOk (elemental indices s t) ElementalFits
      elemental_fits (Number v) h = h
      elemental_fits (Scalar k) h = fits.scalars k
      elemental_fits (Index k) h = index_fits indices k known
      elemental_fits (Element a ts) h =
          then_has Fits ElementalFits (values indices s ts >>= element s a) (λ v. Ok (Same v))
          (then_has ValuesFit Fits (values indices s ts) (element s a) (values_fit ts h) (λ is g. element_fits a is)) (λ v g. g)
      elemental_fits (Section a subs) h =
          then_has (AllByRecursion SelectionFits) ElementalFits (selections indices s subs) (λ ds. Ok (Selected a ds)) (selections_fit subs h) (λ ds g. g)
      elemental_fits (Apply o ts) h =
          then_has ElementalsFit ElementalFits (elementals indices s ts) (λ xs. Ok (Operation o xs)) (elementals_fit ts h) (λ xs g. g)
      elemental_fits (Reduce o t) h =
          then_has Fits ElementalFits (elemental indices s t >>= reduction s o) (λ v. Ok (Same v))
          (then_has ElementalFits Fits (elemental indices s t) (reduction s o) (elemental_fits t h) (reduction_fits o)) (λ v g. g)

      elementals_fit : (ts : Terms) → TermsFit ts → IfOk (elementals indices s ts) ElementalsFit
      elementals_fit NoTerm h = tt
      elementals_fit (More t ts) h =
          then_has ElementalFits ElementalsFit (elemental indices s t) (λ x. elementals indices s ts >>= (λ xs. Ok (Operand x xs))) (elemental_fits t h.0) (λ x f.
          then_has ElementalsFit ElementalsFit (elementals indices s ts) (λ xs. Ok (Operand x xs)) (elementals_fit ts h.1) (λ xs g. (f, g)))

      pub selections_fit : (subs : SectionSubscripts) → SubscriptsFit subs → IfOk (selections indices s subs) (AllByRecursion SelectionFits)
      selections_fit NoSubscript h = tt
      selections_fit (Subscript t subs) h =
          more_have SelectionFits (value indices s t >>= (λ i. Ok (At i))) (selections indices s subs)
          (then_has Fits SelectionFits (value indices s t) (λ i. Ok (At i)) (value_fits t h.0) (λ i g. g)) (selections_fit subs h.1)
      selections_fit (Triplet first last step subs) h =
          more_have SelectionFits (sequence_of (value indices s first) (value indices s last) (value indices s step) >>= (λ p. Ok (Along p))) (selections indices s subs)
          (then_has SequenceFits SelectionFits (sequence_of (value indices s first) (value indices s last) (value indices s step)) (λ p. Ok (Along p))
          (sequence_fits (value indices s first) (value indices s last) (value indices s step) (value_fits first h.0) (value_fits step h.2)) (λ p g. g)) (selections_fit subs h.3)

    -- of a value that is known
    pub known_value_fits : (t : Term) (v : ℤ) → TermFits t → value indices s t ≡ Ok v → FitsSigned w64 v
    known_value_fits t v h e = subst (λ r. IfOk r Fits) e (value_fits t h)

  -- ---- the values of an index

  pub index_values_fit : (c : Control) → ControlFits c → IfOk (index_values s c) SequenceFits
  index_values_fit c h =
      sequence_fits (value [] s c.first) (value [] s c.last) (value [] s c.step) (value_fits [] tt c.first h.0) (value_fits [] tt c.step h.2)

  pub values_of_fit : (l : Loop) → ControlFits l.control → SequenceFits (values_of s l)
  values_of_fit l h = by (index_values s l.control) (index_values_fit l.control h) where
    by : (r : Result Sequence Cause) → IfOk r SequenceFits → SequenceFits (result_unwrap_or r record { first = pos 0; step = pos 1; count = 0 })
    by (Ok p) g = g
    by (Err e) g = (zero_fits, sfits_lit tt)
