-- The loops inside the outermost one of a nest: their bounds have values, which no index changes.
use Rattle.std.proofs.Common.{◌≡◌, ℕ, ◌<◌, inl, inr, nat_eq, List, [], ◌∷◌, length, ℤ, pos, Bool, true, false, not, Ok, refl, sym, ap, ap₂, ◌∙◌, subst, length-set, get_or-set_other, true≢false}
use Rattle.std.specs.List.{AllByRecursion}
use Rattle.std.specs.Result.{result_unwrap_or}
use Rattle.std.proofs.lemmas.Bool.{and_parts}
use Rattle.op_tables.specs.Operators.{wrapped, value_of}
use Rattle.nest_syntax.specs.NestKinds.{Kind}
use Rattle.array_meaning.specs.Terms.{Term, Number, Scalar, Index, Element, Section, Apply, Reduce, Terms, NoTerm, More}
use Rattle.array_meaning.specs.Statements.{Loop, Block, Unmarked}
use Rattle.array_meaning.specs.Faults.{◌>>=◌, with_more}
use Rattle.array_meaning.specs.declared.sections.Sequence.{Sequence}
use Rattle.array_meaning.specs.State.{State, scalar, set_scalar}
use Rattle.array_meaning.specs.Sections.{sequence, value_count}
use Rattle.array_meaning.specs.Expressions.{value, values, index_values}
use Rattle.array_meaning.specs.Elementals.{operated}
use Rattle.array_meaning.specs.Iterations.{values_of}
use Rattle.code_meaning.specs.Flat.{flat_value, flat_values}
use Rattle.program_code.specs.ExpressionCode.{index_flat, index_flats}
use Rattle.lowered_expressions.specs.WellFormed.{IsScalar, AreScalar, IsControl, IsWellFormedBlock}
use Rattle.lowered_expressions.proofs.Terms.{HoldsScalars}
use Rattle.nest_items.specs.Settled.{without}
use Rattle.nest_items.specs.Standing.{IsFixed, IsFixedTerm, AreFixedTerms}
use Rattle.nest_items.specs.NestForm.{IsExact, AreExact, IsStep, IsKeptLoop, LoopsKeep}
use Rattle.nest_items.proofs.FormStands.{operator_is, closed_is, sequence_is, three}
use Rattle.nest_items.proofs.Values.{control_near}
use Rattle.lowered_nests.proofs.IndexValues.{same-test, AreOther, AreApart, IsIndexOf}

-- ---- bounds

module _ (st : State) where
  mutual
    exact-ok : (t : Term) → IsExact t → (v : ℤ) × (value [] st t ≡ Ok v)
    exact-ok (Number v) h = (v, refl)
    exact-ok (Scalar k) h = (scalar st k, refl)
    exact-ok (Apply o ts) h = let m = exacts-ok ts h.1 in (value_of o m.0, ap (λ r. r >>= operated o) m.1 ∙ operator_is o m.0 h.0)
    exact-ok (Index k) h = absurd h
    exact-ok (Element a ts) h = absurd h
    exact-ok (Section a subs) h = absurd h
    exact-ok (Reduce o t) h = absurd h

    exacts-ok : (ts : Terms) → AreExact ts → (vs : List ℤ) × (values [] st ts ≡ Ok vs)
    exacts-ok NoTerm h = ([], refl)
    exacts-ok (More t ts) h =
        let m = exact-ok t h.0 in
        let ms = exacts-ok ts h.1 in
        (m.0 ∷ ms.0, ap₂ with_more m.1 ms.1)

  -- the values of a loop's bounds
  pub record HasBounds (l : Loop) : Type 0 where
    pub first : ℤ
    pub last : ℤ
    pub step : IsStep l.control.step
    pub is_first : value [] st l.control.first ≡ Ok first
    pub is_last : value [] st l.control.last ≡ Ok last
    pub values_are : sequence first last step.number ≡ Ok (values_of st l)

pub known-values : (st : State) (l : Loop) (h : HasBounds st l) → index_values st l.control ≡ Ok (values_of st l)
known-values st l h =
    three (value [] st l.control.first) (value [] st l.control.last) (value [] st l.control.step) h.first h.last h.step.number h.is_first h.is_last
    (closed_is st l.control.step h.step.number h.step.is) ∙ h.values_are

module _ (n : ℕ) (kinds : ℕ → Kind) (all : ℕ → Bool) where
  pub has-bounds : (st : State) (l : Loop) → IsKeptLoop kinds all Unmarked l → HasBounds st l
  has-bounds st l h =
      let a = exact-ok st l.control.first h.first_exact in
      let b = exact-ok st l.control.last h.last_exact in
      let c = h.step_exact in
      let q : Sequence = record { first = a.0; step = c.number; count = value_count (wrapped a.0) (wrapped b.0) (wrapped c.number) } in
      let seq : sequence a.0 b.0 c.number ≡ Ok q = sequence_is a.0 b.0 c.number c.nonzero in
      let is : index_values st l.control ≡ Ok q =
      three (value [] st l.control.first) (value [] st l.control.last) (value [] st l.control.step) a.0 b.0 c.number a.1 b.1 (closed_is st l.control.step c.number c.is) ∙ seq in
      let q_is : values_of st l ≡ q = ap (λ r. result_unwrap_or r record { first = pos 0; step = pos 1; count = 0 }) is in
      record { first = a.0; last = b.0; step = c; is_first = a.1; is_last = b.1; values_are = seq ∙ ap Ok (sym q_is) }

  -- code evaluates them
  module _ (s : State) (slots : List ℤ) (held : HoldsScalars n s slots) where
    mutual
      pub fixed-flat : (t : Term) → IsFixedTerm kinds all t → IsScalar n t → flat_value slots [] [] (index_flat t) ≡ value [] s t
      fixed-flat (Number v) fixed ok = refl
      fixed-flat (Scalar k) fixed ok = ap Ok (held k ok)
      fixed-flat (Index k) fixed ok = refl
      fixed-flat (Element a ts) fixed ok = absurd fixed.0
      fixed-flat (Section a subs) fixed ok = refl
      fixed-flat (Apply o ts) fixed ok = ap (λ r. r >>= operated o) (fixed-flats ts fixed ok)
      fixed-flat (Reduce o t) fixed ok = absurd fixed

      fixed-flats : (ts : Terms) → AreFixedTerms kinds all ts → AreScalar n ts → flat_values slots [] [] (index_flats ts) ≡ values [] s ts
      fixed-flats NoTerm fixed ok = refl
      fixed-flats (More t ts) fixed ok = λ i. with_more (fixed-flat t fixed.0 ok.0 i) (fixed-flats ts fixed.1 ok.1 i)

  -- ---- loops

  abbrev pub IsLoop : Loop → Type 0
  IsLoop l = (l.index < n) × IsControl n l.control × IsKeptLoop kinds all Unmarked l

  pub loops-are : (free : ℕ → Bool) (ls : List Loop) (block body : Block) → LoopsKeep kinds all free ls block body → IsWellFormedBlock n block → AllByRecursion IsLoop ls
  loops-are free [] block body h ok = tt
  loops-are free (l ∷ ls) block body h ok =
      let mine = subst (IsWellFormedBlock n) h.2 ok in
      ((mine.0.0, mine.0.1, h.3), loops-are (without free l.index) ls h.1 body h.5 mine.0.2)

  free-less : (free : ℕ → Bool) (x : ℕ) (ls : List Loop) → AllByRecursion (λ (l : Loop). without free x l.index ≡ true) ls → AllByRecursion (λ (l : Loop). free l.index ≡ true) ls
  free-less free x [] h = tt
  free-less free x (l ∷ ls) h = ((and_parts (free l.index) (not (nat_eq l.index x)) h.0).0, free-less free x ls h.1)

  others : (free : ℕ → Bool) (x : ℕ) (ls : List Loop) → AllByRecursion (λ (l : Loop). without free x l.index ≡ true) ls → AreOther x ls
  others free x [] h = tt
  others free x (l ∷ ls) h =
      ((λ e. true≢false (sym (and_parts (free l.index) (not (nat_eq l.index x)) h.0).1 ∙ ap not (same-test l.index x e))), others free x ls h.1)

  loops-free : (free : ℕ → Bool) (ls : List Loop) (block body : Block) → LoopsKeep kinds all free ls block body → AllByRecursion (λ (l : Loop). free l.index ≡ true) ls
  loops-free free [] block body h = tt
  loops-free free (l ∷ ls) block body h = (h.4, free-less free l.index ls (loops-free (without free l.index) ls h.1 body h.5))

  pub other-loops : (free : ℕ → Bool) (x : ℕ) (ls : List Loop) (block body : Block) → LoopsKeep kinds all (without free x) ls block body → AreOther x ls
  other-loops free x ls block body h = others free x ls (loops-free (without free x) ls block body h)

  pub loops-apart : (free : ℕ → Bool) (ls : List Loop) (block body : Block) → LoopsKeep kinds all free ls block body → AreApart ls
  loops-apart free [] block body h = tt
  loops-apart free (l ∷ ls) block body h = (other-loops free l.index ls h.1 body h.5, loops-apart (without free l.index) ls h.1 body h.5)

  pub all-below : (ls : List Loop) → AllByRecursion IsLoop ls → AllByRecursion (λ (l : Loop). l.index < n) ls
  all-below [] h = tt
  all-below (l ∷ ls) h = (h.0.0, all-below ls h.1)

  pub all-free : (ls : List Loop) → AllByRecursion IsLoop ls → AllByRecursion (λ (l : Loop). all l.index ≡ true) ls
  all-free [] h = tt
  all-free (l ∷ ls) h = (h.0.2.unseen, all-free ls h.1)

  pub index-free : (k : ℕ) (ls : List Loop) → AllByRecursion (λ (l : Loop). all l.index ≡ true) ls → IsIndexOf k ls → all k ≡ true
  index-free k [] h is = absurd is
  index-free k (l ∷ ls) h (inl e) = subst (λ j. all j ≡ true) e h.0
  index-free k (l ∷ ls) h (inr is) = index-free k ls h.1 is.1

  -- ---- states that differ in indices from the state at the entry

  module _ (s : State) where
    pub record IsNear (st : State) : Type 0 where
      pub scalars : (k : ℕ) → all k ≡ false → scalar st k ≡ scalar s k
      pub places : length st.scalars ≡ n

    pub near-set : (st : State) (x : ℕ) (v : ℤ) → all x ≡ true → IsNear st → IsNear (set_scalar st x v)
    near-set st x v free h = record {
      scalars = λ k fixed. get_or-set_other st.scalars x k v (pos 0) (λ e. true≢false (sym free ∙ ap all (sym e) ∙ fixed)) ∙ h.scalars k fixed;
      places = length-set st.scalars x v ∙ h.places;
    }

    near-controls : (st : State) (l : Loop) → IsKeptLoop kinds all Unmarked l → IsNear st → index_values st l.control ≡ index_values s l.control
    near-controls st l h near =
        control_near (IsFixed kinds all) (λ a. ⊥) st s (λ k fixed. near.scalars k fixed.0) (λ a none. absurd none) l.control h.first h.last h.step

    pub near-values : (st : State) (l : Loop) → IsKeptLoop kinds all Unmarked l → IsNear st → values_of st l ≡ values_of s l
    near-values st l h near = ap (λ r. result_unwrap_or r record { first = pos 0; step = pos 1; count = 0 }) (near-controls st l h near)

    pub near-known : (st : State) (l : Loop) → IsKeptLoop kinds all Unmarked l → IsNear st → index_values st l.control ≡ Ok (values_of s l)
    near-known st l h near = near-controls st l h near ∙ known-values s l (has-bounds s l h)
