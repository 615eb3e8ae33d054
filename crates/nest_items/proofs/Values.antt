-- A value depends on what its expression names alone.
use Rattle.std.proofs.Common.{◌≡◌, ℕ, List, [], ℤ, pos, slice_index_or, Result, Ok, Err, refl, ap, ◌∙◌, ap₂}
use Rattle.array_meaning.specs.Terms.{Term, Number, Scalar, Index, Element, Section, Apply, Reduce, Terms, NoTerm, More, Control}
use Rattle.array_meaning.specs.Faults.{Cause, ◌>>=◌, with_more}
use Rattle.array_meaning.specs.State.{State, Array, scalar, array, element, place_in, if_in_bounds, element_place}
use Rattle.array_meaning.specs.Expressions.{value, values, index_values}
use Rattle.array_meaning.specs.Elementals.{operated}
use Rattle.array_meaning.specs.Sections.{sequence_of}
use Rattle.nest_items.specs.Naming.{IsNaming, AreNaming}

pub place_near : (r s : State) (a : ℕ) (is : List ℤ) → array r a ≡ array s a → place_in r a is ≡ place_in s a is
place_near r s a is e = ap (λ x. if_in_bounds (element_place x.dims is)) e

element_near : (r s : State) (a : ℕ) (is : List ℤ) → array r a ≡ array s a → element r a is ≡ element s a is
element_near r s a is e = ap (λ x. at x) e where
  at : Array → Result ℤ Cause
  at x = if_in_bounds (element_place x.dims is) >>= (λ k. Ok (slice_index_or x.elements k (pos 0)))

pub then_same : {A B : Type 0} (x : Result A Cause) (f g : A → Result B Cause) → ((a : A) → f a ≡ g a) → x >>= f ≡ x >>= g
then_same (Ok a) f g e = e a
then_same (Err c) f g e = refl

module _ (P Q : ℕ → Type 0) (r s : State) (scalars : (k : ℕ) → P k → scalar r k ≡ scalar s k) (arrays : (a : ℕ) → Q a → array r a ≡ array s a) where
  mutual
    pub value_near : (t : Term) → IsNaming P Q t → value [] r t ≡ value [] s t
    value_near (Number v) h = refl
    value_near (Scalar k) h = ap Ok (scalars k h)
    value_near (Index k) h = refl
    value_near (Element a ts) h =
        ap (λ vs. vs >>= element r a) (values_near ts h.1) ∙ then_same (values [] s ts) (element r a) (element s a) (λ is. element_near r s a is (arrays a h.0))
    value_near (Section a subs) h = refl
    value_near (Apply o ts) h = ap (λ vs. vs >>= operated o) (values_near ts h)
    value_near (Reduce o t) h = absurd h

    pub values_near : (ts : Terms) → AreNaming P Q ts → values [] r ts ≡ values [] s ts
    values_near NoTerm h = refl
    values_near (More t ts) h = ap₂ (λ x xs. with_more x xs) (value_near t h.0) (values_near ts h.1)

  pub control_near : (c : Control) → IsNaming P Q c.first → IsNaming P Q c.last → IsNaming P Q c.step → index_values r c ≡ index_values s c
  control_near c first last step =
      ap (λ x. sequence_of x (value [] r c.last) (value [] r c.step)) (value_near c.first first)
      ∙ ap₂ (λ y z. sequence_of (value [] s c.first) y z) (value_near c.last last) (value_near c.step step)

-- what names less
module _ (P Q P' Q' : ℕ → Type 0) (scalars : (k : ℕ) → P k → P' k) (arrays : (a : ℕ) → Q a → Q' a) where
  mutual
    pub naming_more : (t : Term) → IsNaming P Q t → IsNaming P' Q' t
    naming_more (Number v) h = tt
    naming_more (Scalar k) h = scalars k h
    naming_more (Index k) h = tt
    naming_more (Element a ts) h = (arrays a h.0, namings_more ts h.1)
    naming_more (Section a subs) h = tt
    naming_more (Apply o ts) h = namings_more ts h
    naming_more (Reduce o t) h = absurd h

    pub namings_more : (ts : Terms) → AreNaming P Q ts → AreNaming P' Q' ts
    namings_more NoTerm h = tt
    namings_more (More t ts) h = (naming_more t h.0, namings_more ts h.1)
