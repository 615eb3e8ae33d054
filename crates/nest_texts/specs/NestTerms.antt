-- Of proofs.
-- When a nest's expressions as FORALL's have the values that they have in an iteration.
use Rattle.std.specs.Prelude.{◌≡◌, ℕ, List, ℤ, Option, Ok}
use Rattle.array_meaning.specs.State.{State, scalar, array}
use Rattle.array_meaning.specs.Terms.{Term, Number, Scalar, Index, Element, Section, Apply, Reduce, Terms, NoTerm, More}
use Rattle.array_meaning.specs.Expressions.{value}
use Rattle.nest_syntax.specs.NestTerms.{scalar_or_index}

-- `index_of` says which index a scalar is, if it is one
module _ (index_of : ℕ → Option ℕ) where
  -- The names of an expression are alike: each scalar, as an index with these values or in the state at the nest's entry, has the value that it
  -- has in the state of an iteration, and each array is the same in both. No index of a FORALL and no reduction stands in it
  module _ (axes : List ℤ) (entry s : State) where
    abbrev mutual
      pub IsAlike : Term → Type 0
      IsAlike (Number v) = Unit {0}
      IsAlike (Scalar k) = value axes entry (scalar_or_index (index_of k) k) ≡ Ok (scalar s k)
      IsAlike (Index k) = ⊥
      IsAlike (Element a ts) = (array entry a ≡ array s a) × AreAlike ts
      IsAlike (Section a subs) = Unit {0}
      IsAlike (Apply o ts) = AreAlike ts
      IsAlike (Reduce o t) = ⊥

      pub AreAlike : Terms → Type 0
      AreAlike NoTerm = Unit {0}
      AreAlike (More t ts) = IsAlike t × AreAlike ts
