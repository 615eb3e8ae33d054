-- Of the claim.
-- A nest's expressions as FORALL's: a scalar that is an index of the nest, or that the nest assigns, is an index.
use Rattle.std.specs.Prelude.{ℕ, ◌<◌, Option, Some, None}
use Rattle.array_meaning.specs.Terms.{Term, Number, Scalar, Index, Element, Section, Apply, Reduce, Terms, NoTerm, More}

-- a scalar, or the index that it is
abbrev pub scalar_or_index : Option ℕ → ℕ → Term
scalar_or_index None k = Scalar k
scalar_or_index (Some j) k = Index j

-- `index_of` says which index a scalar is, if it is one
module _ (index_of : ℕ → Option ℕ) where
  abbrev mutual
    pub indexed : Term → Term
    indexed (Scalar k) = scalar_or_index (index_of k) k
    indexed (Element a ts) = Element a (all_indexed ts)
    indexed (Apply o ts) = Apply o (all_indexed ts)
    indexed t = t

    pub all_indexed : Terms → Terms
    all_indexed NoTerm = NoTerm
    all_indexed (More t ts) = More (indexed t) (all_indexed ts)

-- of the indices a subscript names the first m alone
abbrev mutual
  pub NamesFirst : ℕ → Term → Type 0
  NamesFirst m (Index k) = k < m
  NamesFirst m (Apply o ts) = AllNameFirst m ts
  NamesFirst m t = Unit {0}

  pub AllNameFirst : ℕ → Terms → Type 0
  AllNameFirst m NoTerm = Unit {0}
  AllNameFirst m (More t ts) = NamesFirst m t × AllNameFirst m ts

-- and so do all subscripts in an expression
abbrev mutual
  pub SubscriptsFirst : ℕ → Term → Type 0
  SubscriptsFirst m (Element a ts) = AllNameFirst m ts
  SubscriptsFirst m (Apply o ts) = AllSubscriptsFirst m ts
  SubscriptsFirst m t = Unit {0}

  pub AllSubscriptsFirst : ℕ → Terms → Type 0
  AllSubscriptsFirst m NoTerm = Unit {0}
  AllSubscriptsFirst m (More t ts) = SubscriptsFirst m t × AllSubscriptsFirst m ts

-- no index of a FORALL stands in an expression
abbrev mutual
  pub HasNoIndex : Term → Type 0
  HasNoIndex (Number v) = Unit {0}
  HasNoIndex (Scalar k) = Unit {0}
  HasNoIndex (Index k) = ⊥
  HasNoIndex (Element a ts) = HaveNoIndex ts
  HasNoIndex (Section a subs) = Unit {0}
  HasNoIndex (Apply o ts) = HaveNoIndex ts
  HasNoIndex (Reduce o t) = Unit {0}

  pub HaveNoIndex : Terms → Type 0
  HaveNoIndex NoTerm = Unit {0}
  HaveNoIndex (More t ts) = HasNoIndex t × HaveNoIndex ts
