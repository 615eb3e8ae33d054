-- What stands in a nest by its form names what its texts may name.
use Rattle.std.proofs.Common.{◌≡◌, ℕ, ◌+◌, ◌<◌, inl, inr, List, [], ◌∷◌, length, Bool, true, false, Option, Some, None, refl, sym, ◌∙◌, subst, arith}
use Rattle.nest_syntax.specs.NestKinds.{has_copies}
use Rattle.array_meaning.specs.Terms.{Term, Number, Scalar, Index, Element, Section, Apply, Reduce, Terms, NoTerm, More}
use Rattle.array_meaning.specs.Iterations.{is_in}
use Rattle.lowered_expressions.specs.WellFormed.{IsSubscript, AreSubscripts, IsIndexed, AreIndexed}
use Rattle.nest_items.specs.Naming.{IsNaming, AreNaming}
use Rattle.nest_items.specs.Standing.{IsFixedTerm, AreFixedTerms, Stands, AllStand}
use Rattle.nest_items.proofs.Storing.{by_cases}
use Rattle.nest_syntax.specs.NestTerms.{scalar_or_index, indexed, all_indexed, NamesFirst, AllNameFirst, SubscriptsFirst, AllSubscriptsFirst, HasNoIndex, HaveNoIndex}
use Rattle.statement_trail.specs.NestParts.{index_in, scalars_in, all_scalars_in}
use Rattle.nest_join.specs.NestNames.{NestNames, indices_of, index_of, IsFixedName, IsFixedHere, IsScalarName, IsArrayName, IsTextTerm, AreTextSubscripts}
use Rattle.nest_join.proofs.Names.{in-from, in-both-some, in-both-none}
use Rattle.lowered_nests.proofs.Listed.{in-self, in-front, in-back, in-none, not-in}

-- names that are more
module _ (P Q A B : ℕ → Type 0) (scalars : (k : ℕ) → P k → Q k) (arrays : (a : ℕ) → A a → B a) where
  mutual
    pub more-names : (t : Term) → IsNaming P A t → IsNaming Q B t
    more-names (Number v) h = tt
    more-names (Scalar k) h = scalars k h
    more-names (Index k) h = tt
    more-names (Element a ts) h = (arrays a h.0, all-more-names ts h.1)
    more-names (Section a subs) h = tt
    more-names (Apply o ts) h = all-more-names ts h
    more-names (Reduce o t) h = absurd h

    pub all-more-names : (ts : Terms) → AreNaming P A ts → AreNaming Q B ts
    all-more-names NoTerm h = tt
    all-more-names (More t ts) h = (more-names t h.0, all-more-names ts h.1)

-- ---- expressions with indices are well-formed as they were

module _ (n : ℕ) (f : ℕ → Option ℕ) where
  scalar-subscript : (o : Option ℕ) (k : ℕ) → k < n → IsSubscript n (scalar_or_index o k)
  scalar-subscript None k lt = lt
  scalar-subscript (Some j) k lt = tt

  scalar-form : (o : Option ℕ) (k : ℕ) → k < n → IsIndexed n (scalar_or_index o k)
  scalar-form None k lt = lt
  scalar-form (Some j) k lt = tt

  mutual
    subscript-form : (t : Term) → IsSubscript n t → IsSubscript n (indexed f t)
    subscript-form (Number v) ok = tt
    subscript-form (Scalar k) ok = scalar-subscript (f k) k ok
    subscript-form (Index k) ok = tt
    subscript-form (Element a ts) ok = absurd ok
    subscript-form (Section a subs) ok = absurd ok
    subscript-form (Apply o ts) ok = (ok.0, subscripts-form ts ok.1)
    subscript-form (Reduce o t) ok = absurd ok

    pub subscripts-form : (ts : Terms) → AreSubscripts n ts → AreSubscripts n (all_indexed f ts)
    subscripts-form NoTerm ok = tt
    subscripts-form (More t ts) ok = (subscript-form t ok.0, subscripts-form ts ok.1)

  mutual
    pub term-form : (t : Term) → IsIndexed n t → IsIndexed n (indexed f t)
    term-form (Number v) ok = tt
    term-form (Scalar k) ok = scalar-form (f k) k ok
    term-form (Index k) ok = tt
    term-form (Element a ts) ok = (ok.0, subscripts-form ts ok.1)
    term-form (Section a subs) ok = tt
    term-form (Apply o ts) ok = terms-form ts ok
    term-form (Reduce o t) ok = absurd ok

    terms-form : (ts : Terms) → AreIndexed n ts → AreIndexed n (all_indexed f ts)
    terms-form NoTerm ok = tt
    terms-form (More t ts) ok = (term-form t ok.0, terms-form ts ok.1)

-- ---- in a text, by what is free round it and which copies it reads

-- an index of a subscript whose copies aren't read is one of the nest's
module _ (w : NestNames) (copies : List ℕ) where
  pub first-index : (k : ℕ) → index_in copies 0 k ≡ None → (o : Option ℕ) → index_in (indices_of w) 0 k ≡ o → NamesFirst (length (indices_of w)) (scalar_or_index (index_of w copies k) k)
  first-index k h (Some j) e =
      let r = in-from (indices_of w) 0 k j e in
      let lt : j < length (indices_of w) = (let a = r.1 in let b = r.2 in omega (arith, a, b)) in
      subst (λ o. NamesFirst (length (indices_of w)) (scalar_or_index o k)) (sym (in-both-some (indices_of w) copies 0 k j e)) lt
  first-index k h None e =
      subst (λ o. NamesFirst (length (indices_of w)) (scalar_or_index o k)) (sym (in-both-none (indices_of w) copies 0 k e ∙ none-later (0 + length (indices_of w)) k copies 0 h)) tt
    where
      none-later : (i k : ℕ) (ys : List ℕ) (a : ℕ) → index_in ys a k ≡ None → index_in ys i k ≡ None
      none-later i k ys a h = in-none ys i k (not-in ys a k h)

module _ (w : NestNames) (free : ℕ → Bool) (round copies : List ℕ)
    (fixed : (k : ℕ) → k < w.count → free k ≡ false → has_copies (w.kinds k) ≡ false → IsFixedName w round k)
    (unread : (k : ℕ) → has_copies (w.kinds k) ≡ false → index_in copies 0 k ≡ None)
    (copied : (k : ℕ) → k < w.count → has_copies (w.kinds k) ≡ true → (w.is_row k ≡ true) × (index_in (indices_of w) 0 k ≡ None))
    (arrays : (a : ℕ) → a < w.count → has_copies (w.kinds a) ≡ false → (w.is_row a ≡ true) × (w.place a ≡ a)) where
  mutual
    fixed-names : (t : Term) → IsFixedTerm w.kinds free t → IsSubscript w.count t → IsNaming (IsFixedHere w round copies) (λ a. ⊥) t
    fixed-names (Number v) h ok = tt
    fixed-names (Scalar k) h ok = (fixed k ok h.0 h.1, unread k h.1)
    fixed-names (Index k) h ok = tt
    fixed-names (Element a ts) h ok = absurd ok
    fixed-names (Section a subs) h ok = absurd ok
    fixed-names (Apply o ts) h ok = all-fixed-names ts h ok.1
    fixed-names (Reduce o t) h ok = absurd ok

    all-fixed-names : (ts : Terms) → AreFixedTerms w.kinds free ts → AreSubscripts w.count ts → AreNaming (IsFixedHere w round copies) (λ a. ⊥) ts
    all-fixed-names NoTerm h ok = tt
    all-fixed-names (More t ts) h ok = (fixed-names t h.0 ok.0, all-fixed-names ts h.1 ok.1)

  abbrev m : ℕ
  m = length (indices_of w)

  mutual
    names-first : (t : Term) → IsFixedTerm w.kinds free t → HasNoIndex t → NamesFirst m (indexed (index_of w copies) t)
    names-first (Number v) h plain = tt
    names-first (Scalar k) h plain = first-index w copies k (unread k h.1) (index_in (indices_of w) 0 k) refl
    names-first (Index k) h plain = absurd plain
    names-first (Element a ts) h plain = tt
    names-first (Section a subs) h plain = tt
    names-first (Apply o ts) h plain = all-names-first ts h plain
    names-first (Reduce o t) h plain = absurd h

    all-names-first : (ts : Terms) → AreFixedTerms w.kinds free ts → HaveNoIndex ts → AllNameFirst m (all_indexed (index_of w copies) ts)
    all-names-first NoTerm h plain = tt
    all-names-first (More t ts) h plain = (names-first t h.0 plain.0, all-names-first ts h.1 plain.1)

  scalar-first : (o : Option ℕ) (k : ℕ) → SubscriptsFirst m (scalar_or_index o k)
  scalar-first None k = tt
  scalar-first (Some j) k = tt

  mutual
    term-first : (own : Option ℕ) (t : Term) → Stands w.kinds free own t → HasNoIndex t → SubscriptsFirst m (indexed (index_of w copies) t)
    term-first own (Number v) h plain = tt
    term-first own (Scalar k) h plain = scalar-first (index_of w copies k) k
    term-first own (Index k) h plain = tt
    term-first own (Element a ts) h plain = all-names-first ts h.1 plain
    term-first own (Section a subs) h plain = tt
    term-first own (Apply o ts) h plain = terms-first own ts h plain
    term-first own (Reduce o t) h plain = absurd h

    terms-first : (own : Option ℕ) (ts : Terms) → AllStand w.kinds free own ts → HaveNoIndex ts → AllSubscriptsFirst m (all_indexed (index_of w copies) ts)
    terms-first own NoTerm h plain = tt
    terms-first own (More t ts) h plain = (term-first own t h.0 plain.0, terms-first own ts h.1 plain.1)

  -- the copies of these are read
  abbrev pub AreRead : List ℕ → Type 0
  AreRead ks = (k : ℕ) → is_in k ks ≡ true → has_copies (w.kinds k) ≡ true → (j : ℕ) × (index_in copies 0 k ≡ Some j)

  scalar-name : (k : ℕ) → k < w.count → free k ≡ false → AreRead (k ∷ []) → IsScalarName w round copies k
  scalar-name k lt off read =
      by_cases (has_copies (w.kinds k))
      (λ t. let c = copied k lt t in let r = read k (in-self k) t in inr (lt, t, c.0, c.1, r.0, r.1))
      (λ f. inl (fixed k lt off f, unread k f))

  mutual
    term-names : (own : Option ℕ) (t : Term) → Stands w.kinds free own t → IsIndexed w.count t → AreRead (scalars_in t)
        → IsNaming (IsScalarName w round copies) (IsArrayName w) t
    term-names own (Number v) h ok read = tt
    term-names own (Scalar k) h ok read = scalar-name k ok h.0 read
    term-names own (Index k) h ok read = tt
    term-names own (Element a ts) h ok read = (
      (ok.0, h.0, (arrays a ok.0 h.0).0, (arrays a ok.0 h.0).1),
      all-more-names (IsFixedHere w round copies) (IsScalarName w round copies) (λ a. ⊥) (IsArrayName w) (λ k. inl) (λ a z. absurd z) ts (all-fixed-names ts h.1 ok.1),
    )
    term-names own (Section a subs) h ok read = tt
    term-names own (Apply o ts) h ok read = terms-names own ts h ok read
    term-names own (Reduce o t) h ok read = absurd h

    terms-names : (own : Option ℕ) (ts : Terms) → AllStand w.kinds free own ts → AreIndexed w.count ts → AreRead (all_scalars_in ts)
        → AreNaming (IsScalarName w round copies) (IsArrayName w) ts
    terms-names own NoTerm h ok read = tt
    terms-names own (More t ts) h ok read = (
      term-names own t h.0 ok.0 (λ k e. read k (in-front (scalars_in t) (all_scalars_in ts) k e)),
      terms-names own ts h.1 ok.1 (λ k e. read k (in-back (scalars_in t) (all_scalars_in ts) k e)),
    )

  pub text-term : (own : Option ℕ) (t : Term) → Stands w.kinds free own t → IsIndexed w.count t → HasNoIndex t → AreRead (scalars_in t) → IsTextTerm w round copies t
  text-term own t h ok plain read = record {
    names = term-names own t h ok read;
    plain = plain;
    form = term-form w.count (index_of w copies) t ok;
    first = term-first own t h plain;
  }

  pub text-subscripts : (ts : Terms) → AreFixedTerms w.kinds free ts → AreSubscripts w.count ts → HaveNoIndex ts → AreTextSubscripts w round copies ts
  text-subscripts ts h ok plain = record {
    names = all-fixed-names ts h ok;
    plain = plain;
    form = subscripts-form w.count (index_of w copies) ts ok;
  }
