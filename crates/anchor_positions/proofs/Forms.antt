-- The value of a subscript is that of its linear form.
use Rattle.std.proofs.Common.{◌≡◌, ℕ, ◌*◌, ◌⊎◌, inl, inr, ⊎_elim, List, [], ◌∷◌, true, false, true≢false, is_some, is_ok, ℤ, pos, ◌+ℤ◌, ◌-ℤ◌, ◌*ℤ◌, neg_ℤ, Option, Some, None, Result, Ok, Err, refl, sym, ap, ◌∙◌, subst, arith}
use Rattle.std.proofs.Math.IntN.{zero-*ℤ, *ℤ_comm}
use Rattle.std.proofs.lemmas.Int.{ints}
use Rattle.std.proofs.lemmas.Option.{none-some}
use Rattle.std.specs.Option.{option_or}
use Rattle.std.specs.Result.{result_unwrap_or}
use Rattle.hpf_base.proofs.Integers.{sum-*ℤ, linear_of_linear}
use Rattle.op_tables.specs.declared.op.Op.{Op}
use Rattle.op_tables.specs.declared.op.Op.TheVariants as op
use Rattle.op_tables.specs.Operators.{wrapped}
use Rattle.nest_syntax.specs.LinearOperators.{is_linear_operator}
use Rattle.array_meaning.specs.Terms.{Term, Number, Scalar, Index, Element, Section, Apply, Reduce, Terms, NoTerm, More}
use Rattle.array_meaning.specs.Faults.{Cause, ◌>>=◌, with_more}
use Rattle.array_meaning.specs.State.{State, scalar}
use Rattle.array_meaning.specs.Elementals.{operated}
use Rattle.array_meaning.specs.Expressions.{value, values, index_value}
use Rattle.array_meaning.specs.Forall.{Linear, linear, linears, linear_by, index_free, without_index, negated, added, multiplied}
use Rattle.anchor_positions.specs.Subscripts.{IsIndexFree, AreIndexFree, IsLinearIn}
use Rattle.anchor_positions.proofs.Wrapped.{Agree, agree-wrapped, agree-sum, agree-product, agree-minus}

-- ---- operands

same : (v w : ℤ) → ◌≡◌ {A = Result ℤ Cause} (Ok v) (Ok w) → v ≡ w
same v w e = ap (λ r. result_unwrap_or r (pos 0)) e

no-value : (c : Cause) (v : ℤ) → Err c ≡ Ok v → ⊥
no-value c v e = true≢false (ap is_ok (sym e))

one-value : (r : Result ℤ Cause) (o : Op) (v : ℤ) → (with_more r (Ok []) >>= operated o) ≡ Ok v → (a : ℤ) × (r ≡ Ok a) × (operated o (a ∷ []) ≡ Ok v)
one-value (Ok a) o v e = (a, refl, e)
one-value (Err c) o v e = absurd (no-value c v e)

two-values : (r q : Result ℤ Cause) (o : Op) (v : ℤ) → (with_more r (with_more q (Ok [])) >>= operated o) ≡ Ok v
    → (a : ℤ) × (b : ℤ) × (r ≡ Ok a) × (q ≡ Ok b) × (operated o (a ∷ b ∷ []) ≡ Ok v)
two-values (Ok a) (Ok b) o v e = (a, b, refl, refl, e)
two-values (Ok a) (Err c) o v e = absurd (no-value c v e)
two-values (Err c) q o v e = absurd (no-value c v e)

-- ---- linear forms at a value of the index

module _ (i : ℤ) where
  abbrev at : Linear → ℤ
  at f = (f.factor *ℤ i) +ℤ f.offset

  at-negated : (f : Linear) → Agree (at (negated f)) (pos 0 -ℤ at f)
  at-negated f =
      let none : (pos 0 -ℤ f.factor) +ℤ f.factor ≡ pos 0 = omega (arith, ints) in
      let whole : ((pos 0 -ℤ f.factor) *ℤ i) +ℤ (f.factor *ℤ i) ≡ pos 0 = sym (sum-*ℤ (pos 0 -ℤ f.factor) f.factor i) ∙ ap (λ y. y *ℤ i) none ∙ zero-*ℤ i in
      let both : ((pos 0 -ℤ f.factor) *ℤ i) +ℤ (pos 0 -ℤ f.offset) ≡ pos 0 -ℤ at f = omega (arith, ints, whole) in
      agree-sum (wrapped (pos 0 -ℤ f.factor) *ℤ i) (wrapped (pos 0 -ℤ f.offset)) ((pos 0 -ℤ f.factor) *ℤ i) (pos 0 -ℤ f.offset)
      (agree-product (wrapped (pos 0 -ℤ f.factor)) i (pos 0 -ℤ f.factor) i (agree-wrapped (pos 0 -ℤ f.factor)) refl) (agree-wrapped (pos 0 -ℤ f.offset))
      ∙ ap wrapped both

  at-added : (f g : Linear) → Agree (at (added f g)) (at f +ℤ at g)
  at-added f g =
      let whole : (f.factor +ℤ g.factor) *ℤ i ≡ (f.factor *ℤ i) +ℤ (g.factor *ℤ i) = sum-*ℤ f.factor g.factor i in
      let both : ((f.factor +ℤ g.factor) *ℤ i) +ℤ (f.offset +ℤ g.offset) ≡ at f +ℤ at g = omega (arith, ints, whole) in
      agree-sum (wrapped (f.factor +ℤ g.factor) *ℤ i) (wrapped (f.offset +ℤ g.offset)) ((f.factor +ℤ g.factor) *ℤ i) (f.offset +ℤ g.offset)
      (agree-product (wrapped (f.factor +ℤ g.factor)) i (f.factor +ℤ g.factor) i (agree-wrapped (f.factor +ℤ g.factor)) refl) (agree-wrapped (f.offset +ℤ g.offset))
      ∙ ap wrapped both

  -- the first factor has no index
  at-scaled : (f g : Linear) → f.factor ≡ pos 0 → Agree (at (multiplied f g)) (at f *ℤ at g)
  at-scaled f g none =
      let m : ℤ = f.factor *ℤ g.offset +ℤ g.factor *ℤ f.offset in
      let first : f.factor *ℤ g.offset ≡ pos 0 = ap (λ y. y *ℤ g.offset) none ∙ zero-*ℤ g.offset in
      let second : f.factor *ℤ i ≡ pos 0 = ap (λ y. y *ℤ i) none ∙ zero-*ℤ i in
      let own : g.factor *ℤ f.offset ≡ f.offset *ℤ g.factor = *ℤ_comm g.factor f.offset in
      let slope : m ≡ f.offset *ℤ g.factor = omega (arith, ints, first, own) in
      let alone : at f ≡ f.offset = omega (arith, ints, second) in
      let line : ((f.offset *ℤ g.factor) *ℤ i) +ℤ ((f.offset *ℤ g.offset) +ℤ pos 0) ≡ (f.offset *ℤ at g) +ℤ pos 0 = linear_of_linear f.offset (pos 0) g.factor g.offset i in
      let turned : m *ℤ i ≡ (f.offset *ℤ g.factor) *ℤ i = ap (λ y. y *ℤ i) slope in
      let both : (m *ℤ i) +ℤ (f.offset *ℤ g.offset) ≡ f.offset *ℤ at g = omega (arith, ints, line, turned) in
      agree-sum (wrapped m *ℤ i) (wrapped (f.offset *ℤ g.offset)) (m *ℤ i) (f.offset *ℤ g.offset)
      (agree-product (wrapped m) i m i (agree-wrapped m) refl) (agree-wrapped (f.offset *ℤ g.offset))
      ∙ ap wrapped (both ∙ ap (λ y. y *ℤ at g) (sym alone))

  turned-round : (f g : Linear) → at (multiplied f g) ≡ at (multiplied g f)
  turned-round f g =
      let sum : f.factor *ℤ g.offset +ℤ g.factor *ℤ f.offset ≡ g.factor *ℤ f.offset +ℤ f.factor *ℤ g.offset = omega (arith, ints) in
      λ j. (wrapped (sum j) *ℤ i) +ℤ wrapped (*ℤ_comm f.offset g.offset j)

  -- ---- what a form says of a value

  -- it is in this index at most, and without one it has the factor 0; in 64 bits it is the value, and by itself where the value isn't one of 64 bits
  pub record Says (k : Option ℕ) (f : Linear) (v : ℤ) : Type 0 where
    pub index : (f.index ≡ None) ⊎ (f.index ≡ k)
    pub flat : f.index ≡ None → f.factor ≡ pos 0
    pub agree : Agree v (at f)
    pub fits : (v ≡ at f) ⊎ (wrapped v ≡ v)

  says-number : (k : Option ℕ) (v : ℤ) → Says k (without_index v) v
  says-number k v =
      let e : v ≡ (pos 0 *ℤ i) +ℤ v = omega (arith, ints) in record { index = inl refl; flat = λ h. refl; agree = ap wrapped e; fits = inl e }

  says-index : (j : ℕ) → Says (Some j) (record { index = Some j; factor = pos 1; offset = pos 0 }) i
  says-index j =
      let e : i ≡ (pos 1 *ℤ i) +ℤ pos 0 = omega (arith, ints) in
      record { index = inr refl; flat = λ h. absurd (true≢false (ap is_some h)); agree = ap wrapped e; fits = inl e }

  -- a value that an operator wraps
  wrapped-fits : (f : Linear) (v : ℤ) → (wrapped v ≡ at f) ⊎ (wrapped (wrapped v) ≡ wrapped v)
  wrapped-fits f v = inr (agree-wrapped v)

  zero-wrapped : (z : ℤ) → z ≡ pos 0 → wrapped z ≡ pos 0
  unfolding Rattle.std.specs.Int.int_wrap
  zero-wrapped z e = ap wrapped e

  either : (x y k : Option ℕ) → (x ≡ None) ⊎ (x ≡ k) → (y ≡ None) ⊎ (y ≡ k) → (option_or x y ≡ None) ⊎ (option_or x y ≡ k)
  either x y k (inl h) g = subst (λ o. (option_or o y ≡ None) ⊎ (option_or o y ≡ k)) (sym h) g
  either None y k (inr h) g = g
  either (Some a) y k (inr h) g = inr h

  neither : (x y : Option ℕ) → option_or x y ≡ None → (x ≡ None) × (y ≡ None)
  neither None y h = (refl, h)
  neither (Some a) y h = absurd (true≢false (ap is_some h))

  says-negated : (k : Option ℕ) (f : Linear) (v : ℤ) → Says k f v → Says k (negated f) (wrapped (neg_ℤ v))
  says-negated k f v h =
      let minus : neg_ℤ v ≡ pos 0 -ℤ v = omega (arith, ints) in record {
        index = h.index;
        flat = λ none. zero-wrapped (pos 0 -ℤ f.factor) (let e = h.flat none in omega (arith, ints, e));
        agree = agree-wrapped (neg_ℤ v) ∙ ap wrapped minus ∙ agree-minus v (at f) h.agree ∙ sym (at-negated f);
        fits = wrapped-fits (negated f) (neg_ℤ v);
      }

  says-added : (k : Option ℕ) (f g : Linear) (v w : ℤ) → Says k f v → Says k g w → Says k (added f g) (wrapped (v +ℤ w))
  says-added k f g v w h l = record {
    index = either f.index g.index k h.index l.index;
    flat = λ none.
        let n = neither f.index g.index none in
        let a = h.flat n.0 in
        let b = l.flat n.1 in
        zero-wrapped (f.factor +ℤ g.factor) (omega (arith, ints, a, b));
    agree = agree-wrapped (v +ℤ w) ∙ agree-sum v w (at f) (at g) h.agree l.agree ∙ sym (at-added f g);
    fits = wrapped-fits (added f g) (v +ℤ w);
  }

  says-subtracted : (k : Option ℕ) (f g : Linear) (v w : ℤ) → Says k f v → Says k g w → Says k (added f (negated g)) (wrapped (v -ℤ w))
  says-subtracted k f g v w h l =
      let minus = says-negated k g w l in
      let two = says-added k f (negated g) v (wrapped (neg_ℤ w)) h minus in
      let sum : v +ℤ neg_ℤ w ≡ v -ℤ w = omega (arith, ints) in record {
        index = two.index;
        flat = two.flat;
        agree = agree-wrapped (v -ℤ w) ∙ ap wrapped (sym sum) ∙ agree-sum v (neg_ℤ w) v (wrapped (neg_ℤ w)) refl (sym (agree-wrapped (neg_ℤ w)))
            ∙ sym (agree-wrapped (v +ℤ wrapped (neg_ℤ w))) ∙ two.agree;
        fits = wrapped-fits (added f (negated g)) (v -ℤ w);
      }

  -- one of the two has no index
  says-multiplied : (k : Option ℕ) (f g : Linear) (v w : ℤ) → Says k f v → Says k g w → (f.factor ≡ pos 0) ⊎ (g.factor ≡ pos 0)
      → Says k (multiplied f g) (wrapped (v *ℤ w))
  says-multiplied k f g v w h l one = record {
    index = either f.index g.index k h.index l.index;
    flat = λ none.
        let n = neither f.index g.index none in
        let a : f.factor *ℤ g.offset ≡ pos 0 = ap (λ y. y *ℤ g.offset) (h.flat n.0) ∙ zero-*ℤ g.offset in
        let b : g.factor *ℤ f.offset ≡ pos 0 = ap (λ y. y *ℤ f.offset) (l.flat n.1) ∙ zero-*ℤ f.offset in
        zero-wrapped (f.factor *ℤ g.offset +ℤ g.factor *ℤ f.offset) (omega (arith, ints, a, b));
    agree = agree-wrapped (v *ℤ w) ∙ agree-product v w (at f) (at g) h.agree l.agree ∙ sym (by one);
    fits = wrapped-fits (multiplied f g) (v *ℤ w);
  }
    where
      by : (f.factor ≡ pos 0) ⊎ (g.factor ≡ pos 0) → Agree (at (multiplied f g)) (at f *ℤ at g)
      by (inl none) = at-scaled f g none
      by (inr none) = ap wrapped (turned-round f g) ∙ at-scaled g f none ∙ ap wrapped (*ℤ_comm (at g) (at f))

-- ---- expressions

module _ (s : State) (x : List ℤ) where
  mutual
    free-value : (t : Term) → IsIndexFree t → value x s t ≡ value [] s t
    free-value (Number v) ok = refl
    free-value (Scalar k) ok = refl
    free-value (Index k) ok = absurd ok
    free-value (Element a ts) ok = absurd ok
    free-value (Section a subs) ok = absurd ok
    free-value (Apply o ts) ok = ap (λ r. r >>= operated o) (free-values ts ok)
    free-value (Reduce o t) ok = absurd ok

    free-values : (ts : Terms) → AreIndexFree ts → values x s ts ≡ values [] s ts
    free-values NoTerm ok = refl
    free-values (More t ts) ok = λ i. with_more (free-value t ok.0 i) (free-values ts ok.1 i)

  other-form : (o : Op) (fs : List Linear) (f : Linear) → is_linear_operator o ≡ false → linear_by o fs f ≡ f
  other-form op.Neg fs f h = absurd (true≢false h)
  other-form op.Plus fs f h = absurd (true≢false h)
  other-form op.Add fs f h = absurd (true≢false h)
  other-form op.Sub fs f h = absurd (true≢false h)
  other-form op.Mul fs f h = absurd (true≢false h)
  other-form o fs f h = refl

  -- where the index has this value
  module _ (i : ℤ) where
    other-says : (k : Option ℕ) (o : Op) (ts : Terms) → is_linear_operator o ≡ false → AreIndexFree ts → (v : ℤ) → value x s (Apply o ts) ≡ Ok v
        → Says i k (linear s (Apply o ts)) v
    other-says k o ts h free v e =
        let known : result_unwrap_or (value [] s (Apply o ts)) (pos 0) ≡ v = ap (λ r. result_unwrap_or r (pos 0)) (sym (free-value (Apply o ts) free) ∙ e) in
        subst (λ f. Says i k f v) (sym (other-form o (linears s ts) (index_free s (Apply o ts)) h ∙ ap without_index known)) (says-number i k v)

    -- a form without an index has no factor
    no-factor : (f : Linear) (v : ℤ) → Says i None f v → f.factor ≡ pos 0
    no-factor f v h = h.flat (⊎_elim (λ e. e) (λ e. e) h.index)

    at-most : (k : Option ℕ) (f : Linear) (v : ℤ) → Says i None f v → Says i k f v
    at-most k f v h = record { index = inl (⊎_elim (λ e. e) (λ e. e) h.index); flat = h.flat; agree = h.agree; fits = h.fits }

    pub form-says : (k : Option ℕ) → ((j : ℕ) → k ≡ Some j → index_value x j ≡ i) → (t : Term) → IsLinearIn k t → (v : ℤ) → value x s t ≡ Ok v → Says i k (linear s t) v
    form-says k is (Number n) ok v e = subst (Says i k (without_index n)) (same n v e) (says-number i k n)
    form-says k is (Scalar j) ok v e = subst (Says i k (without_index (scalar s j))) (same (scalar s j) v e) (says-number i k (scalar s j))
    form-says k is (Index j) ok v e =
        subst (Says i k (linear s (Index j))) (sym (is j ok) ∙ same (index_value x j) v e)
        (subst (λ o. Says i o (linear s (Index j)) i) (sym ok) (says-index i j))
    form-says k is (Apply op.Neg (More t NoTerm)) ok v e =
        let a = one-value (value x s t) op.Neg v e in
        subst (Says i k (negated (linear s t))) (same (wrapped (neg_ℤ a.0)) v a.2) (says-negated i k (linear s t) a.0 (form-says k is t ok a.0 a.1))
    form-says k is (Apply op.Plus (More t NoTerm)) ok v e =
        let a = one-value (value x s t) op.Plus v e in subst (Says i k (linear s t)) (same a.0 v a.2) (form-says k is t ok a.0 a.1)
    form-says k is (Apply op.Add (More t (More u NoTerm))) ok v e =
        let a = two-values (value x s t) (value x s u) op.Add v e in
        subst (Says i k (added (linear s t) (linear s u))) (same (wrapped (a.0 +ℤ a.1)) v a.4)
        (says-added i k (linear s t) (linear s u) a.0 a.1 (form-says k is t ok.0 a.0 a.2) (form-says k is u ok.1 a.1 a.3))
    form-says k is (Apply op.Sub (More t (More u NoTerm))) ok v e =
        let a = two-values (value x s t) (value x s u) op.Sub v e in
        subst (Says i k (added (linear s t) (negated (linear s u)))) (same (wrapped (a.0 -ℤ a.1)) v a.4)
        (says-subtracted i k (linear s t) (linear s u) a.0 a.1 (form-says k is t ok.0 a.0 a.2) (form-says k is u ok.1 a.1 a.3))
    form-says k is (Apply op.Mul (More t (More u NoTerm))) (inl ok) v e =
        let a = two-values (value x s t) (value x s u) op.Mul v e in
        let h = form-says None (λ j n. absurd (none-some j n)) t ok.0 a.0 a.2 in
        subst (Says i k (multiplied (linear s t) (linear s u))) (same (wrapped (a.0 *ℤ a.1)) v a.4)
        (says-multiplied i k (linear s t) (linear s u) a.0 a.1 (at-most k (linear s t) a.0 h) (form-says k is u ok.1 a.1 a.3) (inl (no-factor (linear s t) a.0 h)))
    form-says k is (Apply op.Mul (More t (More u NoTerm))) (inr ok) v e =
        let a = two-values (value x s t) (value x s u) op.Mul v e in
        let h = form-says None (λ j n. absurd (none-some j n)) u ok.1 a.1 a.3 in
        subst (Says i k (multiplied (linear s t) (linear s u))) (same (wrapped (a.0 *ℤ a.1)) v a.4)
        (says-multiplied i k (linear s t) (linear s u) a.0 a.1 (form-says k is t ok.0 a.0 a.2) (at-most k (linear s u) a.1 h) (inr (no-factor (linear s u) a.1 h)))
    form-says k is (Apply o ts) ok v e = other-says k o ts ok.0 ok.1 v e
    form-says k is t ok v e = absurd ok
