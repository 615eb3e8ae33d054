-- What copies lie beside by the slots is what they lie beside by the scalars.
use Rattle.std.proofs.Common.{◌≡◌, ℕ, suc, ◌<◌, List, [], ◌∷◌, length, map, slice_index_or, ℤ, pos, ◌-ℤ◌, Bool, true, false, ◌&&◌, true≢false, Option, Some, None, Result, Ok, Err, if◌then◌else◌, refl, sym, ap, ◌∙◌}
use Rattle.std.specs.Bool.{⊤}
use Rattle.std.specs.List.{AllByRecursion}
use Rattle.std.specs.Option.{option_or}
use Rattle.std.specs.Result.{result_unwrap_or}
use Rattle.op_tables.specs.declared.op.Op.{Op}
use Rattle.op_tables.specs.declared.op.Op.TheVariants as op
use Rattle.mappings.specs.declared.mapping.AlignDim.TheVariants.{Linear as LinearDim}
use Rattle.array_meaning.specs.Faults.{Cause}
use Rattle.array_meaning.specs.State.{State}
use Rattle.array_meaning.specs.Terms.{Term, Number, Scalar, Index, Element, Section, Apply, Reduce, Terms, NoTerm, More}
use Rattle.array_meaning.specs.Forall.{Linear, linear, linears, linear_by, index_free}
use Rattle.array_meaning.specs.Expressions.{value}
use Rattle.array_meaning.specs.declared.sections.Selection.TheVariants.{Along}
use Rattle.array_meaning.specs.declared.sections.Sequence.{Sequence}
use Rattle.statement_trail.specs.Anchors.{AnchorTerm, AtTerm, AlongTerms, AnchorText, is_foreknown, are_foreknown}
use Rattle.statement_trail.specs.LinearOperators.{is_linear_operator}
use Rattle.node_code.specs.Forms.{Sub}
use Rattle.node_code.specs.Anchors.{FlatAnchor}
use Rattle.code_meaning.specs.Flat.{slot, slots_value, or_zero}
use Rattle.code_meaning.specs.Forms.{selections_in}
use Rattle.code_meaning.specs.ForallLimits.{sequences_of}
use Rattle.code_meaning.specs.Anchors.{AnchorValue, LinearValue, TripletValue, by_linear, by_positions, have_strides, anchor_by, anchor_value, anchor_in}
use Rattle.program_code.specs.ExpressionCode.{index_flat, anchor_sub_code}
use Rattle.lowered_expressions.specs.WellFormed.{IsSubscript}
use Rattle.lowered_expressions.specs.Anchors.{IsAnchorTerm, IsBeside, IsForeknownTerm, IsForeknown}
use Rattle.lowered_expressions.proofs.Indexed.{subscript-is, linear-is}
use Rattle.message_text.specs.Parts.{scalars_state, term_value, anchor_at, anchor_over}

-- ---- no index stands in a value that is known before a mask is evaluated

abbrev AreFree : List Linear → Type 0
AreFree [] = ⊤
AreFree (x ∷ xs) = (x.index ≡ None) × AreFree xs

both-free : (x y : Option ℕ) → x ≡ None → y ≡ None → option_or x y ≡ None
both-free x y h g = ap (λ o. option_or o y) h ∙ g

free-by : (o : Op) (xs : List Linear) (other : Linear) → AreFree xs → other.index ≡ None → (linear_by o xs other).index ≡ None
free-by op.Neg [] other h g = g
free-by o [] other h g = g
free-by op.Neg (x ∷ []) other h g = h.0
free-by op.Plus (x ∷ []) other h g = h.0
free-by o (x ∷ []) other h g = g
free-by op.Add (x ∷ y ∷ []) other h g = both-free x.index y.index h.0 h.1.0
free-by op.Sub (x ∷ y ∷ []) other h g = both-free x.index y.index h.0 h.1.0
free-by op.Mul (x ∷ y ∷ []) other h g = both-free x.index y.index h.0 h.1.0
free-by o (x ∷ y ∷ []) other h g = g
free-by op.Neg (x ∷ y ∷ z ∷ xs) other h g = g
free-by o (x ∷ y ∷ z ∷ xs) other h g = g

second : (a b : Bool) → (a && b) ≡ true → b ≡ true
second true b h = h
second false b h = absurd (true≢false (sym h))

first : (a b : Bool) → (a && b) ≡ true → a ≡ true
first true b h = refl
first false b h = absurd (true≢false (sym h))

mutual
  free-linear : (s : State) (t : Term) → is_foreknown t ≡ true → (linear s t).index ≡ None
  free-linear s (Number v) h = refl
  free-linear s (Scalar k) h = refl
  free-linear s (Index k) h = absurd (true≢false (sym h))
  free-linear s (Element a ts) h = refl
  free-linear s (Section a subs) h = refl
  free-linear s (Apply o ts) h =
      free-by o (linears s ts) (index_free s (Apply o ts)) (free-linears s ts (second (is_linear_operator o) (are_foreknown ts) h)) refl
  free-linear s (Reduce o t) h = refl

  free-linears : (s : State) (ts : Terms) → are_foreknown ts ≡ true → AreFree (linears s ts)
  free-linears s NoTerm h = tt
  free-linears s (More t ts) h =
      (free-linear s t (first (is_foreknown t) (are_foreknown ts) h), free-linears s ts (second (is_foreknown t) (are_foreknown ts) h))

-- ---- so it doesn't matter which values the indices take

abbrev AreFreeValues : List AnchorValue → Type 0
AreFreeValues [] = ⊤
AreFreeValues (LinearValue x ∷ xs) = (x.index ≡ None) × AreFreeValues xs
AreFreeValues (TripletValue first stride ∷ xs) = AreFreeValues xs

positions-same : (axes others : List Sequence) (k : ℕ) (xs : List AnchorValue) → AreFreeValues xs → by_positions axes k xs ≡ by_positions others k xs
positions-same axes others k [] h = refl
positions-same axes others k (LinearValue x ∷ xs) h =
    ap (λ o. by_linear axes o x.factor x.offset ∷ by_positions axes k xs) h.0
    ∙ ap (λ o. by_linear others o x.factor x.offset ∷ by_positions axes k xs) (sym h.0)
    ∙ ap (λ l. by_linear others x.index x.factor x.offset ∷ l) (positions-same axes others k xs h.1)
positions-same axes others k (TripletValue first stride ∷ xs) h =
    ap (λ l. LinearDim k stride (first -ℤ stride) ∷ l) (positions-same axes others (suc k) xs h)

anchor-same : (row : ℕ) (axes others : List Sequence) (xs : List AnchorValue) → AreFreeValues xs → anchor_by row axes xs ≡ anchor_by row others xs
anchor-same row axes others xs h = ap (λ l. if have_strides xs then Some record { row = row; subscripts = l } else None) (positions-same axes others 0 xs h)

along-same : (axes : List Sequence) → sequences_of (map Along axes) ≡ axes
along-same [] = refl
along-same (p ∷ axes) = ap (λ l. p ∷ l) (along-same axes)

-- ---- by the slots and by the scalars

module _ (scalars slots : List ℤ) (holds : (k : ℕ) → k < length scalars → slot slots k ≡ slice_index_or scalars k (pos 0)) where
  number-same : (t : Term) → IsSubscript (length scalars) t → slots_value slots (index_flat t) ≡ term_value scalars t
  number-same t ok = ap or_zero (subscript-is (length scalars) (scalars_state scalars) slots holds [] t ok) ∙ by (value [] (scalars_state scalars) t)
    where
      by : (r : Result ℤ Cause) → or_zero r ≡ result_unwrap_or r (pos 0)
      by (Ok v) = refl
      by (Err c) = refl

  value-same : (x : AnchorTerm) → IsAnchorTerm (length scalars) x → anchor_value slots (anchor_sub_code x) ≡ anchor_at scalars x
  value-same (AtTerm t) ok = ap LinearValue (linear-is (length scalars) (scalars_state scalars) slots holds t ok)
  value-same (AlongTerms first stride) ok = λ i. TripletValue (number-same first ok.0 i) (number-same stride ok.1 i)

  values-same : (xs : List AnchorTerm) → AllByRecursion (IsAnchorTerm (length scalars)) xs → map (anchor_value slots) (map anchor_sub_code xs) ≡ map (anchor_at scalars) xs
  values-same [] ok = refl
  values-same (x ∷ xs) ok = λ i. value-same x ok.0 i ∷ values-same xs ok.1 i

  free-values : (xs : List AnchorTerm) → AllByRecursion IsForeknownTerm xs → AreFreeValues (map (anchor_at scalars) xs)
  free-values [] h = tt
  free-values (AtTerm t ∷ xs) h = (free-linear (scalars_state scalars) t h.0, free-values xs h.1)
  free-values (AlongTerms first stride ∷ xs) h = free-values xs h.1

  -- over indices
  pub beside-same : (over : List Sub) (axes : List Sequence) (code : Option FlatAnchor) (beside : Option AnchorText) → selections_in slots over ≡ map Along axes
      → IsBeside (length scalars) code beside → anchor_in slots over code ≡ anchor_over scalars axes beside
  beside-same over axes code None e h = ap (anchor_in slots over) h.0
  beside-same over axes code (Some a) e h =
      let taken : sequences_of (selections_in slots over) ≡ axes = ap sequences_of e ∙ along-same axes in
      ap (anchor_in slots over) h.0 ∙ (λ i. anchor_by a.array (taken i) (values-same a.subscripts h.1.1 i))

  -- over the space of an array statement
  pub known-same : (over : List Sub) (code : Option FlatAnchor) (beside : Option AnchorText) → IsBeside (length scalars) code beside → IsForeknown beside
      → anchor_in slots over code ≡ anchor_over scalars [] beside
  known-same over code None h known = ap (anchor_in slots over) h.0
  known-same over code (Some a) h known =
      ap (anchor_in slots over) h.0
      ∙ ap (anchor_by a.array (sequences_of (selections_in slots over))) (values-same a.subscripts h.1.1)
      ∙ anchor-same a.array (sequences_of (selections_in slots over)) [] (map (anchor_at scalars) a.subscripts) (free-values a.subscripts known)
