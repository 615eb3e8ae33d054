-- Values of expressions over slots and axes at the tuples of a strip.
use Rattle.std.proofs.Common.{◌≡◌, ℕ, ◌+◌, ◌<◌, arith, Bool, true, false, ◌&&◌, List, [], ◌∷◌, ◌++◌, length, map, replicate, ℤ, pos, Option, Some, None, Result, Ok, Err, IfOk, IfSome, suc, refl, ap, sym, subst, ◌∙◌}
use Rattle.std.specs.List.{range_with_len}
use Rattle.std.specs.Prelude.{slice_index_or}
use Rattle.std.proofs.lemmas.List.{get_or-replicate, get_or_append_left, length-replicate}
use Rattle.std.proofs.lemmas.List.FromFn.{get_or-map-range_with_len, length-map-range_with_len}
use Rattle.op_tables.specs.declared.op.Op.{Op}
use Rattle.storage.specs.Storage.{Spot}
use Rattle.array_meaning.specs.Elementals.{operated}
use Rattle.array_meaning.specs.Faults.{Cause, ◌>>=◌, with_more}
use Rattle.node_code.specs.Flat.{Flat, Int, Slot, Axis, Read, Operated, Flats, NoFlat, AndFlat}
use Rattle.code_meaning.specs.Flat.{flat_value, flat_values}
use Rattle.array_meaning.specs.declared.sections.Selection.{Selection}
use Rattle.array_meaning.specs.declared.sections.Selection.TheVariants.{At, Along}
use Rattle.array_meaning.specs.Sections.{positions, subscripts_at}
use Rattle.courses.specs.Entries.{axes_in, entries_in}
use Rattle.strip_operators.specs.Operated.{AreOfOne, AreOfTwo}
use Rattle.tuple_values.specs.declared.strips.Strip.{Strip}
use Rattle.tuple_values.specs.Fixed.{are_fixed, is_fixed}
use Rattle.tuple_values.specs.FormStrips.{FlatValues, entries_in_strip, seen_in_strip}
use Rattle.tuple_values.specs.Statements.{Statement, copied_by}
use Rattle.tuple_values.specs.Strips.{strip_tuple}

and-left : (a b : Bool) → (a && b) ≡ true → a ≡ true
and-left true b h = refl
and-left false b h = h

and-right : (a b : Bool) → (a && b) ≡ true → b ≡ true
and-right true b h = h
and-right false b h = absurd cc

-- ---- expressions that see no axis

module _ (slots axes others : List ℤ) where
  mutual
    pub same-value : (f : Flat) → is_fixed f ≡ true → flat_value slots axes [] f ≡ flat_value slots others [] f
    same-value (Int v) h = refl
    same-value (Slot k) h = refl
    same-value (Axis k) h = absurd cc
    same-value (Read k) h = refl
    same-value (Operated o fs) h = ap (λ r. r >>= operated o) (same-values fs h)

    same-values : (fs : Flats) → are_fixed fs ≡ true → flat_values slots axes [] fs ≡ flat_values slots others [] fs
    same-values NoFlat h = refl
    same-values (AndFlat f fs) h =
        λ i. with_more (same-value f (and-left (is_fixed f) (are_fixed fs) h) i) (same-values fs (and-right (is_fixed f) (are_fixed fs) h) i)

-- ---- values

module _ (w : Statement) (s : Strip) (get : Spot → ℤ) where
  pub fixed_values : (f : Flat) (v : ℤ) → is_fixed f ≡ true → flat_value w.slots [] [] f ≡ Ok v → FlatValues w s get f (replicate s.count v)
  fixed_values f v fixed is = (
    length-replicate s.count v,
    λ k lt.
        same-value w.slots (seen_in_strip w s get k) [] f fixed ∙ is ∙ ap Ok (sym (get_or-replicate s.count k v (pos 0) lt)),
  )

  pub axis_values_are : (axis : ℕ) (vs : List ℤ) → ((k : ℕ) → axis < length (axes_in w.indices (entries_in_strip w s k)))
      → vs ≡ map (λ k. slice_index_or (axes_in w.indices (entries_in_strip w s k)) axis (pos 0)) (range_with_len 0 s.count) → FlatValues w s get (Axis axis) vs
  axis_values_are axis vs among is = let here : (k : ℕ) → 0 + k ≡ k = λ k. (omega arith) in (
    ap length is ∙ length-map-range_with_len (λ k. slice_index_or (axes_in w.indices (entries_in_strip w s k)) axis (pos 0)) 0 s.count,
    λ k lt.
        ap Ok (get_or_append_left (axes_in w.indices (entries_in_strip w s k)) (copied_by get w.copies (strip_tuple s k)) (pos 0) axis (among k)
        ∙ sym (ap (λ l. slice_index_or l k (pos 0)) is ∙ get_or-map-range_with_len (λ k. slice_index_or (axes_in w.indices (entries_in_strip w s k)) axis (pos 0)) 0 s.count k k (pos 0) lt (here k))),
  )

  pub of_one : (o : Op) (f : Flat) (vs ws : List ℤ) → FlatValues w s get f vs → length ws ≡ length vs → AreOfOne o vs ws → FlatValues w s get (Operated o (AndFlat f NoFlat)) ws
  of_one o f vs ws strip long made = (
    long ∙ strip.0,
    λ k lt.
        ap (λ r. with_more r (Ok []) >>= operated o) (strip.1 k lt) ∙ made k (subst (λ m. k < m) (sym strip.0) lt),
  )

  pub of_two : (o : Op) (f g : Flat) (vs ws us : List ℤ) → FlatValues w s get f vs → FlatValues w s get g ws → length us ≡ length vs → AreOfTwo o vs ws us
      → FlatValues w s get (Operated o (AndFlat f (AndFlat g NoFlat))) us
  of_two o f g vs ws us first second long made = (
    long ∙ first.0,
    λ k lt.
        ap (λ r. with_more r (with_more (flat_value w.slots (seen_in_strip w s get k) [] g) (Ok [])) >>= operated o) (first.1 k lt)
        ∙ ap (λ r. with_more (Ok (slice_index_or vs k (pos 0))) (with_more r (Ok [])) >>= operated o) (second.1 k lt)
        ∙ made k (subst (λ m. k < m) (sym first.0) lt),
  )

  -- where the values of an axis are known, if they are
  pub axis_strips : {V E : Type 0} (items : V → List ℤ) (r : Result (Option V) E) (axis : ℕ) → ((k : ℕ) → axis < length (axes_in w.indices (entries_in_strip w s k)))
      → IfOk r (λ p. IfSome p (λ v. items v ≡ map (λ k. slice_index_or (axes_in w.indices (entries_in_strip w s k)) axis (pos 0)) (range_with_len 0 s.count)))
      → IfOk r (λ p. IfSome p (λ v. FlatValues w s get (Axis axis) (items v)))
  axis_strips items (Err e) axis among h = h
  axis_strips items (Ok None) axis among h = h
  axis_strips items (Ok (Some v)) axis among h = axis_values_are axis (items v) among h

-- the axes are as many as the indices
subscripts-counted : (ds : List Selection) (x : List ℤ) → length (subscripts_at ds x) ≡ length ds
subscripts-counted [] x = refl
subscripts-counted (At i ∷ ds) x = ap suc (subscripts-counted ds x)
subscripts-counted (Along p ∷ ds) [] = ap suc (subscripts-counted ds [])
subscripts-counted (Along p ∷ ds) (y ∷ x) = ap suc (subscripts-counted ds x)

pub axes_counted : (ds : List Selection) (ns : List ℕ) (t axis : ℕ) → axis < length ds → axis < length (axes_in (Some ds) (entries_in (Some ds) ns t))
axes_counted ds ns t axis lt = subst (λ n. axis < n) (sym (subscripts-counted ds (positions ns t))) lt
