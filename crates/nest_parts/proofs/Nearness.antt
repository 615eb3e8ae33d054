-- What texts do depends on the spots that they name alone.
use Rattle.std.proofs.Common.{◌≡◌, ℕ, ◌<◌, [], ◌∷◌, ◌++◌, length, get_or, Bool, true, false, if◌then◌else◌, Option, Some, None, Result, Ok, Err, refl, ap, ap₂, sym, ◌∙◌, subst, ℤ, pos, arith, ⊎_elim, Contains}
use Rattle.std.proofs.lemmas.Bool.{cases_lt}
use Rattle.std.proofs.lemmas.List.{get_or_past}
use Rattle.std.proofs.lemmas.List.Elements.{Contains-append_left, Contains-append_right}
use Rattle.storage.specs.Storage.{Storage, Spot, row_of, read}
use Rattle.storage.specs.Effect.{Put}
use Rattle.nest_order.specs.Nest.{AgreeOn}
use Rattle.nest_syntax.specs.NestKinds.{Kind, has_copies}
use Rattle.nest_order.specs.Copies.{scalar_at}
use Rattle.array_meaning.specs.Terms.{Term, Number, Scalar, Index, Element, Section, Apply, Reduce, Terms, NoTerm, More}
use Rattle.array_meaning.specs.Faults.{Cause, ◌>>=◌, with_more}
use Rattle.array_meaning.specs.State.{State, no_array, scalar, array, place_in, if_in_bounds, element_place}
use Rattle.array_meaning.specs.Expressions.{value, values}
use Rattle.array_meaning.specs.Elementals.{operated}
use Rattle.nest_items.specs.StateStorage.{state_of}
use Rattle.nest_syntax.specs.Assigning.{Assigning, ToScalar, ToElement}
use Rattle.nest_items.specs.NestItems.{effect_in, scalar_effect, element_effect}
use Rattle.nest_parts.specs.NestSpots.{spots_in, all_spots, spots_read, spots_written, element_spot}
use Rattle.nest_items.specs.Standing.{IsFixed, AreFixedTerms, MayStand, Stands, AllStand, RightKind}
use Rattle.nest_items.proofs.Values.{values_near, then_same}
use Rattle.nest_items.proofs.Storing.{fixed-scalar, scalar-at, array-at, if_so, if_not, by_cases, state-arrays, state-scalars}

module _ (kinds : ℕ → Kind) (s : State) where
  abbrev now : Storage → State
  now m = state_of kinds s m

  -- the dimensions of arrays are those at the entry
  dims_now : (m : Storage) (a : ℕ) → (array (now m) a).dims ≡ (array s a).dims
  dims_now m a = ⊎_elim
      (λ lt. ap (λ x. x.dims) (array-at kinds s m a lt) ∙ by_cases (has_copies (kinds a))
      (λ t. ap (λ x. x.dims) (if_so (has_copies (kinds a)) (array s a) (record (array s a) { elements = row_of m a }) t))
      (λ f. ap (λ x. x.dims) (if_not (has_copies (kinds a)) (array s a) (record (array s a) { elements = row_of m a }) f)))
      (λ le. ap (λ x. x.dims) (get_or_past (now m).arrays a no_array (omega (arith, le, state-arrays kinds s m)) ∙ sym (get_or_past s.arrays a no_array le)))
      (cases_lt a (length s.arrays))

  pub place_now : (free : ℕ → Bool) (m : Storage) (a : ℕ) (ts : Terms) → AreFixedTerms kinds free ts
      → (values [] (now m) ts >>= place_in (now m) a) ≡ (values [] s ts >>= place_in s a)
  place_now free m a ts h =
      ap (λ vs. vs >>= place_in (now m) a) (values_near (IsFixed kinds free) (λ a. ⊥) (now m) s (λ k f. fixed-scalar kinds s m k f.1) (λ a f. absurd f) ts h)
      ∙ then_same (values [] s ts) (place_in (now m) a) (place_in s a) (λ is. ap (λ ds. if_in_bounds (element_place ds is)) (dims_now m a))

  -- an element is what stands at its spot
  pub element_now : (m m' : Storage) (a p : ℕ) → has_copies (kinds a) ≡ false → read m (record { row = a; at = p }) ≡ read m' (record { row = a; at = p })
      → get_or (array (now m) a).elements p (pos 0) ≡ get_or (array (now m') a).elements p (pos 0)
  element_now m m' a p c e = ⊎_elim
      (λ lt. stands m lt ∙ e ∙ sym (stands m' lt))
      (λ le. ap (λ x. get_or x.elements p (pos 0)) (get_or_past (now m).arrays a no_array (omega (arith, le, state-arrays kinds s m))
      ∙ sym (get_or_past (now m').arrays a no_array (omega (arith, le, state-arrays kinds s m')))))
      (cases_lt a (length s.arrays))
    where
      stands : (n : Storage) → a < length s.arrays → get_or (array (now n) a).elements p (pos 0) ≡ get_or (row_of n a) p (pos 0)
      stands n lt = ap (λ x. get_or x.elements p (pos 0)) (array-at kinds s n a lt ∙ if_not (has_copies (kinds a)) (array s a) (record (array s a) { elements = row_of n a }) c)

  scalar_now : (m m' : Storage) (k : ℕ) → read m (scalar_at k) ≡ read m' (scalar_at k) → scalar (now m) k ≡ scalar (now m') k
  scalar_now m m' k e = ⊎_elim
      (λ lt. scalar-at kinds s m k lt ∙ ap (λ v. if has_copies (kinds k) then v else scalar s k) e ∙ sym (scalar-at kinds s m' k lt))
      (λ le. get_or_past (now m).scalars k (pos 0) (omega (arith, le, state-scalars kinds s m)) ∙ sym (get_or_past (now m').scalars k (pos 0) (omega (arith, le, state-scalars kinds s m'))))
      (cases_lt k (length s.scalars))

  chain : {A B C : Type 0} (x : Result A Cause) (f : A → Result B Cause) (g : B → Result C Cause) → x >>= (λ a. f a >>= g) ≡ (x >>= f) >>= g
  chain (Ok a) f g = refl
  chain (Err c) f g = refl

  -- the value of an element, by its place
  abbrev valued : Storage → ℕ → Result ℕ Cause → Result ℤ Cause
  valued m a r = r >>= (λ k. Ok (get_or (array (now m) a).elements k (pos 0)))

  pub element_value : (free : ℕ → Bool) (m : Storage) (a : ℕ) (ts : Terms) → AreFixedTerms kinds free ts
      → value [] (now m) (Element a ts) ≡ valued m a (values [] s ts >>= place_in s a)
  element_value free m a ts h = chain (values [] (now m) ts) (place_in (now m) a) (λ k. Ok (get_or (array (now m) a).elements k (pos 0))) ∙ ap (valued m a) (place_now free m a ts h)

  here : (x : Spot) → Contains (x ∷ []) x
  here x = (0, omega arith, refl)

  valued_near : (m m' : Storage) (a : ℕ) (r : Result ℕ Cause) → has_copies (kinds a) ≡ false → AgreeOn (element_spot a r) m m' → valued m a r ≡ valued m' a r
  valued_near m m' a (Ok p) c agree = ap Ok (element_now m m' a p c (agree (record { row = a; at = p }) (here (record { row = a; at = p }))))
  valued_near m m' a (Err e) c agree = refl

  module _ (free : ℕ → Bool) (own : Option ℕ) (m m' : Storage) (agreed : (k : ℕ) → own ≡ Some k → read m (scalar_at k) ≡ read m' (scalar_at k)) where
    scalar_near : (k : ℕ) → MayStand kinds free own k → AgreeOn (spots_in kinds s (Scalar k)) m m' → scalar (now m) k ≡ scalar (now m') k
    scalar_near k h agree = by_cases (has_copies (kinds k))
        (λ t. ⊎_elim
        (λ e. scalar_now m m' k (agree (scalar_at k)
        (subst (λ b. Contains (if b then scalar_at k ∷ [] else []) (scalar_at k)) (sym (e ∙ t)) (here (scalar_at k)))))
        (λ e. scalar_now m m' k (agreed k e))
        h.1)
        (λ f. fixed-scalar kinds s m k f ∙ sym (fixed-scalar kinds s m' k f))

    mutual
      pub value_by_spots : (t : Term) → Stands kinds free own t → AgreeOn (spots_in kinds s t) m m' → value [] (now m) t ≡ value [] (now m') t
      value_by_spots (Number v) h agree = refl
      value_by_spots (Scalar k) h agree = ap Ok (scalar_near k h agree)
      value_by_spots (Index k) h agree = refl
      value_by_spots (Element a ts) h agree =
          element_value free m a ts h.1 ∙ valued_near m m' a (values [] s ts >>= place_in s a) h.0 agree ∙ sym (element_value free m' a ts h.1)
      value_by_spots (Section a subs) h agree = refl
      value_by_spots (Apply o ts) h agree = ap (λ vs. vs >>= operated o) (values_by_spots ts h agree)
      value_by_spots (Reduce o t) h agree = absurd h

      pub values_by_spots : (ts : Terms) → AllStand kinds free own ts → AgreeOn (all_spots kinds s ts) m m' → values [] (now m) ts ≡ values [] (now m') ts
      values_by_spots NoTerm h agree = refl
      values_by_spots (More t ts) h agree = ap₂ (λ x xs. with_more x xs)
          (value_by_spots t h.0 (λ spot c. agree spot (Contains-append_left (spots_in kinds s t) (all_spots kinds s ts) spot c)))
          (values_by_spots ts h.1 (λ spot c. agree spot (Contains-append_right (spots_in kinds s t) (all_spots kinds s ts) spot c)))

  -- an assignment by what it reads, and by its own scalar
  abbrev pub AssigningStands : (ℕ → Bool) → Assigning → Type 0
  AssigningStands free (ToScalar k t) = (has_copies (kinds k) ≡ true) × Stands kinds free (Some k) t × RightKind kinds free k t (kinds k)
  AssigningStands free (ToElement a ts t) = (has_copies (kinds a) ≡ false) × AreFixedTerms kinds free ts × Stands kinds free None t

  pub effect_by_spots : (free : ℕ → Bool) (line : ℕ) (x : Assigning) (m m' : Storage) → AssigningStands free x
      → AgreeOn (spots_read kinds s x ++ spots_written kinds s x) m m' → effect_in line x (now m) ≡ effect_in line x (now m')
  effect_by_spots free line (ToScalar k t) m m' h agree =
      ap (scalar_effect line k) (value_by_spots free (Some k) m m'
      (λ j e. let same : k ≡ j = cc in subst (λ q. read m (scalar_at q) ≡ read m' (scalar_at q)) same (agree (scalar_at k) (Contains-append_right (spots_in kinds s t) (scalar_at k ∷ []) (scalar_at k) (here (scalar_at k)))))
      t h.1 (λ spot c. agree spot (Contains-append_left (spots_in kinds s t) (scalar_at k ∷ []) spot c)))
  effect_by_spots free line (ToElement a ts t) m m' h agree =
      ap₂ (element_effect line a) (place_now free m a ts h.1 ∙ sym (place_now free m' a ts h.1))
      (value_by_spots free None m m' (λ j e. absurd cc) t h.2
      (λ spot c. agree spot (Contains-append_left (spots_in kinds s t) (element_spot a (values [] s ts >>= place_in s a)) spot c)))

  -- and writes what it names as written
  scalar_put : (line k : ℕ) (r : Result ℤ Cause) (spot : Spot) (v : ℤ) → scalar_effect line k r ≡ Put spot v → scalar_at k ≡ spot
  scalar_put line k (Ok w) spot v e = cc
  scalar_put line k (Err c) spot v e = absurd cc

  element_put : (line a : ℕ) (p : Result ℕ Cause) (r : Result ℤ Cause) (spot : Spot) (v : ℤ) → element_effect line a p r ≡ Put spot v → Contains (element_spot a p) spot
  element_put line a (Ok k) (Ok w) spot v e = let same : record { row = a; at = k } ≡ spot = cc in subst (λ q. Contains (record { row = a; at = k } ∷ []) q) same (here (record { row = a; at = k }))
  element_put line a (Ok k) (Err c) spot v e = absurd cc
  element_put line a (Err c) r spot v e = absurd cc

  pub put_is_written : (free : ℕ → Bool) (line : ℕ) (x : Assigning) (m : Storage) (spot : Spot) (v : ℤ) → AssigningStands free x → effect_in line x (now m) ≡ Put spot v
      → Contains (spots_written kinds s x) spot
  put_is_written free line (ToScalar k t) m spot v h e = subst (λ q. Contains (scalar_at k ∷ []) q) (scalar_put line k (value [] (now m) t) spot v e) (here (scalar_at k))
  put_is_written free line (ToElement a ts t) m spot v h e =
      element_put line a (values [] s ts >>= place_in s a) (value [] (now m) t) spot v (ap (λ p. element_effect line a p (value [] (now m) t)) (sym (place_now free m a ts h.1)) ∙ e)
