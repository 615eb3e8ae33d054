-- The subscripts that are settled so far, and those that are left.
use Rattle.std.proofs.Common.{◌≡◌, ℕ, suc, ◌+◌, ◌<◌, ◌++◌, Bool, true, false, ◌&&◌, if◌then◌else◌, ℤ, pos, List, [], ◌∷◌, length, map, drop, get_or, Option, option_map, Some, None, refl, sym, ◌∙◌, ap, arith, append_assoc}
use Rattle.std.specs.Option.{is_some}
use Rattle.std.proofs.lemmas.Bool.{true≢false}
use Rattle.std.proofs.lemmas.List.{drop_more}
use Rattle.std.proofs.lemmas.Option.{same_Some}
use Rattle.mappings.specs.declared.mapping.AlignDim.{AlignDim}
use Rattle.aligned_copies.specs.Beside.{are_inside, is_inside, settled}
use Rattle.copy_anchors.specs.declared.anchor.Subscript.{Subscript}
use Rattle.copy_anchors.specs.Anchors.{align_of}
use Rattle.copy_anchors.specs.Settled.{inside_subscript, inside_subscripts}

-- one for each dimension
pub other_lengths : (ns : List ℕ) (ls es : List ℤ) (xs : List AlignDim) → (length ls ≡ length xs → length es ≡ length xs → ⊥) → inside_subscripts ns ls es xs ≡ None
other_lengths ns ls es xs other = ap (λ b. if b then Some (map (settled ns) xs) else None) (not-inside ls es xs other)
  where
    not-inside : (ls es : List ℤ) (xs : List AlignDim) → (length ls ≡ length xs → length es ≡ length xs → ⊥) → are_inside ns ls es xs ≡ false
    not-inside [] [] [] other = absurd (other refl refl)
    not-inside [] [] (x ∷ xs) other = refl
    not-inside [] (e ∷ es) xs other = refl
    not-inside (l ∷ ls) [] xs other = refl
    not-inside (l ∷ ls) (e ∷ es) [] other = refl
    not-inside (l ∷ ls) (e ∷ es) (x ∷ xs) other =
        by (is_inside ns l e x) (are_inside ns ls es xs) (not-inside ls es xs (λ p q. other (ap suc p) (ap suc q)))
      where
        by : (t u : Bool) → u ≡ false → (t && u) ≡ false
        by true u h = h
        by false u h = refl

module _ (ns : List ℕ) (l e : ℤ) (x : AlignDim) (ls es : List ℤ) (xs : List AlignDim) where
  first-some : (a : AlignDim) → Some a ≡ inside_subscript ns l e x → option_map (λ rest. a ∷ rest) (inside_subscripts ns ls es xs) ≡ inside_subscripts ns (l ∷ ls) (e ∷ es) (x ∷ xs)
  first-some a = by (is_inside ns l e x) (are_inside ns ls es xs)
    where
      by : (t u : Bool) → Some a ≡ (if t then Some (settled ns x) else None)
          → option_map (λ rest. a ∷ rest) (if u then Some (map (settled ns) xs) else None) ≡ (if t && u then Some (settled ns x ∷ map (settled ns) xs) else None)
      by true true h = ap (λ s. Some (s ∷ map (settled ns) xs)) (same_Some a (settled ns x) h)
      by true false h = refl
      by false u h = absurd (true≢false (ap is_some h))

  first-none : None ≡ inside_subscript ns l e x → None ≡ inside_subscripts ns (l ∷ ls) (e ∷ es) (x ∷ xs)
  first-none = by (is_inside ns l e x) (are_inside ns ls es xs)
    where
      by : (t u : Bool) → None ≡ (if t then Some (settled ns x) else None) → None ≡ (if t && u then Some (settled ns x ∷ map (settled ns) xs) else None)
      by true u h = absurd (true≢false (sym (ap is_some h)))
      by false u h = refl

put-before : (done : List AlignDim) (a : AlignDim) (o : Option (List AlignDim))
    → option_map (λ rest. (done ++ a ∷ []) ++ rest) o ≡ option_map (λ rest. done ++ rest) (option_map (λ rest. a ∷ rest) o)
put-before done a None = refl
put-before done a (Some rest) = ap Some (append_assoc done (a ∷ []) rest)

-- what is settled so far, before what is left
module _ (ns : List ℕ) (ls es : List ℤ) (xs : List Subscript) (k : ℕ) (d : Subscript) (below : k < length xs) (lower : length ls ≡ length xs) (extent : length es ≡ length xs) where
  left : inside_subscripts ns (drop k ls) (drop k es) (map align_of (drop k xs))
      ≡ inside_subscripts ns (get_or ls k (pos 0) ∷ drop (k + 1) ls) (get_or es k (pos 0) ∷ drop (k + 1) es) (align_of (get_or xs k d) ∷ map align_of (drop (k + 1) xs))
  left =
      let p : k < length ls = omega (arith, below, lower) in
      let q : k < length es = omega (arith, below, extent) in
      λ i. inside_subscripts ns (drop_more ls k (pos 0) p i) (drop_more es k (pos 0) q i) (map align_of (drop_more xs k d below i))

  pub settled_next : (done : List AlignDim) (a : AlignDim) → Some a ≡ inside_subscript ns (get_or ls k (pos 0)) (get_or es k (pos 0)) (align_of (get_or xs k d))
      → option_map (λ rest. (done ++ a ∷ []) ++ rest) (inside_subscripts ns (drop (k + 1) ls) (drop (k + 1) es) (map align_of (drop (k + 1) xs)))
      ≡ option_map (λ rest. done ++ rest) (inside_subscripts ns (drop k ls) (drop k es) (map align_of (drop k xs)))
  settled_next done a h =
      put-before done a (inside_subscripts ns (drop (k + 1) ls) (drop (k + 1) es) (map align_of (drop (k + 1) xs)))
      ∙ ap (option_map (λ rest. done ++ rest))
      (first-some ns (get_or ls k (pos 0)) (get_or es k (pos 0)) (align_of (get_or xs k d)) (drop (k + 1) ls) (drop (k + 1) es) (map align_of (drop (k + 1) xs)) a h ∙ sym left)

  pub settled_stop : (done : List AlignDim) → None ≡ inside_subscript ns (get_or ls k (pos 0)) (get_or es k (pos 0)) (align_of (get_or xs k d))
      → None ≡ option_map (λ rest. done ++ rest) (inside_subscripts ns (drop k ls) (drop k es) (map align_of (drop k xs)))
  settled_stop done h =
      ap (option_map (λ rest. done ++ rest))
      (first-none ns (get_or ls k (pos 0)) (get_or es k (pos 0)) (align_of (get_or xs k d)) (drop (k + 1) ls) (drop (k + 1) es) (map align_of (drop (k + 1) xs)) h ∙ sym left)
