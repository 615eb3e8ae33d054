-- Values joined with those before them: over a row, and over the pieces of nodes where these lie one after another.
use Rattle.std.proofs.Common.{◌≡◌, ℕ, zero, suc, ◌+◌, ◌<◌, ◌≤◌, Bool, true, false, if◌then◌else◌, ℤ, List, [], ◌∷◌, ◌++◌, map, length, take, Option, Some, None, refl, sym, ◌∙◌, ap, subst, arith, ⊎_elim}
use Rattle.std.specs.List.{fold, flat_map, range_with_len}
use Rattle.std.proofs.lemmas.Bool.{cases_eq}
use Rattle.std.proofs.lemmas.List.FromFn.{length-map-range_with_len}
use Rattle.machine_steps.specs.Agrees.{IsFold}
use Rattle.machine_steps.specs.Instr.{Fold}
use Rattle.machine_steps.specs.Layout.{Layout, size_of, owned_by, values_at, piece, IsInBlocks}
use Rattle.machine_steps.specs.Machine.{scan}
use Rattle.machine_steps.specs.Node.{join_options, join_after, join_below, join_all, scan_after}
use Rattle.node_run.proofs.JoinedValues.{join-assoc, join-none, after-join}

-- what is made of the numbers from one on is made of those from the one before it on
map-later : {A : Type 0} (g : ℕ → A) (lo len : ℕ) → map g (range_with_len (lo + 1) len) ≡ map (λ k. g (k + 1)) (range_with_len lo len)
map-later g lo zero = refl
map-later g lo (suc len) = ap (λ l. g (lo + 1) ∷ l) (map-later g (lo + 1) len)

map-same : {A : Type 0} (g h : ℕ → A) (lo len : ℕ) → ((k : ℕ) → g k ≡ h k) → map g (range_with_len lo len) ≡ map h (range_with_len lo len)
map-same g h lo zero e = refl
map-same g h lo (suc len) e = rw (e lo, map-same g h (lo + 1) len e) refl

-- lists in a row are the same, where their fronts are as long
same-front : {A : Type 0} (xs ys us vs : List A) → length xs ≡ length us → xs ++ ys ≡ us ++ vs → (xs ≡ us) × (ys ≡ vs)
same-front [] ys [] vs l e = (refl, e)
same-front [] ys (u ∷ us) vs l e = absurd (omega (arith, l))
same-front (x ∷ xs) ys [] vs l e = absurd (omega (arith, l))
same-front (x ∷ xs) ys (u ∷ us) vs l e =
    let first : x ≡ u = cc in
    let h = same-front xs ys us vs (omega (arith, l)) cc in
    (λ i. first i ∷ h.0 i, h.1)

each-same : {A : Type 0} (f g : ℕ → List A) (len lo : ℕ) → ((p : ℕ) → length (f p) ≡ length (g p)) → flat_map f (range_with_len lo len) ≡ flat_map g (range_with_len lo len)
    → (p : ℕ) → lo ≤ p → p < lo + len → f p ≡ g p
each-same f g zero lo l e p le lt = absurd (omega arith)
each-same f g (suc len) lo l e p le lt =
    let h = same-front (f lo) (flat_map f (range_with_len (lo + 1) len)) (g lo) (flat_map g (range_with_len (lo + 1) len)) (l lo) e in
    ⊎_elim
    (λ (is : lo ≡ p). subst (λ k. f k ≡ g k) is h.0)
    (λ (ne : lo ≡ p → ⊥). each-same f g len (lo + 1) l h.1 p (omega (arith, ne)) (omega arith))
    (cases_eq lo p)

pub length-scan : (f : Fold) (values : List ℤ) → length (scan f values) ≡ length values
length-scan f values = length-map-range_with_len (λ at. fold f.join f.unit (take (at + 1) values)) 0 (length values)

module _ (f : Fold) (is : IsFold f) where
  abbrev J : Option ℤ → Option ℤ → Option ℤ
  J = join_options f.join

  abbrev all : List ℤ → Option ℤ
  all = join_all f.join

  abbrev after : Option ℤ → List ℤ → List ℤ
  after = scan_after f.join f.unit

  -- ---- values joined in order

  all-from : (a : Option ℤ) (values : List ℤ) → fold J a (map Some values) ≡ J a (all values)
  all-from a [] = sym (join-none f is a)
  all-from a (v ∷ values) = all-from (J a (Some v)) values ∙ join-assoc f is a (Some v) (all values) ∙ ap (J a) (sym (all-from (Some v) values))

  all-first : (v : ℤ) (values : List ℤ) → all (v ∷ values) ≡ J (Some v) (all values)
  all-first v values = all-from (Some v) values

  from-unit : (values : List ℤ) (a : ℤ) → fold f.join a values ≡ join_after f.join a (all values)
  from-unit [] a = refl
  from-unit (v ∷ values) a =
      from-unit values (f.join a v) ∙ sym (after-join f is a (Some v) (all values)) ∙ ap (join_after f.join a) (sym (all-first v values))

  -- ---- each joined with those before it

  after-first : (before : Option ℤ) (v : ℤ) (values : List ℤ) → after before (v ∷ values) ≡ join_after f.join f.unit (J before (Some v)) ∷ after (J before (Some v)) values
  after-first before v values =
      ap (λ l. join_after f.join f.unit (J before (Some v)) ∷ l)
      (map-later (λ at. join_after f.join f.unit (J before (all (take (at + 1) (v ∷ values))))) 0 (length values)
      ∙ map-same (λ at. join_after f.join f.unit (J before (all (take (at + 1 + 1) (v ∷ values)))))
      (λ at. join_after f.join f.unit (J (J before (Some v)) (all (take (at + 1) values)))) 0 (length values)
      (λ at. ap (join_after f.join f.unit) (next at)))
    where
      next : (at : ℕ) → J before (all (take (at + 1 + 1) (v ∷ values))) ≡ J (J before (Some v)) (all (take (at + 1) values))
      next at =
          let e : at + 1 + 1 ≡ suc (at + 1) = omega arith in
          ap (λ k. J before (all (take k (v ∷ values)))) e ∙ ap (J before) (all-first v (take (at + 1) values)) ∙ sym (join-assoc f is before (Some v) (all (take (at + 1) values)))

  after-append : (before : Option ℤ) (xs ys : List ℤ) → after before (xs ++ ys) ≡ after before xs ++ after (J before (all xs)) ys
  after-append before [] ys = ap (λ b. after b ys) (sym (join-none f is before))
  after-append before (x ∷ xs) ys =
      after-first before x (xs ++ ys)
      ∙ ap (λ l. join_after f.join f.unit (J before (Some x)) ∷ l)
      (after-append (J before (Some x)) xs ys
      ∙ ap (λ b. after (J before (Some x)) xs ++ after b ys) (join-assoc f is before (Some x) (all xs) ∙ ap (J before) (sym (all-first x xs))))
      ∙ ap (λ l. l ++ after (J before (all (x ∷ xs))) ys) (sym (after-first before x xs))

  length-after : (before : Option ℤ) (values : List ℤ) → length (after before values) ≡ length values
  length-after before values = length-map-range_with_len (λ at. join_after f.join f.unit (J before (all (take (at + 1) values)))) 0 (length values)

  scan-after : (values : List ℤ) → scan f values ≡ after None values
  scan-after values = map-same (λ at. fold f.join f.unit (take (at + 1) values)) (λ at. join_after f.join f.unit (all (take (at + 1) values))) 0 (length values)
      (λ at. from-unit (take (at + 1) values) f.unit)

  -- pieces in a row: each is joined with those before it
  after-pieces : (pieces : ℕ → List ℤ) (len lo : ℕ) → after (join_below f.join (λ p. all (pieces p)) lo) (flat_map pieces (range_with_len lo len))
      ≡ flat_map (λ p. after (join_below f.join (λ q. all (pieces q)) p) (pieces p)) (range_with_len lo len)
  after-pieces pieces zero lo = refl
  after-pieces pieces (suc len) lo =
      let e : suc lo ≡ lo + 1 = omega arith in
      after-append (join_below f.join (λ p. all (pieces p)) lo) (pieces lo) (flat_map pieces (range_with_len (lo + 1) len))
      ∙ ap (λ l. after (join_below f.join (λ q. all (pieces q)) lo) (pieces lo) ++ l)
      (ap (λ k. after (join_below f.join (λ p. all (pieces p)) k) (flat_map pieces (range_with_len (lo + 1) len))) e ∙ after-pieces pieces len (lo + 1))

  -- ---- in blocks

  length-values : (P : ℕ → Bool) (xs ys : List ℤ) (lo : ℕ) → length xs ≡ length ys → length (values_at P lo xs) ≡ length (values_at P lo ys)
  length-values P [] [] lo e = refl
  length-values P [] (y ∷ ys) lo e = absurd (omega (arith, e))
  length-values P (x ∷ xs) [] lo e = absurd (omega (arith, e))
  length-values P (x ∷ xs) (y ∷ ys) lo e = by_test (P lo) (length-values P xs ys (lo + 1) (omega (arith, e)))
    where
      by_test : (b : Bool) → length (values_at P (lo + 1) xs) ≡ length (values_at P (lo + 1) ys)
          → length (if b then x ∷ values_at P (lo + 1) xs else values_at P (lo + 1) xs) ≡ length (if b then y ∷ values_at P (lo + 1) ys else values_at P (lo + 1) ys)
      by_test true h = ap suc h
      by_test false h = h

  -- a node's piece of the row that is scanned is its piece, scanned after what those before it have
  pub scan-piece : (count : ℕ) (layout : Layout) → IsInBlocks count layout → (row : List ℤ) → length row ≡ size_of layout → (p : ℕ) → p < count
      → piece (owned_by layout) p (scan f row) ≡ after (join_below f.join (λ q. all (piece (owned_by layout) q row)) p) (piece (owned_by layout) p row)
  scan-piece count layout blocks row long p lt =
      each-same (λ q. piece (owned_by layout) q (scan f row)) (λ q. after (join_below f.join (λ r. all (piece (owned_by layout) r row)) q) (piece (owned_by layout) q row))
      count 0
      (λ q. length-values (owned_by layout q) (scan f row) row 0 (length-scan f row)
      ∙ sym (length-after (join_below f.join (λ r. all (piece (owned_by layout) r row)) q) (piece (owned_by layout) q row)))
      (blocks (scan f row) (length-scan f row ∙ long)
      ∙ scan-after row
      ∙ ap (after None) (sym (blocks row long))
      ∙ after-pieces (λ q. piece (owned_by layout) q row) count 0)
      p (omega arith) (omega arith)
