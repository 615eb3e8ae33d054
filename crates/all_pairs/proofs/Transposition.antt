-- Rows as columns: the element b of row a is the element a of column b.
use Rattle.std.proofs.Common.{◌≡◌, ◌≢◌, ℕ, zero, suc, ◌+◌, ◌<◌, List, [], ◌∷◌, ◌++◌, length, set, get_or, replicate, sym, refl, ap, ◌∙◌, arith, length-append}
use Rattle.std.specs.Prelude.{Some, None, slice_get}
use Rattle.std.proofs.lemmas.Option.{slice_get_past, none-some, same_Some}
use Rattle.std.proofs.lemmas.List.{length-replicate}
use Rattle.all_pairs.specs.Rows.{at}
use Rattle.all_pairs.specs.RowSteps.{each_appended, transposed}
use Rattle.all_pairs.proofs.Tables.{AreWide}

pub appended_none : {A : Type 0} (rows : List (List A)) → rows ≡ each_appended rows []
appended_none [] = refl
appended_none (row ∷ rows) = refl

pub appended_count : {A : Type 0} (rows : List (List A)) (xs : List A) → length (each_appended rows xs) ≡ length rows
appended_count [] xs = refl
appended_count (row ∷ rows) [] = refl
appended_count (row ∷ rows) (x ∷ xs) = ap suc (appended_count rows xs)

-- one more element is appended
pub appended_more : {A : Type 0} (rows : List (List A)) (ys : List A) (x : A) (row new : List A) → row ≡ get_or (each_appended rows ys) (length ys) row → new ≡ row ++ x ∷ []
    → set (each_appended rows ys) (length ys) new ≡ each_appended rows (ys ++ x ∷ [])
appended_more [] [] x row new at e = refl
appended_more [] (y ∷ ys) x row new at e = refl
appended_more (r ∷ rows) [] x row new at e = ap (λ l. l ∷ rows) (e ∙ ap (λ l. l ++ x ∷ []) at) ∙ ap (λ l. (r ++ x ∷ []) ∷ l) (appended_none rows)
appended_more (r ∷ rows) (y ∷ ys) x row new at e = ap (λ l. (r ++ y ∷ []) ∷ l) (appended_more rows ys x row new at e)

-- one more row
pub transposed_more : {A : Type 0} (columns rows : List (List A)) (row : List A) → transposed columns (rows ++ row ∷ []) ≡ each_appended (transposed columns rows) row
transposed_more columns [] row = refl
transposed_more columns (r ∷ rows) row = transposed_more (each_appended columns r) rows row

pub transposed_count : {A : Type 0} (columns rows : List (List A)) → length (transposed columns rows) ≡ length columns
transposed_count columns [] = refl
transposed_count columns (r ∷ rows) = transposed_count (each_appended columns r) rows ∙ appended_count columns r

empty_wide : (A : Type 0) (n : ℕ) → AreWide {A = A} 0 (replicate n [])
empty_wide A zero b column e = absurd (none-some column e)
empty_wide A (suc n) zero column e = ap length (sym (same_Some [] column e))
empty_wide A (suc n) (suc b) column e = empty_wide A n b column e

get_end : {A : Type 0} (xs : List A) (x : A) → slice_get (xs ++ x ∷ []) (length xs) ≡ Some x
get_end [] x = refl
get_end (y ∷ xs) x = get_end xs x

get_other : {A : Type 0} (xs : List A) (x : A) (a : ℕ) → a ≢ length xs → slice_get (xs ++ x ∷ []) a ≡ slice_get xs a
get_other [] x zero ne = absurd (ne refl)
get_other [] x (suc a) ne = refl
get_other (y ∷ xs) x zero ne = refl
get_other (y ∷ xs) x (suc a) ne = get_other xs x a (λ e. ne (ap suc e))

module _ {A : Type 0} where
  tail_wide : (k : ℕ) (c : List A) (cs : List (List A)) → AreWide k (c ∷ cs) → AreWide k cs
  tail_wide k c cs h b column e = h (suc b) column e

  new_at : (k : ℕ) (cs : List (List A)) (xs : List A) (b : ℕ) → length cs ≡ length xs → AreWide k cs → at (each_appended cs xs) b k ≡ slice_get xs b
  new_at k [] [] b e h = refl
  new_at k [] (x ∷ xs) b e h = absurd (omega (arith, e))
  new_at k (c ∷ cs) [] b e h = absurd (omega (arith, e))
  new_at k (c ∷ cs) (x ∷ xs) zero e h = ap (slice_get (c ++ x ∷ [])) (sym (h 0 c refl)) ∙ get_end c x
  new_at k (c ∷ cs) (x ∷ xs) (suc b) e h = new_at k cs xs b (omega (arith, e)) (tail_wide k c cs h)

  old_at : (k a : ℕ) (cs : List (List A)) (xs : List A) (b : ℕ) → a ≢ k → AreWide k cs → at (each_appended cs xs) b a ≡ at cs b a
  old_at k a [] xs b ne h = refl
  old_at k a (c ∷ cs) [] b ne h = refl
  old_at k a (c ∷ cs) (x ∷ xs) zero ne h = get_other c x a (λ e. ne (e ∙ h 0 c refl))
  old_at k a (c ∷ cs) (x ∷ xs) (suc b) ne h = old_at k a cs xs b ne (tail_wide k c cs h)

  appended_wide : (k : ℕ) (cs : List (List A)) (xs : List A) → length cs ≡ length xs → AreWide k cs → AreWide (k + 1) (each_appended cs xs)
  appended_wide k [] xs e h b column at = absurd (none-some column at)
  appended_wide k (c ∷ cs) [] e h b column at = absurd (omega (arith, e))
  appended_wide k (c ∷ cs) (x ∷ xs) e h zero column at = ap length (sym (same_Some (c ++ x ∷ []) column at)) ∙ length-append c (x ∷ []) ∙ ap (λ n. n + 1) (h 0 c refl)
  appended_wide k (c ∷ cs) (x ∷ xs) e h (suc b) column at = appended_wide k cs xs (omega (arith, e)) (tail_wide k c cs h) b column at

  -- the rows after the first are as wide as there are columns with it
  rest_wide : (cs : List (List A)) (r : List A) (rows : List (List A)) → AreWide (length cs) (r ∷ rows) → AreWide (length (each_appended cs r)) rows
  rest_wide cs r rows w i row e = w (suc i) row e ∙ sym (appended_count cs r)

  transposed_wide : (k : ℕ) (cs rows : List (List A)) → AreWide k cs → AreWide (length cs) rows → AreWide (k + length rows) (transposed cs rows)
  transposed_wide k cs [] h w b column at = let same : length column ≡ k = h b column at in omega (arith, same)
  transposed_wide k cs (r ∷ rows) h w b column at =
      let wide : length cs ≡ length r = sym (w 0 r refl) in
      let same : length column ≡ (k + 1) + length rows = transposed_wide (k + 1) (each_appended cs r) rows (appended_wide k cs r wide h) (rest_wide cs r rows w) b column at in
      omega (arith, same)

  stays : (k a : ℕ) (cs rows : List (List A)) (b : ℕ) → a < k → AreWide k cs → AreWide (length cs) rows → at (transposed cs rows) b a ≡ at cs b a
  stays k a cs [] b lt h w = refl
  stays k a cs (r ∷ rows) b lt h w =
      let wide : length cs ≡ length r = sym (w 0 r refl) in
      stays (k + 1) a (each_appended cs r) rows b (omega (arith, lt)) (appended_wide k cs r wide h) (rest_wide cs r rows w)
      ∙ old_at k a cs r b (λ e. absurd (omega (arith, lt, e))) h

  beyond : (k j : ℕ) (cs : List (List A)) (b : ℕ) → AreWide k cs → at cs b (k + j) ≡ None
  beyond k j [] b h = refl
  beyond k j (c ∷ cs) zero h = let same : length c ≡ k = h 0 c refl in slice_get_past c (k + j) (omega (arith, same))
  beyond k j (c ∷ cs) (suc b) h = beyond k j cs b (tail_wide k c cs h)

  comes : (rows : List (List A)) (k j : ℕ) (cs : List (List A)) (b : ℕ) → AreWide k cs → AreWide (length cs) rows → at (transposed cs rows) b (k + j) ≡ at rows j b
  comes [] k j cs b h w = beyond k j cs b h
  comes (r ∷ rows) k zero cs b h w =
      let wide : length cs ≡ length r = sym (w 0 r refl) in
      let here : k + 0 ≡ k = omega arith in
      ap (at (transposed (each_appended cs r) rows) b) here
      ∙ stays (k + 1) k (each_appended cs r) rows b (omega arith) (appended_wide k cs r wide h) (rest_wide cs r rows w)
      ∙ new_at k cs r b wide h
  comes (r ∷ rows) k (suc j) cs b h w =
      let wide : length cs ≡ length r = sym (w 0 r refl) in
      let there : k + suc j ≡ (k + 1) + j = omega arith in
      ap (at (transposed (each_appended cs r) rows) b) there
      ∙ comes rows (k + 1) j (each_appended cs r) b (appended_wide k cs r wide h) (rest_wide cs r rows w)

  full : (n : ℕ) (rows : List (List A)) → AreWide n rows → AreWide (length (replicate {A = List A} n [])) rows
  full n rows w i row e = w i row e ∙ sym (length-replicate n [])

  pub transposed_at : (n : ℕ) (rows : List (List A)) (a b : ℕ) → AreWide n rows → at (transposed (replicate n []) rows) b a ≡ at rows a b
  transposed_at n rows a b w =
      let same : a ≡ 0 + a = omega arith in
      ap (at (transposed (replicate n []) rows) b) same ∙ comes rows 0 a (replicate n []) b (empty_wide A n) (full n rows w)

  pub columns_wide : (n : ℕ) (rows : List (List A)) → AreWide n rows → AreWide (length rows) (transposed (replicate n []) rows)
  columns_wide n rows w b column at =
      let same : length column ≡ 0 + length rows = transposed_wide 0 (replicate n []) rows (empty_wide A n) (full n rows w) b column at in
      omega (arith, same)

  pub columns_count : (n : ℕ) (rows : List (List A)) → length (transposed (replicate n []) rows) ≡ n
  columns_count n rows = transposed_count (replicate n []) rows ∙ length-replicate n []
