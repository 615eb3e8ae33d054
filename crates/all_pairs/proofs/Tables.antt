-- Lists and tables by their elements.
use Rattle.std.proofs.Common.{◌≡◌, ℕ, zero, suc, ◌+◌, ◌<◌, List, [], ◌∷◌, ◌++◌, length, map, sym, refl, ap, ◌∙◌, ⊎_elim, ◌⊎◌, inl, inr, arith}
use Rattle.std.specs.Prelude.{Some, slice_get}
use Rattle.std.specs.Option.{option_map}
use Rattle.std.proofs.lemmas.Option.{slice_get-map, none-some, same_Some}
use Rattle.std.proofs.lemmas.List.{length-map}
use Rattle.all_pairs.specs.Rows.{at}

-- each row has so many elements
abbrev pub AreWide : {A : Type 0} → ℕ → List (List A) → Type 0
AreWide {A} n rows = (a : ℕ) (row : List A) → slice_get rows a ≡ Some row → length row ≡ n

-- an element of a list with one more: one that was, or the new one
pub get_more : {A : Type 0} (xs : List A) (y z : A) (k : ℕ) → slice_get (xs ++ y ∷ []) k ≡ Some z → (slice_get xs k ≡ Some z) ⊎ ((k ≡ length xs) × (y ≡ z))
get_more [] y z zero e = inr (refl, same_Some y z e)
get_more [] y z (suc k) e = absurd (none-some z e)
get_more (x ∷ xs) y z zero e = inl e
get_more (x ∷ xs) y z (suc k) e = ⊎_elim (λ w. inl w) (λ w. inr (ap suc w.0, w.1)) (get_more xs y z k e)

-- an element of the front, and one after it
pub get_front : {A : Type 0} (xs ys : List A) (k : ℕ) → k < length xs → slice_get (xs ++ ys) k ≡ slice_get xs k
get_front [] ys k h = absurd (omega (arith, h))
get_front (x ∷ xs) ys zero h = refl
get_front (x ∷ xs) ys (suc k) h = get_front xs ys k (omega (arith, h))

pub get_after : {A : Type 0} (xs ys : List A) (k : ℕ) → slice_get (xs ++ ys) (length xs + k) ≡ slice_get ys k
get_after [] ys k = let same : 0 + k ≡ k = omega arith in ap (slice_get ys) same
get_after (x ∷ xs) ys k =
    let same : suc (length xs) + k ≡ suc (length xs + k) = omega arith in
    ap (slice_get (x ∷ (xs ++ ys))) same ∙ get_after xs ys k

-- lists with the same elements are one
pub one_list : {A : Type 0} (xs ys : List A) → ((k : ℕ) → slice_get xs k ≡ slice_get ys k) → xs ≡ ys
one_list [] [] h = refl
one_list [] (y ∷ ys) h = absurd (none-some y (h 0))
one_list (x ∷ xs) [] h = absurd (none-some x (sym (h 0)))
one_list (x ∷ xs) (y ∷ ys) h =
    let head : x ≡ y = same_Some x y (h 0) in
    let tail : xs ≡ ys = one_list xs ys (λ k. h (suc k)) in
    λ i. head i ∷ tail i

-- and so are tables of as many rows
pub one_table : {A : Type 0} (xs ys : List (List A)) → length xs ≡ length ys → ((a b : ℕ) → at xs a b ≡ at ys a b) → xs ≡ ys
one_table [] [] e h = refl
one_table [] (y ∷ ys) e h = absurd (omega (arith, e))
one_table (x ∷ xs) [] e h = absurd (omega (arith, e))
one_table (x ∷ xs) (y ∷ ys) e h =
    let head : x ≡ y = one_list x y (λ b. h 0 b) in
    let tail : xs ≡ ys = one_table xs ys (omega (arith, e)) (λ a b. h (suc a) b) in
    λ i. head i ∷ tail i

-- the row of an element
pub row_at : {A : Type 0} (rows : List (List A)) (a b : ℕ) (x : A) → at rows a b ≡ Some x → (row : List A) × (slice_get rows a ≡ Some row) × (slice_get row b ≡ Some x)
row_at [] a b x e = absurd (none-some x e)
row_at (row ∷ rows) zero b x e = (row, refl, e)
row_at (row ∷ rows) (suc a) b x e = row_at rows a b x e

-- an element of a table with one more row
pub at_more : {A : Type 0} (rows : List (List A)) (row : List A) (a b : ℕ) (x : A) → at (rows ++ row ∷ []) a b ≡ Some x
    → (at rows a b ≡ Some x) ⊎ ((a ≡ length rows) × (slice_get row b ≡ Some x))
at_more [] row zero b x e = inr (refl, e)
at_more [] row (suc a) b x e = absurd (none-some x e)
at_more (r ∷ rows) row zero b x e = inl e
at_more (r ∷ rows) row (suc a) b x e = ⊎_elim (λ w. inl w) (λ w. inr (ap suc w.0, w.1)) (at_more rows row a b x e)

pub wide_more : {A : Type 0} (n : ℕ) (rows : List (List A)) (row : List A) → AreWide n rows → length row ≡ n → AreWide n (rows ++ row ∷ [])
wide_more n rows row h e a r at = ⊎_elim (λ w. h a r w) (λ w. ap length (sym w.1) ∙ e) (get_more rows row r a at)

-- the table of the images
pub at_map : {A B : Type 0} (f : A → B) (rows : List (List A)) (a b : ℕ) → at (map (map f) rows) a b ≡ option_map f (at rows a b)
at_map f [] a b = refl
at_map f (row ∷ rows) zero b = slice_get-map f row b
at_map f (row ∷ rows) (suc a) b = at_map f rows a b

pub wide_map : {A B : Type 0} (f : A → B) (n : ℕ) (rows : List (List A)) → AreWide n rows → AreWide n (map (map f) rows)
wide_map f n [] h a row e = absurd (none-some row e)
wide_map f n (r ∷ rows) h zero row e = ap length (sym (same_Some (map f r) row e)) ∙ length-map r f ∙ h 0 r refl
wide_map f n (r ∷ rows) h (suc a) row e = wide_map f n rows (λ b s at. h (suc b) s at) a row e

pub wide_of_map : {A B : Type 0} (f : A → B) (n : ℕ) (rows : List (List A)) → AreWide n (map (map f) rows) → AreWide n rows
wide_of_map f n rows h a row e = sym (length-map row f) ∙ h a (map f row) (slice_get-map (map f) rows a ∙ ap (option_map (map f)) e)
