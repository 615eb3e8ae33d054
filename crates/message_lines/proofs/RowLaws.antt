-- Rows and their sizes.
use Rattle.std.proofs.Common.{◌≡◌, ℕ, zero, suc, ◌+◌, ◌<◌, ◌≤◌, ◌⊎◌, inl, inr, Bool, true, false, if◌then◌else◌, nat_lt, List, [], ◌∷◌, ◌++◌, Option, Some, None, get_or, length, take, slice_get, refl, sym, ◌∙◌, ap, subst, arith}
use Rattle.std.proofs.lemmas.Bool.{cases_lt, ltb-false, ltb-true}
use Rattle.std.proofs.lemmas.List.{take_all, take_more}
use Rattle.std.proofs.lemmas.Option.{get_or_from_slice_get, none-some, same_Some, slice_get-get_or, slice_get_within}
use Rattle.hpf_base.specs.ElementOrder.{extents_of, product}
use Rattle.machine_steps.specs.Layout.{Layout, size_of, sizes}
use Rattle.code_meaning.specs.Beside.{Anchor, aligned_layout_of, lies_by}
use Rattle.message_lines.specs.Grown.{among}

-- ---- the first rows

-- one more of them
pub take-row : {X : Type 0} (xs : List X) (k : ℕ) (x : X) → Some x ≡ slice_get xs k → take k xs ++ x ∷ [] ≡ take (k + 1) xs
take-row xs k x is =
    ap (λ y. take k xs ++ y ∷ []) (sym (get_or_from_slice_get xs k x x (sym is))) ∙ sym (take_more xs k x (slice_get_within xs k x (sym is)))

-- there is none more
pub take-none : {X : Type 0} (xs : List X) (k : ℕ) → None ≡ slice_get xs k → take k xs ≡ take (k + 1) xs
take-none {X = X} xs k none = by_order (cases_lt k (length xs))
  where
    inside : (ys : List X) (n : ℕ) → n < length ys → None ≡ slice_get ys n → ⊥
    inside [] n lt e = omega arith
    inside (y ∷ ys) n lt e = none-some (get_or (y ∷ ys) n y) (e ∙ slice_get-get_or (y ∷ ys) n y lt)

    by_order : (k < length xs) ⊎ (length xs ≤ k) → take k xs ≡ take (k + 1) xs
    by_order (inl below) = absurd (inside xs k below none)
    by_order (inr past) = take_all k xs past ∙ sym (take_all (k + 1) xs (omega arith))

-- those that are among them
row-first : {X : Type 0} (xs : List X) (count row : ℕ) → row < count → slice_get xs row ≡ slice_get (take count xs) row
row-first xs zero row lt = absurd (omega (arith, lt))
row-first [] (suc count) row lt = refl
row-first (x ∷ xs) (suc count) zero lt = refl
row-first (x ∷ xs) (suc count) (suc row) lt = row-first xs count row (omega (arith, lt))

row-past : {X : Type 0} (xs : List X) (count row : ℕ) → count ≤ row → None ≡ slice_get (take count xs) row
row-past xs zero row le = refl
row-past [] (suc count) row le = refl
row-past (x ∷ xs) (suc count) zero le = absurd (omega (arith, le))
row-past (x ∷ xs) (suc count) (suc row) le = row-past xs count row (omega (arith, le))

-- a copy lies by them
pub lies-by-first : (nodes count : ℕ) (layouts : List Layout) (anchor : Option Anchor) (ns : List ℕ)
    → aligned_layout_of nodes layouts (among count anchor) ns ≡ aligned_layout_of nodes (take count layouts) anchor ns
lies-by-first nodes count layouts None ns = refl
lies-by-first nodes count layouts (Some a) ns = by (nat_lt a.row count) refl
  where
    by : (t : Bool) → nat_lt a.row count ≡ t
        → aligned_layout_of nodes layouts (if t then Some a else None) ns ≡ lies_by nodes ns a.subscripts (slice_get (take count layouts) a.row)
    by true is = ap (lies_by nodes ns a.subscripts) (row-first layouts count a.row (ltb-true a.row count is))
    by false is = ap (lies_by nodes ns a.subscripts) (row-past layouts count a.row (ltb-false a.row count is))

-- ---- a position in a row

pub row-inside : (layouts : List Layout) (row at : ℕ) (l : Layout) → Some l ≡ slice_get layouts row → at < get_or (sizes layouts) row 0 → at < product (extents_of l.shape)
unfolding size_of
row-inside [] row at l is lt = absurd (omega (arith, lt))
row-inside (x ∷ layouts) zero at l is lt = subst (λ y. at < size_of y) (sym (same_Some l x is)) lt
row-inside (x ∷ layouts) (suc row) at l is lt = row-inside layouts row at l is lt
