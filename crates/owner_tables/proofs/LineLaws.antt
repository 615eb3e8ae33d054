-- Values put at equal distances, and values read so.
use Rattle.std.proofs.Common.{◌≡◌, ℕ, suc, ◌+◌, ◌-◌, ◌*◌, ◌^◌, ◌<◌, ◌≤◌, ◌⊎◌, inl, inr, min, ℤ, pos, List, [], ◌∷◌, ◌++◌, append_assoc, get_or, length, map, set, take, drop, refl, sym, ◌∙◌, ap, arith, add-one}
use Rattle.std.proofs.lemmas.Bool.{cases_lt}
use Rattle.std.proofs.lemmas.List.{drop_all, drop_more, get_or-drop, get_or-take, length-drop, length-set, length-take, set_past, take-append-drop, take_all}
use Rattle.std.proofs.lemmas.List.Edits.{sets, sets-eq}
use Rattle.std.proofs.lemmas.List.FromFn.{fill_by_all, map-range_with_len_more}
use Rattle.std.proofs.lemmas.Slice.{put_mid-paste}
use Rattle.std.specs.List.{range_with_len}
use Rattle.owner_tables.specs.Lines.{with_line}
use borrow.Rule.Slice.PartMut.{put_mid}

-- past the end nothing is put
pub with_line-past : (row : List ℤ) (at step : ℕ) (values : List ℤ) → length row ≤ at → with_line row at step values ≡ row
with_line-past row at step [] past = refl
with_line-past row at step (value ∷ values) past =
    ap (λ r. with_line r (at + step) step values) (set_past row at value past) ∙ with_line-past row (at + step) step values (omega (arith, past))

-- ---- one place after the other

with_line-append : (row : List ℤ) (at step : ℕ) (one other : List ℤ)
    → with_line row at step (one ++ other) ≡ with_line (with_line row at step one) (at + length one * step) step other
with_line-append row at step [] other = let here : at ≡ at + 0 * step = omega arith in ap (λ n. with_line row n step other) here
with_line-append row at step (v ∷ one) other =
    with_line-append (set row at v) (at + step) step one other
    ∙ ap (λ n. with_line (with_line (set row at v) (at + step) step one) n step other) (further (length one))
  where
    further : (n : ℕ) → at + step + n * step ≡ at + suc n * step
    further n = omega arith

length-with_line : (row : List ℤ) (at step : ℕ) (values : List ℤ) → length (with_line row at step values) ≡ length row
length-with_line row at step [] = refl
length-with_line row at step (v ∷ values) = length-with_line (set row at v) (at + step) step values ∙ length-set row at v

with_line-sets : (row : List ℤ) (at : ℕ) (values : List ℤ) → with_line row at 1 values ≡ sets row at values
with_line-sets row at [] = refl
with_line-sets row at (v ∷ values) = with_line-sets (set row at v) (at + 1) values ∙ ap (λ n. sets (set row at v) n values) (add-one at)

-- as many as have a place are put at once
pub with_line-run : (row new values : List ℤ) (at count end : ℕ) → at < length row → count ≡ min (length values) (length row - at) → end ≡ count
    → new ≡ take count values → put_mid at end row new ≡ with_line row at 1 values
with_line-run row new values at count end within many ends is =
    put_mid-paste at end row new front count is (omega (arith, ends)) (sym long)
    ∙ ap (λ l. take at row ++ l ++ drop (at + count) row) (take_all count front (omega (arith, long)))
    ∙ ap (λ n. take at row ++ front ++ drop (at + n) row) (sym long)
    ∙ sym (with_line-sets row at front ∙ sets-eq front row at (omega (arith, long, many, within)))
    ∙ sym left
    ∙ sym (with_line-append row at 1 front (drop count values)) ∙ ap (with_line row at 1) (take-append-drop count values)
  where
    front : List ℤ
    front = take count values

    long : length front ≡ count
    long = length-take count values ∙ omega (arith, many)

    by_case : (length row - at < length values) ⊎ (length values ≤ length row - at)
        → with_line (with_line row at 1 front) (at + length front * 1) 1 (drop count values) ≡ with_line row at 1 front
    by_case (inr few) =
        ap (with_line (with_line row at 1 front) (at + length front * 1) 1) (drop_all count values (omega (arith, many, few)))
    by_case (inl many_more) = with_line-past _ _ 1 (drop count values) (omega (arith, length-with_line row at 1 front, long, many, many_more, within))

    left : with_line (with_line row at 1 front) (at + length front * 1) 1 (drop count values) ≡ with_line row at 1 front
    left = by_case (cases_lt (length row - at) (length values))

-- ---- places apart

-- a place that is too great is past the end
pub with_line-step : (row : List ℤ) (place next step : ℕ) (values : List ℤ) → length row < 2 ^ 64 → next ≡ min (place + step) 18446744073709551615
    → with_line row next step values ≡ with_line row (place + step) step values
with_line-step row place next step values few is = by_case (cases_lt 18446744073709551615 (place + step))
  where
    by_case : (18446744073709551615 < place + step) ⊎ (place + step ≤ 18446744073709551615)
        → with_line row next step values ≡ with_line row (place + step) step values
    by_case (inr small) = let same : next ≡ place + step = omega (arith, is, small) in ap (λ n. with_line row n step values) same
    by_case (inl great) =
        with_line-past row next step values (omega (arith, is, great, few)) ∙ sym (with_line-past row (place + step) step values (omega (arith, great, few)))

-- a value put, and the rest after it
pub with_line-next : (row : List ℤ) (place next step : ℕ) (values : List ℤ) (i : ℕ) (value : ℤ) → length row < 2 ^ 64
    → next ≡ min (place + step) 18446744073709551615 → i < length values → value ≡ get_or values i (pos 0)
    → with_line (set row place value) next step (drop (i + 1) values) ≡ with_line row place step (drop i values)
with_line-next row place next step values i value few is within here =
    with_line-step (set row place value) place next step (drop (i + 1) values) (omega (arith, few, length-set row place value)) is
    ∙ ap (λ v. with_line (set row place v) (place + step) step (drop (i + 1) values)) here
    ∙ sym (ap (with_line row place step) (drop_more values i (pos 0) within))

-- ---- values read

-- one value more
pub values-more : (f : ℕ → ℤ) (before xs ys : List ℤ) (y : ℤ) (n : ℕ) → xs ≡ before ++ map f (range_with_len 0 n) → ys ≡ xs ++ y ∷ [] → y ≡ f n
    → ys ≡ before ++ map f (range_with_len 0 (n + 1))
values-more f before xs ys y n made pushed value =
    pushed ∙ ap (λ l. l ++ y ∷ []) made ∙ append_assoc before (map f (range_with_len 0 n)) (y ∷ [])
    ∙ ap (λ v. before ++ (map f (range_with_len 0 n) ++ v ∷ [])) value ∙ ap (λ l. before ++ l) (sym (map-range_with_len_more f 0 n n (omega arith)))

-- a part of a list, one place after the other
pub values-part : (xs : List ℤ) (first step count end : ℕ) → step ≡ 1 → first ≤ length xs → count ≤ length xs - first → end ≡ count
    → take end (drop first xs) ≡ map (λ k. get_or xs (first + k * step) (pos 0)) (range_with_len 0 count)
values-part xs first step count end one from many ends =
    fill_by_all (λ k. get_or xs (first + k * step) (pos 0)) (take end (drop first xs)) count (pos 0)
    (omega (arith, length-take end (drop first xs), length-drop first xs, from, many, ends))
    (λ k below.
    let here : first + k ≡ first + k * step = ap (λ s. first + s) (omega arith ∙ ap (λ s. k * s) (sym one)) in
    get_or-take end (drop first xs) k (pos 0) (omega (arith, below, ends)) ∙ get_or-drop first xs k (pos 0) ∙ ap (λ n. get_or xs n (pos 0)) here)
