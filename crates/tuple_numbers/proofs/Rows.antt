-- Sums of one number of each list.
use Rattle.std.proofs.Common.{◌≡◌, ℕ, zero, suc, ◌+◌, ◌-◌, ◌*◌, ◌/◌, ◌%◌, ◌<◌, ◌≤◌, List, [], ◌∷◌, ◌++◌, All, map, take, drop, length, length-append, get_or, Option, Some, None, ◌^◌, refl, sym, ◌∙◌, ap, subst, arith}
use Rattle.std.proofs.Math.Nat.{mod-add-div}
use Rattle.std.proofs.Math.Seq.{drop-append-add, drop-append_seam, take-append_seam}
use Rattle.std.proofs.lemmas.List.{drop_more, drop-append-le, drop-map, get_or-append-add, get_or_append_left, get_or-map, length-map, length-drop}
use Rattle.std.proofs.lemmas.List.Elements.{All-drop, All-head, All-tail}
use Rattle.std.proofs.lemmas.List.FromFn.{length-range_with_len}
use Rattle.std.proofs.lemmas.Nat.{div_below, mod_below}
use Rattle.std.specs.List.{range_with_len}
use Rattle.hpf_base.proofs.Ranges.{map-range_shifted, range_with_len-add}
use Rattle.axis_products.proofs.Products.{some_factor}
use Rattle.tuple_numbers.specs.Runs.{reach}
use Rattle.tuple_numbers.specs.Sums.{rows, sums}

pub length-rows : (ps after : List ℕ) → length (rows after ps) ≡ length ps * length after
length-rows ps [] = let none : List ℕ = [] in let e : length none ≡ 0 = refl in omega (arith, e)
length-rows ps (n ∷ after) =
    let a = length-append (map (λ p. n + p) ps) (rows after ps) in
    let b = length-map ps (λ p. n + p) in
    let c = length-rows ps after in
    let d : length ps * suc (length after) ≡ length ps + length ps * length after = omega arith in
    a ∙ (λ i. b i + c i) ∙ sym d

-- the rest of a row
pub row-of : (ps after : List ℕ) (row skip : ℕ) → row < length after → skip ≤ length ps
    → take (length ps - skip) (drop (row * length ps + skip) (rows after ps)) ≡ map (λ p. get_or after row 0 + p) (drop skip ps)
row-of ps [] row skip lt le = let none : List ℕ = [] in let e : length none ≡ 0 = refl in absurd (omega (arith, e, lt))
row-of ps (n ∷ after) zero skip lt le =
    let front = map (λ p. n + p) ps in
    let rest = rows after ps in
    let long : length front ≡ length ps = length-map ps (λ p. n + p) in
    let at : zero * length ps + skip ≡ skip = omega arith in
    let left : length ps - skip ≡ length (drop skip front) = (let d = length-drop skip front in omega (arith, d, long)) in
    ap (λ k. take (length ps - skip) (drop k (front ++ rest))) at
    ∙ ap (take (length ps - skip)) (drop-append-le skip front rest (omega (arith, long, le)))
    ∙ ap (λ k. take k (drop skip front ++ rest)) left
    ∙ take-append_seam (drop skip front) rest
    ∙ drop-map (λ p. n + p) skip ps
row-of ps (n ∷ after) (suc row) skip lt le =
    let front = map (λ p. n + p) ps in
    let rest = rows after ps in
    let long : length front ≡ length ps = length-map ps (λ p. n + p) in
    let at : suc row * length ps + skip ≡ length front + (row * length ps + skip) = omega (arith, long) in
    ap (λ k. take (length ps - skip) (drop k (front ++ rest))) at
    ∙ ap (take (length ps - skip)) (drop-append-add front rest (row * length ps + skip))
    ∙ row-of ps after row skip (let m : suc row < suc (length after) = lt in omega (arith, m)) le

-- one number
pub element-of : (ps after : List ℕ) (q r : ℕ) → q < length after → r < length ps → get_or (rows after ps) (q * length ps + r) 0 ≡ get_or after q 0 + get_or ps r 0
element-of ps [] q r lt within = let none : List ℕ = [] in let e : length none ≡ 0 = refl in absurd (omega (arith, e, lt))
element-of ps (n ∷ after) zero r lt within =
    let front = map (λ p. n + p) ps in
    let long : length front ≡ length ps = length-map ps (λ p. n + p) in
    let at : zero * length ps + r ≡ r = omega arith in
    ap (λ k. get_or (front ++ rows after ps) k 0) at ∙ get_or_append_left front (rows after ps) 0 r (omega (arith, long, within))
    ∙ get_or-map (λ p. n + p) ps r 0 0 within
element-of ps (n ∷ after) (suc q) r lt within =
    let front = map (λ p. n + p) ps in
    let long : length front ≡ length ps = length-map ps (λ p. n + p) in
    let at : suc q * length ps + r ≡ length front + (q * length ps + r) = omega (arith, long) in
    ap (λ k. get_or (front ++ rows after ps) k 0) at ∙ get_or-append-add front (rows after ps) (q * length ps + r) 0
    ∙ element-of ps after q r (let m : suc q < suc (length after) = lt in omega (arith, m)) within

pub record IsAt (ps after : List ℕ) (i : ℕ) : Type 0 where
  pub some : 0 < length ps
  pub row : i / length ps < length after
  pub place : i % length ps < length ps
  pub split : i / length ps * length ps + i % length ps ≡ i
  pub value : get_or (rows after ps) i 0 ≡ get_or after (i / length ps) 0 + get_or ps (i % length ps) 0

pub is-at : (ps after : List ℕ) (i : ℕ) → i < length (rows after ps) → IsAt ps after i
is-at ps after i lt =
    let long = length-rows ps after in
    let below : i < length after * length ps = omega (arith, lt, long) in
    let some : 0 < length ps = some_factor (length ps) (length after) i (omega (arith, below)) in
    let row : i / length ps < length after = div_below i (length ps) (length after) some below in
    let place : i % length ps < length ps = mod_below i (length ps) some in
    let split : i / length ps * length ps + i % length ps ≡ i = (let h = mod-add-div i (length ps) in omega (arith, h)) in
    record {
      some = some;
      row = row;
      place = place;
      split = split;
      value = ap (λ k. get_or (rows after ps) k 0) (sym split) ∙ element-of ps after (i / length ps) (i % length ps) row place;
    }

-- the numbers of one list alone
pub alone : (ps : List ℕ) → sums (ps ∷ []) ≡ ps
alone [] = refl
alone (p ∷ ps) = let e : 0 + p ≡ p = omega arith in λ i. e i ∷ alone ps i

pub some-sums : (pss : List (List ℕ)) → All (λ ps. 0 < length ps) pss → 0 < length (sums pss)
some-sums [] all = let one : List ℕ = 0 ∷ [] in let e : length one ≡ 1 = refl in omega (arith, e)
some-sums (ps ∷ pss) all =
    let long = length-rows ps (sums pss) in
    let first = All-head (λ ps. 0 < length ps) ps pss all in
    let rest = some-sums pss (All-tail (λ ps. 0 < length ps) ps pss all) in
    let some : 0 < length ps * length (sums pss) = product-some (length ps) (length (sums pss)) first rest in
    omega (arith, long, some)
  where
    product-some : (a b : ℕ) → 0 < a → 0 < b → 0 < a * b
    product-some zero b x y = absurd (omega (arith, x))
    product-some (suc a) b x y = omega (arith, y)

-- ---- one list more

module _ {V : Type 0} (items : V → List ℕ) (vs : List V) (i : ℕ) (v : V) (inside : i < length vs) (is : v ≡ get_or vs i v) where
  pub next : map items (drop i vs) ≡ items v ∷ map items (drop (i + 1) vs)
  next = ap (map items) (drop_more vs i v inside) ∙ ap (λ w. items w ∷ map items (drop (i + 1) vs)) (sym is)

  pub next-sums : sums (map items (drop i vs)) ≡ rows (sums (map items (drop (i + 1) vs))) (items v)
  next-sums = ap sums next

  pub next-at : (left : ℕ) → left < length (sums (map items (drop i vs))) → IsAt (items v) (sums (map items (drop (i + 1) vs))) left
  next-at left lt = is-at (items v) (sums (map items (drop (i + 1) vs))) left (subst (λ xs. left < length xs) next-sums lt)

  pub next-value : (left sum whole : ℕ) → left < length (sums (map items (drop i vs))) → sum + get_or (sums (map items (drop i vs))) left 0 ≡ whole
      → sum + get_or (items v) (left % length (items v)) 0 + get_or (sums (map items (drop (i + 1) vs))) (left / length (items v)) 0 ≡ whole
  next-value left sum whole lt value =
      let here = (next-at left lt).value in
      let same : get_or (sums (map items (drop i vs))) left 0 ≡ get_or (rows (sums (map items (drop (i + 1) vs))) (items v)) left 0 = ap (λ xs. get_or xs left 0) next-sums in
      omega (arith, here, same, value)

  pub next-count : (count total : ℕ) → count * length (sums (map items (drop i vs))) ≡ total → count * length (items v) * length (sums (map items (drop (i + 1) vs))) ≡ total
  next-count count total so_far =
      let long : length (sums (map items (drop i vs))) ≡ length (items v) * length (sums (map items (drop (i + 1) vs))) = ap length next-sums ∙ length-rows (items v) (sums (map items (drop (i + 1) vs))) in
      let grouped : count * length (items v) * length (sums (map items (drop (i + 1) vs))) ≡ count * (length (items v) * length (sums (map items (drop (i + 1) vs)))) = omega arith in
      grouped ∙ ap (λ n. count * n) (sym long) ∙ so_far

  pub next-fits : (count total : ℕ) → All (λ ps. 0 < length ps) (map items vs) → total < 2 ^ 64 → count * length (sums (map items (drop i vs))) ≡ total → count * length (items v) < 2 ^ 64
  next-fits count total some few so_far =
      let all : All (λ ps. 0 < length ps) (map items (drop (i + 1) vs)) = subst (All (λ ps. 0 < length ps)) (drop-map items (i + 1) vs) (All-drop (λ ps. 0 < length ps) (i + 1) (map items vs) some) in
      let least = some-sums (map items (drop (i + 1) vs)) all in
      let whole = next-count count total so_far in
      let most : count * length (items v) ≤ length (sums (map items (drop (i + 1) vs))) * (count * length (items v)) = times-some (length (sums (map items (drop (i + 1) vs)))) (count * length (items v)) least in
      omega (arith, most, whole, few)
    where
      times-some : (e m : ℕ) → 0 < e → m ≤ e * m
      times-some zero m some = absurd (omega (arith, some))
      times-some (suc e) m some = omega arith

-- ---- the rest of a row

pub range-rest : (first start skip width : ℕ) → skip ≤ width → map (λ p. first + p) (drop skip (range_with_len start width)) ≡ range_with_len (first + start + skip) (width - skip)
range-rest first start skip width le =
    let split : width ≡ skip + (width - skip) = omega (arith, le) in
    let long : skip ≡ length (range_with_len start skip) = sym (length-range_with_len start skip) in
    ap (λ n. map (λ p. first + p) (drop skip (range_with_len start n))) split
    ∙ ap (λ xs. map (λ p. first + p) (drop skip xs)) (range_with_len-add start skip (width - skip))
    ∙ ap (λ k. map (λ p. first + p) (drop k (range_with_len start skip ++ range_with_len (start + skip) (width - skip)))) long
    ∙ ap (map (λ p. first + p)) (drop-append_seam (range_with_len start skip) (range_with_len (start + skip) (width - skip)))
    ∙ map-range_shifted (start + skip) (first + start + skip) (width - skip) (λ p. first + p) (λ j low high. omega arith)

pub record IsNear (ps after : List ℕ) (width from : ℕ) : Type 0 where
  pub some : 0 < width
  pub row : from / width < length after
  pub place : from % width < width
  pub rest : map (λ p. get_or after (from / width) 0 + p) (drop (from % width) ps) ≡ take (width - from % width) (drop from (rows after ps))

pub is-near : (ps after : List ℕ) (width from : ℕ) → width ≡ length ps → from < length (rows after ps) → IsNear ps after width from
is-near ps after width from long lt = subst (λ w. IsNear ps after w from) (sym long) near
  where
    at : IsAt ps after from
    at = is-at ps after from lt

    near : IsNear ps after (length ps) from
    near = record {
      some = at.some;
      row = at.row;
      place = at.place;
      rest = sym (ap (λ k. take (length ps - from % length ps) (drop k (rows after ps))) (sym at.split)
          ∙ row-of ps after (from / length ps) (from % length ps) at.row (let a = at.place in omega (arith, a)));
    }

pub reach-some : (near : Option (List ℕ)) (start width : ℕ) → 0 < width → 0 < reach near start width
reach-some None start width some = omega (arith, some)
reach-some (Some ps) start width some = omega arith
