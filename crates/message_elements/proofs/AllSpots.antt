-- A list in order of just the elements that pass is the filter of all elements.
use Rattle.std.proofs.Common.{◌≡◌, ℕ, zero, suc, ◌+◌, ◌<◌, ◌≤◌, nat_lt, nat_eq, ◌&&◌, ◌||◌, if◌then◌else◌, Bool, true, false, List, [], ◌∷◌, map, filter, get_or, refl, sym, ◌∙◌, ap, arith, eq-eqb, ◌⊎◌, inl, inr}
use Rattle.std.proofs.lemmas.Bool.{ne_eqb, cases_order}
use Rattle.std.proofs.lemmas.Bool.Decides.{nat_tests}
use Rattle.std.proofs.lemmas.List.Folds.{list_any-append}
use Rattle.std.proofs.lemmas.List.Kept.{IsStrictlySortedBy-filter}
use Rattle.std.specs.List.{AllByRecursion, range_with_len}
use Rattle.storage.specs.Storage.{Spot}
use Rattle.storage.specs.Storage.{is_same_spot}
use Rattle.machine_steps.specs.Layout.{Layout, sizes}
use Rattle.machine_steps.specs.Message.{spots_from, all_spots}
use Rattle.message_elements.specs.Ascending.{spot_cmp, Ascends}
use Rattle.message_elements.specs.Elements.{is_among}
use Rattle.message_elements.proofs.Ascending.{Above, above-append, same-true, less-row, less-at, ascends-cons, ascends-nil, ascends-append, one-list}

abbrev in_row : ℕ → ℕ → Spot
in_row row at = record { row = row; at = at }

-- ---- all elements stand in order

row-above : (row at lo len : ℕ) → at < lo → Above (in_row row at) (map (in_row row) (range_with_len lo len))
row-above row at lo zero lt = tt
row-above row at lo (suc len) lt = (less-at row at lo lt, row-above row at (lo + 1) len (omega arith))

row-ascends : (row lo len : ℕ) → Ascends (map (in_row row) (range_with_len lo len))
row-ascends row lo zero = ascends-nil
row-ascends row lo (suc len) =
    ascends-cons (in_row row lo) (map (in_row row) (range_with_len (lo + 1) len)) (row-above row lo (lo + 1) len (omega arith)) (row-ascends row (lo + 1) len)

lower-row : (row at next lo len : ℕ) → row < next → Above (in_row row at) (map (in_row next) (range_with_len lo len))
lower-row row at next lo zero lt = tt
lower-row row at next lo (suc len) lt = (less-row row at next lo lt, lower-row row at next (lo + 1) len lt)

lower-rows : (row at next : ℕ) (ns : List ℕ) → row < next → Above (in_row row at) (spots_from next ns)
lower-rows row at next [] lt = tt
lower-rows row at next (n ∷ ns) lt =
    above-append (in_row row at) (map (in_row next) (range_with_len 0 n)) (spots_from (next + 1) ns) (lower-row row at next 0 n lt) (lower-rows row at (next + 1) ns (omega arith))

row-before : (row lo len next : ℕ) (ns : List ℕ) → row < next → AllByRecursion (λ x. Above x (spots_from next ns)) (map (in_row row) (range_with_len lo len))
row-before row lo zero next ns lt = tt
row-before row lo (suc len) next ns lt = (lower-rows row lo next ns lt, row-before row (lo + 1) len next ns lt)

spots-ascend : (row : ℕ) (ns : List ℕ) → Ascends (spots_from row ns)
spots-ascend row [] = ascends-nil
spots-ascend row (n ∷ ns) =
    ascends-append (map (in_row row) (range_with_len 0 n)) (spots_from (row + 1) ns) (row-ascends row 0 n) (spots-ascend (row + 1) ns)
    (row-before row 0 n (row + 1) ns (omega arith))

-- the elements that pass stand in order
pub filter-ascends : (P : Spot → Bool) (layouts : List Layout) → Ascends (filter P (all_spots layouts))
filter-ascends P layouts = IsStrictlySortedBy-filter spot_cmp P (all_spots layouts) (spots-ascend 0 (sizes layouts))

-- ---- which they are

among-row : (row lo len at : ℕ) → lo ≤ at → is_among (map (in_row row) (range_with_len lo len)) (in_row row at) ≡ nat_lt at (lo + len)
among-row row lo zero at le = grind (arith, nat_tests)
among-row row lo (suc len) at le = by_order (cases_order lo at) (λ (lt : lo < at). among-row row (lo + 1) len at (omega arith))
  where
    by_order : (lo ≡ at) ⊎ ((lo < at) ⊎ (at < lo)) → (lo < at → is_among (map (in_row row) (range_with_len (lo + 1) len)) (in_row row at) ≡ nat_lt at (lo + 1 + len))
        → (is_same_spot (in_row row lo) (in_row row at) || is_among (map (in_row row) (range_with_len (lo + 1) len)) (in_row row at)) ≡ nat_lt at (lo + suc len)
    by_order (inl same) rest =
        let inside : nat_lt at (lo + suc len) ≡ true = grind (arith, nat_tests) in
        ap (λ b. (b && nat_eq lo at) || is_among (map (in_row row) (range_with_len (lo + 1) len)) (in_row row at)) (eq-eqb row row refl)
        ∙ ap (λ b. b || is_among (map (in_row row) (range_with_len (lo + 1) len)) (in_row row at)) (eq-eqb lo at same) ∙ sym inside
    by_order (inr (inl less)) rest =
        let count : lo + 1 + len ≡ lo + suc len = omega arith in
        let other : nat_eq lo at ≡ false = grind (arith, nat_tests) in
        ap (λ b. (b && nat_eq lo at) || is_among (map (in_row row) (range_with_len (lo + 1) len)) (in_row row at)) (eq-eqb row row refl)
        ∙ ap (λ b. b || is_among (map (in_row row) (range_with_len (lo + 1) len)) (in_row row at)) other ∙ rest less ∙ ap (nat_lt at) count
    by_order (inr (inr more)) rest = absurd (omega arith)

other-row : (row lo len : ℕ) (s : Spot) → (row ≡ s.row → ⊥) → is_among (map (in_row row) (range_with_len lo len)) s ≡ false
other-row row lo zero s other = refl
other-row row lo (suc len) s other =
    ap (λ b. (b && nat_eq lo s.at) || is_among (map (in_row row) (range_with_len (lo + 1) len)) s) (ne_eqb row s.row other) ∙ other-row row (lo + 1) len s other

above-rows : (row : ℕ) (ns : List ℕ) (s : Spot) → s.row < row → is_among (spots_from row ns) s ≡ false
above-rows row [] s lt = refl
above-rows row (n ∷ ns) s lt =
    list_any-append (λ x. is_same_spot x s) (map (in_row row) (range_with_len 0 n)) (spots_from (row + 1) ns)
    ∙ ap (λ b. b || is_among (spots_from (row + 1) ns) s) (other-row row 0 n s (λ e. omega arith)) ∙ above-rows (row + 1) ns s (omega arith)

pub both-tests : (a b test : Bool) → ((a && test) || (b && test)) ≡ ((a || b) && test)
both-tests true true true = refl
both-tests true true false = refl
both-tests true false true = refl
both-tests true false false = refl
both-tests false b test = refl

pub or_false : (b : Bool) → (b || false) ≡ b
or_false true = refl
or_false false = refl

among-spots : (row : ℕ) (ns : List ℕ) (k at : ℕ) → is_among (spots_from row ns) (in_row (row + k) at) ≡ nat_lt at (get_or ns k 0)
among-spots row [] k at = grind (arith, nat_tests)
among-spots row (n ∷ ns) zero at =
    let here : row + 0 ≡ row = omega arith in
    let count : 0 + n ≡ n = omega arith in
    ap (λ r. is_among (spots_from row (n ∷ ns)) (in_row r at)) here
    ∙ list_any-append (λ x. is_same_spot x (in_row row at)) (map (in_row row) (range_with_len 0 n)) (spots_from (row + 1) ns)
    ∙ ap (λ b. is_among (map (in_row row) (range_with_len 0 n)) (in_row row at) || b) (above-rows (row + 1) ns (in_row row at) (omega arith))
    ∙ or_false (is_among (map (in_row row) (range_with_len 0 n)) (in_row row at)) ∙ among-row row 0 n at (omega arith) ∙ ap (nat_lt at) count
among-spots row (n ∷ ns) (suc k) at =
    let next : row + suc k ≡ row + 1 + k = omega arith in
    ap (λ r. is_among (spots_from row (n ∷ ns)) (in_row r at)) next
    ∙ list_any-append (λ x. is_same_spot x (in_row (row + 1 + k) at)) (map (in_row row) (range_with_len 0 n)) (spots_from (row + 1) ns)
    ∙ ap (λ b. b || is_among (spots_from (row + 1) ns) (in_row (row + 1 + k) at)) (other-row row 0 n (in_row (row + 1 + k) at) (λ e. omega arith))
    ∙ among-spots (row + 1) ns k at

among-all : (layouts : List Layout) (s : Spot) → is_among (all_spots layouts) s ≡ nat_lt s.at (get_or (sizes layouts) s.row 0)
among-all layouts s =
    let here : 0 + s.row ≡ s.row = omega arith in
    ap (λ r. is_among (all_spots layouts) (in_row r s.at)) (sym here) ∙ among-spots 0 (sizes layouts) s.row s.at

among-filter : (P : Spot → Bool) (xs : List Spot) (s : Spot) → is_among (filter P xs) s ≡ (is_among xs s && P s)
among-filter P [] s = refl
among-filter P (x ∷ xs) s = by_case (P x) refl (is_same_spot x s) refl (among-filter P xs s)
  where
    by_case : (b : Bool) → P x ≡ b → (c : Bool) → is_same_spot x s ≡ c → is_among (filter P xs) s ≡ (is_among xs s && P s)
        → is_among (if b then x ∷ filter P xs else filter P xs) s ≡ ((is_same_spot x s || is_among xs s) && P s)
    by_case true passes true same rest =
        let here : P s ≡ true = ap P (sym (same-true x s same)) ∙ passes in
        ap (λ c. c || is_among (filter P xs) s) same ∙ sym (ap (λ c. (c || is_among xs s) && P s) same ∙ here)
    by_case true passes false same rest =
        ap (λ c. c || is_among (filter P xs) s) same ∙ rest ∙ sym (ap (λ c. (c || is_among xs s) && P s) same)
    by_case false passes true same rest =
        let here : P s ≡ false = ap P (sym (same-true x s same)) ∙ passes in
        rest ∙ and-false (is_among xs s) here ∙ sym (ap (λ c. (c || is_among xs s) && P s) same ∙ here)
      where
        and-false : (b : Bool) → P s ≡ false → (b && P s) ≡ false
        and-false true e = e
        and-false false e = refl
    by_case false passes false same rest = rest ∙ sym (ap (λ c. (c || is_among xs s) && P s) same)

pub is-filter : (P : Spot → Bool) (layouts : List Layout) (xs : List Spot) → Ascends xs
    → ((s : Spot) → is_among xs s ≡ (nat_lt s.at (get_or (sizes layouts) s.row 0) && P s)) → xs ≡ filter P (all_spots layouts)
is-filter P layouts xs ascends same =
    one-list xs (filter P (all_spots layouts)) ascends (filter-ascends P layouts)
    (λ s. same s ∙ ap (λ b. b && P s) (sym (among-all layouts s)) ∙ sym (among-filter P (all_spots layouts) s))
