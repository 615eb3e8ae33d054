-- The rows of visits, in order, tell the first clash.
use Rattle.std.proofs.Common.{◌≡◌, ℕ, zero, suc, ◌+◌, ◌-◌, ◌*◌, ◌/◌, ◌%◌, ◌<◌, ◌≤◌, ◌⊎◌, inl, inr, ⊎_elim, List, [], ◌∷◌, map, length, get_or, fold, drop, nat_eq, Bool, true, false, ◌&&◌, if◌then◌else◌, Option, Some, None, refl, ap, sym, ◌∙◌, subst, arith, Contains, true≢false}
use Rattle.std.specs.List.{filter}
use Rattle.std.proofs.Math.Nat.{mod-lt, mul-le-mul_left, mul_comm}
use Rattle.std.proofs.Math.Seq.{drop-cons}
use Rattle.std.proofs.lemmas.Bool.{cases_eq, cases_lt}
use Rattle.std.proofs.lemmas.Bool.Decides.{nat_tests}
use Rattle.std.proofs.lemmas.List.{get_or_past}
use Rattle.std.proofs.lemmas.Nat.{div-add-mod', div-mul-add, mod-mul-add}
use Rattle.array_meaning.specs.Touches.{Touch}
use Rattle.array_meaning.specs.Clashes.{Clash, first_clash}
use Rattle.nest_clash.specs.FirstClash.{InterfereIn}
use Rattle.nest_clash.specs.Scan.{better, scan}
use Rattle.nest_clash.specs.Visits.{Visit, Untouched, Read, Written, Met, touched_by, visit as visit_after}
use Rattle.visited_objects.specs.declared.visits.Visit.{Visit as HeldVisit}
use Rattle.visited_objects.specs.declared.visits.Visit.TheVariants as held
use Rattle.interference.specs.AllVisits.{visits_after}
use Rattle.interference.specs.Scans.{in_places, in_rows}
use Rattle.visited_objects.specs.Visits.{in_row, touched, visit, visits_of}

-- ---- one object

-- the touches of an object, each with whether it writes
abbrev is_touch_of : ℕ → ℕ → Touch → Bool
is_touch_of x y t = nat_eq t.name x && nat_eq t.place y

abbrev acts : ℕ → ℕ → List Touch → List Bool
acts x y ts = map (λ t. t.writes) (filter (is_touch_of x y) ts)

by_cases : {Z : Type 0} (b : Bool) → (b ≡ true → Z) → (b ≡ false → Z) → Z
by_cases true t f = t refl
by_cases false t f = f refl

touched_at : (i x y : ℕ) (ts : List Touch) (visits : ℕ → ℕ → Visit) → fold (touched i) visits ts x y ≡ fold (touched_by i) (visits x y) (acts x y ts)
touched_at i x y [] visits = refl
touched_at i x y (t ∷ ts) visits = touched_at i x y ts (touched i visits t) ∙ by_cases (is_touch_of x y t)
    (λ e. ap (λ b. fold (touched_by i) (if b then touched_by i (visits x y) t.writes else visits x y) (acts x y ts)) e
    ∙ sym (ap (λ b. fold (touched_by i) (visits x y) (map (λ t. t.writes) (if b then t ∷ filter (is_touch_of x y) ts else filter (is_touch_of x y) ts))) e))
    (λ e. ap (λ b. fold (touched_by i) (if b then touched_by i (visits x y) t.writes else visits x y) (acts x y ts)) e
    ∙ sym (ap (λ b. fold (touched_by i) (visits x y) (map (λ t. t.writes) (if b then t ∷ filter (is_touch_of x y) ts else filter (is_touch_of x y) ts))) e))

module _ (touches : ℕ → List Touch) where
  visited_at : (n x y : ℕ) → visits_after touches n x y ≡ visit_after (λ i. acts x y (touches i)) n
  visited_at zero x y = refl
  visited_at (suc i) x y = touched_at i x y (touches i) (visits_after touches i) ∙ ap (λ v. fold (touched_by i) v (acts x y (touches i))) (visited_at i x y)

-- ---- what was touched is in the table

abbrev is_visited : Visit → Bool
is_visited Untouched = false
is_visited (Read a) = true
is_visited (Written a) = true
is_visited (Met a b) = true

touch_visits : (i : ℕ) (v : Visit) (w : Bool) → is_visited (touched_by i v w) ≡ true
touch_visits i Untouched true = refl
touch_visits i Untouched false = refl
touch_visits i (Read a) true = by_cases (nat_eq a i) (λ e. ap (λ b. is_visited (if b then Written i else Met a i)) e) (λ e. ap (λ b. is_visited (if b then Written i else Met a i)) e)
touch_visits i (Read a) false = by_cases (nat_eq a i) (λ e. ap (λ b. is_visited (if b then Read i else Read a)) e) (λ e. ap (λ b. is_visited (if b then Read i else Read a)) e)
touch_visits i (Written a) w = by_cases (nat_eq a i) (λ e. ap (λ b. is_visited (if b then Written a else Met a i)) e) (λ e. ap (λ b. is_visited (if b then Written a else Met a i)) e)
touch_visits i (Met a b) w = refl

still_visited : (i : ℕ) (ws : List Bool) (v : Visit) → is_visited v ≡ true → is_visited (fold (touched_by i) v ws) ≡ true
still_visited i [] v e = e
still_visited i (w ∷ ws) v e = still_visited i ws (touched_by i v w) (touch_visits i v w)

one_visits : (i x y : ℕ) (ts : List Touch) (t : Touch) (v : Visit) → Contains ts t → is_touch_of x y t ≡ true → is_visited (fold (touched_by i) v (acts x y ts)) ≡ true
one_visits i x y [] t v c e = let z : c.0 < 0 = c.1 in absurd (omega (arith, z))
one_visits i x y (u ∷ ts) t v (zero, lt, here) e =
    let same : is_touch_of x y u ≡ true = ap (is_touch_of x y) here ∙ e in
    ap (λ b. is_visited (fold (touched_by i) v (map (λ t. t.writes) (if b then u ∷ filter (is_touch_of x y) ts else filter (is_touch_of x y) ts)))) same
    ∙ still_visited i (acts x y ts) (touched_by i v u.writes) (touch_visits i v u.writes)
one_visits i x y (u ∷ ts) t v (suc k, lt, here) e = by_cases (is_touch_of x y u)
    (λ same. ap (λ b. is_visited (fold (touched_by i) v (map (λ t. t.writes) (if b then u ∷ filter (is_touch_of x y) ts else filter (is_touch_of x y) ts)))) same
    ∙ still_visited i (acts x y ts) (touched_by i v u.writes) (touch_visits i v u.writes))
    (λ other. ap (λ b. is_visited (fold (touched_by i) v (map (λ t. t.writes) (if b then u ∷ filter (is_touch_of x y) ts else filter (is_touch_of x y) ts)))) other
    ∙ one_visits i x y ts t v (k, omega arith, here) e)

module _ (touches : ℕ → List Touch) (x y : ℕ) where
  visits_there : (n j : ℕ) (t : Touch) → j < n → Contains (touches j) t → is_touch_of x y t ≡ true → is_visited (visit_after (λ i. acts x y (touches i)) n) ≡ true
  visits_there zero j t lt c e = absurd (omega (arith, lt))
  visits_there (suc n) j t lt c e = ⊎_elim
      (λ same. one_visits n x y (touches n) t (visit_after (λ i. acts x y (touches i)) n) (subst (λ j. Contains (touches j) t) same c) e)
      (λ other. still_visited n (acts x y (touches n)) (visit_after (λ i. acts x y (touches i)) n) (visits_there n j t (omega (arith, lt, other)) c e))
      (cases_eq j n)

-- ---- objects by numbers, where all rows are as wide as all of them together

abbrev width : List (List HeldVisit) → ℕ
width [] = 1
width (row ∷ rows) = length row + width rows

width_some : (rows : List (List HeldVisit)) → 0 < width rows
width_some [] = omega arith
width_some (row ∷ rows) = let h = width_some rows in omega (arith, h)

row_within : (rows : List (List HeldVisit)) (x : ℕ) → length (get_or rows x []) ≤ width rows
row_within [] x = omega arith
row_within (row ∷ rows) zero = omega arith
row_within (row ∷ rows) (suc x) = let le = row_within rows x in omega (arith, le)

below_all : (rows w x y : ℕ) → x < rows → y < w → x * w + y < rows * w
below_all rows w x y lt less =
    let le : w * suc x ≤ w * rows = mul-le-mul_left w lt in
    let a : w * suc x ≡ suc x * w = mul_comm w (suc x) in
    let b : w * rows ≡ rows * w = mul_comm w rows in
    omega (arith, le, a, b, less)

in_order : (w o p : ℕ) → 0 < w → o < p → (o / w < p / w) ⊎ ((o / w ≡ p / w) × (o % w ≤ p % w))
in_order w o p some lt = ⊎_elim (λ l. inl l) (λ le. ⊎_elim (same le) (λ d. absurd (other le d)) (cases_eq (o / w) (p / w))) (cases_lt (o / w) (p / w)) where
  same : p / w ≤ o / w → o / w ≡ p / w → (o / w < p / w) ⊎ ((o / w ≡ p / w) × (o % w ≤ p % w))
  same le e =
      let a = div-add-mod' o w in
      let b = div-add-mod' p w in
      let c : o / w * w ≡ p / w * w = ap (λ q. q * w) e in
      let less : o % w ≤ p % w = omega (arith, a, b, c, lt) in inr (e, less)

  other : p / w ≤ o / w → (o / w ≡ p / w → ⊥) → ⊥
  other le d =
      let less : suc (p / w) ≤ o / w = omega (arith, le, d) in
      let more : w * suc (p / w) ≤ w * (o / w) = mul-le-mul_left w less in
      let a = div-add-mod' o w in
      let b = div-add-mod' p w in
      let e : w * suc (p / w) ≡ suc (p / w) * w = mul_comm w (suc (p / w)) in
      let f : w * (o / w) ≡ o / w * w = mul_comm w (o / w) in
      let rest : p % w < w = mod-lt p some in
      omega (arith, more, a, b, e, f, rest, lt)

-- ---- the scan of the rows

untouched_last : (best : Option Clash) (x y : ℕ) → better best x y Untouched ≡ best
untouched_last None x y = refl
untouched_last (Some c) x y = refl

module _ (touches : ℕ → List Touch) (n : ℕ) (rows : List (List HeldVisit)) (is : visits_of rows ≡ visits_after touches n) where
  abbrev w : ℕ
  w = width rows

  abbrev name : ℕ → ℕ
  name o = o / w

  abbrev place : ℕ → ℕ
  place o = o % w

  abbrev scanned : ℕ → Option Clash
  scanned o = scan touches name place n o

  -- an object more
  object_more : (x y : ℕ) → y < w → scanned (suc (x * w + y)) ≡ better (scanned (x * w + y)) x y (visits_of rows x y)
  object_more x y lt =
      (λ i. better (scanned (x * w + y)) (div-mul-add x w y lt i) (mod-mul-add x w y lt i) (visit_after (λ j. acts (div-mul-add x w y lt i) (mod-mul-add x w y lt i) (touches j)) n))
      ∙ ap (better (scanned (x * w + y)) x y) (sym (visited_at touches n x y) ∙ sym (ap (λ f. f x y) is))

  -- the objects of a row from a place on
  places_scanned : (x y : ℕ) (vs : List HeldVisit) → ((k : ℕ) → visit (get_or vs k held.Untouched) ≡ visits_of rows x (y + k)) → y + length vs ≤ w →
      in_places x y vs (scanned (x * w + y)) ≡ scanned (x * w + (y + length vs))
  places_scanned x y [] same le = ap scanned (let e : x * w + y ≡ x * w + (y + 0) = omega arith in e)
  places_scanned x y (v ∷ vs) same le =
      let lt : y < w = omega (arith, le) in
      let zero_more : y + 0 ≡ y = omega arith in
      let here : visit v ≡ visits_of rows x y = same 0 ∙ ap (visits_of rows x) zero_more in
      ap (λ v. in_places x (suc y) vs (better (scanned (x * w + y)) x y v)) here
      ∙ ap (in_places x (suc y) vs) (sym (object_more x y lt))
      ∙ ap (λ o. in_places x (suc y) vs (scanned o)) (let e : suc (x * w + y) ≡ x * w + suc y = omega arith in e)
      ∙ places_scanned x (suc y) vs (λ k. same (suc k) ∙ ap (visits_of rows x) (let e : y + suc k ≡ suc y + k = omega arith in e)) (omega (arith, le))
      ∙ ap (λ m. scanned (x * w + m)) (let e : suc y + length vs ≡ y + suc (length vs) = omega arith in e)

  -- those beyond it were not touched
  beyond_row : (x y k : ℕ) → length (get_or rows x []) ≤ y → y + k ≤ w → scanned (x * w + y) ≡ scanned (x * w + (y + k))
  beyond_row x y zero past le = ap scanned (let e : x * w + y ≡ x * w + (y + 0) = omega arith in e)
  beyond_row x y (suc k) past le =
      let lt : y < w = omega (arith, le) in
      let none : visits_of rows x y ≡ Untouched = ap visit (get_or_past (get_or rows x []) y held.Untouched past) in
      sym (object_more x y lt ∙ ap (better (scanned (x * w + y)) x y) none ∙ untouched_last (scanned (x * w + y)) x y)
      ∙ ap scanned (let e : suc (x * w + y) ≡ x * w + suc y = omega arith in e)
      ∙ beyond_row x (suc y) k (omega (arith, past)) (omega (arith, le))
      ∙ ap (λ m. scanned (x * w + m)) (let e : suc y + k ≡ y + suc k = omega arith in e)

  row_scanned : (x : ℕ) → in_places x 0 (get_or rows x []) (scanned (x * w)) ≡ scanned (suc x * w)
  row_scanned x =
      let row = get_or rows x [] in
      let within : length row ≤ w = row_within rows x in
      ap (λ o. in_places x 0 row (scanned o)) (let e : x * w ≡ x * w + 0 = omega arith in e)
      ∙ places_scanned x 0 row (λ k. ap (visits_of rows x) (let e : k ≡ 0 + k = omega arith in e)) (omega (arith, within))
      ∙ ap (λ m. scanned (x * w + m)) (let e : 0 + length row ≡ length row = omega arith in e)
      ∙ beyond_row x (length row) (w - length row) (omega arith) (omega (arith, within))
      ∙ ap scanned (let e : x * w + (length row + (w - length row)) ≡ suc x * w = omega (arith, within) in e)

  rows_scanned : (k x : ℕ) (left : List (List HeldVisit)) → left ≡ drop x rows → length left ≡ k → x + k ≡ length rows → in_rows x left (scanned (x * w)) ≡ scanned (length rows * w)
  rows_scanned zero x [] at none all = ap (λ m. scanned (m * w)) (let e : x ≡ length rows = omega (arith, all) in e)
  rows_scanned zero x (row ∷ left) at none all = absurd (omega (arith, none))
  rows_scanned (suc k) x [] at some all = absurd (omega (arith, some))
  rows_scanned (suc k) x (row ∷ left) at some all =
      let lt : x < length rows = omega (arith, all) in
      let split : row ∷ left ≡ get_or rows x [] ∷ drop (suc x) rows = at ∙ drop-cons rows x [] lt in
      ap (λ row. in_rows (suc x) left (in_places x 0 row (scanned (x * w)))) (same_head split)
      ∙ ap (in_rows (suc x) left) (row_scanned x)
      ∙ rows_scanned k (suc x) left (same_tail split) (omega (arith, some)) (omega (arith, all))
    where
      same_head : {A : Type 0} {a b : A} {as' bs : List A} → a ∷ as' ≡ b ∷ bs → a ≡ b
      same_head {a = a} e = ap (λ l. get_or l 0 a) e

      same_tail : {A : Type 0} {a b : A} {as' bs : List A} → a ∷ as' ≡ b ∷ bs → as' ≡ bs
      same_tail e = ap (drop 1) e

  -- each object in which two iterations interfere is in a row
  in_table : (x y : ℕ) → is_visited (visits_of rows x y) ≡ true → (x < length rows) × (y < w)
  in_table x y e = (
    ⊎_elim (λ lt. lt) (λ le. absurd (true≢false (sym e ∙ ap is_visited (ap (λ row. in_row row y) (get_or_past rows x [] le))))) (cases_lt x (length rows)),
    ⊎_elim (λ lt. let within = row_within rows x in let less : y < w = omega (arith, lt, within) in less)
        (λ le. absurd (true≢false (sym e ∙ ap is_visited (ap visit (get_or_past (get_or rows x []) y held.Untouched le)))))
        (cases_lt y (length (get_or rows x []))),
  )

  all_there : (i j x y : ℕ) → j < n → InterfereIn touches i j x y → (o : ℕ) × (o < length rows * w) × (name o ≡ x) × (place o ≡ y)
  all_there i j x y lt m =
      let a : nat_eq m.other.name x ≡ true = let z = m.other_is.0 in grind (arith, nat_tests) in
      let b : nat_eq m.other.place y ≡ true = let z = m.other_is.1 in grind (arith, nat_tests) in
      let there = in_table x y (ap is_visited (ap (λ f. f x y) is ∙ visited_at touches n x y) ∙ visits_there touches x y n j m.other lt m.there (λ i. a i && b i)) in
      (x * w + y, below_all (length rows) w x y there.0 there.1, div-mul-add x w y there.1, mod-mul-add x w y there.1)

  -- so the scan of the rows is that of the objects
  pub rows_tell : ((name place : ℕ → ℕ) (objects : ℕ)
      → ((o p : ℕ) → o < p → p < objects → (name o < name p) ⊎ ((name o ≡ name p) × (place o ≤ place p)))
      → ((i j x y : ℕ) → j < n → InterfereIn touches i j x y → (o : ℕ) × (o < objects) × (name o ≡ x) × (place o ≡ y))
      → scan touches name place n objects ≡ first_clash touches n)
      → in_rows 0 rows None ≡ first_clash touches n
  rows_tell law =
      ap (λ o. in_rows 0 rows (scanned o)) (let e : 0 ≡ 0 * w = omega arith in e)
      ∙ rows_scanned (length rows) 0 rows refl refl (omega arith)
      ∙ law name place (length rows * w) (λ o p lt below. in_order w o p (width_some rows) lt) all_there
