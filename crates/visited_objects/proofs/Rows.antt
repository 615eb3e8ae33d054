-- Rows that are made longer, and rows in which one visit changes.
use Rattle.std.proofs.Common.{◌≡◌, ℕ, zero, suc, ◌<◌, ◌≤◌, List, [], ◌∷◌, ◌++◌, length, take, replicate, get_or, set, nat_eq, Bool, true, false, ◌&&◌, if◌then◌else◌, refl, ap, sym, ◌∙◌, ⊎_elim, arith}
use Rattle.std.proofs.lemmas.Bool.{cases_eq}
use Rattle.std.proofs.lemmas.Bool.Decides.{nat_tests}
use Rattle.std.proofs.lemmas.Grind.{get_or-set_at}
use Rattle.std.proofs.lemmas.List.{get_or-set_other, take_all}
use Rattle.std.proofs.lemmas.List.{get_or_default}
use Rattle.nest_clash.specs.Visits.{Visit, touched_by}
use Rattle.array_meaning.specs.Touches.{Touch}
use Rattle.visited_objects.specs.declared.visits.Visit.{Visit as HeldVisit}
use Rattle.visited_objects.specs.declared.visits.Visit.TheVariants.{Untouched}
use Rattle.visited_objects.specs.Visits.{visit, in_row, visits_of, touched_in_row, touched}

-- what is read beyond a list is as what was added to it
in_padding : {A : Type 0} (n k : ℕ) (d : A) → get_or (replicate n d) k d ≡ d
in_padding zero k d = refl
in_padding (suc n) zero d = refl
in_padding (suc n) (suc k) d = in_padding n k d

padded : {A : Type 0} (xs : List A) (n k : ℕ) (d : A) → get_or (xs ++ replicate n d) k d ≡ get_or xs k d
padded [] n k d = in_padding n k d
padded (x ∷ xs) n zero d = refl
padded (x ∷ xs) n (suc k) d = padded xs n k d

one_more : {A : Type 0} (xs : List A) (k : ℕ) (d : A) → get_or (xs ++ d ∷ []) k d ≡ get_or xs k d
one_more xs k d = padded xs 1 k d

-- a row with more objects, which are untouched
pub row_resized : (old new : List HeldVisit) (place n : ℕ) → length old ≤ place → new ≡ take place old ++ replicate n Untouched → in_row new ≡ in_row old
row_resized old new place n le is =
    let same : new ≡ old ++ replicate n Untouched = is ∙ ap (λ xs. xs ++ replicate n Untouched) (take_all place old le) in
    λ i y. visit ((ap (λ xs. get_or xs y Untouched) same ∙ padded old n y Untouched) i)

pub row_pushed : (old new : List HeldVisit) → new ≡ old ++ Untouched ∷ [] → in_row new ≡ in_row old
row_pushed old new is = λ i y. visit ((ap (λ xs. get_or xs y Untouched) is ∙ one_more old y Untouched) i)

-- a name more
pub rows_pushed : (old new : List (List HeldVisit)) → new ≡ old ++ [] ∷ [] → visits_of new ≡ visits_of old
rows_pushed old new is = λ i x y. in_row ((ap (λ rows. get_or rows x []) is ∙ one_more old x []) i) y

-- a touch in a row
pub row_touched : (i : ℕ) (w : Bool) (row : List HeldVisit) (place : ℕ) (before after : HeldVisit) (visits : ℕ → Visit) → place < length row → before ≡ get_or row place before →
    visit after ≡ touched_by i (visit before) w → in_row row ≡ visits → in_row (set row place after) ≡ touched_in_row i visits place w
row_touched i w row place before after visits lt before_is after_is is = λ k y. at y k where
  same : (y : ℕ) → place ≡ y → in_row (set row place after) y ≡ touched_in_row i visits place w y
  same y e =
      let t : nat_eq place y ≡ true = grind (arith, nat_tests, e) in
      ap visit (get_or-set_at row place y after Untouched (sym e) lt)
      ∙ after_is
      ∙ ap (λ v. touched_by i v w) (ap visit (before_is ∙ get_or_default row place before Untouched lt) ∙ ap (in_row row) e ∙ ap (λ f. f y) is)
      ∙ sym (ap (λ b. if b then touched_by i (visits y) w else visits y) t)

  other : (y : ℕ) → (place ≡ y → ⊥) → in_row (set row place after) y ≡ touched_in_row i visits place w y
  other y d =
      let f : nat_eq place y ≡ false = grind (arith, nat_tests, d) in
      ap visit (get_or-set_other row place y after Untouched (λ e. d (sym e)))
      ∙ ap (λ f. f y) is
      ∙ sym (ap (λ b. if b then touched_by i (visits y) w else visits y) f)

  at : (y : ℕ) → in_row (set row place after) y ≡ touched_in_row i visits place w y
  at y = ⊎_elim (same y) (other y) (cases_eq place y)

-- a touch of one of the rows
pub rows_touched : (i : ℕ) (t : Touch) (rows : List (List HeldVisit)) (before row : List HeldVisit) (visits : ℕ → ℕ → Visit) → t.name < length rows →
    before ≡ get_or rows t.name before → in_row row ≡ touched_in_row i (in_row before) t.place t.writes → visits_of rows ≡ visits → visits_of (set rows t.name row) ≡ touched i visits t
rows_touched i t rows before row visits lt before_is row_is is = λ k x y. at x y k where
  same : (x y : ℕ) → t.name ≡ x → visits_of (set rows t.name row) x y ≡ touched i visits t x y
  same x y e =
      let s : nat_eq t.name x ≡ true = grind (arith, nat_tests, e) in
      ap (λ row. in_row row y) (get_or-set_at rows t.name x row [] (sym e) lt)
      ∙ ap (λ f. f y) row_is
      ∙ ap (λ v. if nat_eq t.place y then touched_by i v t.writes else v) (ap (λ row. in_row row y) (before_is ∙ get_or_default rows t.name before [] lt) ∙ ap (λ n. visits_of rows n y) e ∙ ap (λ f. f x y) is)
      ∙ sym (ap (λ b. if b && nat_eq t.place y then touched_by i (visits x y) t.writes else visits x y) s)

  other : (x y : ℕ) → (t.name ≡ x → ⊥) → visits_of (set rows t.name row) x y ≡ touched i visits t x y
  other x y d =
      let f : nat_eq t.name x ≡ false = grind (arith, nat_tests, d) in
      ap (λ row. in_row row y) (get_or-set_other rows t.name x row [] (λ e. d (sym e)))
      ∙ ap (λ f. f x y) is
      ∙ sym (ap (λ b. if b && nat_eq t.place y then touched_by i (visits x y) t.writes else visits x y) f)

  at : (x y : ℕ) → visits_of (set rows t.name row) x y ≡ touched i visits t x y
  at x y = ⊎_elim (same x y) (other x y) (cases_eq t.name x)
