-- A trace that does what acts do, over the machine's rows, and the number of parallel statements before each of them.
use Rattle.std.proofs.Common.{◌≡◌, ℕ, zero, suc, ◌+◌, ◌<◌, ◌≤◌, ◌⊎◌, List, [], ◌∷◌, ◌++◌, length, ℤ, pos, Bool, true, Option, sym, ap, ◌∙◌, subst, arith, slice_index_or}
use Rattle.storage.specs.Storage.{Storage, Spot, row_of, read}
use Rattle.storage.specs.Effect.{Effect, Put, Fail}
use Rattle.machine_steps.specs.Layout.{Layout, size_of}
use Rattle.machine_steps.specs.Instr.{Nothing, Value, Tuples}
use Rattle.machine_steps.specs.Machine.{effect_of}
use Rattle.nest_machine.specs.Trace.{Traced, Does, Marks, Makes, acts}
use Rattle.nest_machine.specs.Placed.{Placed, placed_effect, IsOfRow}
use Rattle.nest_machine.proofs.KeptFaults.{RiseAfterFaults}

module _ {F : Type 0} where
  -- the number of parallel statements before each act, where there were p before
  abbrev pub numbers : ℕ → List (Traced F) → List ℕ
  numbers p [] = []
  numbers p (Does tuples left s ∷ xs) = p ∷ numbers (p + 1) xs
  numbers p (Marks tuples r s ∷ xs) = numbers (p + 1) xs
  numbers p (Makes r s ∷ xs) = p ∷ numbers p xs

  abbrev pub act_number : ℕ → List (Traced F) → ℕ → ℕ
  act_number p done j = slice_index_or (numbers p done) j 0

  not-less : (tr : List (Traced F)) (p l : ℕ) → l < length (acts tr) → p ≤ slice_index_or (numbers p tr) l 0
  not-less [] p l lt = absurd (omega (arith, lt))
  not-less (Does tuples left s ∷ xs) p zero lt = omega arith
  not-less (Does tuples left s ∷ xs) p (suc l) lt = let r = not-less xs (p + 1) l (omega (arith, lt)) in omega (arith, r)
  not-less (Marks tuples r s ∷ xs) p l lt = let q = not-less xs (p + 1) l lt in omega (arith, q)
  not-less (Makes r s ∷ xs) p zero lt = omega arith
  not-less (Makes r s ∷ xs) p (suc l) lt = not-less xs p l (omega (arith, lt))

module _ {F : Type 0} (place : ℕ → ℕ) (is_row : ℕ → Bool) (layout : List Layout → List ℤ → Layout) (start : Storage) (n : ℕ) where
  -- a part does at each iteration what an act does
  abbrev pub DoesAs : Tuples F → (List ℤ → ℕ → Option Spot) → List ℤ → (ℕ → Storage → Effect F) → Type 0
  DoesAs t l s act = (i : ℕ) (m rows : Storage) → Placed place is_row m rows → (effect_of t l s (read rows) i ≡ placed_effect place (act i m)) × IsOfRow is_row (act i m)

  abbrev pub MakesAs : ℕ → List ℤ → (ℕ → Storage → Effect F) → Type 0
  MakesAs r' s act =
      (r : ℕ) × (r' ≡ place r) × (is_row r ≡ true) × ((layouts : List Layout) → size_of (layout layouts s) ≡ n) × (length (row_of start r) ≡ n)
      × ((i : ℕ) (m : Storage) → act i m ≡ Put (record { row = r; at = i }) (pos 0))

  -- a mark lies in no row of the nest, and is set or not
  abbrev pub MarksAs : Tuples F → ℕ → List ℤ → Type 0
  MarksAs t q s =
      (t.count s ≡ n) × ((r : ℕ) → is_row r ≡ true → place r ≡ q → ⊥)
      × ((i : ℕ) (values : List ℤ) → (t.outcome s i values ≡ Nothing) ⊎ (t.outcome s i values ≡ Value (pos 1)))

  -- the parts of a trace do what the acts from j on do, where p parallel statements were before
  abbrev pub FollowActs : (act : ℕ → ℕ → Storage → Effect F) → (number : ℕ → ℕ) → ℕ → ℕ → List (Traced F) → Type 0
  FollowActs act number j p [] = Unit {0}
  FollowActs act number j p (Does t l s ∷ xs) = ((t.count s ≡ n) × DoesAs t l s (λ i. act i j) × (number j ≡ p)) × FollowActs act number (suc j) (p + 1) xs
  FollowActs act number j p (Marks t q s ∷ xs) = MarksAs t q s × FollowActs act number j (p + 1) xs
  FollowActs act number j p (Makes r s ∷ xs) = MakesAs r s (λ i. act i j) × FollowActs act number (suc j) p xs

module _ {F : Type 0} (place : ℕ → ℕ) (is_row : ℕ → Bool) (layout : List Layout → List ℤ → Layout) (start : Storage) (n : ℕ) (act : ℕ → ℕ → Storage → Effect F) where
  -- the parts of a trace do what the acts from j on do
  abbrev pub DoAll : ℕ → List (Traced F) → Type 0
  DoAll j [] = Unit {0}
  DoAll j (Does t l s ∷ xs) = ((t.count s ≡ n) × DoesAs place is_row layout start n t l s (λ i. act i j)) × DoAll (suc j) xs
  DoAll j (Marks t q s ∷ xs) = MarksAs place is_row layout start n t q s × DoAll j xs
  DoAll j (Makes r s ∷ xs) = MakesAs place is_row layout start n r s (λ i. act i j) × DoAll (suc j) xs

module _ {F : Type 0} where
  pub acts-many : (xs ys : List (Traced F)) → length (acts (xs ++ ys)) ≡ length (acts xs) + length (acts ys)
  acts-many [] ys = let e : length (acts ys) ≡ 0 + length (acts ys) = omega arith in e
  acts-many (Does t l s ∷ xs) ys = let r = acts-many xs ys in omega (arith, r)
  acts-many (Marks t q s ∷ xs) ys = acts-many xs ys
  acts-many (Makes r' s ∷ xs) ys = let r = acts-many xs ys in omega (arith, r)

  module _ (place : ℕ → ℕ) (is_row : ℕ → Bool) (layout : List Layout → List ℤ → Layout) (start : Storage) (n : ℕ) (act : ℕ → ℕ → Storage → Effect F) where
    abbrev Do : ℕ → List (Traced F) → Type 0
    Do = DoAll place is_row layout start n act

    pub do-append : (j : ℕ) (xs ys : List (Traced F)) → Do j xs → Do (j + length (acts xs)) ys → Do j (xs ++ ys)
    do-append j [] ys h g = let e : j + 0 ≡ j = omega arith in subst (λ x. Do x ys) e g
    do-append j (Does t l s ∷ xs) ys h g = let e : j + suc (length (acts xs)) ≡ suc j + length (acts xs) = omega arith in (h.0, do-append (suc j) xs ys h.1 (subst (λ x. Do x ys) e g))
    do-append j (Marks t q s ∷ xs) ys h g = (h.0, do-append j xs ys h.1 g)
    do-append j (Makes r s ∷ xs) ys h g = let e : j + suc (length (acts xs)) ≡ suc j + length (acts xs) = omega arith in (h.0, do-append (suc j) xs ys h.1 (subst (λ x. Do x ys) e g))

module _ {F : Type 0} (place : ℕ → ℕ) (is_row : ℕ → Bool) (layout : List Layout → List ℤ → Layout) (start : Storage) (n : ℕ) (act : ℕ → ℕ → Storage → Effect F) where
  follow-from : (q : ℕ) (whole : List (Traced F)) (j p : ℕ) (xs : List (Traced F)) → DoAll place is_row layout start n act j xs
      → ((l : ℕ) → act_number q whole (j + l) ≡ act_number p xs l) → FollowActs place is_row layout start n act (act_number q whole) j p xs
  follow-from q whole j p [] h g = tt
  follow-from q whole j p (Does t l s ∷ xs) h g =
      let e : j + 0 ≡ j = omega arith in (
        (h.0.0, h.0.1, subst (λ x. act_number q whole x ≡ p) e (g 0)),
        follow-from q whole (suc j) (p + 1) xs h.1 (λ l. let z : suc j + l ≡ j + suc l = omega arith in ap (act_number q whole) z ∙ g (suc l)),
      )
  follow-from q whole j p (Marks t r s ∷ xs) h g = (h.0, follow-from q whole j (p + 1) xs h.1 g)
  follow-from q whole j p (Makes r s ∷ xs) h g =
      (h.0, follow-from q whole (suc j) p xs h.1 (λ l. let z : suc j + l ≡ j + suc l = omega arith in ap (act_number q whole) z ∙ g (suc l)))

  pub follow-all : (p : ℕ) (whole : List (Traced F)) → DoAll place is_row layout start n act 0 whole → FollowActs place is_row layout start n act (act_number p whole) 0 p whole
  follow-all p whole h = follow-from p whole 0 p whole h (λ l. let z : 0 + l ≡ l = omega arith in ap (act_number p whole) z)

  rise-from : (xs : List (Traced F)) (j p i a later : ℕ) (m : Storage) (f : F) → DoAll place is_row layout start n act j xs → act i (j + a) m ≡ Fail f → a < later → later < length (acts xs)
      → slice_index_or (numbers p xs) a 0 < slice_index_or (numbers p xs) later 0
  rise-from [] j p i a later m f h e lt l = absurd (omega (arith, l))
  rise-from (Does t l s ∷ xs) j p i a zero m f h e lt l2 = absurd (omega (arith, lt))
  rise-from (Does t l s ∷ xs) j p i zero (suc later) m f h e lt l2 = let r = not-less xs (p + 1) later (omega (arith, l2)) in omega (arith, r)
  rise-from (Does t l s ∷ xs) j p i (suc a) (suc later) m f h e lt l2 =
      rise-from xs (suc j) (p + 1) i a later m f h.1 (let z : suc j + a ≡ j + suc a = omega arith in ap (λ x. act i x m) z ∙ e) (omega (arith, lt)) (omega (arith, l2))
  rise-from (Marks t q s ∷ xs) j p i a later m f h e lt l2 = rise-from xs j (p + 1) i a later m f h.1 e lt l2
  rise-from (Makes r s ∷ xs) j p i a zero m f h e lt l2 = absurd (omega (arith, lt))
  rise-from (Makes r s ∷ xs) j p i zero (suc later) m f h e lt l2 =
      let z : j + 0 ≡ j = omega arith in
      absurd (not-put (record { row = h.0.0; at = i }) (pos 0) f (sym (h.0.5 i m) ∙ ap (λ x. act i x m) (sym z) ∙ e))
    where
      not-put : (spot : Spot) (v : ℤ) (f : F) → Put spot v ≡ Fail f → ⊥
      not-put spot v f e = cc
  rise-from (Makes r s ∷ xs) j p i (suc a) (suc later) m f h e lt l2 =
      rise-from xs (suc j) p i a later m f h.1 (let z : suc j + a ≡ j + suc a = omega arith in ap (λ x. act i x m) z ∙ e) (omega (arith, lt)) (omega (arith, l2))

  pub rise-all : (p : ℕ) (whole : List (Traced F)) → DoAll place is_row layout start n act 0 whole → RiseAfterFaults act (act_number p whole) (length (acts whole))
  rise-all p whole h i j later m f e lt l = rise-from whole 0 p i j later m f h (let z : 0 + j ≡ j = omega arith in ap (λ x. act i x m) z ∙ e) lt l
