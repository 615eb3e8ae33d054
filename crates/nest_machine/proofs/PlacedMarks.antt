-- After a trace that does what acts do, the marks of a scalar say which iterations have assigned it, where no act keeps a fault.
use Rattle.std.proofs.Common.{◌≡◌, ℕ, suc, ◌+◌, ◌<◌, inl, inr, List, [], ◌∷◌, length, map, ℤ, pos, Bool, true, false, Option, Some, None, refl, sym, ap, ◌∙◌, subst, arith, slice_index_or, get_or-set_other, ⊎_elim, ◌&&◌, ◌||◌, replicate}
use Rattle.std.specs.Prelude.{nat_eq}
use Rattle.storage.specs.Storage.{Storage, Spot, is_same_spot, row_of, read}
use Rattle.storage.specs.Effect.{Effect, Skip, Put, Fail, scatter}
use Rattle.storage.specs.Parted.{parted, kept, NoneKept}
use Rattle.nest_order.specs.LastValue.{copy_at, stores_to, assigns}
use Rattle.machine_steps.specs.Layout.{Layout, size_of}
use Rattle.machine_steps.specs.Instr.{Outcome, Nothing, Value, Breaks, Tuples}
use Rattle.machine_steps.specs.Machine.{outcome_of, effect_of, effect_by, value_by, is_one}
use Rattle.nest_machine.specs.BodyCode.{copy_spot}
use Rattle.nest_machine.specs.Trace.{Traced, Does, Marks, Makes, Data, traced, all_traced, acts}
use Rattle.nest_machine.specs.Placed.{IsPlace, placed_spot, placed_effect, IsOfRow}
use Rattle.nest_machine.specs.PlacedEnds.{OffRow}
use Rattle.nest_machine.proofs.PlacedActs.{DoesAs, MakesAs, MarksAs, FollowActs}
use Rattle.nest_machine.proofs.Rows.{scatter-extent}
use Rattle.nest_machine.proofs.Paired.{SameAsked, PairedMarks, MarkedBy}
use Rattle.nest_machine.proofs.OwnStores.{OffE, OwnPuts, eq-other, same-spot, scatter-off, effect-off, own-skip, own-put}
use Rattle.nest_machine.proofs.AfterActs.{After, does-after, makes-after, marks-after}

module _ {F : Type 0} (place : ℕ → ℕ) (is_row : ℕ → Bool) (one_place : IsPlace place is_row) where
  -- what an act stores, by what the machine stores
  off-placed : (q : ℕ) → ((x : ℕ) → is_row x ≡ true → place x ≡ q → ⊥) → (e : Effect F) → IsOfRow is_row e → OffE q (placed_effect place e)
  off-placed q off Skip h = tt
  off-placed q off (Put spot v) h = off spot.row h
  off-placed q off (Fail f) h = tt

  stores-off : (r i : ℕ) (left : Option Spot) (o : Outcome F) (e : Effect F) → effect_by left o ≡ placed_effect place e → OffRow (place r) left → stores_to e (copy_at r i) ≡ false
  stores-off r i left o Skip h off = refl
  stores-off r i left o (Fail f) h off = refl
  stores-off r i left Nothing (Put spot v) h off = cc
  stores-off r i None (Value w) (Put spot v) h off = cc
  stores-off r i (Some l) (Value w) (Put spot v) h off =
      let same : l ≡ placed_spot place spot = cc in
      ap (λ b. b && nat_eq spot.at i) (eq-other spot.row r (λ z. off (ap (λ (x : Spot). x.row) same ∙ ap place z)))
  stores-off r i left (Breaks f) (Put spot v) h off = cc

  skips : (r i : ℕ) (e : Effect F) → Skip ≡ placed_effect place e → stores_to e (copy_at r i) ≡ false
  skips r i Skip h = refl
  skips r i (Put spot v) h = cc
  skips r i (Fail f) h = refl

  puts-own : (r i : ℕ) (v : ℤ) (e : Effect F) → is_row r ≡ true → IsOfRow is_row e → Put (record { row = place r; at = i }) v ≡ placed_effect place e → stores_to e (copy_at r i) ≡ true
  puts-own r i v Skip is h g = cc
  puts-own r i v (Fail f) is h g = cc
  puts-own r i v (Put spot w) is h g =
      let there : Spot = record { row = place r; at = i } in
      let same : there ≡ placed_spot place spot = cc in
      let row_is : spot.row ≡ r = one_place spot.row r h is (sym (ap (λ (x : Spot). x.row) same)) in
      let at_is : spot.at ≡ i = sym (ap (λ (x : Spot). x.at) same) in
      (λ k. is_same_spot (record { row = row_is k; at = at_is k }) (copy_at r i)) ∙ same-spot r i

  fails : (f : F) (e : Effect F) → Fail f ≡ placed_effect place e → e ≡ Fail f
  fails f Skip h = cc
  fails f (Put spot v) h = cc
  fails f (Fail g) h = ap Fail (let z : g ≡ f = cc in z)

  module _ (layout : List Layout → List ℤ → Layout) (start : Storage) (n : ℕ) (act : ℕ → ℕ → Storage → Effect F) (number : ℕ → ℕ) (many r q : ℕ) (own_row : is_row r ≡ true)
      (off : (x : ℕ) → is_row x ≡ true → place x ≡ q → ⊥) (none : NoneKept act start n many) where
    abbrev At : ℕ → Storage
    At = parted act start n

    abbrev Done : ℕ → ℕ → Data F → Type 0
    Done = After place is_row one_place layout start n act number

    abbrev Said : ℕ → Data F → Type 0
    Said j d = (length (row_of d.rows q) ≡ n) × ((i : ℕ) → i < n → is_one (read d.rows (record { row = q; at = i })) ≡ assigns (kept act start n) r i j)

    said-off : (j : ℕ) (d d' : Data F) → row_of d'.rows q ≡ row_of d.rows q → ((i : ℕ) → stores_to (kept act start n i j) (copy_at r i) ≡ false) → Said j d → Said (suc j) d'
    said-off j d d' e no_store h = (
      ap length e ∙ h.0,
      (λ i lt. ap (λ xs. is_one (slice_index_or xs i (pos 0))) e ∙ h.1 i lt ∙ sym (ap (λ b. b || assigns (kept act start n) r i j) (no_store i))),
    )

    same-row : (t : Tuples F) (l : List ℤ → ℕ → Option Spot) (s : List ℤ) (j p : ℕ) (d : Data F) → Done j p d → DoesAs place is_row layout start n t l s (λ i. act i j)
        → row_of (traced layout (Does t l s) d).rows q ≡ row_of d.rows q
    same-row t l s j p d b does =
        scatter-off (effect_of t l s (read d.rows)) (t.count s) d.rows q
        (λ i. let w = does i (At j) d.rows b.rows in subst (OffE q) (sym w.0) (off-placed q off (act i j (At j)) w.1))

    said-does : (j p : ℕ) (d : Data F) (t : Tuples F) (l : List ℤ → ℕ → Option Spot) (s : List ℤ) → Done j p d → DoesAs place is_row layout start n t l s (λ i. act i j)
        → ((i : ℕ) → OffRow (place r) (l s i)) → Said j d → Said (suc j) (traced layout (Does t l s) d)
    said-does j p d t l s b does elsewhere h =
        said-off j d (traced layout (Does t l s) d) (same-row t l s j p d b does)
        (λ i. stores-off r i (l s i) (outcome_of t s (read d.rows) i) (act i j (At j)) (does i (At j) d.rows b.rows).0 (elsewhere i)) h

    said-makes : (j : ℕ) (d : Data F) (r' : ℕ) (s : List ℤ) → MakesAs place is_row layout start n r' s (λ i. act i j) → (r' ≡ place r → ⊥) → (r' ≡ q → ⊥) → Said j d
        → Said (suc j) (traced layout (Makes r' s) d)
    said-makes j d r' s makes ne nq h =
        said-off j d (traced layout (Makes r' s) d) (get_or-set_other d.rows r' q (replicate (size_of (layout d.layouts s)) (pos 0)) [] (λ e. nq (sym e)))
        (λ i. ap (λ e. stores_to e (copy_at r i)) (makes.5 i (At j)) ∙ ap (λ b. b && nat_eq i i) (eq-other makes.0 r (λ z. ne (makes.1 ∙ ap place z)))) h

    said-marks : (j : ℕ) (d : Data F) (t : Tuples F) (q' : ℕ) (s : List ℤ) → (q' ≡ q → ⊥) → Said j d → Said j (traced layout (Marks t q' s) d)
    said-marks j d t q' s ne h =
        let e : row_of (traced layout (Marks t q' s) d).rows q ≡ row_of d.rows q =
        scatter-off (λ i. effect_by (Some (record { row = q'; at = i })) (outcome_of t s (read d.rows) i)) (t.count s) d.rows q
        (λ i. effect-off (Some (record { row = q'; at = i })) (outcome_of t s (read d.rows) i) q ne) in (
          ap length e ∙ h.0,
          (λ i lt. ap (λ xs. is_one (slice_index_or xs i (pos 0))) e ∙ h.1 i lt),
        )

    said-both : (j p : ℕ) (d : Data F) (t : Tuples F) (l : List ℤ → ℕ → Option Spot) (s : List ℤ) (t' : Tuples F) (s' : List ℤ) → Done j p d → j < many
        → DoesAs place is_row layout start n t l s (λ i. act i j) → MarksAs place is_row layout start n t' q s'
        → ((i : ℕ) → l s i ≡ copy_spot (place r) s i)
        → ((i : ℕ) (m m' : Storage) → ((x : ℕ) → (x ≡ place r → ⊥) → row_of m' x ≡ row_of m x) → SameAsked (outcome_of t s (read m) i) (outcome_of t' s' (read m') i))
        → Said j d → Said (suc j) (traced layout (Marks t' q s') (traced layout (Does t l s) d))
    said-both j p d t l s t' s' b lt does marks' left asked h = (scatter-extent marks (t'.count s') d1.rows q ∙ long1, each)
      where
        d1 : Data F
        d1 = traced layout (Does t l s) d

        values : ℕ → Outcome F
        values i = outcome_of t s (read d.rows) i

        out : ℕ → Outcome F
        out i = outcome_of t' s' (read d1.rows) i

        marks : ℕ → Effect F
        marks i = effect_by (Some (record { row = q; at = i })) (out i)

        off1 : (x : ℕ) → (x ≡ place r → ⊥) → row_of d1.rows x ≡ row_of d.rows x
        off1 x ne = scatter-off (effect_of t l s (read d.rows)) (t.count s) d.rows x
            (λ i. effect-off (l s i) (values i) x (subst (OffRow x) (sym (left i)) (λ e. ne (sym e))))

        row1 : row_of d1.rows q ≡ row_of d.rows q
        row1 = same-row t l s j p d b does

        long1 : length (row_of d1.rows q) ≡ n
        long1 = ap length row1 ∙ h.0

        own : OwnPuts q marks
        own i = ⊎_elim (λ e. inl (ap (effect_by (Some (record { row = q; at = i }))) e)) (λ e. inr (pos 1, ap (effect_by (Some (record { row = q; at = i }))) e))
            (marks'.2 i (map (value_by (read d1.rows)) (t'.reads s' i)))

        act-is : (i : ℕ) → effect_by (Some (record { row = place r; at = i })) (values i) ≡ placed_effect place (act i j (At j))
        act-is i = (λ k. effect_by (sym (left i) k) (values i)) ∙ (does i (At j) d.rows b.rows).0

        each : (i : ℕ) → i < n → is_one (read (scatter marks (t'.count s') d1.rows) (record { row = q; at = i })) ≡ (stores_to (kept act start n i j) (copy_at r i) || assigns (kept act start n) r i j)
        each i lti = by_outcome (values i) refl (asked i d.rows d1.rows off1)
          where
            old : is_one (read d1.rows (record { row = q; at = i })) ≡ assigns (kept act start n) r i j
            old = ap (λ xs. is_one (slice_index_or xs i (pos 0))) row1 ∙ h.1 i lti

            by_outcome : (o : Outcome F) → values i ≡ o → SameAsked o (out i)
                → is_one (read (scatter marks (t'.count s') d1.rows) (record { row = q; at = i })) ≡ (stores_to (kept act start n i j) (copy_at r i) || assigns (kept act start n) r i j)
            by_outcome Nothing e a =
                ap is_one (own-skip marks q (t'.count s') i d1.rows own (ap (effect_by (Some (record { row = q; at = i }))) a)) ∙ old
                ∙ sym (ap (λ x. x || assigns (kept act start n) r i j)
                (skips r i (act i j (At j)) (sym (ap (effect_by (Some (record { row = place r; at = i }))) e) ∙ act-is i)))
            by_outcome (Value v) e a =
                ap is_one (own-put marks q (t'.count s') i d1.rows (pos 1) own (ap (effect_by (Some (record { row = q; at = i }))) a) (let c = marks'.0 in omega (arith, c, lti))
                (omega (arith, long1, lti)))
                ∙ sym (ap (λ x. x || assigns (kept act start n) r i j)
                (puts-own r i v (act i j (At j)) own_row (does i (At j) d.rows b.rows).1 (sym (ap (effect_by (Some (record { row = place r; at = i }))) e) ∙ act-is i)))
            by_outcome (Breaks f) e a =
                absurd (none i j f lti lt (fails f (act i j (At j)) (sym (ap (effect_by (Some (record { row = place r; at = i }))) e) ∙ act-is i)))

    mutual
      pub said-all : (xs : List (Traced F)) (j p : ℕ) (d : Data F) → Done j p d → FollowActs place is_row layout start n act number j p xs → PairedMarks (place r) q xs
          → j + length (acts xs) ≡ many → Said j d → Said many (all_traced layout xs d)
      said-all [] j p d b f paired count h = let e : j ≡ many = omega (arith, count) in subst (λ x. Said x d) e h
      said-all (Does t l s ∷ xs) j p d b f (inl elsewhere) count h =
          said-all xs (suc j) (p + 1) (traced layout (Does t l s) d) (does-after place is_row one_place layout start n act number j p d t l s b f.0.0 f.0.1 f.0.2) f.1 elsewhere.1
          (omega (arith, count)) (said-does j p d t l s b f.0.1 elsewhere.0 h)
      said-all (Does t l s ∷ xs) j p d b f (inr on) count h =
          said-next xs j p d t l s b f.0.0 f.0.1 f.0.2 on.0 (let lt : j < many = omega (arith, count) in lt) f.1 on.1 (omega (arith, count)) h
      said-all (Marks t q' s ∷ xs) j p d b f paired count h =
          said-all xs j (p + 1) (traced layout (Marks t q' s) d) (marks-after place is_row one_place layout start n act number j p d t q' s b f.0) f.1 paired.1 count
          (said-marks j d t q' s paired.0 h)
      said-all (Makes r' s ∷ xs) j p d b f paired count h =
          said-all xs (suc j) p (traced layout (Makes r' s) d) (makes-after place is_row one_place layout start n act number j p d r' s b f.0) f.1 paired.2 (omega (arith, count))
          (said-makes j d r' s f.0 paired.0 paired.1 h)

      said-next : (xs : List (Traced F)) (j p : ℕ) (d : Data F) (t : Tuples F) (l : List ℤ → ℕ → Option Spot) (s : List ℤ) → Done j p d
          → t.count s ≡ n → DoesAs place is_row layout start n t l s (λ i. act i j) → number j ≡ p
          → ((i : ℕ) → l s i ≡ copy_spot (place r) s i) → j < many
          → FollowActs place is_row layout start n act number (suc j) (p + 1) xs → MarkedBy (place r) q t s xs
          → suc j + length (acts xs) ≡ many → Said j d
          → Said many (all_traced layout xs (traced layout (Does t l s) d))
      said-next [] j p d t l s b many_of does num left lt f marked count h = absurd marked
      said-next (Does t' l' s' ∷ xs) j p d t l s b many_of does num left lt f marked count h = absurd marked
      said-next (Makes r' s' ∷ xs) j p d t l s b many_of does num left lt f marked count h = absurd marked
      said-next (Marks t' q' s' ∷ xs) j p d t l s b many_of does num left lt f marked count h =
          let d1 : Data F = traced layout (Does t l s) d in
          let b1 : Done (suc j) (p + 1) d1 = does-after place is_row one_place layout start n act number j p d t l s b many_of does num in
          let d2 : Data F = traced layout (Marks t' q' s') d1 in
          let both : Said (suc j) d2 = subst (λ x. Said (suc j) (traced layout (Marks t' x s') d1)) (sym marked.0)
          (said-both j p d t l s t' s' b lt does (subst (λ x. MarksAs place is_row layout start n t' x s') marked.0 f.0) left marked.1 h) in
          said-all xs (suc j) (p + 1 + 1) d2 (marks-after place is_row one_place layout start n act number (suc j) (p + 1) d1 t' q' s' b1 f.0) f.1 marked.2 count both
