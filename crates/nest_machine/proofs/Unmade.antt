-- Rows that a body doesn't make anew keep their extents and their layouts, and are the same where nothing is stored to them.
use Rattle.std.proofs.Common.{◌≡◌, ℕ, zero, suc, ◌+◌, ◌<◌, ◌≤◌, List, [], ◌∷◌, ◌++◌, length, replicate, slice_get, slice_set, ℤ, pos, Option, Some, None, refl, sym, ap, ◌∙◌, arith, length-set, get_or-set_other}
use Rattle.storage.specs.Storage.{row_of, read}
use Rattle.nest_order.specs.Turns.{joined_up_to}
use Rattle.machine_steps.specs.Layout.{Layout, size_of}
use Rattle.machine_steps.specs.Machine.{outcome_of, effect_of}
use Rattle.nest_machine.specs.Counting.{Counting, trips_at}
use Rattle.nest_machine.specs.Body.{Body, NoText, AndText, AndIf, AndLoop, Arms, NoArm, AndArm, count_body, count_arms}
use Rattle.nest_machine.specs.BodyCode.{Texts, copy_spot, text_tuples, mark_tuples, test_tuples}
use Rattle.nest_machine.specs.Slots.{headed, trip_slots, first_trip, left_slots, slots_after, slots_after_arms}
use Rattle.nest_machine.specs.Trace.{Traced, Does, Marks, Makes, Data, traced, all_traced, mark_trace, trace, trace_arms}
use Rattle.nest_machine.specs.PlacedEnds.{OffRow}
use Rattle.nest_machine.proofs.Rows.{scatter-length, scatter-extent}
use Rattle.nest_machine.proofs.OwnStores.{scatter-off, effect-off}

pub get-other : {T : Type 0} (xs : List T) (i k : ℕ) (v : T) → (k ≡ i → ⊥) → slice_get (slice_set xs i v) k ≡ slice_get xs k
get-other [] i k v ne = refl
get-other (x ∷ xs) zero zero v ne = absurd (ne refl)
get-other (x ∷ xs) zero (suc k) v ne = refl
get-other (x ∷ xs) (suc i) zero v ne = refl
get-other (x ∷ xs) (suc i) (suc k) v ne = get-other xs i k v (λ e. ne (ap suc e))

-- ---- what is so of each part of a trace

module _ {F : Type 0} (P : Traced F → Type 0) where
  abbrev pub Each : List (Traced F) → Type 0
  Each [] = Unit {0}
  Each (x ∷ xs) = P x × Each xs

  each-append : (xs ys : List (Traced F)) → Each xs → Each ys → Each (xs ++ ys)
  each-append [] ys h g = g
  each-append (x ∷ xs) ys h g = (h.0, each-append xs ys h.1 g)

  each-turns : (t : ℕ) (f : ℕ → List (Traced F)) → ((y : ℕ) → Each (f y)) → Each (joined_up_to t f)
  each-turns zero f h = tt
  each-turns (suc t) f h = each-append (joined_up_to t f) (f t) (each-turns t f h) (h t)

-- of a body with no more than so many conditions, where it is so of each text, each mark and each condition
module _ {A C F : Type 0} (texts : Texts A C F) (counting : Counting F) (size : List ℤ → ℕ) (stored count : ℕ) (P : Traced F → Type 0)
    (of_text : (guard : Option ℕ) (a : A) (s : List ℤ) → P (Does (text_tuples texts size stored guard a) (texts.left a) s))
    (of_mark : (guard : Option ℕ) (a : A) (q : ℕ) (s : List ℤ) → texts.mark a ≡ Some q → P (Marks (mark_tuples texts size stored guard) q s))
    (of_making : (k : ℕ) (s : List ℤ) → k < count → P (Makes (stored + k) s))
    (of_test : (guard : Option ℕ) (earlier : List ℕ) (test : Option C) (k : ℕ) (s : List ℤ) → k < count
    → P (Does (test_tuples texts size stored guard earlier test) (copy_spot (stored + k)) s)) where
  each-mark : (guard : Option ℕ) (a : A) (o : Option ℕ) (s : List ℤ) → texts.mark a ≡ o → Each P (mark_trace texts size stored guard o s)
  each-mark guard a None s e = tt
  each-mark guard a (Some q) s e = (of_mark guard a q s e, tt)

  mutual
    pub each-body : (body : Body A C) (guard : Option ℕ) (k b : ℕ) (s : List ℤ) → k + count_body body ≤ count → Each P (trace texts counting size stored body guard k b s)
    each-body NoText guard k b s few = tt
    each-body (AndText a rest) guard k b s few = (
      of_text guard a s,
      each-append P (mark_trace texts size stored guard (texts.mark a) s) (trace texts counting size stored rest guard k b s)
          (each-mark guard a (texts.mark a) s refl) (each-body rest guard k b s few),
    )
    each-body (AndIf arms rest) guard k b s few =
        let z : List ℤ = slots_after_arms counting arms b s in
        each-append P (trace_arms texts counting size stored arms guard [] k b s) (trace texts counting size stored rest guard (k + count_arms arms) b z)
        (each-arms arms guard [] k b s (omega (arith, few))) (each-body rest guard (k + count_arms arms) b z (omega (arith, few)))
    each-body (AndLoop bounds inner rest) guard k b s few =
        let f = slots_after counting inner (b + 4) in
        let h : List ℤ = headed bounds b s in
        let n : ℕ = trips_at counting b h in
        let at : ℕ → List ℤ = trip_slots counting f bounds.index b (first_trip counting b h n) in
        let z : List ℤ = left_slots counting f bounds.index b h n in
        each-append P (joined_up_to n (λ y. trace texts counting size stored inner guard k (b + 4) (at y)))
        (trace texts counting size stored rest guard (k + count_body inner) b z)
        (each-turns P n (λ y. trace texts counting size stored inner guard k (b + 4) (at y)) (λ y. each-body inner guard k (b + 4) (at y) (omega (arith, few))))
        (each-body rest guard (k + count_body inner) b z (omega (arith, few)))

    each-arms : (arms : Arms A C) (guard : Option ℕ) (earlier : List ℕ) (k b : ℕ) (s : List ℤ) → k + count_arms arms ≤ count
        → Each P (trace_arms texts counting size stored arms guard earlier k b s)
    each-arms NoArm guard earlier k b s few = tt
    each-arms (AndArm test body others) guard earlier k b s few =
        let z : List ℤ = slots_after counting body b s in
        let lt : k < count = omega (arith, few) in (
          of_making k s lt,
          (
            of_test guard earlier test k s lt,
            each-append P (trace texts counting size stored body (Some k) (k + 1) b s)
                (trace_arms texts counting size stored others guard (k ∷ earlier) (k + 1 + count_body body) b z) (each-body body (Some k) (k + 1) b s (omega (arith, few)))
                (each-arms others guard (k ∷ earlier) (k + 1 + count_body body) b z (omega (arith, few))),
          ),
        )

-- ---- rows

-- row x isn't that of a condition that is made
abbrev pub IsUnmade : {F : Type 0} → ℕ → Traced F → Type 0
IsUnmade x (Does t l s) = Unit {0}
IsUnmade x (Marks t q s) = Unit {0}
IsUnmade x (Makes r s) = r ≡ x → ⊥

-- and nothing is stored to it
abbrev pub IsUntouched : {F : Type 0} → ℕ → Traced F → Type 0
IsUntouched x (Does t l s) = (i : ℕ) → OffRow x (l s i)
IsUntouched x (Marks t q s) = q ≡ x → ⊥
IsUntouched x (Makes r s) = r ≡ x → ⊥

abbrev pub Unmade : {F : Type 0} → ℕ → List (Traced F) → Type 0
Unmade x = Each (IsUnmade x)

abbrev pub Untouched : {F : Type 0} → ℕ → List (Traced F) → Type 0
Untouched x = Each (IsUntouched x)

module _ {F : Type 0} (layout : List Layout → List ℤ → Layout) where
  -- no row comes or goes
  pub traced-length : (xs : List (Traced F)) (d : Data F) → (length (all_traced layout xs d).rows ≡ length d.rows) × (length (all_traced layout xs d).layouts ≡ length d.layouts)
  traced-length [] d = (refl, refl)
  traced-length (Does t l s ∷ xs) d =
      let g = traced-length xs (traced layout (Does t l s) d) in (g.0 ∙ scatter-length (effect_of t l s (read d.rows)) (t.count s) d.rows, g.1)
  traced-length (Marks t q s ∷ xs) d =
      let g = traced-length xs (traced layout (Marks t q s) d) in (g.0 ∙ scatter-length (effect_of t (copy_spot q) s (read d.rows)) (t.count s) d.rows, g.1)
  traced-length (Makes q s ∷ xs) d =
      let g = traced-length xs (traced layout (Makes q s) d) in
      (g.0 ∙ length-set d.rows q (replicate (size_of (layout d.layouts s)) (pos 0)), g.1 ∙ length-set d.layouts q (layout d.layouts s))

  pub unmade-stays : (x : ℕ) (xs : List (Traced F)) (d : Data F) → Unmade x xs
      → (length (row_of (all_traced layout xs d).rows x) ≡ length (row_of d.rows x)) × (slice_get (all_traced layout xs d).layouts x ≡ slice_get d.layouts x)
  unmade-stays x [] d h = (refl, refl)
  unmade-stays x (Does t l s ∷ xs) d h =
      let g = unmade-stays x xs (traced layout (Does t l s) d) h.1 in (g.0 ∙ scatter-extent (effect_of t l s (read d.rows)) (t.count s) d.rows x, g.1)
  unmade-stays x (Marks t q s ∷ xs) d h =
      let g = unmade-stays x xs (traced layout (Marks t q s) d) h.1 in (g.0 ∙ scatter-extent (effect_of t (copy_spot q) s (read d.rows)) (t.count s) d.rows x, g.1)
  unmade-stays x (Makes q s ∷ xs) d h =
      let g = unmade-stays x xs (traced layout (Makes q s) d) h.1 in (
        g.0 ∙ ap length (get_or-set_other d.rows q x (replicate (size_of (layout d.layouts s)) (pos 0)) [] (λ e. h.0 (sym e))),
        g.1 ∙ get-other d.layouts q x (layout d.layouts s) (λ e. h.0 (sym e)),
      )

  -- a row that isn't stored to is the same
  pub untouched-stays : (x : ℕ) (xs : List (Traced F)) (d : Data F) → Untouched x xs → row_of (all_traced layout xs d).rows x ≡ row_of d.rows x
  untouched-stays x [] d h = refl
  untouched-stays x (Does t l s ∷ xs) d h =
      untouched-stays x xs (traced layout (Does t l s) d) h.1
      ∙ scatter-off (effect_of t l s (read d.rows)) (t.count s) d.rows x (λ i. effect-off (l s i) (outcome_of t s (read d.rows) i) x (h.0 i))
  untouched-stays x (Marks t q s ∷ xs) d h =
      untouched-stays x xs (traced layout (Marks t q s) d) h.1
      ∙ scatter-off (effect_of t (copy_spot q) s (read d.rows)) (t.count s) d.rows x (λ i. effect-off (copy_spot q s i) (outcome_of t s (read d.rows) i) x h.0)
  untouched-stays x (Makes q s ∷ xs) d h =
      untouched-stays x xs (traced layout (Makes q s) d) h.1
      ∙ get_or-set_other d.rows q x (replicate (size_of (layout d.layouts s)) (pos 0)) [] (λ e. h.0 (sym e))

-- where row x is none of so many conditions, no body with no more of them makes it
module _ {A C F : Type 0} (texts : Texts A C F) (counting : Counting F) (size : List ℤ → ℕ) (stored count x : ℕ) (off : (k : ℕ) → k < count → stored + k ≡ x → ⊥)
    (body : Body A C) (guard : Option ℕ) (k b : ℕ) (s : List ℤ) (few : k + count_body body ≤ count) where
  pub unmade-body : Unmade x (trace texts counting size stored body guard k b s)
  unmade-body = each-body texts counting size stored count (IsUnmade x) (λ guard a s. tt) (λ guard a q s e. tt) (λ k s lt. off k lt) (λ guard earlier test k s lt. tt) body guard k b s few

  -- and where no text stores to it and it has no marks, none stores to it
  pub untouched-body : ((a : A) (s : List ℤ) (i : ℕ) → OffRow x (texts.left a s i)) → ((a : A) → texts.mark a ≡ Some x → ⊥)
      → Untouched x (trace texts counting size stored body guard k b s)
  untouched-body elsewhere no_mark =
      each-body texts counting size stored count (IsUntouched x) (λ guard a s i. elsewhere a s i) (λ guard a q s e is. no_mark a (e ∙ ap Some is)) (λ k s lt. off k lt)
      (λ guard earlier test k s lt i. off k lt) body guard k b s few
