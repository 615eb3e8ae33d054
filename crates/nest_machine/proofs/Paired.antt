-- Each assignment to a scalar is followed by the setting of its mark, under the same conditions.
use Rattle.std.proofs.Common.{◌≡◌, ℕ, zero, suc, ◌+◌, ◌<◌, ◌≤◌, ◌⊎◌, inl, inr, List, [], ◌∷◌, ◌++◌, map, ℤ, pos, Bool, true, false, Option, Some, None, refl, sym, ap, subst, arith, ⊎_elim, slice_index_or, ◌&&◌}
use Rattle.storage.specs.Storage.{Storage, Spot, row_of, read}
use Rattle.storage.specs.Truth.{is_set}
use Rattle.nest_order.specs.Turns.{joined_up_to}
use Rattle.nest_order.specs.Parts.{IsBelow}
use Rattle.machine_steps.specs.Instr.{Outcome, Nothing, Value, Breaks, Tuples}
use Rattle.machine_steps.specs.Machine.{outcome_of, value_by}
use Rattle.nest_machine.specs.Counting.{Counting, trips_at}
use Rattle.nest_machine.specs.Body.{Body, NoText, AndText, AndIf, AndLoop, Arms, NoArm, AndArm, count_body, count_arms}
use Rattle.nest_syntax.specs.Asked.{Asked, guard_asked}
use Rattle.nest_machine.specs.Asked.{as_asked, asked_spots, are_asked, after_asked, outcome_where}
use Rattle.nest_machine.specs.BodyCode.{Texts, copy_spot, text_tuples, mark_tuples}
use Rattle.nest_machine.specs.Slots.{headed, trip_slots, first_trip, left_slots, slots_after, slots_after_arms}
use Rattle.nest_machine.specs.Trace.{Traced, Does, Marks, Makes, mark_trace, trace, trace_arms}
use Rattle.nest_machine.specs.PlacedEnds.{OffRow, PairedTexts}
use Rattle.nest_machine.proofs.Asked.{AskedBelow, guard-below}

-- a mark's outcome by that of the assignment
abbrev pub SameAsked : {F : Type 0} → Outcome F → Outcome F → Type 0
SameAsked Nothing o = o ≡ Nothing
SameAsked (Value v) o = o ≡ Value (pos 1)
SameAsked (Breaks f) o = Unit {0}

module _ {F : Type 0} (r q : ℕ) where
  abbrev mutual
    pub PairedMarks : List (Traced F) → Type 0
    PairedMarks [] = Unit {0}
    PairedMarks (Does t l s ∷ xs) =
        (((i : ℕ) → OffRow r (l s i)) × PairedMarks xs) ⊎ (((i : ℕ) → l s i ≡ copy_spot r s i) × MarkedBy t s xs)
    PairedMarks (Marks t q' s ∷ xs) = (q' ≡ q → ⊥) × PairedMarks xs
    PairedMarks (Makes r' s ∷ xs) = (r' ≡ r → ⊥) × (r' ≡ q → ⊥) × PairedMarks xs

    pub MarkedBy : Tuples F → List ℤ → List (Traced F) → Type 0
    MarkedBy t s [] = ⊥
    MarkedBy t s (Does t' l s' ∷ xs) = ⊥
    MarkedBy t s (Makes r' s' ∷ xs) = ⊥
    MarkedBy t s (Marks t' q' s' ∷ xs) =
        (q' ≡ q)
        × ((i : ℕ) (m m' : Storage) → ((x : ℕ) → (x ≡ r → ⊥) → row_of m' x ≡ row_of m x) → SameAsked (outcome_of t s (read m) i) (outcome_of t' s' (read m') i))
        × PairedMarks xs

module _ {A C F : Type 0} (texts : Texts A C F) (counting : Counting F) (size : List ℤ → ℕ) (stored count r q : ℕ) (paired : PairedTexts texts stored count r q) where
  abbrev ArePaired : List (Traced F) → Type 0
  ArePaired = PairedMarks r q

  mutual
    paired-append : (xs ys : List (Traced F)) → ArePaired xs → ArePaired ys → ArePaired (xs ++ ys)
    paired-append [] ys h g = g
    paired-append (Does t l s ∷ xs) ys (inl h) g = inl (h.0, paired-append xs ys h.1 g)
    paired-append (Does t l s ∷ xs) ys (inr h) g = inr (h.0, marked-append t s xs ys h.1 g)
    paired-append (Marks t q' s ∷ xs) ys h g = (h.0, paired-append xs ys h.1 g)
    paired-append (Makes r' s ∷ xs) ys h g = (h.0, h.1, paired-append xs ys h.2 g)

    marked-append : (t : Tuples F) (s : List ℤ) (xs ys : List (Traced F)) → MarkedBy r q t s xs → ArePaired ys → MarkedBy r q t s (xs ++ ys)
    marked-append t s [] ys h g = absurd h
    marked-append t s (Does t' l s' ∷ xs) ys h g = absurd h
    marked-append t s (Makes r' s' ∷ xs) ys h g = absurd h
    marked-append t s (Marks t' q' s' ∷ xs) ys h g = (h.0, h.1, paired-append xs ys h.2 g)

  paired-turns : (t : ℕ) (xs : ℕ → List (Traced F)) → ((x : ℕ) → ArePaired (xs x)) → ArePaired (joined_up_to t xs)
  paired-turns zero xs h = tt
  paired-turns (suc t) xs h = paired-append (joined_up_to t xs) (xs t) (paired-turns t xs h) (h t)

  -- the conditions that are asked are the same for the mark
  asked-same : (ws : List Asked) (i : ℕ) (m m' : Storage) (reads reads' : List (Option Spot)) → AskedBelow count ws
      → ((x : ℕ) → (x ≡ r → ⊥) → row_of m' x ≡ row_of m x)
      → are_asked ws (map (value_by (read m)) (asked_spots stored ws i ++ reads)) ≡ are_asked ws (map (value_by (read m')) (asked_spots stored ws i ++ reads'))
  asked-same [] i m m' reads reads' below h = refl
  asked-same (w ∷ ws) i m m' reads reads' below h =
      let e : row_of m (stored + w.number) ≡ row_of m' (stored + w.number) = sym (h (stored + w.number) (paired.apart w.number below.0).0) in
      λ j. as_asked w.value (is_set (slice_index_or (e j) i (pos 0)))
      && asked-same ws i m m' reads reads' below.1 h j

  same-asked : (t : Bool) (o : Outcome F) → (o ≡ Nothing → ⊥) → SameAsked (outcome_where t o) (outcome_where t (Value (pos 1)))
  same-asked true Nothing ends = absurd (ends refl)
  same-asked true (Value v) ends = refl
  same-asked true (Breaks f) ends = tt
  same-asked false o ends = refl

  mark-asked : (guard : Option ℕ) (a : A) (s : List ℤ) → IsBelow guard count → ((i : ℕ) (values : List ℤ) → texts.outcome a s i values ≡ Nothing → ⊥)
      → (i : ℕ) (m m' : Storage) → ((x : ℕ) → (x ≡ r → ⊥) → row_of m' x ≡ row_of m x)
      → SameAsked (outcome_of (text_tuples texts size stored guard a) s (read m) i) (outcome_of (mark_tuples texts size stored guard) s (read m') i)
  mark-asked guard a s below ends i m m' h =
      let ws : List Asked = guard_asked guard in
      let values : List ℤ = map (value_by (read m)) (asked_spots stored ws i ++ texts.reads a s i) in
      subst (λ t. SameAsked (outcome_where (are_asked ws values) (texts.outcome a s i (after_asked ws values))) (outcome_where t (Value (pos 1))))
      (asked-same ws i m m' (texts.reads a s i) [] (guard-below count guard below) h)
      (same-asked (are_asked ws values) (texts.outcome a s i (after_asked ws values)) (ends i (after_asked ws values)))

  marks-off : (guard : Option ℕ) (o : Option ℕ) (s : List ℤ) → (o ≡ Some q → ⊥) → ArePaired (mark_trace texts size stored guard o s)
  marks-off guard None s h = tt
  marks-off guard (Some q') s h = ((λ e. h (ap Some e)), tt)

  marks-on : (guard : Option ℕ) (a : A) (s : List ℤ) → IsBelow guard count → ((i : ℕ) (values : List ℤ) → texts.outcome a s i values ≡ Nothing → ⊥) → (o : Option ℕ) → o ≡ Some q
      → MarkedBy r q (text_tuples texts size stored guard a) s (mark_trace texts size stored guard o s)
  marks-on guard a s below ends None e = cc
  marks-on guard a s below ends (Some q') e = ((let z : q' ≡ q = cc in z), mark-asked guard a s below ends, tt)

  paired-text : (guard : Option ℕ) (a : A) (s : List ℤ) → IsBelow guard count
      → ArePaired (Does (text_tuples texts size stored guard a) (texts.left a) s ∷ mark_trace texts size stored guard (texts.mark a) s)
  paired-text guard a s below = ⊎_elim
      (λ h. inl ((λ i. h.0 s i), marks-off guard (texts.mark a) s h.1))
      (λ h. inr ((λ i. h.0 s i), marks-on guard a s below (λ i values. h.2 s i values) (texts.mark a) h.1))
      (paired.text a)

  mutual
    pub paired-body : (body : Body A C) (guard : Option ℕ) (k b : ℕ) (s : List ℤ) → IsBelow guard count → k + count_body body ≤ count
        → ArePaired (trace texts counting size stored body guard k b s)
    paired-body NoText guard k b s below few = tt
    paired-body (AndText a rest) guard k b s below few =
        paired-append (Does (text_tuples texts size stored guard a) (texts.left a) s ∷ mark_trace texts size stored guard (texts.mark a) s)
        (trace texts counting size stored rest guard k b s) (paired-text guard a s below) (paired-body rest guard k b s below few)
    paired-body (AndIf arms rest) guard k b s below few =
        let s1 : List ℤ = slots_after_arms counting arms b s in
        paired-append (trace_arms texts counting size stored arms guard [] k b s) (trace texts counting size stored rest guard (k + count_arms arms) b s1)
        (paired-arms arms guard [] k b s below (omega (arith, few))) (paired-body rest guard (k + count_arms arms) b s1 below (omega (arith, few)))
    paired-body (AndLoop bounds inner rest) guard k b s below few =
        let f = slots_after counting inner (b + 4) in
        let h : List ℤ = headed bounds b s in
        let m : ℕ = trips_at counting b h in
        let first : List ℤ = first_trip counting b h m in
        let s1 : List ℤ = left_slots counting f bounds.index b h m in
        paired-append (joined_up_to m (λ x. trace texts counting size stored inner guard k (b + 4) (trip_slots counting f bounds.index b first x)))
        (trace texts counting size stored rest guard (k + count_body inner) b s1)
        (paired-turns m (λ x. trace texts counting size stored inner guard k (b + 4) (trip_slots counting f bounds.index b first x))
        (λ x. paired-body inner guard k (b + 4) (trip_slots counting f bounds.index b first x) below (omega (arith, few))))
        (paired-body rest guard (k + count_body inner) b s1 below (omega (arith, few)))

    pub paired-arms : (arms : Arms A C) (guard : Option ℕ) (earlier : List ℕ) (k b : ℕ) (s : List ℤ) → IsBelow guard count → k + count_arms arms ≤ count
        → ArePaired (trace_arms texts counting size stored arms guard earlier k b s)
    paired-arms NoArm guard earlier k b s below few = tt
    paired-arms (AndArm test body others) guard earlier k b s below few =
        let s1 : List ℤ = slots_after counting body b s in
        let lt : k < count = omega (arith, few) in
        let off = paired.apart k lt in (
          off.0,
          off.1,
          inl (
            (λ i. off.0),
            paired-append (trace texts counting size stored body (Some k) (k + 1) b s)
                (trace_arms texts counting size stored others guard (k ∷ earlier) (k + 1 + count_body body) b s1)
                (paired-body body (Some k) (k + 1) b s lt (omega (arith, few)))
                (paired-arms others guard (k ∷ earlier) (k + 1 + count_body body) b s1 below (omega (arith, few))),
          ),
        )
