-- The machine over the code of an inner loop, given what its body does.
use Rattle.std.proofs.Common.{◌≡◌, ℕ, zero, suc, ◌+◌, ◌<◌, ◌≤◌, List, [], ◌∷◌, ◌++◌, length, ℤ, pos, Bool, true, false, refl, sym, ap, ◌∙◌, arith, slice_set, length-set, get_or-set_same, get_or-set_other, if◌then◌else◌}
use Rattle.std.proofs.lemmas.List.{length-append}
use Rattle.std.proofs.lemmas.Bool.{true≢false}
use Rattle.nest_order.specs.Turns.{joined_up_to}
use Rattle.machine_steps.specs.Layout.{Layout}
use Rattle.machine_steps.specs.Instr.{Running, Instr, Local}
use Rattle.machine_steps.specs.Machine.{Machine, on}
use Rattle.nest_machine.specs.Counting.{slot, Counting, trips_at, entering, IsCounting}
use Rattle.nest_machine.specs.Body.{Bounds}
use Rattle.nest_machine.specs.BodyCode.{goes_to, goes_unless, loop_tail, loop_code}
use Rattle.nest_machine.specs.Slots.{SameSlots, headed, entered, next_index, advanced, trip_slots, first_trip, left_slots}
use Rattle.nest_machine.specs.Trace.{Traced, Data, traced, all_traced}
use Rattle.nest_machine.specs.Stands.{stands, HasAt}
use Rattle.nest_machine.proofs.Slots.{trip-long, left-over}
use Rattle.nest_machine.proofs.Runs.{Reaches, reaches-on, reaches-to, has-back, has-at, one, set-reaches, first-quiet}

pub traced-append : {F : Type 0} (layout : List Layout → List ℤ → Layout) (xs ys : List (Traced F)) (d : Data F) → all_traced layout (xs ++ ys) d ≡ all_traced layout ys (all_traced layout xs d)
traced-append layout [] ys d = refl
traced-append layout (x ∷ xs) ys d = traced-append layout xs ys (traced layout x d)

pub loop-length : {F : Type 0} (counting : Counting F) (bounds : Bounds) (b pc : ℕ) (bcode : List (Instr F)) → length (loop_code counting bounds b pc bcode) ≡ 5 + length bcode + 5
loop-length counting bounds b pc bcode =
    let tail = loop_tail counting bounds b (pc + 5) (pc + 5 + length bcode + 5) in
    let l : length (bcode ++ tail) ≡ length bcode + 5 = length-append bcode tail in omega (arith, l)

module _ {I F : Type 0} (meaning : I → Instr F) (code : List I) (is_quiet : ℕ → Bool) (joined : ℤ) (line printed : List ℕ) (counting : Counting F) (right : IsCounting counting)
    (is_index : ℕ → Bool) (base : ℕ) (hidden : (k : ℕ) → base ≤ k → is_index k ≡ false) (layout : List Layout → List ℤ → Layout) where
  abbrev At : ℕ → List ℤ → Data F → Machine I F
  At = stands meaning code joined line printed

  module _ (bounds : Bounds) (b pc many : ℕ) (is : is_index bounds.index ≡ true) (above : base ≤ b) (bcode : List (Instr F)) (after : List ℤ → List ℤ) (tr : List ℤ → List (Traced F))
      (keeps : (s : List ℤ) → SameSlots is_index (b + 4) s (after s))
      (runs : (s : List ℤ) (d : Data F) → length s ≡ many
      → Reaches meaning is_quiet (At (pc + 5) s d) (At (pc + 5 + length bcode) (after s) (all_traced layout (tr s) d)))
      (has : HasAt meaning code is_quiet pc (loop_code counting bounds b pc bcode)) (room : b + 4 ≤ many) where
    abbrev inside : ℕ
    inside = pc + 5

    abbrev over : ℕ
    over = pc + 5 + length bcode

    abbrev end : ℕ
    end = pc + 5 + length bcode + 5

    abbrev tail : List (Instr F)
    tail = loop_tail counting bounds b inside end

    at-tail : HasAt meaning code is_quiet over tail
    at-tail = has-back meaning code is_quiet inside bcode tail (let e : pc + 1 + 1 + 1 + 1 + 1 ≡ pc + 5 = omega arith in has-at meaning code is_quiet (pc + 1 + 1 + 1 + 1 + 1) (pc + 5) (bcode ++ tail) e has.1.1.1.1.1)

    -- the test after a trip
    test-reaches : (s : List ℤ) (d : Data F) (t : Bool) → counting.is_left (slot s (b + 3)) ≡ t → Reaches meaning is_quiet (At (over + 1 + 1) s d) (At (if t then over + 1 + 1 + 1 else end) s d)
    test-reaches s d true e = (
      1,
      one meaning code joined line printed (over + 1 + 1) s d (goes_unless (λ slots. counting.is_left (slot slots (b + 3))) end) at-tail.1.1.0.0
          ∙ ap (λ x. record (At (over + 1 + 1) s d) { control = if x then on (record { at = over + 1 + 1; slots = s; status = Running }) else record { at = end; slots = s; status = Running } }) e,
      first-quiet meaning is_quiet (At (over + 1 + 1) s d) at-tail.1.1.0.1,
    )
    test-reaches s d false e = (
      1,
      one meaning code joined line printed (over + 1 + 1) s d (goes_unless (λ slots. counting.is_left (slot slots (b + 3))) end) at-tail.1.1.0.0
          ∙ ap (λ x. record (At (over + 1 + 1) s d) { control = if x then on (record { at = over + 1 + 1; slots = s; status = Running }) else record { at = end; slots = s; status = Running } }) e,
      first-quiet meaning is_quiet (At (over + 1 + 1) s d) at-tail.1.1.0.1,
    )

    module _ (h : List ℤ) (size_h : length h ≡ many) (n : ℕ) where
      abbrev T : ℕ → List ℤ
      T x = trip_slots counting after bounds.index b (entered counting b n h) x

      abbrev adv : ℕ → List ℤ
      adv x = advanced counting bounds.index b (after (T x))

      left : (x r : ℕ) → x + r ≡ n → slot (adv x) (b + 3) ≡ counting.left r
      left = left-over counting right is_index base hidden bounds.index b many is above room after keeps h size_h n

      abbrev data_after : Data F → ℕ → Data F
      data_after d x = all_traced layout (joined_up_to x (λ y. tr (T y))) d

      data-more : (d : Data F) (x : ℕ) → all_traced layout (tr (T x)) (data_after d x) ≡ data_after d (suc x)
      data-more d x = sym (traced-append layout (joined_up_to x (λ y. tr (T y))) (tr (T x)) d)

      advance-reaches : (x : ℕ) (d : Data F) → Reaches meaning is_quiet (At over (after (T x)) d) (At (over + 1 + 1) (adv x) d)
      advance-reaches x d =
          let a : List ℤ = next_index counting b (after (T x)) in
          reaches-on meaning is_quiet (At over (after (T x)) d) (At (over + 1) a d) (At (over + 1 + 1) (adv x) d)
          (set-reaches meaning code is_quiet joined line printed over (after (T x)) d b (λ slots. counting.advance (slot slots b) (slot slots (b + 2))) at-tail.0)
          (set-reaches meaning code is_quiet joined line printed (over + 1) a d bounds.index (λ slots. slot slots b) at-tail.1.0)

      -- from the first trip to after the body of trip x
      trips-run : (small : n < right.most) (d : Data F) (x r : ℕ) → x + r ≡ n → Reaches meaning is_quiet (At inside (T 0) d) (At over (after (T x)) (data_after d (suc x)))
      trips-run small d zero r e = runs (T 0) d (trip-long counting right is_index base hidden bounds.index b many is above room after keeps h size_h n 0)
      trips-run small d (suc x) r e =
          let d1 : Data F = data_after d (suc x) in
          let a : List ℤ = adv x in
          let m0 = At inside (T 0) d in
          let m1 = At over (after (T x)) d1 in
          let m2 = At (over + 1 + 1) a d1 in
          let m3 = At (over + 1 + 1 + 1) a d1 in
          let m4 = At (over + 1 + 1 + 1 + 1) (T (suc x)) d1 in
          let m5 = At inside (T (suc x)) d1 in
          let m6 = At over (after (T (suc x))) (all_traced layout (tr (T (suc x))) d1) in
          let some : counting.is_left (slot a (b + 3)) ≡ true = ap counting.is_left (left x (suc r) (omega (arith, e))) ∙ right.some r (omega (arith, e, small)) in
          reaches-to meaning is_quiet m0 m6 (At over (after (T (suc x))) (data_after d (suc (suc x)))) (ap (At over (after (T (suc x)))) (data-more d (suc x)))
          (reaches-on meaning is_quiet m0 m1 m6 (trips-run small d x (suc r) (omega (arith, e)))
          (reaches-on meaning is_quiet m1 m2 m6 (advance-reaches x d1)
          (reaches-on meaning is_quiet m2 m3 m6 (test-reaches a d1 true some)
          (reaches-on meaning is_quiet m3 m4 m6 (set-reaches meaning code is_quiet joined line printed (over + 1 + 1 + 1) a d1 (b + 3) (λ slots. counting.less (slot slots (b + 3))) at-tail.1.1.1.0)
          (reaches-on meaning is_quiet m4 m5 m6 (1, one meaning code joined line printed (over + 1 + 1 + 1 + 1) (T (suc x)) d1 (goes_to inside) at-tail.1.1.1.1.0.0, first-quiet meaning is_quiet m4 at-tail.1.1.1.1.0.1)
          (runs (T (suc x)) d1 (trip-long counting right is_index base hidden bounds.index b many is above room after keeps h size_h n (suc x))))))))

      -- and out of the loop
      pub all-trips : n < right.most → (d : Data F) → Reaches meaning is_quiet (At inside (T 0) d) (At end (adv n) (data_after d (suc n)))
      all-trips small d =
          let a : List ℤ = adv n in
          let d1 : Data F = data_after d (suc n) in
          let none : counting.is_left (slot a (b + 3)) ≡ false = ap counting.is_left (left n 0 (omega arith)) ∙ right.none in
          reaches-on meaning is_quiet (At inside (T 0) d) (At over (after (T n)) d1) (At end a d1) (trips-run small d n 0 (omega arith))
          (reaches-on meaning is_quiet (At over (after (T n)) d1) (At (over + 1 + 1) a d1) (At end a d1) (advance-reaches n d1) (test-reaches a d1 false none))

    -- from after the head
    trips-reach : (h : List ℤ) → length h ≡ many → counting.is_step (slot h (b + 2)) ≡ true → (n : ℕ) → trips_at counting b h ≡ n → n ≤ right.most → (d : Data F)
        → Reaches meaning is_quiet (At (pc + 1 + 1 + 1 + 1) h d) (At end (left_slots counting after bounds.index b h n)
        (all_traced layout (joined_up_to n (λ x. tr (trip_slots counting after bounds.index b (first_trip counting b h n) x))) d))
    trips-reach h so_long ok zero e small d = (
      1,
      one meaning code joined line printed (pc + 1 + 1 + 1 + 1) h d (Local (counting.trips b end)) has.1.1.1.1.0.0
          ∙ ap (λ k. record (At (pc + 1 + 1 + 1 + 1) h d) { control = k }) (right.enters b end (record { at = pc + 1 + 1 + 1 + 1; slots = h; status = Running }) ok)
          ∙ ap (λ k. record (At (pc + 1 + 1 + 1 + 1) h d) { control = entering counting (b + 3) end k (record { at = pc + 1 + 1 + 1 + 1; slots = h; status = Running }) }) e,
      first-quiet meaning is_quiet (At (pc + 1 + 1 + 1 + 1) h d) has.1.1.1.1.0.1,
    )
    trips-reach h so_long ok (suc n) e small d =
        let h1 : List ℤ = entered counting b n h in
        let e4 : pc + 1 + 1 + 1 + 1 + 1 ≡ pc + 5 = omega arith in
        let m0 = At (pc + 1 + 1 + 1 + 1) h d in
        let m1 = At (pc + 1 + 1 + 1 + 1 + 1) h1 d in
        reaches-on meaning is_quiet m0 (At inside h1 d) (At end (adv h so_long n n) (data_after h so_long n d (suc n)))
        (reaches-to meaning is_quiet m0 m1 (At inside h1 d) (ap (λ p. At p h1 d) e4) (
          1,
          one meaning code joined line printed (pc + 1 + 1 + 1 + 1) h d (Local (counting.trips b end)) has.1.1.1.1.0.0
              ∙ ap (λ k. record (At (pc + 1 + 1 + 1 + 1) h d) { control = k }) (right.enters b end (record { at = pc + 1 + 1 + 1 + 1; slots = h; status = Running }) ok)
              ∙ ap (λ k. record (At (pc + 1 + 1 + 1 + 1) h d) { control = entering counting (b + 3) end k (record { at = pc + 1 + 1 + 1 + 1; slots = h; status = Running }) }) e,
          first-quiet meaning is_quiet m0 has.1.1.1.1.0.1,
        ))
        (all-trips h so_long n (omega (arith, small)) d)

    pub loop-reaches : (s : List ℤ) (d : Data F) → length s ≡ many → ((z : List ℤ) → counting.is_step (bounds.step z) ≡ true)
        → let h = headed bounds b s in
        let n = trips_at counting b h in
        Reaches meaning is_quiet (At pc s d) (At end (left_slots counting after bounds.index b h n)
        (all_traced layout (joined_up_to n (λ x. tr (trip_slots counting after bounds.index b (first_trip counting b h n) x))) d))
    loop-reaches s d long steps =
        let s1 : List ℤ = slice_set s b (bounds.first s) in
        let s2 : List ℤ = slice_set s1 (b + 1) (bounds.last s1) in
        let s3 : List ℤ = slice_set s2 (b + 2) (bounds.step s2) in
        let h : List ℤ = headed bounds b s in
        let n : ℕ = trips_at counting b h in
        let last = At end (left_slots counting after bounds.index b h n)
        (all_traced layout (joined_up_to n (λ x. tr (trip_slots counting after bounds.index b (first_trip counting b h n) x))) d) in
        let long3 : length s3 ≡ many = length-set s2 (b + 2) (bounds.step s2) ∙ length-set s1 (b + 1) (bounds.last s1) ∙ length-set s b (bounds.first s) ∙ long in
        reaches-on meaning is_quiet (At pc s d) (At (pc + 1) s1 d) last (set-reaches meaning code is_quiet joined line printed pc s d b bounds.first has.0)
        (reaches-on meaning is_quiet (At (pc + 1) s1 d) (At (pc + 1 + 1) s2 d) last (set-reaches meaning code is_quiet joined line printed (pc + 1) s1 d (b + 1) bounds.last has.1.0)
        (reaches-on meaning is_quiet (At (pc + 1 + 1) s2 d) (At (pc + 1 + 1 + 1) s3 d) last (set-reaches meaning code is_quiet joined line printed (pc + 1 + 1) s2 d (b + 2) bounds.step has.1.1.0)
        (reaches-on meaning is_quiet (At (pc + 1 + 1 + 1) s3 d) (At (pc + 1 + 1 + 1 + 1) h d) last (set-reaches meaning code is_quiet joined line printed (pc + 1 + 1 + 1) s3 d bounds.index (λ slots. slot slots b) has.1.1.1.0)
        (trips-reach h (length-set s3 bounds.index (slot s3 b) ∙ long3)
        (ap counting.is_step (get_or-set_other s3 bounds.index (b + 2) (slot s3 b) (pos 0) (λ z. true≢false (sym is ∙ ap is_index (sym z) ∙ hidden (b + 2) (omega (arith, above))))
        ∙ get_or-set_same s2 (b + 2) (bounds.step s2) (pos 0) (let l2 = length-set s2 (b + 2) (bounds.step s2) in omega (arith, l2, long3, room))) ∙ steps s2) n refl
        (right.bound (slot h b) (slot h (b + 1)) (slot h (b + 2))) d))))
