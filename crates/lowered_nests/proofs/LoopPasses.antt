-- The machine over the code of an inner loop, with what it passes, given what the trips of its body pass.
use Rattle.std.proofs.Common.{◌≡◌, ℕ, zero, suc, ◌+◌, ◌<◌, ◌≤◌, List, [], ◌++◌, length, ℤ, pos, Bool, true, false, refl, sym, ap, ◌∙◌, subst, arith, slice_set, length-set, get_or-set_same, get_or-set_other}
use Rattle.std.proofs.lemmas.List.{length-append}
use Rattle.std.proofs.lemmas.Bool.{true≢false}
use Rattle.op_tables.specs.declared.op.Op.TheVariants as op
use Rattle.op_tables.specs.Operators.{is_true}
use Rattle.array_meaning.specs.Faults.{Fault}
use Rattle.array_meaning.specs.Iterations.{in_turns}
use Rattle.statement_trail.specs.Trail.{Trail}
use Rattle.machine_steps.specs.Instr.{Control, Running}
use Rattle.node_code.specs.Flat.{Flat, Int, Slot, Operated, NoFlat, AndFlat}
use Rattle.code_meaning.specs.Flat.{slot}
use Rattle.node_code.specs.Instructions.{Instruction, NewMapping, Trips, Jump, JumpIfZero}
use Rattle.code_meaning.specs.Instructions.{ArrayTable, go_if}
use Rattle.lowered_expressions.proofs.Reach.{HasAt, has-back}
use Rattle.nest_machine.specs.Body.{Bounds}
use Rattle.nest_machine.specs.Counting.{Counting, trips_at, entering}
use Rattle.nest_machine.specs.Slots.{SameSlots, headed, entered, next_index, advanced, trip_slots, first_trip, left_slots}
use Rattle.nest_machine.proofs.Slots.{left-over}
use Rattle.nest_join.specs.NestLoops.{counting_at}
use Rattle.program_code.specs.NestInstructions.{FlatBounds, tail_instructions, loop_instructions}
use Rattle.nest_join.specs.NestBodies.{CantFault, bounds_of}
use Rattle.nest_join.proofs.Counting.{is-counting}
use Rattle.lowered_nests.proofs.Passing.{Passes, stands, passes-on, passes-last, passes-at, passes-one, passes-set}

pub loop-length : (line : ℕ) (bounds : FlatBounds) (b pc : ℕ) (body : List Instruction) → length (loop_instructions line bounds b pc body) ≡ 5 + length body + 5
loop-length line bounds b pc body =
    let tail = tail_instructions line bounds b (pc + 5) (pc + 5 + length body + 5) in
    let l : length (body ++ tail) ≡ length body + 5 = length-append body tail in omega (arith, l)

module _ (table : ArrayTable) (moves : ℕ → List NewMapping) (code : List Instruction) (last line : ℕ) (is_index : ℕ → Bool) (base : ℕ)
    (hidden : (k : ℕ) → base ≤ k → is_index k ≡ false) (bounds : FlatBounds) (b pc many : ℕ) (is : is_index bounds.index ≡ true) (above : base ≤ b) (body : List Instruction)
    (safe : CantFault bounds.first × CantFault bounds.last × CantFault bounds.step) (after : List ℤ → List ℤ) (keeps : (s : List ℤ) → SameSlots is_index (b + 4) s (after s))
    (has : HasAt code pc (loop_instructions line bounds b pc body)) (under : pc + (5 + length body + 5) ≤ last) (room : b + 4 ≤ many) where
  abbrev counting : Counting Fault
  counting = counting_at line

  abbrev inside : ℕ
  inside = pc + 5

  abbrev over : ℕ
  over = pc + 5 + length body

  abbrev end : ℕ
  end = pc + 5 + length body + 5

  abbrev Go : Trail → ℕ → List ℤ → ℕ → List ℤ → Type 0
  Go = Passes table moves code last

  abbrev tail : List Instruction
  tail = tail_instructions line bounds b inside end

  at-tail : HasAt code over tail
  at-tail = let e : pc + 1 + 1 + 1 + 1 + 1 ≡ inside = omega arith in has-back code inside body tail (subst (λ x. HasAt code x (body ++ tail)) e has.1.1.1.1.1)

  -- the index gets its next value
  advance : (s : List ℤ) → Go [] over s (over + 1 + 1) (advanced counting bounds.index b s)
  advance s =
      let a : List ℤ = next_index counting b s in
      let sum : Flat = Operated op.Add (AndFlat (Slot b) (AndFlat (Slot (b + 2)) NoFlat)) in
      passes-on table moves code last [] [] over (over + 1) (over + 1 + 1) s a (advanced counting bounds.index b s)
      (passes-set table moves code last over s line b sum (λ slots. refl) at-tail.0 (omega (arith, under)))
      (passes-set table moves code last (over + 1) a line bounds.index (Slot b) (λ slots. refl) at-tail.1.0 (omega (arith, under)))

  -- the test after a trip
  test : (s : List ℤ) (to : ℕ) → ((c : Control Fault) → c.at ≡ over + 1 + 1 → go_if (is_true (slot s (b + 3))) end c ≡ record c { at = to }) → Go [] (over + 1 + 1) s to s
  test s to goes =
      passes-one table moves code last [] (over + 1 + 1) to s s (JumpIfZero end (b + 3)) at-tail.1.1.0 (omega (arith, under))
      (λ r. λ i. record (stands table moves code last (over + 1 + 1) s r) { control = goes (record { at = over + 1 + 1; slots = s; status = Running }) refl i }) tt

  go-on : (t : Bool) (c : Control Fault) → t ≡ true → c.at ≡ over + 1 + 1 → go_if t end c ≡ record c { at = over + 1 + 1 + 1 }
  go-on true c e at = λ i. record c { at = at i + 1 }
  go-on false c e at = absurd (true≢false (sym e))

  go-out : (t : Bool) (c : Control Fault) → t ≡ false → go_if t end c ≡ record c { at = end }
  go-out true c e = absurd (true≢false e)
  go-out false c e = refl

  -- to the next trip
  again-passes : (s : List ℤ) → is_true (slot (advanced counting bounds.index b s) (b + 3)) ≡ true
      → Go [] over s inside (slice_set (advanced counting bounds.index b s) (b + 3) (counting.less (slot (advanced counting bounds.index b s) (b + 3))))
  again-passes s more =
      let a : List ℤ = advanced counting bounds.index b s in
      let z : List ℤ = slice_set a (b + 3) (counting.less (slot a (b + 3))) in
      let less : Flat = Operated op.Sub (AndFlat (Slot (b + 3)) (AndFlat (Int (pos 1)) NoFlat)) in
      passes-on table moves code last [] [] over (over + 1 + 1) inside s a z (advance s)
      (passes-on table moves code last [] [] (over + 1 + 1) (over + 1 + 1 + 1) inside a a z (test a (over + 1 + 1 + 1) (λ c at. go-on (is_true (slot a (b + 3))) c more at))
      (passes-on table moves code last [] [] (over + 1 + 1 + 1) (over + 1 + 1 + 1 + 1) inside a z z
      (passes-set table moves code last (over + 1 + 1 + 1) a line (b + 3) less (λ slots. refl) at-tail.1.1.1.0 (omega (arith, under)))
      (passes-one table moves code last [] (over + 1 + 1 + 1 + 1) inside z z (Jump inside) at-tail.1.1.1.1.0 (omega (arith, under)) (λ r. refl) tt)))

  module _ (h : List ℤ) (size_h : length h ≡ many) (n : ℕ) (T : ℕ → Trail) where
    abbrev trip : ℕ → List ℤ
    trip x = trip_slots counting after bounds.index b (entered counting b n h) x

    left : (x r : ℕ) → x + r ≡ n → slot (advanced counting bounds.index b (after (trip x))) (b + 3) ≡ counting.left r
    left = left-over counting (is-counting line) is_index base hidden bounds.index b many is above room after keeps h size_h n

    module _ (small : suc n ≤ (is-counting line).most) (each : (x : ℕ) → x ≤ n → Go (T x) inside (trip x) over (after (trip x))) where
      -- from the first trip to after the body of trip x
      trips-run : (x r : ℕ) → x + r ≡ n → Go (in_turns (suc x) T) inside (trip 0) over (after (trip x))
      trips-run zero r e = each 0 (omega (arith, e))
      trips-run (suc x) r e =
          let more : is_true (slot (advanced counting bounds.index b (after (trip x))) (b + 3)) ≡ true =
          ap is_true (left x (suc r) (omega (arith, e))) ∙ (is-counting line).some r (omega (arith, e, small)) in
          passes-on table moves code last (in_turns (suc x) T) (T (suc x)) inside over over (trip 0) (after (trip x)) (after (trip (suc x))) (trips-run x (suc r) (omega (arith, e)))
          (passes-on table moves code last [] (T (suc x)) over inside over (after (trip x)) (trip (suc x)) (after (trip (suc x))) (again-passes (after (trip x)) more)
          (each (suc x) (omega (arith, e))))

      -- and out of the loop
      pub all-trips : Go (in_turns (suc n) T) inside (trip 0) end (advanced counting bounds.index b (after (trip n)))
      all-trips =
          let a : List ℤ = advanced counting bounds.index b (after (trip n)) in
          let none : is_true (slot a (b + 3)) ≡ false = ap is_true (left n 0 (omega arith)) ∙ (is-counting line).none in
          passes-last table moves code last (in_turns (suc n) T) inside over end (trip 0) (after (trip n)) a (trips-run n 0 (omega arith))
          (passes-on table moves code last [] [] over (over + 1 + 1) end (after (trip n)) a a (advance (after (trip n)))
          (test a end (λ c at. go-out (is_true (slot a (b + 3))) c none)))

  -- from after the head
  trips-passes : (h : List ℤ) → length h ≡ many → counting.is_step (slot h (b + 2)) ≡ true → (n : ℕ) → trips_at counting b h ≡ n → n ≤ (is-counting line).most → (T : ℕ → Trail)
      → ((x : ℕ) → x < n → Go (T x) inside (trip_slots counting after bounds.index b (first_trip counting b h n) x) over (after (trip_slots counting after bounds.index b (first_trip counting b h n) x)))
      → Go (in_turns n T) (pc + 1 + 1 + 1 + 1) h end (left_slots counting after bounds.index b h n)
  trips-passes h long ok zero e small T each =
      passes-one table moves code last [] (pc + 1 + 1 + 1 + 1) end h h (Trips line b (b + 1) (b + 2) (b + 3) end) has.1.1.1.1.0 (omega (arith, under))
      (λ r. λ i. record (stands table moves code last (pc + 1 + 1 + 1 + 1) h r) {
        control = ((is-counting line).enters b end (record { at = pc + 1 + 1 + 1 + 1; slots = h; status = Running }) ok
            ∙ ap (λ k. entering counting (b + 3) end k (record { at = pc + 1 + 1 + 1 + 1; slots = h; status = Running })) e) i;
      }) tt
  trips-passes h long ok (suc n) e small T each =
      let e4 : pc + 1 + 1 + 1 + 1 + 1 ≡ inside = omega arith in
      let h1 : List ℤ = entered counting b n h in
      passes-on table moves code last [] (in_turns (suc n) T) (pc + 1 + 1 + 1 + 1) inside end h h1 (left_slots counting after bounds.index b h (suc n))
      (passes-at table moves code last [] (pc + 1 + 1 + 1 + 1) (pc + 1 + 1 + 1 + 1 + 1) inside h h1 e4
      (passes-one table moves code last [] (pc + 1 + 1 + 1 + 1) (pc + 1 + 1 + 1 + 1 + 1) h h1 (Trips line b (b + 1) (b + 2) (b + 3) end) has.1.1.1.1.0 (omega (arith, under))
      (λ r. λ i. record (stands table moves code last (pc + 1 + 1 + 1 + 1) h r) {
        control = ((is-counting line).enters b end (record { at = pc + 1 + 1 + 1 + 1; slots = h; status = Running }) ok
            ∙ ap (λ k. entering counting (b + 3) end k (record { at = pc + 1 + 1 + 1 + 1; slots = h; status = Running })) e) i;
      }) tt))
      (all-trips h long n T small (λ x le. each x (omega (arith, le))))

  -- the whole loop
  pub loop-passes : (s : List ℤ) → length s ≡ many → ((z : List ℤ) → counting.is_step ((bounds_of bounds).step z) ≡ true) → (T : ℕ → Trail)
      → let h = headed (bounds_of bounds) b s in
      let n = trips_at counting b h in
      ((x : ℕ) → x < n → Go (T x) inside (trip_slots counting after bounds.index b (first_trip counting b h n) x) over (after (trip_slots counting after bounds.index b (first_trip counting b h n) x)))
      → Go (in_turns n T) pc s end (left_slots counting after bounds.index b h n)
  loop-passes s long steps T each =
      let bs : Bounds = bounds_of bounds in
      let s1 : List ℤ = slice_set s b (bs.first s) in
      let s2 : List ℤ = slice_set s1 (b + 1) (bs.last s1) in
      let s3 : List ℤ = slice_set s2 (b + 2) (bs.step s2) in
      let h : List ℤ = headed bs b s in
      let n : ℕ = trips_at counting b h in
      let z : List ℤ = left_slots counting after bounds.index b h n in
      let long3 : length s3 ≡ many = length-set s2 (b + 2) (bs.step s2) ∙ length-set s1 (b + 1) (bs.last s1) ∙ length-set s b (bs.first s) ∙ long in
      passes-on table moves code last [] (in_turns n T) pc (pc + 1) end s s1 z (passes-set table moves code last pc s line b bounds.first safe.0 has.0 (omega (arith, under)))
      (passes-on table moves code last [] (in_turns n T) (pc + 1) (pc + 1 + 1) end s1 s2 z
      (passes-set table moves code last (pc + 1) s1 line (b + 1) bounds.last safe.1 has.1.0 (omega (arith, under)))
      (passes-on table moves code last [] (in_turns n T) (pc + 1 + 1) (pc + 1 + 1 + 1) end s2 s3 z
      (passes-set table moves code last (pc + 1 + 1) s2 line (b + 2) bounds.step safe.2 has.1.1.0 (omega (arith, under)))
      (passes-on table moves code last [] (in_turns n T) (pc + 1 + 1 + 1) (pc + 1 + 1 + 1 + 1) end s3 h z
      (passes-set table moves code last (pc + 1 + 1 + 1) s3 line bounds.index (Slot b) (λ slots. refl) has.1.1.1.0 (omega (arith, under)))
      (trips-passes h (length-set s3 bounds.index (slot s3 b) ∙ long3)
      (ap counting.is_step (get_or-set_other s3 bounds.index (b + 2) (slot s3 b) (pos 0) (λ z. true≢false (sym is ∙ ap is_index (sym z) ∙ hidden (b + 2) (omega (arith, above))))
      ∙ get_or-set_same s2 (b + 2) (bs.step s2) (pos 0) (let l2 = length-set s2 (b + 2) (bs.step s2) in omega (arith, l2, long3, room))) ∙ steps s2) n refl
      ((is-counting line).bound (slot h b) (slot h (b + 1)) (slot h (b + 2))) T each))))
