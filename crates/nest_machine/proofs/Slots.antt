-- The code of a body changes no slot before those of its inner loops but their indices.
use Rattle.std.proofs.Common.{◌≡◌, ℕ, zero, suc, ◌+◌, ◌≤◌, List, length, slice_set, ℤ, pos, Bool, true, false, refl, sym, ap, ◌∙◌, arith, length-set, get_or-set_same, get_or-set_other}
use Rattle.std.proofs.lemmas.Bool.{true≢false}
use Rattle.nest_machine.specs.Counting.{slot, Counting, trips_at, IsCounting}
use Rattle.nest_machine.specs.Body.{Bounds, Body, NoText, AndText, AndIf, AndLoop, Arms, NoArm, AndArm, TakeSteps, ArmsTakeSteps}
use Rattle.nest_machine.specs.Slots.{SameSlots, headed, entered, next_index, advanced, again, trip_slots, first_trip, left_slots, slots_after, slots_after_arms}

module _ (is_index : ℕ → Bool) where
  abbrev pub Same : ℕ → List ℤ → List ℤ → Type 0
  Same = SameSlots is_index

  pub same-refl : (b : ℕ) (xs : List ℤ) → Same b xs xs
  same-refl b xs = (refl, λ k lt e. refl)

  pub same-on : (b b1 b2 : ℕ) (xs ys zs : List ℤ) → b ≤ b1 → b ≤ b2 → Same b1 xs ys → Same b2 ys zs → Same b xs zs
  same-on b b1 b2 xs ys zs le le2 h g = (h.0 ∙ g.0, λ k lt e. h.1 k (omega (arith, lt, le)) e ∙ g.1 k (omega (arith, lt, le2)) e)

  pub same-set : (b x : ℕ) (xs : List ℤ) (v : ℤ) → b ≤ x → Same b xs (slice_set xs x v)
  same-set b x xs v le = (sym (length-set xs x v), λ k lt e. sym (get_or-set_other xs x k v (pos 0) (λ e. absurd (omega (arith, e, lt, le)))))

  -- the index of an inner loop
  pub same-index : (b x : ℕ) (xs : List ℤ) (v : ℤ) → is_index x ≡ true → Same b xs (slice_set xs x v)
  same-index b x xs v is = (sym (length-set xs x v), λ k lt e. sym (get_or-set_other xs x k v (pos 0) (λ z. true≢false (sym is ∙ ap is_index (sym z) ∙ e))))

module _ {F : Type 0} (counting : Counting F) (is_index : ℕ → Bool) where
  pub same-headed : (bounds : Bounds) (b : ℕ) (s : List ℤ) → is_index bounds.index ≡ true → Same is_index b s (headed bounds b s)
  same-headed bounds b s is =
      let s1 : List ℤ = slice_set s b (bounds.first s) in
      let s2 : List ℤ = slice_set s1 (b + 1) (bounds.last s1) in
      let s3 : List ℤ = slice_set s2 (b + 2) (bounds.step s2) in
      let s4 : List ℤ = slice_set s3 bounds.index (slot s3 b) in
      same-on is_index b b b s s1 s4 (omega arith) (omega arith) (same-set is_index b b s (bounds.first s) (omega arith))
      (same-on is_index b b b s1 s2 s4 (omega arith) (omega arith) (same-set is_index b (b + 1) s1 (bounds.last s1) (omega arith))
      (same-on is_index b b b s2 s3 s4 (omega arith) (omega arith) (same-set is_index b (b + 2) s2 (bounds.step s2) (omega arith))
      (same-index is_index b bounds.index s3 (slot s3 b) is)))

  pub same-advanced : (x b : ℕ) (s : List ℤ) → is_index x ≡ true → Same is_index b s (advanced counting x b s)
  same-advanced x b s is =
      let s1 : List ℤ = next_index counting b s in
      same-on is_index b b b s s1 (advanced counting x b s) (omega arith) (omega arith)
      (same-set is_index b b s (counting.advance (slot s b) (slot s (b + 2))) (omega arith)) (same-index is_index b x s1 (slot s1 b) is)

  pub same-again : (x b : ℕ) (s : List ℤ) → is_index x ≡ true → Same is_index b s (again counting x b s)
  same-again x b s is =
      let a : List ℤ = advanced counting x b s in
      same-on is_index b b b s a (again counting x b s) (omega arith) (omega arith) (same-advanced x b s is)
      (same-set is_index b (b + 3) a (counting.less (slot a (b + 3))) (omega arith))

  pub same-first : (b : ℕ) (s : List ℤ) (n : ℕ) → Same is_index b s (first_trip counting b s n)
  same-first b s zero = same-refl is_index b s
  same-first b s (suc n) = same-set is_index b (b + 3) s (counting.left n) (omega arith)

  module _ (after : List ℤ → List ℤ) (index b : ℕ) (is : is_index index ≡ true) (keeps : (s : List ℤ) → Same is_index (b + 4) s (after s)) where
    pub same-trip : (first : List ℤ) (x : ℕ) → Same is_index b first (trip_slots counting after index b first x)
    same-trip first zero = same-refl is_index b first
    same-trip first (suc x) =
        let t : List ℤ = trip_slots counting after index b first x in
        same-on is_index b b b first t (again counting index b (after t)) (omega arith) (omega arith) (same-trip first x)
        (same-on is_index b (b + 4) b t (after t) (again counting index b (after t)) (omega arith) (omega arith) (keeps t)
        (same-again index b (after t) is))

    pub same-left : (s : List ℤ) (n : ℕ) → Same is_index b s (left_slots counting after index b s n)
    same-left s zero = same-refl is_index b s
    same-left s (suc n) =
        let e : List ℤ = entered counting b n s in
        let t : List ℤ = trip_slots counting after index b e n in
        same-on is_index b b b s e (advanced counting index b (after t)) (omega arith) (omega arith)
        (same-set is_index b (b + 3) s (counting.left n) (omega arith))
        (same-on is_index b b b e t (advanced counting index b (after t)) (omega arith) (omega arith) (same-trip e n)
        (same-on is_index b (b + 4) b t (after t) (advanced counting index b (after t)) (omega arith) (omega arith) (keeps t)
        (same-advanced index b (after t) is)))

  module _ {A C : Type 0} where
    mutual
      pub same-after : (body : Body A C) → TakeSteps counting is_index body → (b : ℕ) (s : List ℤ) → Same is_index b s (slots_after counting body b s)
      same-after NoText ok b s = same-refl is_index b s
      same-after (AndText a rest) ok b s = same-after rest ok b s
      same-after (AndIf arms rest) ok b s =
          let s1 : List ℤ = slots_after_arms counting arms b s in
          same-on is_index b b b s s1 (slots_after counting rest b s1) (omega arith) (omega arith) (same-after-arms arms ok.0 b s) (same-after rest ok.1 b s1)
      same-after (AndLoop bounds inner rest) ok b s =
          let h : List ℤ = headed bounds b s in
          let f : List ℤ → List ℤ = slots_after counting inner (b + 4) in
          let s1 : List ℤ = left_slots counting f bounds.index b h (trips_at counting b h) in
          same-on is_index b b b s h (slots_after counting rest b s1) (omega arith) (omega arith) (same-headed bounds b s ok.0.1)
          (same-on is_index b b b h s1 (slots_after counting rest b s1) (omega arith) (omega arith)
          (same-left f bounds.index b ok.0.1 (λ z. same-after inner ok.1 (b + 4) z) h (trips_at counting b h)) (same-after rest ok.2 b s1))

      pub same-after-arms : (arms : Arms A C) → ArmsTakeSteps counting is_index arms → (b : ℕ) (s : List ℤ) → Same is_index b s (slots_after_arms counting arms b s)
      same-after-arms NoArm ok b s = same-refl is_index b s
      same-after-arms (AndArm test body others) ok b s =
          let s1 : List ℤ = slots_after counting body b s in
          same-on is_index b b b s s1 (slots_after_arms counting others b s1) (omega arith) (omega arith) (same-after body ok.0 b s)
          (same-after-arms others ok.1 b s1)

-- how many trips are left, trip by trip, where n trips are left after the first
module _ {F : Type 0} (counting : Counting F) (right : IsCounting counting) (is_index : ℕ → Bool) (base : ℕ) (hidden : (k : ℕ) → base ≤ k → is_index k ≡ false) (index b many : ℕ)
    (is : is_index index ≡ true) (above : base ≤ b) (room : b + 4 ≤ many) (after : List ℤ → List ℤ) (keeps : (s : List ℤ) → SameSlots is_index (b + 4) s (after s)) (h : List ℤ)
    (size_h : length h ≡ many) (n : ℕ) where
  abbrev T : ℕ → List ℤ
  T x = trip_slots counting after index b (entered counting b n h) x

  pub trip-long : (x : ℕ) → length (T x) ≡ many
  trip-long x = sym (same-trip counting is_index after index b is keeps (entered counting b n h) x).0 ∙ length-set h (b + 3) (counting.left n) ∙ size_h

  long-after : (x : ℕ) → length (after (T x)) ≡ many
  long-after x = sym (keeps (T x)).0 ∙ trip-long x

  abbrev adv : ℕ → List ℤ
  adv x = advanced counting index b (after (T x))

  not-index : (k : ℕ) → base ≤ k → k ≡ index → ⊥
  not-index k le z = true≢false (sym is ∙ ap is_index (sym z) ∙ hidden k le)

  adv-left : (x : ℕ) → slot (adv x) (b + 3) ≡ slot (T x) (b + 3)
  adv-left x =
      let a : List ℤ = next_index counting b (after (T x)) in
      get_or-set_other a index (b + 3) (slot a b) (pos 0) (not-index (b + 3) (omega (arith, above)))
      ∙ get_or-set_other (after (T x)) b (b + 3) (counting.advance (slot (after (T x)) b) (slot (after (T x)) (b + 2))) (pos 0) (λ z. absurd (omega (arith, z)))
      ∙ sym ((keeps (T x)).1 (b + 3) (omega arith) (hidden (b + 3) (omega (arith, above))))

  adv-long : (x : ℕ) → length (adv x) ≡ many
  adv-long x =
      let a : List ℤ = next_index counting b (after (T x)) in
      length-set a index (slot a b) ∙ length-set (after (T x)) b (counting.advance (slot (after (T x)) b) (slot (after (T x)) (b + 2))) ∙ long-after x

  -- how many trips are left stands in its slot
  left-is : (x r : ℕ) → x + r ≡ n → slot (T x) (b + 3) ≡ counting.left r
  left-is zero r e = get_or-set_same h (b + 3) (counting.left n) (pos 0) (omega (arith, room, size_h)) ∙ ap counting.left (let z : n ≡ r = omega (arith, e) in z)
  left-is (suc x) r e =
      get_or-set_same (adv x) (b + 3) (counting.less (slot (adv x) (b + 3))) (pos 0) (let l = adv-long x in omega (arith, room, l))
      ∙ ap counting.less (adv-left x ∙ left-is x (suc r) (omega (arith, e))) ∙ right.less r

  -- also after the index is set to its next value
  pub left-over : (x r : ℕ) → x + r ≡ n → slot (adv x) (b + 3) ≡ counting.left r
  left-over x r e = adv-left x ∙ left-is x r e
