-- Nested loops are one loop over the numbers of their tuples.
use Rattle.std.proofs.Common.{◌≡◌, ℕ, zero, suc, ◌+◌, ◌*◌, ◌/◌, ◌%◌, ◌<◌, ◌≤◌, List, [], ◌∷◌, Result, Ok, Err, refl, ap, sym, ◌∙◌, subst, arith}
use Rattle.std.proofs.Math.Nat.{mod-eq_of_lt, div-eq_of_lt, mul-suc, mul-zero, mul_comm, mod-add-div, add-mul-mod_self_left, add-mul-div_left, mul-le-mul_left}
use Rattle.std.proofs.lemmas.Nat.{div_below, mod_below}
use Rattle.nest_order.specs.Turns.{◌>>=◌, in_turn}
use Rattle.nest_order.specs.NestIndex.{iterations, IsTuple, number_of, tuple_of, nested}

pub numbered : (counts turns : List ℕ) → IsTuple counts turns → number_of counts turns < iterations counts
numbered [] [] h = omega arith
numbered [] (t ∷ ts) h = absurd h
numbered (c ∷ cs) [] h = absurd h
numbered (c ∷ cs) (t ∷ ts) h =
    let lt : t < c = h.0 in
    let rec : suc (number_of cs ts) ≤ iterations cs = let z = numbered cs ts h.1 in omega arith in
    omega (arith, mul-suc c (number_of cs ts), mul-le-mul_left c rec)

-- the turn of the innermost loop, and the number of the outer ones
turn_of : (c t n : ℕ) → t < c → (t + c * n) % c ≡ t
turn_of c t n lt = add-mul-mod_self_left t c n ∙ mod-eq_of_lt lt

outer_of : (c t n : ℕ) → t < c → (t + c * n) / c ≡ n
outer_of c t n lt = add-mul-div_left t n (omega arith) ∙ let z = div-eq_of_lt lt in omega arith

pub back_to_tuple : (counts turns : List ℕ) → IsTuple counts turns → tuple_of counts (number_of counts turns) ≡ turns
back_to_tuple [] [] h = refl
back_to_tuple [] (t ∷ ts) h = absurd h
back_to_tuple (c ∷ cs) [] h = absurd h
back_to_tuple (c ∷ cs) (t ∷ ts) h =
    let first = turn_of c t (number_of cs ts) h.0 in
    let others = ap (tuple_of cs) (outer_of c t (number_of cs ts) h.0) ∙ back_to_tuple cs ts h.1 in
    λ i. first i ∷ others i

some_turn : (c n k : ℕ) → k < c * n → 0 < c
some_turn zero n k lt = omega arith
some_turn (suc c) n k lt = omega arith

outer_below : (c n k : ℕ) → k < c * n → k / c < n
outer_below c n k lt = div_below k c n (some_turn c n k lt) (subst (λ z. k < z) (mul_comm c n) lt)

pub is_tuple : (counts : List ℕ) (number : ℕ) → number < iterations counts → IsTuple counts (tuple_of counts number)
is_tuple [] number lt = tt
is_tuple (c ∷ cs) number lt = (mod_below number c (some_turn c (iterations cs) number lt), is_tuple cs (number / c) (outer_below c (iterations cs) number lt))

pub back_to_number : (counts : List ℕ) (number : ℕ) → number < iterations counts → number_of counts (tuple_of counts number) ≡ number
back_to_number [] number lt = omega arith
back_to_number (c ∷ cs) number lt = ap (λ n. number % c + c * n) (back_to_number cs (number / c) (outer_below c (iterations cs) number lt)) ∙ mod-add-div number c

module _ {M F : Type 0} where
  then_ok : (r : Result M F) → r ≡ r >>= (λ m. Ok m)
  then_ok (Ok m) = refl
  then_ok (Err f) = refl

  then_then : (r : Result M F) (f g : M → Result M F) → (r >>= f) >>= g ≡ r >>= (λ m. f m >>= g)
  then_then (Ok m) f g = refl
  then_then (Err e) f g = refl

  pub in_turn-add : (a b : ℕ) (f : ℕ → M → Result M F) (m : M) → in_turn (a + b) f m ≡ in_turn a f m >>= in_turn b (λ x. f (a + x))
  in_turn-add a zero f m = let z : a + 0 ≡ a = omega arith in ap (λ n. in_turn n f m) z ∙ then_ok (in_turn a f m)
  in_turn-add a (suc b) f m =
      let z : a + suc b ≡ suc (a + b) = omega arith in
      ap (λ n. in_turn n f m) z ∙ ap (λ r. r >>= f (a + b)) (in_turn-add a b f m) ∙ then_then (in_turn a f m) (in_turn b (λ x. f (a + x))) (f (a + b))

  pub in_turn-same : (t : ℕ) (f g : ℕ → M → Result M F) → ((x : ℕ) → x < t → f x ≡ g x) → in_turn t f ≡ in_turn t g
  in_turn-same zero f g same = refl
  in_turn-same (suc t) f g same = λ i m. in_turn-same t f g (λ x lt. same x (omega arith)) i m >>= same t (omega arith) i

  -- t outer turns of c inner ones
  in_turn-mul : (c t : ℕ) (g : ℕ → ℕ → M → Result M F) (m : M) → in_turn t (λ y. in_turn c (λ x. g x y)) m ≡ in_turn (c * t) (λ n. g (n % c) (n / c)) m
  in_turn-mul c zero g m = ap (λ n. in_turn n (λ n. g (n % c) (n / c)) m) (sym (mul-zero c))
  in_turn-mul c (suc t) g m =
      let f = λ (n : ℕ). g (n % c) (n / c) in
      ap (λ r. r >>= in_turn c (λ x. g x t)) (in_turn-mul c t g m)
      ∙ ap (λ h. in_turn (c * t) f m >>= h) (in_turn-same c (λ x. g x t) (λ x. f (c * t + x)) (λ x lt. at x lt))
      ∙ sym (in_turn-add (c * t) c f m)
      ∙ ap (λ n. in_turn n f m) (sym (mul-suc c t))
    where
      at : (x : ℕ) → x < c → g x t ≡ g ((c * t + x) % c) ((c * t + x) / c)
      at x lt =
          let z : x + c * t ≡ c * t + x = omega arith in
          let p : x ≡ (c * t + x) % c = sym (turn_of c x t lt) ∙ ap (λ n. n % c) z in
          let q : t ≡ (c * t + x) / c = sym (outer_of c x t lt) ∙ ap (λ n. n / c) z in
          λ i. g (p i) (q i)

  pub in_order : (counts : List ℕ) (body : List ℕ → M → Result M F) (m : M) → nested counts body m ≡ in_turn (iterations counts) (λ number. body (tuple_of counts number)) m
  in_order [] body m = refl
  in_order (c ∷ cs) body m =
      in_order cs (λ outer. in_turn c (λ turn. body (turn ∷ outer))) m
      ∙ in_turn-mul c (iterations cs) (λ turn outer. body (turn ∷ tuple_of cs outer)) m
