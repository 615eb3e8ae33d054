-- How an object was visited tells its first pair of iterations that interfere.
use Rattle.std.proofs.Common.{◌≡◌, ℕ, zero, suc, ◌<◌, List, [], ◌∷◌, fold, nat_eq, Bool, true, false, ◌||◌, if◌then◌else◌, refl, ap, sym, ◌∙◌, subst, arith, inl, inr, ⊎_elim, true≢false}
use Rattle.std.proofs.lemmas.Bool.{cases_eq, cases_lt}
use Rattle.std.proofs.lemmas.Bool.Decides.{nat_tests}
use Rattle.nest_clash.specs.Visits.{Visit, Untouched, Read, Written, Met, touched_by, is_touched, is_written, visit, Interfere, TellsPair}

-- after all touches of an iteration: whether there is one, and whether one writes
abbrev after : ℕ → Bool → Bool → Visit → Visit
after i false w v = v
after i true w Untouched = if w then Written i else Read i
after i true w (Read a) = if w then Met a i else Read a
after i true w (Written a) = Met a i
after i true w (Met a b) = Met a b

-- all iterations so far are before this one
abbrev Before : ℕ → Visit → Type 0
Before i Untouched = Unit {0}
Before i (Read a) = a < i
Before i (Written a) = a < i
Before i (Met a b) = b < i

other : (a i : ℕ) → a < i → nat_eq a i ≡ false
other a i lt = grind (arith, nat_tests)

self : (i : ℕ) → nat_eq i i ≡ true
self i = grind (arith, nat_tests)

first_touch : (i : ℕ) (v : Visit) (w : Bool) → Before i v → touched_by i v w ≡ after i true w v
first_touch i Untouched w h = refl
first_touch i (Read a) w h = ap (λ b. if b then (if w then Written i else Read i) else (if w then Met a i else Read a)) (other a i h)
first_touch i (Written a) w h = ap (λ b. if b then Written a else Met a i) (other a i h)
first_touch i (Met a b) w h = refl

next_touch : (i : ℕ) (v : Visit) (w x : Bool) → Before i v → touched_by i (after i true w v) x ≡ after i true (w || x) v
next_touch i Untouched true x h = ap (λ b. if b then Written i else Met i i) (self i)
next_touch i Untouched false x h = ap (λ b. if b then (if x then Written i else Read i) else (if x then Met i i else Read i)) (self i)
next_touch i (Read a) true x h = refl
next_touch i (Read a) false x h = ap (λ b. if b then (if x then Written i else Read i) else (if x then Met a i else Read a)) (other a i h)
next_touch i (Written a) w x h = refl
next_touch i (Met a b) w x h = refl

or_false : (b : Bool) → b ≡ (b || false)
or_false true = refl
or_false false = refl

or_assoc : (a b c : Bool) → ((a || b) || c) ≡ (a || (b || c))
or_assoc true b c = refl
or_assoc false b c = refl

module _ (acts : ℕ → List Bool) where
  more_touches : (i : ℕ) (v : Visit) (w : Bool) (ws : List Bool) → Before i v → fold (touched_by i) (after i true w v) ws ≡ after i true (w || is_written ws) v
  more_touches i v w [] h = ap (λ b. after i true b v) (or_false w)
  more_touches i v w (x ∷ ws) h =
      ap (λ u. fold (touched_by i) u ws) (next_touch i v w x h) ∙ more_touches i v (w || x) ws h ∙ ap (λ b. after i true b v) (or_assoc w x (is_written ws))

  all_touches : (i : ℕ) (v : Visit) (ws : List Bool) → Before i v → fold (touched_by i) v ws ≡ after i (is_touched ws) (is_written ws) v
  all_touches i v [] h = refl
  all_touches i v (w ∷ ws) h = ap (λ u. fold (touched_by i) u ws) (first_touch i v w h) ∙ more_touches i v w ws h

  -- what is known of the first n iterations
  pub record IsRead (n a : ℕ) : Type 0 where
    pub below : a < n
    pub reads : is_touched (acts a) ≡ true
    pub sooner : (i : ℕ) → i < a → is_touched (acts i) ≡ false
    pub none : (i : ℕ) → i < n → is_written (acts i) ≡ false

  pub record IsWritten (n a : ℕ) : Type 0 where
    pub below : a < n
    pub writes : is_written (acts a) ≡ true
    pub others : (i : ℕ) → i < n → (i ≡ a → ⊥) → is_touched (acts i) ≡ false

  pub record IsMet (n a b : ℕ) : Type 0 where
    pub order : a < b
    pub below : b < n
    pub interfere : Interfere acts a b
    pub sooner : (i : ℕ) → i < a → is_touched (acts i) ≡ false
    pub between : (j : ℕ) → a < j → j < b → Interfere acts a j → ⊥

  abbrev Known : ℕ → Visit → Type 0
  Known n Untouched = (i : ℕ) → i < n → is_touched (acts i) ≡ false
  Known n (Read a) = IsRead n a
  Known n (Written a) = IsWritten n a
  Known n (Met a b) = IsMet n a b

  before : (n : ℕ) (v : Visit) → Known n v → Before n v
  before n Untouched h = tt
  before n (Read a) h = h.below
  before n (Written a) h = h.below
  before n (Met a b) h = h.below

  written_touched : (ws : List Bool) → is_written ws ≡ true → is_touched ws ≡ true
  written_touched [] e = absurd (true≢false (sym e))
  written_touched (w ∷ ws) e = refl

  unwritten : (ws : List Bool) → is_touched ws ≡ false → is_written ws ≡ false
  unwritten [] e = refl
  unwritten (w ∷ ws) e = absurd (true≢false e)

  below_next : (P : ℕ → Type 0) (n : ℕ) → ((i : ℕ) → i < n → P i) → P n → (i : ℕ) → i < suc n → P i
  below_next P n f last i lt = ⊎_elim (λ e. subst P (sym e) last) (λ d. f i (omega (arith, lt, d))) (cases_eq i n)

  clash : (i : ℕ) → is_touched (acts i) ≡ true → is_touched (acts i) ≡ false → ⊥
  clash i t f = true≢false (sym t ∙ f)

  next : (n : ℕ) (v : Visit) (t w : Bool) → is_touched (acts n) ≡ t → is_written (acts n) ≡ w → Known n v → Known (suc n) (after n t w v)
  next n Untouched false w t_is w_is h = below_next (λ i. is_touched (acts i) ≡ false) n h t_is
  next n (Read a) false w t_is w_is h = record { below = omega (arith, h.below); reads = h.reads; sooner = h.sooner; none = below_next (λ i. is_written (acts i) ≡ false) n h.none (unwritten (acts n) t_is) }
  next n (Written a) false w t_is w_is h = record { below = omega (arith, h.below); writes = h.writes; others = below_next (λ i. (i ≡ a → ⊥) → is_touched (acts i) ≡ false) n h.others (λ d. t_is) }
  next n (Met a b) false w t_is w_is h = record { order = h.order; below = omega (arith, h.below); interfere = h.interfere; sooner = h.sooner; between = h.between }
  next n Untouched true true t_is w_is h = record { below = omega arith; writes = w_is; others = λ i lt d. h i (omega (arith, lt, d)) }
  next n Untouched true false t_is w_is h = record { below = omega arith; reads = t_is; sooner = h; none = below_next (λ i. is_written (acts i) ≡ false) n (λ i lt. unwritten (acts i) (h i lt)) w_is }
  next n (Read a) true true t_is w_is h = record {
    order = h.below;
    below = omega arith;
    interfere = (h.reads, t_is, inr w_is);
    sooner = h.sooner;
    between = λ j lt less m. ⊎_elim (λ e. true≢false (sym e ∙ h.none a h.below)) (λ e. true≢false (sym e ∙ h.none j less)) m.2;
  }
  next n (Read a) true false t_is w_is h = record { below = omega (arith, h.below); reads = h.reads; sooner = h.sooner; none = below_next (λ i. is_written (acts i) ≡ false) n h.none w_is }
  next n (Written a) true w t_is w_is h = record {
    order = h.below;
    below = omega arith;
    interfere = (written_touched (acts a) h.writes, t_is, inl h.writes);
    sooner = λ i lt. h.others i (omega (arith, lt, h.below)) (λ e. let z : i ≡ a = e in omega (arith, z, lt));
    between = λ j lt less m. clash j m.1 (h.others j less (λ e. let z : j ≡ a = e in omega (arith, z, lt)));
  }
  next n (Met a b) true w t_is w_is h = record { order = h.order; below = omega (arith, h.below); interfere = h.interfere; sooner = h.sooner; between = h.between }

  known : (n : ℕ) → Known n (visit acts n)
  known zero = λ i lt. absurd (omega (arith, lt))
  known (suc n) = subst (Known (suc n)) (sym (all_touches n (visit acts n) (acts n) (before n (visit acts n) (known n))))
      (next n (visit acts n) (is_touched (acts n)) (is_written (acts n)) refl refl (known n))

  tells : (n : ℕ) (v : Visit) → Known n v → TellsPair acts n v
  tells n Untouched h = λ i j lt below m. clash i m.0 (h i (omega (arith, lt, below)))
  tells n (Read a) h = λ i j lt below m. ⊎_elim (λ e. true≢false (sym e ∙ h.none i (omega (arith, lt, below)))) (λ e. true≢false (sym e ∙ h.none j below)) m.2
  tells n (Written a) h = λ i j lt below m. ⊎_elim
      (λ e. clash j m.1 (h.others j below (λ f. let z : i ≡ a = e in let y : j ≡ a = f in omega (arith, z, y, lt))))
      (λ d. clash i m.0 (h.others i (omega (arith, lt, below)) d))
      (cases_eq i a)
  tells n (Met a b) h = record {
    order = h.order;
    below = h.below;
    interfere = h.interfere;
    first = λ i j lt below m. ⊎_elim
        (λ less. absurd (clash i m.0 (h.sooner i less)))
        (λ le. ⊎_elim
        (λ same. inr (
          sym same,
          ⊎_elim
              (λ lt'. absurd (h.between j (subst (λ q. q < j) same lt) lt' (subst (λ q. Interfere acts q j) same m)))
              (λ le'. le')
              (cases_lt j b),
        ))
        (λ d. inl (omega (arith, le, d)))
        (cases_eq i a))
        (cases_lt i a);
  }

  pub visited : (n : ℕ) → TellsPair acts n (visit acts n)
  visited n = tells n (visit acts n) (known n)
