-- Linear forms that wrap.
use Rattle.std.proofs.Common.{◌≡◌, ℤ, pos, ◌+ℤ◌, ◌-ℤ◌, ◌*ℤ◌, neg_ℤ, w64, sym, ◌∙◌, ap, arith}
use Rattle.std.proofs.Math.IntN.{zero-*ℤ, *ℤ_comm, *ℤ-one, -ℤ-+ℤ_cancel}
use Rattle.std.proofs.lemmas.Int.{ints, int_wrap-add_left, int_wrap-add_right, int_wrap-mul_left, int_wrap-mul_right, int_wrap-sub_right}
use Rattle.op_tables.specs.Operators.{wrapped}
use Rattle.hpf_base.proofs.Integers.{sum-*ℤ, *ℤ_assoc, linear_of_linear}

module _ (i : ℤ) where
  -- the value at an index
  abbrev pub at : ℤ → ℤ → ℤ
  at f o = wrapped ((f *ℤ i) +ℤ o)

  pub affine : (f o : ℤ) → at (wrapped f) (wrapped o) ≡ at f o
  affine f o =
      int_wrap-add_right w64 (wrapped f *ℤ i) o
      ∙ sym (int_wrap-add_left w64 (wrapped f *ℤ i) o)
      ∙ ap (λ z. wrapped (z +ℤ o)) (int_wrap-mul_left w64 f i)
      ∙ int_wrap-add_left w64 (f *ℤ i) o

  offset : (f o : ℤ) → at f (wrapped o) ≡ at f o
  offset f o = int_wrap-add_right w64 (f *ℤ i) o

  difference : (f g : ℤ) → (f -ℤ g) *ℤ i ≡ (f *ℤ i) -ℤ (g *ℤ i)
  difference f g =
      let whole : ((f -ℤ g) *ℤ i) +ℤ (g *ℤ i) ≡ f *ℤ i = sym (sum-*ℤ (f -ℤ g) g i) ∙ ap (λ z. z *ℤ i) (-ℤ-+ℤ_cancel f g) in
      omega (arith, ints, whole)

  sub_left : (a b : ℤ) → wrapped (wrapped a -ℤ b) ≡ wrapped (a -ℤ b)
  sub_left a b =
      ap wrapped (turned (wrapped a) b) ∙ int_wrap-add_left w64 a (neg_ℤ b) ∙ ap wrapped (sym (turned a b))
    where
      turned : (z b : ℤ) → z -ℤ b ≡ z +ℤ neg_ℤ b
      turned z b = omega (arith, ints)

  one_times : i *ℤ pos 1 ≡ i
  unfolding lib.IntN.one
  one_times = *ℤ-one i

  pub alone : wrapped i ≡ i → i ≡ at (pos 1) (pos 0)
  alone fits = sym (ap wrapped (one (pos 1 *ℤ i) (*ℤ_comm (pos 1) i ∙ one_times)) ∙ fits)
    where
      one : (z : ℤ) → z ≡ i → z +ℤ pos 0 ≡ i
      one z e = omega (arith, ints, e)

  pub negated : (f o : ℤ) → wrapped (neg_ℤ (at f o)) ≡ at (wrapped (pos 0 -ℤ f)) (wrapped (pos 0 -ℤ o))
  negated f o =
      ap wrapped (turned (at f o)) ∙ int_wrap-sub_right w64 (pos 0) ((f *ℤ i) +ℤ o) ∙ ap wrapped (sum (zero-*ℤ i) (difference (pos 0) f))
      ∙ sym (affine (pos 0 -ℤ f) (pos 0 -ℤ o))
    where
      turned : (z : ℤ) → neg_ℤ z ≡ pos 0 -ℤ z
      turned z = omega (arith, ints)

      sum : pos 0 *ℤ i ≡ pos 0 → (pos 0 -ℤ f) *ℤ i ≡ (pos 0 *ℤ i) -ℤ (f *ℤ i) → pos 0 -ℤ ((f *ℤ i) +ℤ o) ≡ ((pos 0 -ℤ f) *ℤ i) +ℤ (pos 0 -ℤ o)
      sum z d = omega (arith, ints, z, d)

  pub added_number : (f o b : ℤ) → wrapped (at f o +ℤ b) ≡ at f (wrapped (o +ℤ b))
  added_number f o b =
      int_wrap-add_left w64 ((f *ℤ i) +ℤ o) b ∙ ap wrapped moved ∙ sym (offset f (o +ℤ b))
    where
      moved : ((f *ℤ i) +ℤ o) +ℤ b ≡ (f *ℤ i) +ℤ (o +ℤ b)
      moved = omega (arith, ints)

  pub added_to_number : (a f o : ℤ) → wrapped (a +ℤ at f o) ≡ at f (wrapped (a +ℤ o))
  added_to_number a f o =
      int_wrap-add_right w64 a ((f *ℤ i) +ℤ o) ∙ ap wrapped moved ∙ sym (offset f (a +ℤ o))
    where
      moved : a +ℤ ((f *ℤ i) +ℤ o) ≡ (f *ℤ i) +ℤ (a +ℤ o)
      moved = omega (arith, ints)

  pub added : (f o g p : ℤ) → wrapped (at f o +ℤ at g p) ≡ at (wrapped (f +ℤ g)) (wrapped (o +ℤ p))
  added f o g p =
      int_wrap-add_right w64 (at f o) ((g *ℤ i) +ℤ p) ∙ int_wrap-add_left w64 ((f *ℤ i) +ℤ o) ((g *ℤ i) +ℤ p) ∙ ap wrapped (moved (sum-*ℤ f g i))
      ∙ sym (affine (f +ℤ g) (o +ℤ p))
    where
      moved : (f +ℤ g) *ℤ i ≡ (f *ℤ i) +ℤ (g *ℤ i) → ((f *ℤ i) +ℤ o) +ℤ ((g *ℤ i) +ℤ p) ≡ ((f +ℤ g) *ℤ i) +ℤ (o +ℤ p)
      moved d = omega (arith, ints, d)

  pub less_number : (f o b : ℤ) → wrapped (at f o -ℤ b) ≡ at f (wrapped (o -ℤ b))
  less_number f o b =
      sub_left ((f *ℤ i) +ℤ o) b ∙ ap wrapped moved ∙ sym (offset f (o -ℤ b))
    where
      moved : ((f *ℤ i) +ℤ o) -ℤ b ≡ (f *ℤ i) +ℤ (o -ℤ b)
      moved = omega (arith, ints)

  pub number_less : (a f o : ℤ) → wrapped (a -ℤ at f o) ≡ at (wrapped (pos 0 -ℤ f)) (wrapped (a -ℤ o))
  number_less a f o =
      int_wrap-sub_right w64 a ((f *ℤ i) +ℤ o) ∙ ap wrapped (moved (zero-*ℤ i) (difference (pos 0) f)) ∙ sym (affine (pos 0 -ℤ f) (a -ℤ o))
    where
      moved : pos 0 *ℤ i ≡ pos 0 → (pos 0 -ℤ f) *ℤ i ≡ (pos 0 *ℤ i) -ℤ (f *ℤ i) → a -ℤ ((f *ℤ i) +ℤ o) ≡ ((pos 0 -ℤ f) *ℤ i) +ℤ (a -ℤ o)
      moved z d = omega (arith, ints, z, d)

  pub less : (f o g p : ℤ) → wrapped (at f o -ℤ at g p) ≡ at (wrapped (f -ℤ g)) (wrapped (o -ℤ p))
  less f o g p =
      int_wrap-sub_right w64 (at f o) ((g *ℤ i) +ℤ p) ∙ sub_left ((f *ℤ i) +ℤ o) ((g *ℤ i) +ℤ p) ∙ ap wrapped (moved (difference f g))
      ∙ sym (affine (f -ℤ g) (o -ℤ p))
    where
      moved : (f -ℤ g) *ℤ i ≡ (f *ℤ i) -ℤ (g *ℤ i) → ((f *ℤ i) +ℤ o) -ℤ ((g *ℤ i) +ℤ p) ≡ ((f -ℤ g) *ℤ i) +ℤ (o -ℤ p)
      moved d = omega (arith, ints, d)

  pub times_number : (f o b : ℤ) → wrapped (at f o *ℤ b) ≡ at (wrapped (f *ℤ b)) (wrapped (o *ℤ b))
  times_number f o b =
      int_wrap-mul_left w64 ((f *ℤ i) +ℤ o) b ∙ ap wrapped (sum-*ℤ (f *ℤ i) o b ∙ ap (λ z. z +ℤ (o *ℤ b)) swapped) ∙ sym (affine (f *ℤ b) (o *ℤ b))
    where
      swapped : (f *ℤ i) *ℤ b ≡ (f *ℤ b) *ℤ i
      swapped = *ℤ_assoc f i b ∙ ap (λ z. f *ℤ z) (*ℤ_comm i b) ∙ sym (*ℤ_assoc f b i)

  pub number_times : (a f o : ℤ) → wrapped (a *ℤ at f o) ≡ at (wrapped (a *ℤ f)) (wrapped (a *ℤ o))
  number_times a f o =
      int_wrap-mul_right w64 a ((f *ℤ i) +ℤ o) ∙ ap wrapped (moved (linear_of_linear a (pos 0) f o i)) ∙ sym (affine (a *ℤ f) (a *ℤ o))
    where
      moved : ((a *ℤ f) *ℤ i) +ℤ ((a *ℤ o) +ℤ pos 0) ≡ (a *ℤ ((f *ℤ i) +ℤ o)) +ℤ pos 0 → a *ℤ ((f *ℤ i) +ℤ o) ≡ ((a *ℤ f) *ℤ i) +ℤ (a *ℤ o)
      moved d = omega (arith, ints, d)
