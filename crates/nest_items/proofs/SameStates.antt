-- States that differ in free scalars alone, after a store.
use Rattle.std.proofs.Common.{◌≡◌, ℕ, List, length, get_or, set, ℤ, pos, Bool, true, false, ◌&&◌, not, nat_eq, refl, ap, sym, ◌∙◌, subst, ⊎_elim, arith, get_or-set_same, get_or-set_other, length-set, true≢false}
use Rattle.std.proofs.lemmas.Bool.{cases_eq, cases_lt, and_parts}
use Rattle.std.proofs.lemmas.Bool.Decides.{nat_tests}
use Rattle.std.proofs.lemmas.List.{get_or_past}
use Rattle.array_meaning.specs.State.{State, Array, no_array, scalar, set_scalar, store}
use Rattle.nest_items.specs.Settled.{SameBut, SameIn, without}

pub same_refl : (free : ℕ → Bool) (s : State) → SameBut free s s
same_refl free s = record { count = refl; scalars = λ k f. refl; arrays = refl; printed = refl }

-- two lists with one value at a place, where they have one length
set_both : (xs ys : List ℤ) (x : ℕ) (v : ℤ) → length xs ≡ length ys → get_or (set xs x v) x (pos 0) ≡ get_or (set ys x v) x (pos 0)
set_both xs ys x v e = ⊎_elim
    (λ lt. get_or-set_same xs x v (pos 0) lt ∙ sym (get_or-set_same ys x v (pos 0) (omega (arith, lt, e))))
    (λ le. get_or_past (set xs x v) x (pos 0) (omega (arith, le, length-set xs x v)) ∙ sym (get_or_past (set ys x v) x (pos 0) (omega (arith, le, e, length-set ys x v))))
    (cases_lt x (length xs))

-- a scalar that gets one value in both
pub same_set : (free : ℕ → Bool) (r s : State) (x : ℕ) (v : ℤ) → SameBut free r s → SameBut (without free x) (set_scalar r x v) (set_scalar s x v)
same_set free r s x v h = record {
  count = length-set r.scalars x v ∙ h.count ∙ sym (length-set s.scalars x v);
  scalars = λ k f. ⊎_elim
      (λ e. subst (λ q. scalar (set_scalar r x v) q ≡ scalar (set_scalar s x v) q) e (set_both r.scalars s.scalars x v h.count))
      (λ n. let seen : free k ≡ false = grind (arith, nat_tests) in
      get_or-set_other r.scalars x k v (pos 0) (λ e. n (sym e)) ∙ h.scalars k seen ∙ sym (get_or-set_other s.scalars x k v (pos 0) (λ e. n (sym e))))
      (cases_eq x k);
  arrays = h.arrays;
  printed = h.printed;
}

-- a scalar that was seen before stays seen
pub same_narrow : (free : ℕ → Bool) (r s : State) (x : ℕ) → SameBut (without free x) r s → SameBut free r s
same_narrow free r s x h = record {
  count = h.count;
  scalars = λ k f. h.scalars k (ap (λ b. b && not (nat_eq k x)) f);
  arrays = h.arrays;
  printed = h.printed;
}

-- free scalars may change
pub same_free : (free : ℕ → Bool) (r s : State) (x : ℕ) (v : ℤ) → free x ≡ true → SameBut free r s → SameBut free (set_scalar r x v) s
same_free free r s x v t h = record {
  count = length-set r.scalars x v ∙ h.count;
  scalars = λ k f. get_or-set_other r.scalars x k v (pos 0) (λ e. true≢false (sym t ∙ ap free (sym e) ∙ f)) ∙ h.scalars k f;
  arrays = h.arrays;
  printed = h.printed;
}

pub same_free_right : (free : ℕ → Bool) (r s : State) (x : ℕ) (v : ℤ) → free x ≡ true → SameBut free r (set_scalar s x v) → SameBut free r s
same_free_right free r s x v t h = record {
  count = h.count ∙ length-set s.scalars x v;
  scalars = λ k f. h.scalars k f ∙ get_or-set_other s.scalars x k v (pos 0) (λ e. true≢false (sym t ∙ ap free (sym e) ∙ f));
  arrays = h.arrays;
  printed = h.printed;
}

abbrev stored_in : ℕ → ℕ → ℤ → List Array → List Array
stored_in a p v xs = set xs a (record (get_or xs a no_array) { elements = set (get_or xs a no_array).elements p v })

pub same_store : (free : ℕ → Bool) (r s : State) (a p : ℕ) (v : ℤ) → SameBut free r s → SameBut free (store r a p v) (store s a p v)
same_store free r s a p v h = record {
  count = h.count;
  scalars = h.scalars;
  arrays = ap (stored_in a p v) h.arrays;
  printed = h.printed;
}

-- a scalar that gets one value in both, where no other is seen by that
pub same_assign : (free : ℕ → Bool) (r s : State) (x : ℕ) (v : ℤ) → SameBut free r s → SameBut free (set_scalar r x v) (set_scalar s x v)
same_assign free r s x v h = same_narrow free (set_scalar r x v) (set_scalar s x v) x (same_set free r s x v h)

-- ---- free scalars

pub ind_refl : (free : ℕ → Bool) (r : State) → SameIn free r r
ind_refl free r = record { count = refl; values = λ k f. refl }

pub ind_enter : (free : ℕ → Bool) (z r : State) (x : ℕ) (v : ℤ) → SameIn free z r → SameIn (without free x) z (set_scalar r x v)
ind_enter free z r x v h = record {
  count = h.count ∙ sym (length-set r.scalars x v);
  values = λ k f.
      let both = and_parts (free k) (not (nat_eq k x)) f in
      let other = both.1 in
      let n : k ≡ x → ⊥ = grind (arith, nat_tests) in
      get_or-set_other r.scalars x k v (pos 0) n ∙ h.values k both.0;
}

pub ind_leave : (free : ℕ → Bool) (z r w : State) (x : ℕ) (v : ℤ) → SameIn (without free x) z r → length z.scalars ≡ length w.scalars → scalar r x ≡ scalar (set_scalar w x v) x
    → SameIn free (set_scalar z x v) r
ind_leave free z r w x v h long e = record {
  count = length-set z.scalars x v ∙ h.count;
  values = λ k f. ⊎_elim
      (λ same. subst (λ q. scalar r q ≡ scalar (set_scalar z x v) q) same (e ∙ sym (set_both z.scalars w.scalars x v long)))
      (λ n. let seen : (free k && not (nat_eq k x)) ≡ true = grind (arith, nat_tests) in
      h.values k seen ∙ sym (get_or-set_other z.scalars x k v (pos 0) (λ e. n (sym e))))
      (cases_eq x k);
}

pub ind_end : (free : ℕ → Bool) (z r : State) (x : ℕ) (v : ℤ) → SameIn free z r → SameIn free (set_scalar z x v) (set_scalar r x v)
ind_end free z r x v h = record {
  count = length-set z.scalars x v ∙ h.count ∙ sym (length-set r.scalars x v);
  values = λ k f. ⊎_elim
      (λ same. subst (λ q. scalar (set_scalar r x v) q ≡ scalar (set_scalar z x v) q) same (set_both r.scalars z.scalars x v (sym h.count)))
      (λ n. get_or-set_other r.scalars x k v (pos 0) (λ e. n (sym e)) ∙ h.values k f ∙ sym (get_or-set_other z.scalars x k v (pos 0) (λ e. n (sym e))))
      (cases_eq x k);
}

pub ind_assign : (free : ℕ → Bool) (z r : State) (k : ℕ) (v : ℤ) → free k ≡ false → SameIn free z r → SameIn free z (set_scalar r k v)
ind_assign free z r k v quiet h = record {
  count = h.count ∙ sym (length-set r.scalars k v);
  values = λ j f. get_or-set_other r.scalars k j v (pos 0) (λ e. true≢false (sym f ∙ ap free e ∙ quiet)) ∙ h.values j f;
}

pub ind_store : (free : ℕ → Bool) (z r : State) (a p : ℕ) (v : ℤ) → SameIn free z r → SameIn free z (store r a p v)
ind_store free z r a p v h = record { count = h.count; values = h.values }
