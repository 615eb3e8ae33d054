-- Products of integers.
use Rattle.std.proofs.Common.{◌≡◌, ℕ, zero, suc, ℤ, pos, negsuc, ◌+ℤ◌, ◌-ℤ◌, ◌*ℤ◌, ◌≤◌, ◌≤ℤ◌, neg_ℤ, unsigned_abs, sym, ◌∙◌, ap, arith}
use Rattle.std.proofs.Math.IntN.{suc_ℤ, pred_ℤ, +ℤ_idl, -ℤ-+ℤ_cancel, suc_ℤ-+ℤ, pred_ℤ-+ℤ, zero-*ℤ, suc_ℤ-*ℤ, pred_ℤ-*ℤ, *ℤ_comm}
use Rattle.std.proofs.lemmas.Int.{ints}

-- a sum times a number, from the case of one less or one more
sum_more : (m k x : ℤ) → (m +ℤ k) *ℤ x ≡ (m *ℤ x) +ℤ (k *ℤ x) → (suc_ℤ m +ℤ k) *ℤ x ≡ (suc_ℤ m *ℤ x) +ℤ (k *ℤ x)
sum_more m k x h =
    let left : (suc_ℤ m +ℤ k) *ℤ x ≡ ((m +ℤ k) *ℤ x) +ℤ x = ap (λ y. y *ℤ x) (suc_ℤ-+ℤ m k) ∙ suc_ℤ-*ℤ (m +ℤ k) x in
    let right : suc_ℤ m *ℤ x ≡ (m *ℤ x) +ℤ x = suc_ℤ-*ℤ m x in
    omega (arith, ints, h, left, right)

sum_less : (m k x : ℤ) → (m +ℤ k) *ℤ x ≡ (m *ℤ x) +ℤ (k *ℤ x) → (pred_ℤ m +ℤ k) *ℤ x ≡ (pred_ℤ m *ℤ x) +ℤ (k *ℤ x)
sum_less m k x h =
    let left : (pred_ℤ m +ℤ k) *ℤ x ≡ ((m +ℤ k) *ℤ x) -ℤ x = ap (λ y. y *ℤ x) (pred_ℤ-+ℤ m k) ∙ pred_ℤ-*ℤ (m +ℤ k) x in
    let right : pred_ℤ m *ℤ x ≡ (m *ℤ x) -ℤ x = pred_ℤ-*ℤ m x in
    omega (arith, ints, h, left, right)

sum_none : (k x : ℤ) → (pos 0 +ℤ k) *ℤ x ≡ (pos 0 *ℤ x) +ℤ (k *ℤ x)
sum_none k x = ap (λ y. y *ℤ x) (+ℤ_idl k) ∙ sym (ap (λ y. y +ℤ (k *ℤ x)) (zero-*ℤ x) ∙ +ℤ_idl (k *ℤ x))

pub sum-*ℤ : (m k x : ℤ) → (m +ℤ k) *ℤ x ≡ (m *ℤ x) +ℤ (k *ℤ x)
sum-*ℤ (pos zero) k x = sum_none k x
sum-*ℤ (pos (suc n)) k x = sum_more (pos n) k x (sum-*ℤ (pos n) k x)
sum-*ℤ (negsuc zero) k x = sum_less (pos 0) k x (sum_none k x)
sum-*ℤ (negsuc (suc n)) k x = sum_less (negsuc n) k x (sum-*ℤ (negsuc n) k x)

difference-*ℤ : (m k x : ℤ) → (m -ℤ k) *ℤ x ≡ (m *ℤ x) -ℤ (k *ℤ x)
difference-*ℤ m k x =
    let whole : ((m -ℤ k) *ℤ x) +ℤ (k *ℤ x) ≡ m *ℤ x = sym (sum-*ℤ (m -ℤ k) k x) ∙ ap (λ y. y *ℤ x) (-ℤ-+ℤ_cancel m k) in
    omega (arith, ints, whole)

product_more : (m k x : ℤ) → (m *ℤ k) *ℤ x ≡ m *ℤ (k *ℤ x) → (suc_ℤ m *ℤ k) *ℤ x ≡ suc_ℤ m *ℤ (k *ℤ x)
product_more m k x h =
    ap (λ y. y *ℤ x) (suc_ℤ-*ℤ m k) ∙ sum-*ℤ (m *ℤ k) k x ∙ ap (λ y. y +ℤ (k *ℤ x)) h ∙ sym (suc_ℤ-*ℤ m (k *ℤ x))

product_less : (m k x : ℤ) → (m *ℤ k) *ℤ x ≡ m *ℤ (k *ℤ x) → (pred_ℤ m *ℤ k) *ℤ x ≡ pred_ℤ m *ℤ (k *ℤ x)
product_less m k x h =
    ap (λ y. y *ℤ x) (pred_ℤ-*ℤ m k) ∙ difference-*ℤ (m *ℤ k) k x ∙ ap (λ y. y -ℤ (k *ℤ x)) h ∙ sym (pred_ℤ-*ℤ m (k *ℤ x))

product_none : (k x : ℤ) → (pos 0 *ℤ k) *ℤ x ≡ pos 0 *ℤ (k *ℤ x)
product_none k x = ap (λ y. y *ℤ x) (zero-*ℤ k) ∙ zero-*ℤ x ∙ sym (zero-*ℤ (k *ℤ x))

pub *ℤ_assoc : (m k x : ℤ) → (m *ℤ k) *ℤ x ≡ m *ℤ (k *ℤ x)
*ℤ_assoc (pos zero) k x = product_none k x
*ℤ_assoc (pos (suc n)) k x = product_more (pos n) k x (*ℤ_assoc (pos n) k x)
*ℤ_assoc (negsuc zero) k x = product_less (pos 0) k x (product_none k x)
*ℤ_assoc (negsuc (suc n)) k x = product_less (negsuc n) k x (*ℤ_assoc (negsuc n) k x)

-- one linear function of another
pub linear_of_linear : (a b c d i : ℤ) → ((a *ℤ c) *ℤ i) +ℤ ((a *ℤ d) +ℤ b) ≡ (a *ℤ ((c *ℤ i) +ℤ d)) +ℤ b
linear_of_linear a b c d i =
    let first : (a *ℤ c) *ℤ i ≡ (c *ℤ i) *ℤ a = *ℤ_assoc a c i ∙ *ℤ_comm a (c *ℤ i) in
    let second : a *ℤ d ≡ d *ℤ a = *ℤ_comm a d in
    let whole : a *ℤ ((c *ℤ i) +ℤ d) ≡ ((c *ℤ i) *ℤ a) +ℤ (d *ℤ a) = *ℤ_comm a ((c *ℤ i) +ℤ d) ∙ sum-*ℤ (c *ℤ i) d a in
    omega (arith, ints, first, second, whole)

-- a bound on the magnitude
pub within_magnitude : (z : ℤ) (n : ℕ) → unsigned_abs z ≤ n → (neg_ℤ (pos n) ≤ℤ z) × (z ≤ℤ pos n)
within_magnitude (pos m) n h = (omega (arith, ints), omega (arith, ints))
within_magnitude (negsuc m) n h = (omega (arith, ints), omega (arith, ints))
