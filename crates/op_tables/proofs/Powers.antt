-- Powers modulo a number, by squaring.
use Rattle.std.proofs.Common.{◌≡◌, ◌≢◌, ℕ, suc, ◌+◌, ◌*◌, ◌/◌, ◌%◌, ◌^◌, sym, ap, ◌∙◌, arith}
use Rattle.std.proofs.Math.Nat.{pow-suc, mul_assoc, mul_right_comm}
use Rattle.std.proofs.lemmas.Nat.{mul-pow, pow-add, pow-mod, mul-mod_first, mul-mod_second}

-- a square's power is the base's at twice the exponent
squared : (p b k m : ℕ) → (p * ((b * b) % m) ^ k) % m ≡ (p * b ^ (k + k)) % m
squared p b k m =
    sym (mul-mod_second p _ m)
    ∙ ap (λ x. (p * x) % m) (pow-mod (b * b) k m ∙ ap (λ x. x % m) (mul-pow b b k ∙ sym (pow-add b k k)))
    ∙ mul-mod_second p _ m

pub even_step : (p b e m : ℕ) → e % 2 ≢ 1 → (p * ((b * b) % m) ^ (e / 2)) % m ≡ (p * b ^ e) % m
even_step p b e m even =
    let twice : e / 2 + e / 2 ≡ e = omega arith in
    squared p b (e / 2) m ∙ ap (λ k. (p * b ^ k) % m) twice

pub odd_step : (p b e m : ℕ) → e % 2 ≡ 1 → ((p * b) % m * ((b * b) % m) ^ (e / 2)) % m ≡ (p * b ^ e) % m
odd_step p b e m odd =
    let k = e / 2 in
    let twice : suc (k + k) ≡ e = omega arith in
    mul-mod_first (p * b) _ m
    ∙ squared (p * b) b k m
    ∙ ap (λ x. x % m) (mul_right_comm p b _ ∙ mul_assoc p _ b ∙ ap (λ x. p * x) (sym (pow-suc b (k + k)) ∙ ap (λ i. b ^ i) twice))
