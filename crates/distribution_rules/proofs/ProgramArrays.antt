-- The arrays among the names of a program, one after the other.
use Rattle.std.proofs.Common.{◌≡◌, ℕ, zero, suc, ◌+◌, ◌<◌, List, [], ◌∷◌, ◌++◌, append_assoc, drop, length, slice_get, add-one, refl, sym, ap, ◌∙◌, arith}
use Rattle.name_table.specs.declared.names.Entry.{Entry}
use Rattle.distribution_rules.specs.declared.objects.Object.{Object}
use Rattle.distribution_rules.specs.ProgramObjects.{arrays_at}
use Rattle.distribution_rules.specs.Setting.{arrays}

rest_from : (es : List Entry) (n : ℕ) → n < length es → arrays (drop n es) ≡ arrays_at (slice_get es n) ++ arrays (drop (suc n) es)
rest_from [] n within = absurd (omega (arith, within))
rest_from (e ∷ es) zero within = refl
rest_from (e ∷ es) (suc n) within = let less : n < length es = omega (arith, within) in rest_from es n less

-- one more of those that are left
pub arrays_next : (es : List Entry) (n : ℕ) (os after : List Object) → n < length es → after ≡ os ++ arrays_at (slice_get es n) →
    os ++ arrays (drop n es) ≡ arrays es → after ++ arrays (drop (n + 1) es) ≡ arrays es
arrays_next es n os after within more so_far =
    ap (λ l. l ++ arrays (drop (n + 1) es)) more
    ∙ append_assoc os (arrays_at (slice_get es n)) (arrays (drop (n + 1) es))
    ∙ ap (λ m. os ++ (arrays_at (slice_get es n) ++ arrays (drop m es))) (add-one n)
    ∙ ap (λ l. os ++ l) (sym (rest_from es n within))
    ∙ so_far
