-- A name has bytes.
use Rattle.std.proofs.Common.{◌≡◌, ℕ, ◌+◌, ◌<◌, false, List, [], ◌∷◌, drop, length, get_or, bytes_eq, refl, sym, ap, ◌∙◌, arith}
use Rattle.std.specs.Prelude.{◌||◌}
use Rattle.hpf_base.specs.Name.{IsName}
use Rattle.expression_rules.specs.Symbols.{Name, is_among}
use Rattle.expression_rules.proofs.Lists.{drop_item}

pub has_bytes : (x : Name) → IsName x → bytes_eq [] x ≡ false
has_bytes [] h = absurd (omega (arith, h.some))
has_bytes (b ∷ bs) h = refl

-- a turn of the loop over names
pub unnamed_next : (xs : List Name) (n : ℕ) (x : Name) → n < length xs → x ≡ get_or xs n x → IsName x → is_among [] (drop n xs) ≡ is_among [] xs →
    is_among [] (drop (n + 1) xs) ≡ is_among [] xs
unnamed_next xs n x within is named so_far =
    let rest = is_among [] (drop (n + 1) xs) in
    sym (ap (is_among []) (drop_item xs n x within is) ∙ ap (λ t. t || rest) (has_bytes x named)) ∙ so_far
