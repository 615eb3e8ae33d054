-- The place of a tuple on an axis, axis by axis.
use Rattle.std.proofs.Common.{◌≡◌, ℕ, suc, ◌-◌, ◌/◌, ◌≤◌, List, [], ◌∷◌, length, get_or, refl, ap, arith}
use Rattle.std.proofs.lemmas.List.{get_or_past}
use Rattle.axis_products.specs.Products.{places_at}

length-places : (ns : List ℕ) (t : ℕ) → length (places_at ns t) ≡ length ns
length-places [] t = refl
length-places (n ∷ ns) t = ap suc (length-places ns (t / n))

pub no-axis : (ns : List ℕ) (t axis : ℕ) → length ns ≤ axis → get_or (places_at ns t) axis 0 ≡ 0
no-axis ns t axis past = get_or_past (places_at ns t) axis 0 (omega (arith, past, length-places ns t))
