-- Of both subscripts one is out of bounds.
use Rattle.std.proofs.Common.{◌≡◌, ℕ, ◌+◌, ◌*◌, Bool, true, false, if◌then◌else◌, List, [], ◌∷◌, ℤ, pos, negsuc, ◌+ℤ◌, ◌-ℤ◌, ◌<ℤ◌, int_le, Some, None, option_map, option_and_then, refl, ◌∙◌, ap, arith}
use Rattle.std.proofs.lemmas.Bool.{le-ltb, leb-true, leb-false}
use Rattle.std.proofs.lemmas.Int.{ints}
use Rattle.std.specs.Ordering.{int_eq}
use Rattle.expression_rules.specs.declared.dims.Dim.{Dim}
use Rattle.expression_rules.specs.Dims.{extent}
use Rattle.array_meaning.specs.State.{element_place, if_below, offset}
use Rattle.courses.proofs.Sections.{both}
use Rattle.courses.specs.TurnedForms.{Turned}
use Rattle.courses.specs.TurnedNames.{is_of_first}
use Rattle.courses.proofs.TurnedForms.{moved, same-number}

-- a number that isn't below n is past n places, and one that is lies, less n, before them
past : (n : ℕ) (v : ℤ) → int_le (pos n) v ≡ true → if_below v n ≡ None
past n (pos k) e = ap (λ b. if b then Some k else None) (le-ltb k n (leb-true n k e))
past n (negsuc k) e = refl

negative : (n : ℕ) (z : ℤ) → z <ℤ pos 0 → if_below z n ≡ None
negative n (pos k) low = absurd (omega (arith, ints, low))
negative n (negsuc k) low = refl

before : (n : ℕ) (v : ℤ) → int_le (pos n) v ≡ false → if_below (v -ℤ pos n) n ≡ None
before n (pos k) e = negative n (pos k -ℤ pos n) (let h = leb-false n k e in omega (arith, ints, h))
before n (negsuc k) e = negative n (negsuc k -ℤ pos n) (omega (arith, ints))

-- what the other case asks for
abbrev pub unmoved : Turned → Bool → ℤ
unmoved x true = moved x false
unmoved x false = moved x true

out-of : (x : Turned) (d : Dim) (v : ℤ) (b : Bool) → d.lower ≡ x.lower → pos (extent d) ≡ x.count → int_le x.count v ≡ b
    → offset d (v +ℤ unmoved x b) ≡ None
out-of x d v true low same e =
    let above : (v +ℤ x.lower) -ℤ d.lower ≡ v = omega (arith, ints, low) in
    ap (λ z. if_below z (extent d)) above ∙ past (extent d) v (ap (λ n. int_le n v) same ∙ e)
out-of x d v false low same e =
    let above : (v +ℤ (x.lower -ℤ x.count)) -ℤ d.lower ≡ v -ℤ pos (extent d) = omega (arith, ints, low, same) in
    ap (λ z. if_below z (extent d)) above ∙ before (extent d) v (ap (λ n. int_le n v) same ∙ e)

pub outside : (x : Turned) (ds : List Dim) (v : ℤ) (js : List ℤ) (b : Bool) → is_of_first x ds ≡ true → int_le x.count v ≡ b
    → element_place ds ((v +ℤ unmoved x b) ∷ js) ≡ None
outside x [] v js b of e = refl
outside x (d ∷ ds) v js b of e =
    let h = both (int_eq d.lower x.lower) (int_eq (pos (extent d)) x.count) of in
    ap (option_and_then (λ k. option_map (λ rest. k + extent d * rest) (element_place ds js)))
    (out-of x d v b (same-number d.lower x.lower h.0) (same-number (pos (extent d)) x.count h.1) e)
