-- The subscripts of a section along a row: none wraps, and each goes by equal steps.
use Rattle.std.proofs.Common.{◌≡◌, ℕ, suc, ◌+◌, ◌*◌, ◌^◌, ◌<◌, ◌≤◌, Bool, true, false, ◌&&◌, List, [], ◌∷◌, map, ℤ, pos, negsuc, ◌+ℤ◌, ◌-ℤ◌, ◌*ℤ◌, ◌≤ℤ◌, neg_ℤ, nat_le, unsigned_abs, refl, ap, sym, ◌∙◌, arith, w64}
use Rattle.std.specs.List.{list_all}
use Rattle.std.proofs.lemmas.Bool.{leb-true}
use Rattle.std.proofs.lemmas.Int.{ints, int_wrap_fits, fits_signed_from_abs, unsigned_abs-mul}
use Rattle.std.proofs.Math.Nat.{mul-le-mul_left}
use Rattle.hpf_base.proofs.Integers.{sum-*ℤ, within_magnitude}
use Rattle.op_tables.specs.Operators.{wrapped}
use Rattle.array_meaning.specs.declared.sections.Sequence.{Sequence}
use Rattle.array_meaning.specs.declared.sections.Selection.{Selection}
use Rattle.array_meaning.specs.declared.sections.Selection.TheVariants.{At, Along}
use Rattle.array_meaning.specs.Sections.{nth, subscripts_at}
use Rattle.element_lines.specs.Progressions.{Progression, members}
use Rattle.element_lines.proofs.Lines.{constant, constant_member}
use Rattle.strips.specs.SlowSections.{is_slow}
use Rattle.strips.specs.Strips.{row_tuple}

-- ---- subscripts that don't wrap

and-left : (a b : Bool) → (a && b) ≡ true → a ≡ true
and-left true b h = refl
and-left false b h = h

and-right : (a b : Bool) → (a && b) ≡ true → b ≡ true
and-right true b h = h
and-right false b h = absurd cc

small : (z : ℤ) (n : ℕ) → neg_ℤ (pos n) ≤ℤ z → z ≤ℤ pos n → unsigned_abs z ≤ n
small (pos m) n low high = omega (arith, ints, high)
small (negsuc m) n low high = omega (arith, ints, low)

fits : (first step : ℤ) (m : ℕ) → m ≤ 2 ^ 20 → unsigned_abs step ≤ 2 ^ 30 → unsigned_abs first ≤ 2 ^ 60 → unsigned_abs (first +ℤ pos m *ℤ step) < 2 ^ 63
fits first step m few slow near =
    let size : unsigned_abs (pos m *ℤ step) ≡ m * unsigned_abs step = unsigned_abs-mul (pos m) step in
    let most : m * unsigned_abs step ≤ m * 2 ^ 30 = mul-le-mul_left m slow in
    let moved : unsigned_abs (pos m *ℤ step) ≤ 2 ^ 50 = omega (arith, size, most, few) in
    let a = within_magnitude first (2 ^ 60) near in
    let b = within_magnitude (pos m *ℤ step) (2 ^ 50) moved in
    let al = a.0 in
    let ah = a.1 in
    let bl = b.0 in
    let bh = b.1 in
    let all : unsigned_abs (first +ℤ pos m *ℤ step) ≤ 2 ^ 61 = small (first +ℤ pos m *ℤ step) (2 ^ 61) (omega (arith, ints, al, bl)) (omega (arith, ints, ah, bh)) in
    omega (arith, all)

exact : (p : Sequence) (u k : ℕ) → u + k ≤ 2 ^ 20 → is_slow (Along p) ≡ true → wrapped (nth p (pos (suc (u + k)))) ≡ (p.first +ℤ pos u *ℤ p.step) +ℤ pos k *ℤ p.step
exact p u k few slow =
    let s : unsigned_abs p.step ≤ 2 ^ 30 = leb-true (unsigned_abs p.step) (2 ^ 30) (and-left (nat_le (unsigned_abs p.step) (2 ^ 30)) (nat_le (unsigned_abs p.first) (2 ^ 60)) slow) in
    let f : unsigned_abs p.first ≤ 2 ^ 60 = leb-true (unsigned_abs p.first) (2 ^ 60) (and-right (nat_le (unsigned_abs p.step) (2 ^ 30)) (nat_le (unsigned_abs p.first) (2 ^ 60)) slow) in
    let one : pos (suc (u + k)) -ℤ pos 1 ≡ pos (u + k) = omega (arith, ints) in
    let sum : (pos u +ℤ pos k) *ℤ p.step ≡ pos u *ℤ p.step +ℤ pos k *ℤ p.step = sum-*ℤ (pos u) (pos k) p.step in
    let both : pos u +ℤ pos k ≡ pos (u + k) = omega (arith, ints) in
    let moved : pos (u + k) *ℤ p.step ≡ pos u *ℤ p.step +ℤ pos k *ℤ p.step = ap (λ z. z *ℤ p.step) (sym both) ∙ sum in
    ap (λ z. wrapped (p.first +ℤ z *ℤ p.step)) one
    ∙ int_wrap_fits w64 (p.first +ℤ pos (u + k) *ℤ p.step) (fits_signed_from_abs w64 (p.first +ℤ pos (u + k) *ℤ p.step) (fits p.first p.step (u + k) few s f))
    ∙ omega (arith, ints, moved)

-- ---- all subscripts

-- those of the tuples of a row, from one on: the first triplet moves, and the others go by the row's own positions
abbrev pub row_progressions : ℕ → List ℤ → List Selection → List Progression
row_progressions u rest [] = []
row_progressions u rest (At i ∷ ds) = constant i ∷ row_progressions u rest ds
row_progressions u rest (Along p ∷ ds) = record { first = p.first +ℤ pos u *ℤ p.step; step = p.step } ∷ map constant (subscripts_at ds rest)

constants : (is : List ℤ) (k : ℕ) → members k (map constant is) ≡ is
constants [] k = refl
constants (i ∷ is) k = ap (λ j. j ∷ members k (map constant is)) (constant_member i k) ∙ ap (λ js. i ∷ js) (constants is k)

pub row_subscripts : (ds : List Selection) (rest : List ℤ) (u k : ℕ) → list_all is_slow ds ≡ true → u + k ≤ 2 ^ 20
    → subscripts_at ds (row_tuple u rest k) ≡ members k (row_progressions u rest ds)
row_subscripts [] rest u k slow few = refl
row_subscripts (At i ∷ ds) rest u k slow few =
    ap (λ j. j ∷ subscripts_at ds (row_tuple u rest k)) (sym (constant_member i k))
    ∙ ap (λ js. (i +ℤ pos k *ℤ pos 0) ∷ js) (row_subscripts ds rest u k slow few)
row_subscripts (Along p ∷ ds) rest u k slow few =
    ap (λ j. j ∷ subscripts_at ds rest) (exact p u k few (and-left _ _ slow))
    ∙ ap (λ js. ((p.first +ℤ pos u *ℤ p.step) +ℤ pos k *ℤ p.step) ∷ js) (sym (constants (subscripts_at ds rest) k))
