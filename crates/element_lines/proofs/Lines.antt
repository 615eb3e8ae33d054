-- Places on a line: where subscripts move by equal steps, the places of the elements do so too.
use Rattle.std.proofs.Common.{◌≡◌, ℕ, suc, ◌+◌, ◌-◌, ◌*◌, ◌<◌, ◌≤◌, Bool, true, false, if◌then◌else◌, List, [], ◌∷◌, ℤ, pos, negsuc, ◌+ℤ◌, ◌-ℤ◌, ◌*ℤ◌, ◌≤ℤ◌, ◌<ℤ◌, neg_ℤ, nat_lt, Option, Some, None, refl, ap, sym, subst, ◌∙◌, arith}
use Rattle.std.specs.Prelude.{option_and_then, option_map}
use Rattle.std.proofs.lemmas.Bool.{ltb-true, lt-ltb}
use Rattle.std.proofs.lemmas.Int.{ints}
use Rattle.std.proofs.Math.IntN.{pos-*ℤ-pos, pos-*ℤ-negsuc, zero-*ℤ, *ℤ_comm, *ℤ-one}
use Rattle.std.proofs.Math.Nat.{mul-le-mul_right}
use Rattle.hpf_base.proofs.Integers.{sum-*ℤ, *ℤ_assoc}
use Rattle.expression_rules.specs.declared.dims.Dim.{Dim}
use Rattle.expression_rules.specs.Dims.{extent}
use Rattle.array_meaning.specs.State.{if_below, offset, element_place}
use Rattle.element_lines.specs.Progressions.{Progression, member, members}

-- an optional place is this number
abbrev Hits : Option ℕ → ℤ → Type 0
Hits None z = ⊥
Hits (Some p) z = pos p ≡ z

-- there is a place
abbrev Exists : Option ℕ → Type 0
Exists None = ⊥
Exists (Some p) = Unit {0}

-- up to the last one places go by equal steps
record Line (last : ℕ) (place : ℕ → Option ℕ) : Type 0 where
  by : Progression
  at : (k : ℕ) → k ≤ last → Hits (place k) (member k by)

-- ---- one place

exists : (o : Option ℕ) (p : ℕ) → o ≡ Some p → Exists o
exists o p is = subst Exists (sym is) (tt {0})

hit_at : (o : Option ℕ) (p : ℕ) (z : ℤ) → o ≡ Some p → Hits o z → pos p ≡ z
hit_at o p z is h = subst (λ o. Hits o z) is h

hit_is : (o : Option ℕ) (p : ℕ) (z : ℤ) → Hits o z → z ≡ pos p → o ≡ Some p
hit_is None p z h is = absurd h
hit_is (Some q) p z h is = let e : q ≡ p = omega (arith, ints, h, is) in ap Some e

abbrev joined : ℕ → Option ℕ → Option ℕ → Option ℕ
joined e first rest = option_and_then (λ k. option_map (λ r. k + e * r) rest) first

joined-first : (e : ℕ) (first rest : Option ℕ) → Exists (joined e first rest) → Exists first
joined-first e None rest h = h
joined-first e (Some k) rest h = tt {0}

joined-rest : (e : ℕ) (first rest : Option ℕ) → Exists (joined e first rest) → Exists rest
joined-rest e None rest h = absurd h
joined-rest e (Some k) None h = h
joined-rest e (Some k) (Some r) h = tt {0}

joined-hits : (e : ℕ) (first rest : Option ℕ) (a b : ℤ) → Hits first a → Hits rest b → Hits (joined e first rest) (a +ℤ pos e *ℤ b)
joined-hits e None rest a b h g = absurd h
joined-hits e (Some k) None a b h g = absurd g
joined-hits e (Some k) (Some r) a b h g =
    let p : pos e *ℤ pos r ≡ pos (e * r) = pos-*ℤ-pos e r in
    let q : pos e *ℤ pos r ≡ pos e *ℤ b = ap (λ z. pos e *ℤ z) g in
    omega (arith, ints, h, p, q)

-- ---- numbers below a bound

below : (z : ℤ) (e : ℕ) → Exists (if_below z e) → (pos 0 ≤ℤ z) × (z <ℤ pos e)
below (pos n) e h = by_test (nat_lt n e) refl h where
  by_test : (t : Bool) → nat_lt n e ≡ t → Exists (if t then Some n else None) → (pos 0 ≤ℤ pos n) × (pos n <ℤ pos e)
  by_test true is h = let g = ltb-true n e is in (omega (arith, ints), omega (arith, ints, g))
  by_test false is h = absurd h
below (negsuc n) e h = absurd h

below-hits : (z : ℤ) (e : ℕ) → pos 0 ≤ℤ z → z <ℤ pos e → Hits (if_below z e) z
below-hits (pos n) e low high =
    let h : n < e = omega (arith, ints, high) in
    subst (λ t. Hits (if t then Some n else None) (pos n)) (sym (lt-ltb n e h)) refl
below-hits (negsuc n) e low high = absurd (omega (arith, ints, low))

-- between two numbers of a line
between : (z step : ℤ) (e k m : ℕ) → k ≤ m → pos 0 ≤ℤ z → z <ℤ pos e → pos 0 ≤ℤ (z +ℤ pos m *ℤ step) → (z +ℤ pos m *ℤ step) <ℤ pos e
    → (pos 0 ≤ℤ (z +ℤ pos k *ℤ step)) × ((z +ℤ pos k *ℤ step) <ℤ pos e)
between z (pos s) e k m le a b c d =
    let p : pos m *ℤ pos s ≡ pos (m * s) = pos-*ℤ-pos m s in
    let q : pos k *ℤ pos s ≡ pos (k * s) = pos-*ℤ-pos k s in
    let h : k * s ≤ m * s = mul-le-mul_right s le in
    (omega (arith, ints, a, p, q, h), omega (arith, ints, d, p, q, h))
between z (negsuc s) e k m le a b c d =
    let p : pos m *ℤ negsuc s ≡ neg_ℤ (pos (m * suc s)) = pos-*ℤ-negsuc m s in
    let q : pos k *ℤ negsuc s ≡ neg_ℤ (pos (k * suc s)) = pos-*ℤ-negsuc k s in
    let h : k * suc s ≤ m * suc s = mul-le-mul_right (suc s) le in
    (omega (arith, ints, c, p, q, h), omega (arith, ints, b, p, q, h))

from_none : (z step : ℤ) → z +ℤ pos 0 *ℤ step ≡ z
from_none z step = let p : pos 0 *ℤ step ≡ pos 0 = zero-*ℤ step in omega (arith, ints, p)

-- the offsets of subscripts on a line
offsets : (d : Dim) (c step : ℤ) (k m : ℕ) → k ≤ m → Exists (offset d (c +ℤ pos 0 *ℤ step)) → Exists (offset d (c +ℤ pos m *ℤ step))
    → Hits (offset d (c +ℤ pos k *ℤ step)) ((c -ℤ d.lower) +ℤ pos k *ℤ step)
offsets d c step k m le first last =
    let z : ℤ = c -ℤ d.lower in
    let e : ℕ = extent d in
    let turn : (n : ℕ) → (c +ℤ pos n *ℤ step) -ℤ d.lower ≡ (c -ℤ d.lower) +ℤ pos n *ℤ step = λ n. (omega (arith, ints)) in
    let low = below (c -ℤ d.lower) (extent d) (subst (λ z. Exists (if_below z (extent d))) (turn 0 ∙ from_none (c -ℤ d.lower) step) first) in
    let high = below ((c -ℤ d.lower) +ℤ pos m *ℤ step) (extent d) (subst (λ z. Exists (if_below z (extent d))) (turn m) last) in
    let here = between (c -ℤ d.lower) step (extent d) k m le low.0 low.1 high.0 high.1 in
    subst (λ z. Hits (if_below z (extent d)) ((c -ℤ d.lower) +ℤ pos k *ℤ step)) (sym (turn k)) (below-hits ((c -ℤ d.lower) +ℤ pos k *ℤ step) (extent d) here.0 here.1)

-- ---- all subscripts

-- a subscript that is the same everywhere
abbrev pub constant : ℤ → Progression
constant i = record { first = i; step = pos 0 }

pub constant_member : (i : ℤ) (k : ℕ) → member k (constant i) ≡ i
constant_member i k = let p : pos k *ℤ pos 0 ≡ pos (k * 0) = pos-*ℤ-pos k 0 in omega (arith, ints, p)

-- two lines joined are one
joined-line : (a s c step : ℤ) (e k : ℕ) → (a +ℤ pos k *ℤ s) +ℤ pos e *ℤ (c +ℤ pos k *ℤ step) ≡ (a +ℤ pos e *ℤ c) +ℤ pos k *ℤ (s +ℤ pos e *ℤ step)
joined-line a s c step e k =
    let turn : pos e *ℤ (c +ℤ pos k *ℤ step) ≡ (c +ℤ pos k *ℤ step) *ℤ pos e = *ℤ_comm (pos e) (c +ℤ pos k *ℤ step) in
    let sum : (c +ℤ pos k *ℤ step) *ℤ pos e ≡ c *ℤ pos e +ℤ (pos k *ℤ step) *ℤ pos e = sum-*ℤ c (pos k *ℤ step) (pos e) in
    let first : c *ℤ pos e ≡ pos e *ℤ c = *ℤ_comm c (pos e) in
    let second : (pos k *ℤ step) *ℤ pos e ≡ (pos e *ℤ step) *ℤ pos k = *ℤ_assoc (pos k) step (pos e) ∙ *ℤ_comm (pos k) (step *ℤ pos e) ∙ ap (λ z. z *ℤ pos k) (*ℤ_comm step (pos e)) in
    let both : pos k *ℤ (s +ℤ pos e *ℤ step) ≡ (s +ℤ pos e *ℤ step) *ℤ pos k = *ℤ_comm (pos k) (s +ℤ pos e *ℤ step) in
    let apart : (s +ℤ pos e *ℤ step) *ℤ pos k ≡ s *ℤ pos k +ℤ (pos e *ℤ step) *ℤ pos k = sum-*ℤ s (pos e *ℤ step) (pos k) in
    let own : s *ℤ pos k ≡ pos k *ℤ s = *ℤ_comm s (pos k) in
    omega (arith, ints, turn, sum, first, second, both, apart, own)

line : (dims : List Dim) (ps : List Progression) (m : ℕ) → Exists (element_place dims (members 0 ps)) → Exists (element_place dims (members m ps))
    → Line m (λ k. element_place dims (members k ps))
line [] [] m a b = record { by = constant (pos 0); at = λ k le. sym (constant_member (pos 0) k) }
line [] (p ∷ ps) m a b = absurd a
line (d ∷ dims) [] m a b = absurd a
line (d ∷ dims) (p ∷ ps) m a b =
    let e = extent d in
    let l = line dims ps m (joined-rest e (offset d (member 0 p)) (element_place dims (members 0 ps)) a) (joined-rest e (offset d (member m p)) (element_place dims (members m ps)) b) in
    let first = joined-first e (offset d (member 0 p)) (element_place dims (members 0 ps)) a in
    let last = joined-first e (offset d (member m p)) (element_place dims (members m ps)) b in
    record {
      by = record { first = (p.first -ℤ d.lower) +ℤ pos e *ℤ l.by.first; step = p.step +ℤ pos e *ℤ l.by.step };
      at = λ k le.
          subst (λ z. Hits (joined (extent d) (offset d (member k p)) (element_place dims (members k ps))) z)
          (joined-line (p.first -ℤ d.lower) p.step l.by.first l.by.step e k)
          (joined-hits e (offset d (member k p)) (element_place dims (members k ps)) ((p.first -ℤ d.lower) +ℤ pos k *ℤ p.step) (member k l.by)
          (offsets d p.first p.step k m le first last) (l.at k le));
    }

-- ---- by the first two places

pub on_a_line : (dims : List Dim) (ps : List Progression) (n first second last : ℕ) → 1 < n → element_place dims (members 0 ps) ≡ Some first
    → element_place dims (members 1 ps) ≡ Some second → element_place dims (members (n - 1) ps) ≡ Some last → first ≤ second
    → (k : ℕ) → k < n → element_place dims (members k ps) ≡ Some (first + k * (second - first))
unfolding lib.IntN.one
on_a_line dims ps n first second last two at_first at_second at_last up k lt =
    let l = line dims ps (n - 1) (exists _ first at_first) (exists _ last at_last) in
    let h0 : pos first ≡ l.by.first +ℤ pos 0 *ℤ l.by.step = hit_at _ first (member 0 l.by) at_first (l.at 0 (omega arith)) in
    let h1 : pos second ≡ l.by.first +ℤ pos 1 *ℤ l.by.step = hit_at _ second (member 1 l.by) at_second (l.at 1 (omega (arith, two))) in
    let z0 : pos 0 *ℤ l.by.step ≡ pos 0 = zero-*ℤ l.by.step in
    let z1 : pos 1 *ℤ l.by.step ≡ l.by.step = *ℤ_comm (pos 1) l.by.step ∙ *ℤ-one l.by.step in
    let step : l.by.step ≡ pos (second - first) = omega (arith, ints, h0, h1, z0, z1, up) in
    let moved : pos k *ℤ l.by.step ≡ pos (k * (second - first)) = ap (λ z. pos k *ℤ z) step ∙ pos-*ℤ-pos k (second - first) in
    let here : l.by.first +ℤ pos k *ℤ l.by.step ≡ pos (first + k * (second - first)) = omega (arith, ints, h0, z0, moved) in
    hit_is (element_place dims (members k ps)) (first + k * (second - first)) (member k l.by) (l.at k (omega (arith, lt))) here
