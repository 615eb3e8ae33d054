-- Progressions of integers by those that are seen from a base.
use Rattle.std.proofs.Common.{◌≡◌, ℕ, ℤ, pos, negsuc, neg_ℤ, FitsSigned, ◌+ℤ◌, ◌*ℤ◌, ◌≤ℤ◌, ◌+◌, ◌-◌, ◌*◌, ◌<◌, ◌≤◌, refl, sym, ◌∙◌, ap, subst, arith}
use Rattle.std.proofs.Math.IntN.{pos-*ℤ-pos}
use Rattle.std.proofs.lemmas.Int.{ints}
use Rattle.std.specs.Int.{w128}
use Rattle.std.specs.Prelude.{Some, None}
use Rattle.congruences.specs.declared.natural_meeting.NaturalProgression.{NaturalProgression}
use Rattle.congruences.specs.declared.progressions.Progression.{Progression}
use Rattle.congruences.specs.NaturalProgressions.{AreCommonNaturals, IsNaturalMember}
use Rattle.congruences.specs.Progressions.{AreCommon, IsMember, IsProgression}
use Rattle.congruences.specs.Shifts.{IsNarrow, IsShifted, last_of}
use Rattle.congruences.proofs.LeastStrides.{reach}

moved_sum : (base : ℤ) (f m : ℕ) → (base +ℤ pos f) +ℤ pos m ≡ base +ℤ pos (f + m)
moved_sum base f m = omega (arith, ints)

one_distance : (base : ℤ) (m n : ℕ) → base +ℤ pos m ≡ base +ℤ pos n → m ≡ n
one_distance base m n e = omega (arith, ints, e)

member_at : (p : Progression) (base : ℤ) (r : NaturalProgression) → IsShifted p base r → (n : ℕ) → p.first +ℤ (p.stride *ℤ pos n) ≡ base +ℤ pos (r.first + r.stride * n)
member_at p base r s n =
    (λ i. s.first i +ℤ (s.stride i *ℤ pos n)) ∙ ap (λ z. (base +ℤ pos r.first) +ℤ z) (pos-*ℤ-pos r.stride n) ∙ moved_sum base r.first (r.stride * n)

seen : (p : Progression) (base : ℤ) (r : NaturalProgression) → IsShifted p base r → (x : ℤ) → IsMember p x → (n : ℕ) × IsNaturalMember r n × (x ≡ base +ℤ pos n)
seen p base r s x (n, less, at) = (r.first + r.stride * n, (n, subst (λ c. n < c) s.count less, refl), at ∙ member_at p base r s n)

back : (p : Progression) (base : ℤ) (r : NaturalProgression) → IsShifted p base r → (x : ℤ) (n : ℕ) → x ≡ base +ℤ pos n → IsNaturalMember r n → IsMember p x
back p base r s x n at (k, less, is) =
    (k, subst (λ c. k < c) (sym s.count) less, at ∙ ap (λ m. base +ℤ pos m) is ∙ sym (member_at p base r s k))

last_at : (p : Progression) (base : ℤ) (r : NaturalProgression) → IsShifted p base r → p.first +ℤ (p.stride *ℤ pos (p.count - 1)) ≡ base +ℤ pos (last_of r)
last_at p base r s = member_at p base r s (p.count - 1) ∙ ap (λ c. base +ℤ pos (r.first + r.stride * (c - 1))) s.count

pub base_fits : (z : ℤ) → neg_ℤ (pos 4611686018427387904) ≤ℤ z → z ≤ℤ pos 4611686018427387904 → FitsSigned w128 z
base_fits (pos n) low high = record { sfits = omega (arith, ints, high) }
base_fits (negsuc n) low high = record { sfits = omega (arith, ints, low) }

module _ (p q : Progression) (base : ℤ) (a b : NaturalProgression) (p-is : IsShifted p base a) (q-is : IsShifted q base b) where
  -- what both have is seen as one number
  both_seen : (x : ℤ) → IsMember p x → IsMember q x → (n : ℕ) × (IsNaturalMember a n × IsNaturalMember b n) × (x ≡ base +ℤ pos n)
  both_seen x in-p in-q =
      let m = seen p base a p-is x in-p in
      let k = seen q base b q-is x in-q in
      (m.0, (m.1, subst (λ n. IsNaturalMember b n) (one_distance base k.0 m.0 (sym k.2 ∙ m.2)) k.1), m.2)

  pub none_common : AreCommonNaturals a b None → AreCommon p q None
  none_common h = λ x in-p in-q. let m = both_seen x in-p in-q in h m.0 m.1.0 m.1.1

  module _ (r : Progression) (c : NaturalProgression) (r-is : IsShifted r base c) (h : AreCommonNaturals a b (Some c)) (narrow : IsNarrow c) where
    progression : neg_ℤ (pos 4611686018427387904) ≤ℤ base → IsProgression p → IsProgression r
    progression low p-small =
        let far : last_of c ≤ last_of a = reach a b c h in
        let some : 1 ≤ c.count = h.0 in
        let stride : 1 ≤ c.stride = h.1 in
        record {
          ascends = subst (λ z. pos 1 ≤ℤ z) (sym r-is.stride) (omega (arith, ints, stride));
          steps = subst (λ z. z ≤ℤ pos 9223372036854775808) (sym r-is.stride) (omega (arith, ints, narrow.steps));
          some = subst (λ n. 1 ≤ n) (sym r-is.count) some;
          low = subst (λ z. neg_ℤ (pos 4611686018427387904) ≤ℤ z) (sym r-is.first) (after base c.first low);
          high = subst (λ z. z ≤ℤ pos 4611686018427387904) (sym (last_at r base c r-is))
              (before base (last_of c) (last_of a) far (subst (λ z. z ≤ℤ pos 4611686018427387904) (last_at p base a p-is) p-small.high));
        }
      where
        after : (z : ℤ) (n : ℕ) → neg_ℤ (pos 4611686018427387904) ≤ℤ z → neg_ℤ (pos 4611686018427387904) ≤ℤ (z +ℤ pos n)
        after z n e = omega (arith, ints, e)

        before : (z : ℤ) (m n : ℕ) → m ≤ n → (z +ℤ pos n) ≤ℤ pos 4611686018427387904 → (z +ℤ pos m) ≤ℤ pos 4611686018427387904
        before z m n e f = omega (arith, ints, e, f)

    pub some_common : neg_ℤ (pos 4611686018427387904) ≤ℤ base → IsProgression p → AreCommon p q (Some r)
    some_common low p-small = (
      progression low p-small,
      (λ e. r-is.stride ∙ ap pos (narrow.one (sym r-is.count ∙ e))),
      λ x. (
        (λ in-r. let m = seen r base c r-is x in-r in
            let both = (h.2 m.0).0 m.1 in
            (back p base a p-is x m.0 m.2 both.0, back q base b q-is x m.0 m.2 both.1)),
        (λ both. let m = both_seen x both.0 both.1 in back r base c r-is x m.0 m.2 ((h.2 m.0).1 m.1)),
      ),
    )
