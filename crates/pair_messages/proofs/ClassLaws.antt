-- Classes of candidates, and what two classes have in common.
use Rattle.std.proofs.Common.{◌≡◌, ℕ, ℤ, pos, ◌+ℤ◌, ◌*ℤ◌, ◌≤ℤ◌, ◌+◌, ◌-◌, ◌*◌, ◌/◌, ◌%◌, ◌^◌, ◌<◌, ◌≤◌, ◌⊎◌, inl, inr, Bool, true, List, [], ◌∷◌, ◌++◌, filter, All, Option, Some, None, refl, sym, ◌∙◌, ap, subst, arith, get_or, length, zero, suc}
use Rattle.std.proofs.Math.IntN.{pos-*ℤ-pos, *ℤ-zero}
use Rattle.std.proofs.Math.Nat.{add-mul-div_left, add-mul-mod_self_left, div-eq_of_lt, le-div_iff_mul-le, mod-add-div, mod-eq_of_lt, mul-div-le, mul-le-mul_left}
use Rattle.std.proofs.lemmas.Int.{ints}
use Rattle.std.proofs.lemmas.Bool.{cases_lt}
use Rattle.std.proofs.lemmas.List.Elements.{All-cons, All-head, All-nil, All-tail}
use Rattle.congruences.specs.declared.progressions.Progression.{Progression}
use Rattle.congruences.specs.Progressions.{AreCommon, IsMember, IsProgression}
use Rattle.owned_places.specs.declared.candidates.Candidates.{Candidates}
use Rattle.gap_table.proofs.AscendingLists.{In, filter-in, in-map_range}
use Rattle.owned_places.specs.Candidates.{AreCandidates, all_candidates, candidate, classes_of, period_of}
use Rattle.pair_messages.specs.declared.classes.Class.{Class}
use Rattle.pair_messages.specs.declared.classes.TheConstants.{MAX_PERIOD}
use Rattle.pair_messages.specs.Classes.{AreCommonPlaces, InClass, InFirst, InSome, IsBelow, IsClassOf, IsPlaceOf, IsShort}
use Rattle.pair_messages.proofs.Ascending.{in-part}

-- ---- classes of candidates

module _ (c : Candidates) (repeat : (n : ℕ) → n < c.count → candidate c n ≡ candidate c (n % classes_of c) + period_of c * (n / classes_of c))
    (k : ℕ) (inside : k < classes_of c) (moves : 1 ≤ period_of c) where
  abbrev K : ℕ
  K = classes_of c

  abbrev turns : ℕ
  turns = (c.count - k - 1) / K

  some : 0 < K
  some = omega (arith, inside)

  few : K ≤ c.count
  few = omega arith

  place-of : (n : ℕ) → n ≤ turns → (k + K * n < c.count) × (candidate c k + period_of c * n ≡ candidate c (k + K * n))
  place-of n below =
      let last : K * turns ≤ c.count - k - 1 = mul-div-le (c.count - k - 1) K in
      let less : K * n ≤ K * turns = up K n turns below in
      let here : k + K * n < c.count = omega (arith, last, less, inside, few) in
      let m : (k + K * n) % K ≡ k = add-mul-mod_self_left k K n ∙ mod-eq_of_lt inside in
      let d : (k + K * n) / K ≡ n = add-mul-div_left k n some ∙ ap (λ x. x + n) (div-eq_of_lt inside) ∙ (let z : 0 + n ≡ n = omega arith in z) in
      (here, sym (repeat (k + K * n) here ∙ ap (λ x. candidate c x + period_of c * ((k + K * n) / K)) m ∙ ap (λ x. candidate c k + period_of c * x) d))
    where
      up : (f a b : ℕ) → a ≤ b → f * a ≤ f * b
      up f a b le = mul-le-mul_left f le

  pub is-class : (r : Class) → r.first ≡ candidate c k → r.stride ≡ period_of c → r.count ≡ turns + 1 → IsClassOf c k r
  is-class r first stride count = record {
    some = omega (arith, count);
    moves = omega (arith, stride, moves);
    within = λ n below.
        let h = place-of n (omega (arith, below, count)) in
        (k + K * n, h.0, (λ i. first i + stride i * n) ∙ h.1);
    every = λ m below is.
        let whole : m % K + K * (m / K) ≡ m = mod-add-div m K in
        let step : (m / K) * K ≤ c.count - k - 1 = room m (m / K) below is whole in
        let small : m / K ≤ turns = (le-div_iff_mul-le some).1 step in (
          m / K,
          omega (arith, small, count),
          repeat m below ∙ ap (λ x. candidate c x + period_of c * (m / K)) is ∙ (λ i. sym first i + sym stride i * (m / K)),
        );
  }
    where
      room : (m q : ℕ) → m < c.count → m % K ≡ k → m % K + K * q ≡ m → q * K ≤ c.count - k - 1
      room m q below is whole = omega (arith, below, is, whole)

-- ---- two classes

abbrev pub progression : Class → Progression
progression c = record { first = pos c.first; stride = pos c.stride; count = c.count }

member-at : (c : Class) (n : ℕ) → pos c.first +ℤ (pos c.stride *ℤ pos n) ≡ pos (c.first + c.stride * n)
member-at c n = ap (λ z. pos c.first +ℤ z) (pos-*ℤ-pos c.stride n) ∙ sum c.first (c.stride * n)
  where
    sum : (a b : ℕ) → pos a +ℤ pos b ≡ pos (a + b)
    sum a b = omega (arith, ints)

pub in-member : (c : Class) (x : ℕ) → InClass c x → IsMember (progression c) (pos x)
in-member c x (n, below, is) = (n, below, ap pos is ∙ sym (member-at c n))

pub member-in : (c : Class) (x : ℕ) → IsMember (progression c) (pos x) → InClass c x
member-in c x (n, below, is) = (n, below, same x (c.first + c.stride * n) (is ∙ member-at c n))
  where
    same : (a b : ℕ) → pos a ≡ pos b → a ≡ b
    same a b e = omega (arith, ints, e)

pub is-progression : (c : Class) → IsShort c → IsProgression (progression c)
is-progression c short =
    let last : c.first + c.stride * (c.count - 1) < 4294967296 = short.below (c.count - 1) (let s = short.some in omega (arith, s)) in
    let s = short.some in
    let m = short.moves in
    let t = short.step in record {
      ascends = omega (arith, ints, m);
      steps = omega (arith, ints, t);
      some = s;
      low = omega (arith, ints);
      high = subst (λ z. z ≤ℤ pos 4611686018427387904) (sym (member-at c (c.count - 1))) (high (c.first + c.stride * (c.count - 1)) last);
    }
  where
    high : (n : ℕ) → n < 4294967296 → pos n ≤ℤ pos 4611686018427387904
    high n below = omega (arith, ints, below)

-- the first of the common ones is one of the first class, so it isn't negative
pub common-first : (a b : Class) (r : Progression) → AreCommon (progression a) (progression b) (Some r) → pos 0 ≤ℤ r.first
common-first a b r common =
    let s = common.0.some in
    let first : IsMember r r.first = (0, omega (arith, s), plain r.first r.stride) in
    let h = ((common.2 r.first).0 first).0 in
    subst (λ z. pos 0 ≤ℤ z) (sym (h.2 ∙ member-at a h.0)) (from (a.first + a.stride * h.0))
  where
    from : (n : ℕ) → pos 0 ≤ℤ pos n
    from n = omega (arith, ints)

    plain : (f s : ℤ) → f ≡ f +ℤ (s *ℤ pos 0)
    plain f s = sym (ap (λ z. f +ℤ z) (*ℤ-zero s) ∙ unit f)
      where
        unit : (f : ℤ) → f +ℤ pos 0 ≡ f
        unit f = omega (arith, ints)

pub common-small : (a b : Class) (r : Progression) → IsShort a → AreCommon (progression a) (progression b) (Some r) → r.first ≤ℤ pos 4611686018427387904
common-small a b r short common =
    let s = common.0.some in
    let first : IsMember r r.first = (0, omega (arith, s), plain r.first r.stride) in
    let h = ((common.2 r.first).0 first).0 in
    subst (λ z. z ≤ℤ pos 4611686018427387904) (sym (h.2 ∙ member-at a h.0)) (high (a.first + a.stride * h.0) (short.below h.0 h.1))
  where
    high : (n : ℕ) → n < 4294967296 → pos n ≤ℤ pos 4611686018427387904
    high n below = omega (arith, ints, below)

    plain : (f s : ℤ) → f ≡ f +ℤ (s *ℤ pos 0)
    plain f s = sym (ap (λ z. f +ℤ z) (*ℤ-zero s) ∙ unit f)
      where
        unit : (f : ℤ) → f +ℤ pos 0 ≡ f
        unit f = omega (arith, ints)

pub common-some : (a b r : Class) → AreCommon (progression a) (progression b) (Some (progression r)) → AreCommonPlaces a b (Some r)
common-some a b r common = (
  (λ x i. member-in a x ((common.2 (pos x)).0 (in-member r x i)).0),
  (λ x i j. member-in r x ((common.2 (pos x)).1 (in-member a x i, in-member b x j))),
)

pub common-none : (a b : Class) → AreCommon (progression a) (progression b) None → AreCommonPlaces a b None
common-none a b none x i j = none (pos x) (in-member a x i) (in-member b x j)

-- ---- one of some classes

pub some-left : (cs ds : List Class) (x : ℕ) → InSome cs x → InSome (cs ++ ds) x
some-left [] ds x i = absurd i
some-left (c ∷ cs) ds x (inl i) = inl i
some-left (c ∷ cs) ds x (inr i) = inr (some-left cs ds x i)

pub some-last : (cs : List Class) (c : Class) (x : ℕ) → InClass c x → InSome (cs ++ c ∷ []) x
some-last [] c x i = inl i
some-last (d ∷ cs) c x i = inr (some-last cs c x i)

pub some-split : (cs : List Class) (c : Class) (x : ℕ) → InSome (cs ++ c ∷ []) x → InSome cs x ⊎ InClass c x
some-split [] c x (inl i) = inr i
some-split [] c x (inr i) = absurd i
some-split (d ∷ cs) c x (inl i) = inl (inl i)
some-split (d ∷ cs) c x (inr i) = by_rest (some-split cs c x i)
  where
    by_rest : InSome cs x ⊎ InClass c x → (InClass d x ⊎ InSome cs x) ⊎ InClass c x
    by_rest (inl i) = inl (inr i)
    by_rest (inr i) = inr i

pub some-below : (extent : ℕ) (cs : List Class) (x : ℕ) → All (IsBelow extent) cs → InSome cs x → x < extent
some-below extent [] x all i = absurd i
some-below extent (c ∷ cs) x all (inl i) = subst (λ y. y < extent) (sym i.2) (All-head (IsBelow extent) c cs all i.0 i.1)
some-below extent (c ∷ cs) x all (inr i) = some-below extent cs x (All-tail (IsBelow extent) c cs all) i

-- a class whose places are those of another is below what that is below
pub below-within : (extent : ℕ) (a r : Class) → ((x : ℕ) → InClass r x → InClass a x) → IsBelow extent a → IsBelow extent r
below-within extent a r within below n less =
    let h = within (r.first + r.stride * n) (n, less, refl) in
    subst (λ y. y < extent) (sym h.2) (below h.0 h.1)

pub class-below : (passes : ℕ → Bool) (extent : ℕ) (c : Candidates) (k : ℕ) (r : Class) → IsClassOf c k r → AreCandidates passes extent c → IsBelow extent r
class-below passes extent c k r is are n less =
    let h = is.within n less in
    subst (λ y. y < extent) (sym h.2) (are.below h.0 h.1)

pub is-short : (passes : ℕ → Bool) (extent : ℕ) (c : Candidates) (k : ℕ) (r : Class) → IsClassOf c k r → AreCandidates passes extent c → extent ≤ 2 ^ 32
    → r.stride ≡ period_of c → period_of c ≤ MAX_PERIOD → IsShort r
is-short passes extent c k r is are few stride short = record {
  some = is.some;
  moves = is.moves;
  step = omega (arith, stride, short);
  below = λ n less. let h = class-below passes extent c k r is are n less in omega (arith, h, few);
}

pub push-all : {A : Type 0} (P : A → Type 0) (xs : List A) (x : A) → All P xs → P x → All P (xs ++ x ∷ [])
push-all P [] x all here = All-cons P x [] here (All-nil P)
push-all P (y ∷ xs) x all here = All-cons P y (xs ++ x ∷ []) (All-head P y xs all) (push-all P xs x (All-tail P y xs all) here)

-- one class more
pub one-first : (c : Candidates) (k x : ℕ) → InFirst c (k + 1) x → InFirst c k x ⊎ ((m : ℕ) × (m < c.count) × (m % classes_of c ≡ k) × (x ≡ candidate c m))
one-first c k x (m, below, first, is) = by_order (cases_lt (m % classes_of c) k)
  where
    by_order : (m % classes_of c < k) ⊎ (k ≤ m % classes_of c) → InFirst c k x ⊎ ((m : ℕ) × (m < c.count) × (m % classes_of c ≡ k) × (x ≡ candidate c m))
    by_order (inl less) = inl (m, below, less, is)
    by_order (inr more) = inr (m, below, omega (arith, more, first), is)

pub next-first : (c : Candidates) (k : ℕ) (r : Class) → IsClassOf c k r → (x : ℕ) → InFirst c (k + 1) x → InFirst c k x ⊎ InClass r x
next-first c k r is x i = by_case (one-first c k x i)
  where
    by_case : InFirst c k x ⊎ ((m : ℕ) × (m < c.count) × (m % classes_of c ≡ k) × (x ≡ candidate c m)) → InFirst c k x ⊎ InClass r x
    by_case (inl first) = inl first
    by_case (inr h) = inr (subst (InClass r) (sym h.3) (is.every h.0 h.1 h.2))

-- what passes is one of the candidates
pub passing-place : (passes : ℕ → Bool) (extent : ℕ) (c : Candidates) (x : ℕ) → AreCandidates passes extent c → x < extent → passes x ≡ true → IsPlaceOf c x
passing-place passes extent c x are below passes-x =
    let i : In x (filter passes (all_candidates c)) = subst (In x) (sym are.kept) (filter-in passes 0 extent x (omega arith) (omega (arith, below)) passes-x) in
    let h = in-map_range (candidate c) 0 c.count x (in-part passes (all_candidates c) x i).0 in
    let b = h.2 in
    (h.0, omega (arith, b), h.3)

pub common-of : (a b : Class) (p q : Progression) (o r : Option Progression) → p ≡ progression a → q ≡ progression b → o ≡ r → AreCommon p q o
    → AreCommon (progression a) (progression b) r
common-of a b p q o r p-is q-is is common = subst (λ x. x) (λ i. AreCommon (p-is i) (q-is i) (is i)) common

pub some-at : (cs : List Class) (n : ℕ) (d : Class) (x : ℕ) → n < length cs → InClass (get_or cs n d) x → InSome cs x
some-at [] n d x within i = absurd (omega (arith, within))
some-at (c ∷ cs) zero d x within i = inl i
some-at (c ∷ cs) (suc n) d x within i = inr (some-at cs n d x (omega (arith, within)) i)
