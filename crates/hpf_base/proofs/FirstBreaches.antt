-- The first of two sets of breaches, or of two lists of them, is the earlier of their firsts.
use Rattle.std.proofs.Common.{◌≡◌, ℕ, ◌<◌, ◌≤◌, ◌⊎◌, inl, inr, Bool, true, false, List, [], ◌∷◌, ◌++◌, Option, Some, None, refl, sym, ap, ◌∙◌, arith}
use Rattle.std.specs.Prelude.{if◌then◌else◌}
use Rattle.std.proofs.lemmas.Bool.Decides.{nat_tests}
use Rattle.hpf_base.specs.declared.refusal.Reason.{Reason}
use Rattle.hpf_base.specs.declared.refusal.Refusal.{Refusal}
use Rattle.hpf_base.specs.Refusal.{number_of}
use Rattle.hpf_base.specs.FirstBreach.{IsFirstOrNone, is_before, earlier, at_line, Among, least}

-- what stands at a line for a reason doesn't stand before this
abbrev pub Leads : Refusal → ℕ → Reason → Type 0
Leads r line why = (r.line < line) ⊎ ((r.line ≡ line) × (number_of r.reason ≤ number_of why))

leads_before : (a b : Refusal) (line : ℕ) (why : Reason) → is_before b a ≡ true → Leads a line why → Leads b line why
leads_before a b line why e h = grind (arith, nat_tests)

leads_not_before : (a b : Refusal) (line : ℕ) (why : Reason) → is_before b a ≡ false → Leads b line why → Leads a line why
leads_not_before a b line why e h = grind (arith, nat_tests)

-- two sets of the same breaches have one first
pub first_same : (A B : ℕ → Reason → Type 0) (o : Option Refusal) → ((line : ℕ) (why : Reason) → A line why → B line why) →
    ((line : ℕ) (why : Reason) → B line why → A line why) → IsFirstOrNone A o → IsFirstOrNone B o
first_same A B None to from h = λ line why b. h line why (from line why b)
first_same A B (Some r) to from h = record {
  stands = to r.line r.reason h.stands;
  first = λ line why b. h.first line why (from line why b);
}

-- an empty set has none
pub first_none : IsFirstOrNone (λ line why. ⊥) None
first_none = λ line why b. b

-- the first of two sets together
pub first_both : (A B : ℕ → Reason → Type 0) (a b : Option Refusal) → IsFirstOrNone A a → IsFirstOrNone B b → IsFirstOrNone (λ line why. A line why ⊎ B line why) (earlier a b)
first_both A B None None ha hb = λ line why x. elim x [ inl p ↦ ha line why p | inr q ↦ hb line why q ]
first_both A B None (Some b) ha hb = record {
  stands = inr hb.stands;
  first = λ line why x. elim x [ inl p ↦ absurd (ha line why p) | inr q ↦ hb.first line why q ];
}
first_both A B (Some a) None ha hb = record {
  stands = inl ha.stands;
  first = λ line why x. elim x [ inl p ↦ ha.first line why p | inr q ↦ absurd (hb line why q) ];
}
first_both A B (Some a) (Some b) ha hb = step (is_before b a) refl
  where
    step : (t : Bool) → is_before b a ≡ t → IsFirstOrNone (λ line why. A line why ⊎ B line why) (if t then Some b else Some a)
    step true e = record {
      stands = inr hb.stands;
      first = λ line why x. elim x [ inl p ↦ leads_before a b line why e (ha.first line why p) | inr q ↦ hb.first line why q ];
    }
    step false e = record {
      stands = inl ha.stands;
      first = λ line why x. elim x [ inl p ↦ ha.first line why p | inr q ↦ leads_not_before a b line why e (hb.first line why q) ];
    }

-- of the reasons that hold, the one of the least number; None where none holds
abbrev pub IsLeastReason : (Reason → Type 0) → Option Reason → Type 0
IsLeastReason holds None = (why : Reason) → holds why → ⊥
IsLeastReason holds (Some least) = holds least × ((why : Reason) → holds why → number_of least ≤ number_of why)

-- the first of the breaches at one line
pub first_at : (at : ℕ) (holds : Reason → Type 0) (o : Option Reason) → IsLeastReason holds o → IsFirstOrNone (λ line why. (line ≡ at) × holds why) (at_line at o)
first_at at holds None h = λ line why b. h why b.1
first_at at holds (Some least) h = record {
  stands = (refl, h.0);
  first = λ line why b. inr ((let e : line ≡ at = b.0 in cc), h.1 why b.1);
}

before_before : (a b c : Refusal) → is_before c b ≡ true → is_before b a ≡ true → is_before c a ≡ true
before_before a b c h k = grind (arith, nat_tests)

not_before : (a b c : Refusal) → is_before b a ≡ false → is_before c b ≡ false → is_before c a ≡ false
not_before a b c h k = grind (arith, nat_tests)

-- which of three is the earliest, in both orders of asking
first_of_three : (a b c : Refusal) → earlier (if is_before b a then Some b else Some a) (Some c) ≡ earlier (Some a) (if is_before c b then Some c else Some b)
first_of_three a b c = by (is_before b a) refl (is_before c b) refl
  where
    by : (p : Bool) → is_before b a ≡ p → (q : Bool) → is_before c b ≡ q → earlier (if p then Some b else Some a) (Some c) ≡ earlier (Some a) (if q then Some c else Some b)
    by true e true k = ap (λ t. if t then Some c else Some b) k ∙ sym (ap (λ t. if t then Some c else Some a) (before_before a b c k e))
    by true e false k = ap (λ t. if t then Some c else Some b) k ∙ sym (ap (λ t. if t then Some b else Some a) e)
    by false e true k = refl
    by false e false k = ap (λ t. if t then Some c else Some a) (not_before a b c e k) ∙ sym (ap (λ t. if t then Some b else Some a) e)

pub earlier_assoc : (a b c : Option Refusal) → earlier (earlier a b) c ≡ earlier a (earlier b c)
earlier_assoc None b c = refl
earlier_assoc (Some a) None c = refl
earlier_assoc (Some a) (Some b) None = by (is_before b a)
  where
    by : (p : Bool) → earlier (if p then Some b else Some a) None ≡ (if p then Some b else Some a)
    by true = refl
    by false = refl
earlier_assoc (Some a) (Some b) (Some c) = first_of_three a b c

pub earlier_none : (a : Option Refusal) → earlier a None ≡ a
earlier_none None = refl
earlier_none (Some a) = refl

-- the first of two lists together
pub least_append : (xs ys : List Refusal) → least (xs ++ ys) ≡ earlier (least xs) (least ys)
least_append [] ys = refl
least_append (x ∷ xs) ys = ap (earlier (Some x)) (least_append xs ys) ∙ sym (earlier_assoc (Some x) (least xs) (least ys))

only_first : (r : Refusal) → IsFirstOrNone (λ line why. record { line = line; reason = why } ≡ r) (Some r)
only_first r = record {
  stands = refl;
  first = λ line why e. inr (sym (ap (λ x. x.line) e), omega (arith, ap (λ x. number_of x.reason) e));
}

-- the least of a list is the first of its breaches
pub least_first : (rs : List Refusal) → IsFirstOrNone (Among rs) (least rs)
least_first [] = first_none
least_first (r ∷ rs) = first_both (λ line why. record { line = line; reason = why } ≡ r) (Among rs) (Some r) (least rs) (only_first r) (least_first rs)
