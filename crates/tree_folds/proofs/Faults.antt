-- Kept faults, of which the one with the least key is kept.
use Rattle.std.proofs.Common.{◌≡◌, ◌∙◌, ℕ, ◌<◌, ◌≤◌, ◌==◌, ◌&&◌, ◌||◌, true, false, nat_lt, Option, Some, None, if◌then◌else◌, refl, sym, ap, arith, ⊎_elim}
use Rattle.std.proofs.lemmas.Bool.{cases_lt}
use Rattle.std.proofs.lemmas.Bool.Decides.{nat_tests}
use Rattle.std.specs.Cmp.{nat_cmp_is}
use Rattle.std.specs.Ordering.{is_gt, nat_cmp, ordering_then}
use Rattle.std.specs.declared.cmp.Ordering.{Ordering}
use Rattle.std.specs.declared.cmp.Ordering.TheVariants.{Less, Equal, Greater}
use Rattle.array_meaning.specs.Faults.{Fault}
use Rattle.machine_steps.specs.Machine.{Kept, is_before, earlier}
use Rattle.machine_steps.specs.Node.{kept_values, values_kept}
use Rattle.code_meaning.specs.FaultValues.{fault_values}
use Rattle.reduction_tree.specs.FaultOrder.{fault_order}
use Rattle.reduction_tree.specs.FirstOf.{first_of}
use Rattle.tree_folds.specs.FaultKeys.{fault_key, fault_keys, HaveOwnKeys}
use Rattle.tree_folds.proofs.Picked.{key-picked}

module _ (a b m c d n : ℕ) where
  abbrev keys_compared : Ordering
  keys_compared = ordering_then (nat_cmp a c) (ordering_then (nat_cmp b d) (nat_cmp m n))

  abbrev is_second : Type 0
  is_second = (nat_lt c a || ((c == a) && nat_lt d b)) ≡ is_gt keys_compared

  by-tuple-before : a < c → false ≡ (nat_lt c a || ((c == a) && nat_lt d b))
  by-tuple-before lt = grind (arith, nat_tests)

  by-tuple-after : c < a → true ≡ (nat_lt c a || ((c == a) && nat_lt d b))
  by-tuple-after lt = grind (arith, nat_tests)

  by-part-before : a ≡ c → b ≤ d → false ≡ (nat_lt c a || ((c == a) && nat_lt d b))
  by-part-before e le = grind (arith, nat_tests)

  by-part-after : a ≡ c → d < b → true ≡ (nat_lt c a || ((c == a) && nat_lt d b))
  by-part-after e lt = grind (arith, nat_tests)

  tuple-less : a < c → is_gt keys_compared ≡ false
  tuple-less lt = let e : nat_cmp a c ≡ Less = sym (nat_cmp_is a c Less lt) in rw e refl

  tuple-greater : c < a → is_gt keys_compared ≡ true
  tuple-greater lt = let e : nat_cmp a c ≡ Greater = sym (nat_cmp_is a c Greater lt) in rw e refl

  part-less : a ≡ c → b < d → is_gt keys_compared ≡ false
  part-less same lt =
      let e : nat_cmp a c ≡ Equal = sym (nat_cmp_is a c Equal same) in
      let f : nat_cmp b d ≡ Less = sym (nat_cmp_is b d Less lt) in
      rw (e, f) refl

  part-greater : a ≡ c → d < b → is_gt keys_compared ≡ true
  part-greater same lt =
      let e : nat_cmp a c ≡ Equal = sym (nat_cmp_is a c Equal same) in
      let f : nat_cmp b d ≡ Greater = sym (nat_cmp_is b d Greater lt) in
      rw (e, f) refl

  all-equal : a ≡ c → b ≡ d → m ≡ n → is_gt keys_compared ≡ false
  all-equal same alike one =
      let e : nat_cmp a c ≡ Equal = sym (nat_cmp_is a c Equal same) in
      let f : nat_cmp b d ≡ Equal = sym (nat_cmp_is b d Equal alike) in
      let g : nat_cmp m n ≡ Equal = sym (nat_cmp_is m n Equal one) in
      rw (e, f, g) refl

  by-part : (a ≡ c → b ≡ d → m ≡ n) → a ≡ c → is_second
  by-part one same = ⊎_elim
      (λ (lt : b < d). sym (by-part-before same (omega arith)) ∙ sym (part-less same lt))
      (λ (le : d ≤ b). ⊎_elim
      (λ (lt : d < b). sym (by-part-after same lt) ∙ sym (part-greater same lt))
      (λ (ge : b ≤ d). let alike : b ≡ d = omega arith in sym (by-part-before same ge) ∙ sym (all-equal same alike (one same alike)))
      (cases_lt d b))
      (cases_lt b d)

  -- one key comes before the other in the order of faults where it does by tuple and by part, if one key has one number
  pub key-before : (a ≡ c → b ≡ d → m ≡ n) → is_second
  key-before one = ⊎_elim
      (λ (lt : a < c). sym (by-tuple-before lt) ∙ sym (tuple-less lt))
      (λ (le : c ≤ a). ⊎_elim
      (λ (lt : c < a). sym (by-tuple-after lt) ∙ sym (tuple-greater lt))
      (λ (ge : a ≤ c). by-part one (omega arith))
      (cases_lt c a))
      (cases_lt a c)

pub keys-joined : (number : Kept Fault → ℕ) (a b : Option (Kept Fault)) → HaveOwnKeys a b
    → fault_keys number (earlier a b) ≡ first_of fault_order (fault_keys number a) (fault_keys number b)
keys-joined number None b own = refl
keys-joined number (Some x) None own = refl
keys-joined number (Some x) (Some y) own = key-picked (fault_key number) x y (is_before y x) (is_gt (fault_order (fault_key number x) (fault_key number y)))
    (key-before x.tuple x.part (number x) y.tuple y.part (number y) (λ same alike. ap number (own same alike)))

pub first-kept : (x y : Kept Fault) → x.tuple ≡ y.tuple → x.part ≡ y.part → earlier (Some x) (Some y) ≡ Some x
first-kept x y same alike = ap (λ b. if b then Some y else Some x) (sym (by-part-before x.tuple x.part 0 y.tuple y.part 0 same (omega (arith, alike))))

pub faults-back : (k : Option (Kept Fault)) → values_kept fault_values (kept_values fault_values k) ≡ k
faults-back None = refl
faults-back (Some k) = λ i. Some (record { tuple = k.tuple; part = k.part; fault = fault_values.back k.fault i })
