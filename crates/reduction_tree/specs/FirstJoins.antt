-- Of a promise.
-- The first of two items joins, in a total order that tells all items apart.
use Rattle.std.proofs.Common.{◌≡◌, ℕ, ℤ, Bool, true, false, if◌then◌else◌, Option, Some, None, refl, sym, ◌∙◌, ap}
use Rattle.std.proofs.lemmas.Bool.{true≢false}
use Rattle.std.proofs.lemmas.Cmp.{upto, ranked, int_ranked}
use Rattle.std.specs.Cmp.{IsTotalOrder}
use Rattle.std.specs.Ordering.{is_gt, ordering_reverse, ordering_then, nat_cmp, int_cmp}
use Rattle.std.specs.declared.cmp.Ordering.{Ordering}
use Rattle.std.specs.declared.cmp.Ordering.TheVariants.{Less, Equal, Greater}
use Rattle.op_tables.specs.Joins.{IsJoin}
use Rattle.reduction_tree.specs.FirstOf.{first_of}

-- where two comparisons together tell nothing apart, neither does
pub both-equal : (r s : Ordering) → ordering_then r s ≡ Equal → (r ≡ Equal) × (s ≡ Equal)
both-equal Less s is = cc
both-equal Equal s is = (refl, is)
both-equal Greater s is = cc

pub nat-equal : (x y : ℕ) → nat_cmp x y ≡ Equal → x ≡ y
nat-equal x y is = ranked x y Equal (sym is)

pub int-equal : (x y : ℤ) → int_cmp x y ≡ Equal → x ≡ y
int-equal x y is = int_ranked x y Equal (sym is)

module _ {K : Type 0} (R : K → K → Ordering) (total : IsTotalOrder R) (apart : (x y : K) → R x y ≡ Equal → x ≡ y) where
  same_either_way : (x y : K) (r : Ordering) → R y x ≡ r → (if is_gt (ordering_reverse r) then y else x) ≡ (if is_gt r then x else y)
  same_either_way x y Less is = refl
  same_either_way x y Equal is = sym (apart y x is)
  same_either_way x y Greater is = refl

  first-comm : (a b : Option K) → first_of R a b ≡ first_of R b a
  first-comm None None = refl
  first-comm None (Some y) = refl
  first-comm (Some x) None = refl
  first-comm (Some x) (Some y) = ap Some (ap (λ r. if is_gt r then y else x) (total.antisymm x y) ∙ same_either_way x y (R y x) refl)

  not-after : (x y : K) (r : Ordering) → R x y ≡ r → is_gt r ≡ true → is_gt (R y x) ≡ false
  not-after x y Less is gt = absurd (true≢false (sym gt))
  not-after x y Equal is gt = absurd (true≢false (sym gt))
  not-after x y Greater is gt = ap is_gt (total.antisymm y x ∙ ap ordering_reverse is)

  of_three : (x y z : K) (xy yz xz : Bool) → is_gt (R x y) ≡ xy → is_gt (R y z) ≡ yz → is_gt (R x z) ≡ xz
      → first_of R (Some (if xy then y else x)) (Some z) ≡ first_of R (Some x) (Some (if yz then z else y))
  of_three x y z true true true ea eb ec = rw (eb, ec) refl
  of_three x y z true true false ea eb ec = absurd (true≢false (sym ea ∙ upto total x z y ec (not-after y z (R y z) refl eb)))
  of_three x y z true false c ea eb ec = rw (ea, eb) refl
  of_three x y z false true c ea eb ec = refl
  of_three x y z false false true ea eb ec = absurd (true≢false (sym ec ∙ upto total x y z ea eb))
  of_three x y z false false false ea eb ec = rw (ea, ec) refl

  first-assoc : (a b c : Option K) → first_of R (first_of R a b) c ≡ first_of R a (first_of R b c)
  first-assoc None b c = refl
  first-assoc (Some x) None c = refl
  first-assoc (Some x) (Some y) None = refl
  first-assoc (Some x) (Some y) (Some z) = of_three x y z (is_gt (R x y)) (is_gt (R y z)) (is_gt (R x z)) refl refl refl

  first-none : (a : Option K) → first_of R a None ≡ a
  first-none None = refl
  first-none (Some x) = refl

  pub first_joins : IsJoin (λ _. Unit {0}) (first_of R) None
  first_joins = record {
    closed = λ a b f g. tt;
    unit_in = tt;
    associative = λ a b c f g h. first-assoc a b c;
    commutative = first-comm;
    neutral = λ a f. first-none a;
  }
