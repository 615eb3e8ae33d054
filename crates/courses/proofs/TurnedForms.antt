-- The form of a subscript that goes round a dimension, and its value.
use Rattle.std.proofs.Common.{◌≡◌, ◌==◌, Bool, true, false, ◌&&◌, List, [], ◌∷◌, ℤ, pos, ◌+ℤ◌, ◌-ℤ◌, ◌*ℤ◌, int_le, w64, Option, Some, None, Ok, refl, sym, ◌∙◌, ap, arith}
use Rattle.std.proofs.lemmas.Bool.{eqb-true}
use Rattle.std.proofs.lemmas.Bool.Decides.{Decides-int_eq}
use Rattle.std.proofs.lemmas.Int.{ints, int_wrap-add_left, int_wrap-sub_right}
use Rattle.std.proofs.lemmas.Option.{none-some, cond_some}
use Rattle.std.specs.Ordering.{int_eq}
use Rattle.op_tables.specs.declared.op.Op.{Op}
use Rattle.op_tables.specs.declared.op.Op.TheVariants as op
use Rattle.op_tables.specs.Operators.{truth, wrapped}
use Rattle.array_meaning.specs.Elementals.{operated}
use Rattle.array_meaning.specs.Faults.{◌>>=◌, with_more}
use Rattle.node_code.specs.Flat.{Flat, Int, Operated, NoFlat, AndFlat}
use Rattle.code_meaning.specs.Flat.{flat_value}
use Rattle.courses.specs.StraightForms.{Straight, Constant, Sloped, straight}
use Rattle.courses.proofs.Sections.{both, small}
use Rattle.courses.specs.TurnedForms.{Turned, is_same_form, operation, turned_by, turned_flat, turned_in, turned_less}

-- ---- numbers

pub same-number : (v w : ℤ) → int_eq v w ≡ true → v ≡ w
same-number v w e = (Decides-int_eq v w).0 e

-- ---- the form

one-form : (x y : Straight) → is_same_form x y ≡ true → x ≡ y
one-form (Constant v) (Constant w) e = ap Constant (same-number v w e)
one-form (Sloped k f o) (Sloped j g p) e =
    let h = both (k == j) (int_eq f g && int_eq o p) e in
    let l = both (int_eq f g) (int_eq o p) h.1 in
    let index = eqb-true k j h.0 in
    let factor = same-number f g l.0 in
    let offset = same-number o p l.1 in
    λ i. Sloped (index i) (factor i) (offset i)
one-form (Constant v) (Sloped j g p) e = absurd cc
one-form (Sloped k f o) (Constant w) e = absurd cc

-- both operands have the form, and all numbers are its
pub record Parts (slots : List ℤ) (f : Flat) (x : Turned) : Type 0 where
  pub first : Flat
  pub second : Flat
  pub is : f ≡ turned_flat x.lower x.count x.count first second
  pub form : straight slots first ≡ Some x.above
  pub same : straight slots second ≡ Some x.above

by-forms : (slots : List ℤ) (lower n m : ℤ) (t u : Flat) (x : Turned) (a b : Option Straight) → straight slots t ≡ a → straight slots u ≡ b
    → turned_by lower n m a b ≡ Some x → Parts slots (turned_flat lower n m t u) x
by-forms slots lower n m t u x (Some y) (Some z) h g e =
    let c = cond_some (is_same_form y z && int_eq n m) (record { lower = lower; count = n; above = y }) x e in
    let tests = both (is_same_form y z) (int_eq n m) c.0 in
    let number = sym (same-number n m tests.1) in
    record {
      first = t;
      second = u;
      is = ap (λ k. turned_flat lower n k t u) number ∙ ap (λ w. turned_flat w.lower w.count w.count t u) c.1;
      form = h ∙ ap (λ w. Some w.above) c.1;
      same = g ∙ ap Some (sym (one-form y z tests.0)) ∙ ap (λ w. Some w.above) c.1;
    }
by-forms slots lower n m t u x (Some y) None h g e = absurd (none-some x e)
by-forms slots lower n m t u x None b h g e = absurd (none-some x e)

by-less : (slots : List ℤ) (lower : ℤ) (t g : Flat) (x : Turned) → turned_less slots lower t g ≡ Some x
    → Parts slots (operation op.Add (operation op.Sub t g) (Int lower)) x
by-less slots lower t (Operated op.Mul (AndFlat (Int n) (AndFlat (Operated op.Ge (AndFlat u (AndFlat (Int m) NoFlat))) NoFlat))) x e =
    by-forms slots lower n m t u x (straight slots t) (straight slots u) refl refl e
by-less slots lower t g x e = absurd (none-some x e)

pub parts : (slots : List ℤ) (f : Flat) (x : Turned) → turned_in slots f ≡ Some x → Parts slots f x
parts slots (Operated op.Add (AndFlat (Operated op.Sub (AndFlat t (AndFlat g NoFlat))) (AndFlat (Int lower) NoFlat))) x e = by-less slots lower t g x e
parts slots f x e = absurd (none-some x e)

-- ---- its value

-- how far what is turned is moved, where it isn't below n and where it is
abbrev pub moved : Turned → Bool → ℤ
moved x true = x.lower -ℤ x.count
moved x false = x.lower

-- without what wraps in between
unwrapped : (x : Turned) (v : ℤ) (b : Bool) → wrapped (wrapped (v -ℤ wrapped (x.count *ℤ truth b)) +ℤ x.lower) ≡ wrapped (v +ℤ moved x b)
unwrapped x v true =
    let n = x.count in
    let whole : n *ℤ pos 1 ≡ n = omega (arith, ints) in
    let sum : (v -ℤ n) +ℤ x.lower ≡ v +ℤ (x.lower -ℤ n) = omega (arith, ints) in
    ap (λ z. wrapped (wrapped (v -ℤ wrapped z) +ℤ x.lower)) whole ∙ ap (λ z. wrapped (z +ℤ x.lower)) (int_wrap-sub_right w64 v n)
    ∙ int_wrap-add_left w64 (v -ℤ n) x.lower ∙ ap wrapped sum
unwrapped x v false =
    let none : x.count *ℤ pos 0 ≡ pos 0 = omega (arith, ints) in
    let all : v -ℤ pos 0 ≡ v = omega (arith, ints) in
    ap (λ z. wrapped (wrapped (v -ℤ wrapped z) +ℤ x.lower)) none ∙ ap (λ z. wrapped (wrapped (v -ℤ z) +ℤ x.lower)) (small (pos 0) refl)
    ∙ ap (λ z. wrapped (wrapped z +ℤ x.lower)) all ∙ int_wrap-add_left w64 v x.lower

module _ (slots indices : List ℤ) where
  operation-is : (o : Op) (f g : Flat) (a b : ℤ) → flat_value slots indices [] f ≡ Ok a → flat_value slots indices [] g ≡ Ok b
      → flat_value slots indices [] (operation o f g) ≡ operated o (a ∷ b ∷ [])
  operation-is o f g a b h e = λ i. with_more (h i) (with_more (e i) (Ok [])) >>= operated o

  pub turned-value : (x : Turned) (t u : Flat) (v : ℤ) → flat_value slots indices [] t ≡ Ok v → flat_value slots indices [] u ≡ Ok v
      → flat_value slots indices [] (turned_flat x.lower x.count x.count t u) ≡ Ok (wrapped (v +ℤ moved x (int_le x.count v)))
  turned-value x t u v h g =
      let n = x.count in
      let more = truth (int_le n v) in
      let test = operation op.Ge u (Int n) in
      let off = operation op.Mul (Int n) test in
      let tested : flat_value slots indices [] test ≡ Ok more = operation-is op.Ge u (Int n) v n g refl in
      let less : flat_value slots indices [] off ≡ Ok (wrapped (n *ℤ more)) = operation-is op.Mul (Int n) test n more refl tested in
      let left : flat_value slots indices [] (operation op.Sub t off) ≡ Ok (wrapped (v -ℤ wrapped (n *ℤ more))) =
      operation-is op.Sub t off v (wrapped (n *ℤ more)) h less in
      operation-is op.Add (operation op.Sub t off) (Int x.lower) (wrapped (v -ℤ wrapped (n *ℤ more))) x.lower left refl
      ∙ ap Ok (unwrapped x v (int_le n v))
