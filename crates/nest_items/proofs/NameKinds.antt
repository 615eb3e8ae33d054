-- The kinds of the names of a nest are those that its lists and its assignments give.
use Rattle.std.proofs.Common.{◌≡◌, ℕ, nat_eq, Bool, true, false, true≢false, List, [], ◌∷◌, ◌++◌, map, reverse, refl, sym, ap, ap₂, ◌∙◌, subst}
use Rattle.std.specs.Prelude.{◌||◌, if◌then◌else◌}
use Rattle.std.proofs.lemmas.List.Folds.{list_any-append}
use Rattle.std.proofs.lemmas.List.{reverse-append}
use Rattle.std.proofs.lemmas.Bool.Decides.{Decides-eqb}
use Rattle.op_tables.specs.declared.join.Join.{Join}
use Rattle.op_tables.specs.Joins.{IsOverNumbers}
use Rattle.nest_syntax.specs.NestKinds.{Kind, Shared, New, Assigned, Reduced, has_copies, kind_of}
use Rattle.array_meaning.specs.Statements.{Loop, Nest, Block}
use Rattle.array_meaning.specs.Iterations.{is_in, nest_indices}
use Rattle.array_meaning.specs.Touches.{assigned_in}
use Rattle.nest_items.specs.Settled.{without}
use Rattle.nest_items.specs.Standing.{AreKinds}
use Rattle.nest_items.specs.NestForm.{LoopsKeep, IsNest}

abbrev pub kind_by : Bool → Bool → Bool → Join → Kind
kind_by a r w o = if a then (if r then Reduced o else if w then New else Assigned) else Shared

assigned_by_kind : (a r w : Bool) (o : Join) → kind_by a r w o ≡ Assigned → (a ≡ true) × (r ≡ false) × (w ≡ false)
assigned_by_kind true true w o e = absurd cc
assigned_by_kind true false true o e = absurd cc
assigned_by_kind true false false o e = (refl, refl, refl)
assigned_by_kind false r w o e = absurd cc

reduced_by_kind : (a r w : Bool) (o op : Join) → kind_by a r w o ≡ Reduced op → o ≡ op
reduced_by_kind true true w o op e = cc
reduced_by_kind true false true o op e = absurd cc
reduced_by_kind true false false o op e = absurd cc
reduced_by_kind false r w o op e = absurd cc

copies_by_kind : (a r w : Bool) (o : Join) → has_copies (kind_by a r w o) ≡ a
copies_by_kind false r w o = refl
copies_by_kind true true w o = refl
copies_by_kind true false true o = refl
copies_by_kind true false false o = refl

-- what has copies is what is assigned
pub copies_of_kind : (operators : ℕ → Join) (nest : Nest) (body : Block) (k : ℕ) → has_copies (kind_of operators nest body k) ≡ is_in k (assigned_in body)
copies_of_kind operators nest body k = copies_by_kind (is_in k (assigned_in body)) (is_in k nest.reduction) (is_in k nest.new) (operators k)

-- where no index is assigned
pub kinds_of_nest : (operators : ℕ → Join) (nest : Nest) (body : Block) → ((k : ℕ) → IsOverNumbers (operators k))
    → ((k : ℕ) → is_in k (assigned_in body) ≡ true → is_in k (nest_indices nest) ≡ false) → AreKinds (kind_of operators nest body) nest body
kinds_of_nest operators nest body over apart = record {
  unassigned = λ k e. copies_of_kind operators nest body k ∙ e;
  unlisted = λ k e.
      let h = assigned_by_kind (is_in k (assigned_in body)) (is_in k nest.reduction) (is_in k nest.new) (operators k) e in
      list_any-append (nat_eq k) (nest.new ++ nest.reduction) (nest_indices nest) ∙ ap (λ b. b || is_in k (nest_indices nest)) (list_any-append (nat_eq k) nest.new nest.reduction)
      ∙ ap₂ (λ a b. (a || b) || is_in k (nest_indices nest)) h.2 h.1 ∙ apart k h.0;
  numbers = λ k op e.
      subst IsOverNumbers (reduced_by_kind (is_in k (assigned_in body)) (is_in k nest.reduction) (is_in k nest.new) (operators k) op e) (over k);
}

pub reversed : (k : ℕ) (xs : List ℕ) → is_in k (reverse xs) ≡ is_in k xs
reversed k [] = refl
reversed k (x ∷ xs) =
    ap (is_in k) (reverse-append (x ∷ []) xs) ∙ list_any-append (nat_eq k) (reverse xs) (x ∷ []) ∙ ap (λ b. b || (nat_eq k x || false)) (reversed k xs) ∙ turned (is_in k xs) (nat_eq k x)
  where
    turned : (a b : Bool) → (a || (b || false)) ≡ (b || a)
    turned true true = refl
    turned true false = refl
    turned false true = refl
    turned false false = refl

module _ (kinds : ℕ → Kind) (all : ℕ → Bool) where
  -- a name that isn't free is none of the indices
  other : (k x : ℕ) (xs : List ℕ) → all x ≡ true → all k ≡ false → is_in k xs ≡ false → is_in k (x ∷ xs) ≡ false
  other k x xs t f more = by (nat_eq k x) refl where
    by : (b : Bool) → nat_eq k x ≡ b → (b || is_in k xs) ≡ false
    by true e = absurd (true≢false (sym t ∙ ap all (sym ((Decides-eqb k x).0 e)) ∙ f))
    by false e = more

  all_indices : (free : ℕ → Bool) (ls : List Loop) (block body : Block) → LoopsKeep kinds all free ls block body → (k : ℕ) → all k ≡ false → is_in k (map (λ l. l.index) ls) ≡ false
  all_indices free [] block body h k f = refl
  all_indices free (l ∷ ls) block body h k f = other k l.index (map (λ l. l.index) ls) h.3.unseen f (all_indices (without free l.index) ls h.1 body h.5 k f)

  no_index : (nest : Nest) (l : Loop) (block body : Block) → IsNest kinds all nest l block body → (k : ℕ) → all k ≡ false → is_in k (nest_indices nest) ≡ false
  no_index nest l block body h k f =
      reversed k (map (λ l. l.index) nest.loops) ∙ ap (λ ls. is_in k (map (λ l. l.index) ls)) h.loops
      ∙ other k l.index (map (λ l. l.index) h.inner) h.unseen f (all_indices (without all l.index) h.inner block body h.tight k f)

-- a nest by its form has the kinds of a nest
pub kinds_are : (operators : ℕ → Join) (all : ℕ → Bool) (nest : Nest) (l : Loop) (block body : Block) → ((k : ℕ) → IsOverNumbers (operators k))
    → IsNest (kind_of operators nest body) all nest l block body → AreKinds (kind_of operators nest body) nest body
kinds_are operators all nest l block body over h =
    kinds_of_nest operators nest body over (λ k a. no_index (kind_of operators nest body) all nest l block body h k (h.quiet k (copies_of_kind operators nest body k ∙ a)))
