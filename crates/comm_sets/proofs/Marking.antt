-- What is marked by one step after another.
use Rattle.std.proofs.Common.{◌≡◌, ℕ, zero, suc, ◌+◌, ◌*◌, ◌<◌, ◌≤◌, nat_eq, ◌==◌, not, ◌&&◌, ◌||◌, Bool, true, false, Some, List, [], ◌∷◌, ◌++◌, length, map, filter, get_or, take, replicate, refl, sym, ◌∙◌, ap, arith, eqb-true}
use Rattle.std.proofs.lemmas.List.{append_assoc, get_or-replicate}
use Rattle.std.proofs.lemmas.List.Folds.{list_any-append}
use mathlib.Core.Bool.{true≢false}
use Rattle.std.proofs.lemmas.Option.{same_Some}
use Rattle.std.specs.Option.{is_some}
use Rattle.std.specs.List.{list_any, range_with_len, slice_get}
use Rattle.storage.specs.Storage.{Spot}
use Rattle.machine_steps.specs.Layout.{Layout, owned_by, owned_in, owns_spot, least_owner_of}
use Rattle.machine_steps.specs.Message.{spots_from}
use Rattle.comm_sets.specs.Marks.{Marked, is_marked, any_moved}
use Rattle.comm_sets.specs.declared.remapping.End.{End}
use Rattle.comm_sets.specs.declared.remapping.End.TheVariants.{Source, Target}
use Rattle.comm_sets.specs.Moves.{moves}
use Rattle.covering_rounds.specs.Moved.{is_moved}
use Rattle.comm_sets.proofs.Computing.{computes-it}

-- nothing
pub marked-none : (nodes : ℕ) (marks : List Bool) → Marked nodes marks marks (λ from to. false)
marked-none nodes marks = record { long = refl; marks = λ from to lt lt'. refl }

or_assoc : (a b c : Bool) → (a || (b || c)) ≡ ((a || b) || c)
or_assoc true b c = refl
or_assoc false b c = refl

-- one step, and another
pub marked-more : {nodes : ℕ} {a b c : List Bool} {f g : ℕ → ℕ → Bool} (h : ℕ → ℕ → Bool) → Marked nodes a b f → Marked nodes b c g
    → ((from to : ℕ) → from < nodes → to < nodes → (g from to || f from to) ≡ h from to) → Marked nodes a c h
marked-more {nodes} {a} {b} {c} {f} {g} h one other both = record {
  long = other.long ∙ one.long;
  marks = λ from to lt lt'.
      other.marks from to lt lt'
      ∙ ap (λ t. g from to || t) (one.marks from to lt lt')
      ∙ or_assoc (g from to) (f from to) (is_marked a from to)
      ∙ ap (λ t. t || is_marked a from to) (both from to lt lt');
}

-- by a test that agrees
pub marked-same : {nodes : ℕ} {a b : List Bool} {f : ℕ → ℕ → Bool} (g : ℕ → ℕ → Bool) → ((from to : ℕ) → from < nodes → to < nodes → f from to ≡ g from to)
    → Marked nodes a b f → Marked nodes a b g
marked-same {nodes} {a} {b} {f} g same marked = record {
  long = marked.long;
  marks = λ from to lt lt'. marked.marks from to lt lt' ∙ ap (λ t. t || is_marked a from to) (same from to lt lt');
}

-- of an element just the pairs that it is sent between
pub at-element : (nodes : ℕ) (old new : List Layout) (spot : Spot) (from to : ℕ) → to < nodes
    → (nat_eq (least_owner_of nodes old spot) from && (list_any (λ node. nat_eq node to) (filter (λ node. owns_spot new node spot) (range_with_len 0 nodes)) && not (owns_spot old to spot)))
    ≡ is_moved nodes old new from to spot
at-element nodes old new spot from to lt =
    ap (λ b. nat_eq (least_owner_of nodes old spot) from && (b && not (owns_spot old to spot))) (computes-it (λ node. owns_spot new node spot) nodes to lt)
    ∙ turned (nat_eq (least_owner_of nodes old spot) from) (owns_spot new to spot) (not (owns_spot old to spot))
  where
    turned : (a b c : Bool) → (a && (b && c)) ≡ (b && (c && a))
    turned true true true = refl
    turned true true false = refl
    turned true false c = refl
    turned false true true = refl
    turned false true false = refl
    turned false false c = refl

-- ---- elements in rows

abbrev pub in_row : ℕ → ℕ → Spot
in_row row at = record { row = row; at = at }

pub or_turned : (a b : Bool) → (a || b) ≡ (b || a)
or_turned true true = refl
or_turned true false = refl
or_turned false true = refl
or_turned false false = refl

-- those of two lists are those of both together
any-both : (P : Spot → Bool) (xs ys : List Spot) → (list_any P ys || list_any P xs) ≡ list_any P (xs ++ ys)
any-both P xs ys = or_turned (list_any P ys) (list_any P xs) ∙ sym (list_any-append P xs ys)

spots-more : (first row : ℕ) (ns : List ℕ) → row < length ns
    → spots_from first (take (row + 1) ns) ≡ spots_from first (take row ns) ++ map (in_row (first + row)) (range_with_len 0 (get_or ns row 0))
spots-more first row [] lt = absurd (omega (arith, lt))
spots-more first zero (n ∷ ns) lt =
    let here : first + 0 ≡ first = omega arith in
    no-more (map (in_row first) (range_with_len 0 n)) ∙ ap (λ r. map (in_row r) (range_with_len 0 n)) (sym here)
  where
    no-more : (xs : List Spot) → xs ++ [] ≡ xs
    no-more [] = refl
    no-more (x ∷ xs) = ap (λ rest. x ∷ rest) (no-more xs)
spots-more first (suc row) (n ∷ ns) lt =
    let next : first + 1 + row ≡ first + suc row = omega arith in
    let front = map (in_row first) (range_with_len 0 n) in
    let back = map (in_row (first + suc row)) (range_with_len 0 (get_or ns row 0)) in
    let more : suc row + 1 ≡ suc (row + 1) = omega arith in
    ap (λ k. spots_from first (take k (n ∷ ns))) more
    ∙ ap (λ xs. front ++ xs) (spots-more (first + 1) row ns (omega (arith, lt)) ∙ ap (λ r. spots_from (first + 1) (take row ns) ++ map (in_row r) (range_with_len 0 (get_or ns row 0))) next)
    ∙ sym (append_assoc front (spots_from (first + 1) (take row ns)) back)

-- one row more
pub any-row : (P : Spot → Bool) (row : ℕ) (ns : List ℕ) → row < length ns
    → (list_any P (map (in_row row) (range_with_len 0 (get_or ns row 0))) || list_any P (spots_from 0 (take row ns))) ≡ list_any P (spots_from 0 (take (row + 1) ns))
any-row P row ns lt =
    let here : 0 + row ≡ row = omega arith in
    any-both P (spots_from 0 (take row ns)) (map (in_row row) (range_with_len 0 (get_or ns row 0)))
    ∙ ap (λ r. list_any P (spots_from 0 (take row ns) ++ map (in_row r) (range_with_len 0 (get_or ns row 0)))) (sym here)
    ∙ ap (list_any P) (sym (spots-more 0 row ns lt))

-- of a row that lies as before no element is sent
pub none-moved : (nodes : ℕ) (old new : List Layout) (row : ℕ) → owned_in old row ≡ owned_in new row → (lo len from to : ℕ)
    → any_moved nodes old new (map (in_row row) (range_with_len lo len)) from to ≡ false
none-moved nodes old new row same lo zero from to = refl
none-moved nodes old new row same lo (suc len) from to =
    ap (λ (owner : ℕ → ℕ → Bool). (owner to lo && (not (owned_in old row to lo) && (least_owner_of nodes old (in_row row lo) == from)))
    || any_moved nodes old new (map (in_row row) (range_with_len (lo + 1) len)) from to) (sym same)
    ∙ ap (λ b. b || any_moved nodes old new (map (in_row row) (range_with_len (lo + 1) len)) from to) (both (owned_in old row to lo) (least_owner_of nodes old (in_row row lo) == from))
    ∙ none-moved nodes old new row same (lo + 1) len from to
  where
    both : (a b : Bool) → (a && (not a && b)) ≡ false
    both true b = refl
    both false b = refl

-- nothing is marked at first
pub unmarked-pair : (nodes from to : ℕ) → nodes ≤ 64 → from < nodes → to < nodes → is_marked (replicate (nodes * 64) false) from to ≡ false
unmarked-pair nodes from to few lt lt' = get_or-replicate (nodes * 64) (from * 64 + to) false false (omega (arith, few, lt, lt'))

-- and so none of its elements between one end and another node
pub none-moves : (nodes : ℕ) (old new : List Layout) (end : End) (row : ℕ) → owned_in old row ≡ owned_in new row → (other : ℕ) (s : Spot) (inside : Bool)
    → false ≡ ((nat_eq row s.row && inside) && moves nodes old new end other s)
none-moves nodes old new end row same other s inside = by_row (nat_eq row s.row) refl
  where
    both : (a b c : Bool) → false ≡ (a && (b && (not b && c)))
    both true true c = refl
    both true false c = refl
    both false b c = refl

    owned : (node : ℕ) → row ≡ s.row → owns_spot old node s ≡ owns_spot new node s
    owned node e = ap (λ r. owned_in old r node s.at) (sym e) ∙ (λ i. same i node s.at) ∙ ap (λ r. owned_in new r node s.at) e

    none : (e : End) → row ≡ s.row → false ≡ (inside && moves nodes old new e other s)
    none (Source from) here =
        both inside (owns_spot new other s) (least_owner_of nodes old s == from)
        ∙ ap (λ b. inside && (owns_spot new other s && (not b && (least_owner_of nodes old s == from)))) (sym (owned other here))
    none (Target to) here =
        both inside (owns_spot new to s) (least_owner_of nodes old s == other)
        ∙ ap (λ b. inside && (owns_spot new to s && (not b && (least_owner_of nodes old s == other)))) (sym (owned to here))

    by_row : (b : Bool) → nat_eq row s.row ≡ b → false ≡ ((b && inside) && moves nodes old new end other s)
    by_row true e = none end (eqb-true row s.row e)
    by_row false e = refl

-- a row's owners are those of its layout
pub owned-get : (layouts : List Layout) (row : ℕ) (layout : Layout) → Some layout ≡ slice_get layouts row → owned_by layout ≡ owned_in layouts row
owned-get [] row layout e = absurd (true≢false (ap is_some e))
owned-get (l ∷ ls) zero layout e = ap owned_by (same_Some layout l e)
owned-get (l ∷ ls) (suc row) layout e = owned-get ls row layout e
