-- What is sent and taken in a round, node by node.
use Rattle.std.proofs.Common.{◌≡◌, ℕ, zero, suc, ◌+◌, ◌-◌, ◌<◌, ◌≤◌, ◌==◌, not, ◌&&◌, ◌||◌, Bool, true, false, if◌then◌else◌, Some, List, [], ◌∷◌, ◌++◌, length, map, filter, get_or, refl, sym, ◌∙◌, ap, subst, eqb-true, ◌⊎◌, inl, inr}
use Rattle.std.proofs.lemmas.Bool.{cases_lt}
use Rattle.std.proofs.lemmas.List.{get_or_past, map-append}
use Rattle.std.proofs.lemmas.List.Elements.{All-cons, All-filter, All-head, All-map, All-nil, All-tail}
use Rattle.std.proofs.lemmas.Option.{same_Some}
use mathlib.Core.Bool.{true≢false}
use Rattle.std.specs.Cmp.{first_so, second_so}
use Rattle.std.specs.List.{All, list_any, range_with_len, slice_get}
use Rattle.std.specs.Option.{is_some}
use Rattle.hpf_base.proofs.Ranges.{All-range}
use Rattle.machine_steps.specs.Layout.{Layout}
use Rattle.machine_steps.specs.Message.{has_any, remap_message}
use Rattle.letters.specs.declared.pair.Pair.{Pair}
use Rattle.comm_sets.proofs.Computing.{filter-more}
use Rattle.machine_steps.specs.Rounds.{all_pairs, color_of, color_round, is_pair, moving_pairs, remap_rounds}

-- what is made of those that pass, with one node more
pub map-more : {A : Type 0} (f : ℕ → A) (P : ℕ → Bool) (n : ℕ)
    → map f (filter P (range_with_len 0 (n + 1))) ≡ map f (filter P (range_with_len 0 n)) ++ map f (filter P (n ∷ []))
map-more f P n = ap (map f) (filter-more P n) ∙ map-append f (filter P (range_with_len 0 n)) (filter P (n ∷ []))

-- ---- a pair of a round has a message

abbrev Sends : ℕ → (old new : List Layout) → Pair → Type 0
Sends nodes old new pair = has_any (remap_message nodes old new pair.from.0 pair.to.0) ≡ true

sends-of : (nodes : ℕ) (old new : List Layout) (from to : ℕ) (round : List Pair) → list_any (is_pair from to) round ≡ true → All (Sends nodes old new) round
    → has_any (remap_message nodes old new from to) ≡ true
sends-of nodes old new from to [] h all = absurd (true≢false (sym h))
sends-of nodes old new from to (pair ∷ round) h all =
    by_test (is_pair from to pair) refl h (λ e. sends-of nodes old new from to round e (All-tail (Sends nodes old new) pair round all))
  where
    by_test : (b : Bool) → is_pair from to pair ≡ b → (b || list_any (is_pair from to) round) ≡ true
        → (list_any (is_pair from to) round ≡ true → has_any (remap_message nodes old new from to) ≡ true)
        → has_any (remap_message nodes old new from to) ≡ true
    by_test true is h rest =
        let f = eqb-true pair.from.0 from (first_so (pair.from.0 == from) (pair.to.0 == to) is) in
        let t = eqb-true pair.to.0 to (second_so (pair.from.0 == from) (pair.to.0 == to) is) in
        sym (λ i. has_any (remap_message nodes old new (f i) (t i))) ∙ All-head (Sends nodes old new) pair round all
    by_test false is h rest = rest h

module _ (nodes : ℕ) (old new : List Layout) where
  moving-send : (pairs : List Pair) → All (Sends nodes old new) (filter (λ pair. not (pair.from.0 == pair.to.0) && has_any (remap_message nodes old new pair.from.0 pair.to.0)) pairs)
  moving-send [] = All-nil (Sends nodes old new)
  moving-send (pair ∷ pairs) = by_test (not (pair.from.0 == pair.to.0) && has_any (remap_message nodes old new pair.from.0 pair.to.0)) refl (moving-send pairs)
    where
      by_test : (b : Bool) → (not (pair.from.0 == pair.to.0) && has_any (remap_message nodes old new pair.from.0 pair.to.0)) ≡ b
          → All (Sends nodes old new) (filter (λ p. not (p.from.0 == p.to.0) && has_any (remap_message nodes old new p.from.0 p.to.0)) pairs)
          → All (Sends nodes old new) (if b then pair ∷ filter (λ p. not (p.from.0 == p.to.0) && has_any (remap_message nodes old new p.from.0 p.to.0)) pairs
          else filter (λ p. not (p.from.0 == p.to.0) && has_any (remap_message nodes old new p.from.0 p.to.0)) pairs)
      by_test true e rest = All-cons (Sends nodes old new) pair _ (second_so (not (pair.from.0 == pair.to.0)) _ e) rest
      by_test false e rest = rest

  rounds-send : All (All (Sends nodes old new)) (remap_rounds nodes old new)
  rounds-send =
      let pairs = moving_pairs nodes old new in
      All-map (All (Sends nodes old new)) (color_round nodes pairs) _
      (λ k color inside. All-filter (λ pair. color_of nodes pairs pair == get_or _ k color) (Sends nodes old new) pairs (moving-send (all_pairs nodes)))

  -- so a pair sends in a round just where it stands in it
  pub stands-sends : (round from to : ℕ) → list_any (is_pair from to) (get_or (remap_rounds nodes old new) round [])
      ≡ (list_any (is_pair from to) (get_or (remap_rounds nodes old new) round []) && has_any (remap_message nodes old new from to))
  stands-sends round from to = by_test (list_any (is_pair from to) (get_or (remap_rounds nodes old new) round [])) refl
    where
      all : (round < length (remap_rounds nodes old new)) ⊎ (length (remap_rounds nodes old new) ≤ round) → All (Sends nodes old new) (get_or (remap_rounds nodes old new) round [])
      all (inl inside) = rounds-send round [] inside
      all (inr past) = subst (λ (pairs : List Pair). All (Sends nodes old new) pairs) (sym (get_or_past (remap_rounds nodes old new) round [] past)) (All-nil (Sends nodes old new))

      by_test : (b : Bool) → list_any (is_pair from to) (get_or (remap_rounds nodes old new) round []) ≡ b → b ≡ (b && has_any (remap_message nodes old new from to))
      by_test true e =
          sym (sends-of nodes old new from to (get_or (remap_rounds nodes old new) round []) e (all (cases_lt round (length (remap_rounds nodes old new)))))
      by_test false e = refl

-- a list by place
pub got : {A : Type 0} (xs : List A) (k : ℕ) (x d : A) → slice_get xs k ≡ Some x → x ≡ get_or xs k d
got [] k x d e = absurd (true≢false (sym (ap is_some e)))
got (y ∷ xs) zero x d e = sym (same_Some y x e)
got (y ∷ xs) (suc k) x d e = got xs k x d e
