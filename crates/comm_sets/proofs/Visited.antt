-- Tuples of a list, where nothing is exchanged at others.
use Rattle.std.proofs.Common.{◌≡◌, ℕ, zero, suc, ◌+◌, ◌<◌, ◌==◌, ◌&&◌, ◌||◌, Bool, true, false, List, [], ◌∷◌, All, length, take, map, get_or, replicate, refl, sym, ◌∙◌, ap, subst, arith, ⊎_elim}
use Rattle.std.proofs.lemmas.Bool.{cases_eq, eqb-true, or_left, or_right}
use Rattle.std.proofs.lemmas.List.{length-replicate}
use Rattle.std.proofs.lemmas.List.Elements.{All-head, All-tail}
use Rattle.std.proofs.lemmas.List.Folds.{list_any_more}
use mathlib.Core.Bool.{true≢false}
use Rattle.std.specs.List.{list_any, range_with_len}
use Rattle.storage.specs.Storage.{Spot}
use Rattle.machine_steps.specs.Layout.{Layout}
use Rattle.machine_steps.specs.Message.{Part, any_below, message, names_spot}
use Rattle.message_elements.specs.Elements.{is_sent}
use Rattle.comm_sets.specs.Noted.{Arranged, Lists, Noted}
use Rattle.message_elements.specs.Candidates.{IsVisited, is_sent_at, is_visited, sends_at, takes_at}
use Rattle.message_elements.proofs.AllSpots.{both-tests}
use Rattle.comm_sets.proofs.Noting.{noted-same}
use Rattle.comm_sets.proofs.Sent.{is_sent_below, messages-from, messages-to}

-- ---- a test of numbers passes below a limit where it passes in a list

any-at : (P : ℕ → Bool) (n t : ℕ) → t < n → P t ≡ true → any_below P n ≡ true
any-at P zero t lt e = absurd (omega (arith, lt))
any-at P (suc n) t lt e = ⊎_elim
    (λ (k : n ≡ t). or_left (P n) (any_below P n) (subst (λ x. P x ≡ true) (sym k) e))
    (λ (ne : n ≡ t → ⊥). or_right (P n) (any_below P n) (any-at P n t (omega (arith, lt, ne)) e))
    (cases_eq n t)

some-below : (P : ℕ → Bool) (n : ℕ) → any_below P n ≡ true → (t : ℕ) × (t < n) × (P t ≡ true)
some-below P zero e = absurd (true≢false (sym e))
some-below P (suc n) e = by_test (P n) refl e (λ later. some-below P n later)
  where
    by_test : (b : Bool) → P n ≡ b → (b || any_below P n) ≡ true → (any_below P n ≡ true → (t : ℕ) × (t < n) × (P t ≡ true)) → (t : ℕ) × (t < suc n) × (P t ≡ true)
    by_test true here either later = (n, omega arith, here)
    by_test false here either later = let x = later either in let lt = x.1 in (x.0, omega (arith, lt), x.2)

any-of : (P : ℕ → Bool) (n : ℕ) (visited : List ℕ) → All (λ t. t < n) visited → list_any P visited ≡ true → any_below P n ≡ true
any-of P n [] below e = absurd (true≢false (sym e))
any-of P n (v ∷ vs) below e = by_test (P v) refl e (All-head (λ t. t < n) v vs below) (any-of P n vs (All-tail (λ t. t < n) v vs below))
  where
    by_test : (b : Bool) → P v ≡ b → (b || list_any P vs) ≡ true → v < n → (list_any P vs ≡ true → any_below P n ≡ true) → any_below P n ≡ true
    by_test true here either lt later = any-at P n v lt here
    by_test false here either lt later = later either

visited-passes : (P : ℕ → Bool) (t : ℕ) (visited : List ℕ) → is_visited visited t ≡ true → P t ≡ true → list_any P visited ≡ true
visited-passes P t [] e passes = e
visited-passes P t (v ∷ vs) e passes = by_test (v == t) refl e (λ later. visited-passes P t vs later passes)
  where
    by_test : (b : Bool) → (v == t) ≡ b → (b || is_visited vs t) ≡ true → (is_visited vs t ≡ true → list_any P vs ≡ true) → (P v || list_any P vs) ≡ true
    by_test true same either later = or_left (P v) (list_any P vs) (ap P (eqb-true v t same) ∙ passes)
    by_test false same either later = or_right (P v) (list_any P vs) (later either)

pub one-truth : (a b : Bool) → (a ≡ true → b ≡ true) → (b ≡ true → a ≡ true) → a ≡ b
one-truth true b one other = sym (one refl)
one-truth false true one other = other refl
one-truth false false one other = refl

any-visited : (P : ℕ → Bool) (n : ℕ) (visited : List ℕ) → All (λ t. t < n) visited → ((t : ℕ) → t < n → P t ≡ true → is_visited visited t ≡ true) → list_any P visited ≡ any_below P n
any-visited P n visited below every =
    one-truth (list_any P visited) (any_below P n) (any-of P n visited below)
    (λ e. let x = some-below P n e in visited-passes P x.0 visited (every x.0 x.1 x.2) x.2)

below-and : (P : ℕ → Bool) (c : Bool) (n : ℕ) → any_below (λ t. P t && c) n ≡ (any_below P n && c)
below-and P c zero = refl
below-and P c (suc n) = ap (λ b. (P n && c) || b) (below-and P c n) ∙ both-tests (P n) (any_below P n) c

-- ---- what is noted at the tuples of a list

-- the element is sent at one of the tuples
abbrev pub is_sent_among : ℕ → List Layout → Part → List ℕ → (from to : ℕ) → Spot → Bool
is_sent_among nodes layouts part visited from to s = list_any (λ t. is_sent_at nodes layouts part t from to s) visited

module _ (nodes : ℕ) (layouts : List Layout) (part : Part) (visited : List ℕ) where
  or_turned : (a b : Bool) → (b || a) ≡ (a || b)
  or_turned true true = refl
  or_turned true false = refl
  or_turned false true = refl
  or_turned false false = refl

  -- one tuple more
  pub visited-more : (i : ℕ) → i < length visited → (from to : ℕ) (s : Spot)
      → (is_sent_at nodes layouts part (get_or visited i 0) from to s || is_sent_among nodes layouts part (take i visited) from to s) ≡ is_sent_among nodes layouts part (take (i + 1) visited) from to s
  visited-more i inside from to s =
      or_turned (is_sent_among nodes layouts part (take i visited) from to s) (is_sent_at nodes layouts part (get_or visited i 0) from to s)
      ∙ sym (list_any_more (λ t. is_sent_at nodes layouts part t from to s) visited i 0 inside)

  among-all : (from to : ℕ) (s : Spot) → All (λ t. t < part.tuples) visited → ((t : ℕ) → t < part.tuples → is_sent_at nodes layouts part t from to s ≡ true → is_visited visited t ≡ true)
      → is_sent_among nodes layouts part visited from to s ≡ is_sent_below nodes layouts part part.tuples from to s
  among-all from to s below every =
      any-visited (λ t. is_sent_at nodes layouts part t from to s) part.tuples visited below every
      ∙ below-and (λ t. part.computes to t && names_spot (part.reads t) s) (is_sent nodes layouts from to s) part.tuples

  module _ (noted arranged : Lists) (order : Arranged noted arranged) where
    -- all messages from a node, and all to a node
    pub visited-from : (from : ℕ) → IsVisited nodes part.tuples (sends_at nodes layouts part from) visited → Noted (replicate nodes []) noted (λ to s. is_sent_among nodes layouts part visited from to s)
        → arranged ≡ map (λ to. message nodes layouts part from to) (range_with_len 0 nodes)
    visited-from from all notes =
        let none : List Spot = [] in
        messages-from nodes layouts part part.tuples noted arranged refl order from
        (noted-same (λ to s. is_sent_below nodes layouts part part.tuples from to s)
        (λ to lt s. among-all from to s all.below (λ t inside e. all.every t to s inside (omega (arith, lt, length-replicate nodes none)) e)) notes)

    pub visited-to : (to : ℕ) → IsVisited nodes part.tuples (takes_at nodes layouts part to) visited → Noted (replicate nodes []) noted (λ from s. is_sent_among nodes layouts part visited from to s)
        → arranged ≡ map (λ from. message nodes layouts part from to) (range_with_len 0 nodes)
    visited-to to all notes =
        let none : List Spot = [] in
        messages-to nodes layouts part part.tuples noted arranged refl order to
        (noted-same (λ from s. is_sent_below nodes layouts part part.tuples from to s)
        (λ from lt s. among-all from to s all.below (λ t inside e. all.every t from s inside (omega (arith, lt, length-replicate nodes none)) e)) notes)
