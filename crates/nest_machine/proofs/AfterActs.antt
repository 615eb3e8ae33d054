-- The machine's data after a trace that does what acts do: the parted order of the acts, each row at its place, and the fault that is kept of them.
use Rattle.std.proofs.Common.{◌≡◌, ℕ, suc, ◌+◌, inl, inr, List, [], ◌∷◌, length, map, replicate, ℤ, pos, Bool, Option, Some, sym, ap, ◌∙◌, subst, arith, slice_set, ⊎_elim}
use Rattle.storage.specs.Storage.{Storage, Spot, read}
use Rattle.storage.specs.Effect.{Effect, Put, scatter}
use Rattle.storage.specs.Parted.{parted}
use Rattle.machine_steps.specs.Layout.{Layout, size_of}
use Rattle.machine_steps.specs.Instr.{Tuples}
use Rattle.machine_steps.specs.Machine.{keep, kept_of, outcome_of, effect_of, effect_by, value_by}
use Rattle.nest_machine.specs.Trace.{Traced, Does, Marks, Makes, Data, traced, all_traced, acts}
use Rattle.nest_machine.specs.Placed.{Placed, IsPlace, placed_effect}
use Rattle.nest_machine.proofs.KeptFaults.{keep-nothing, fault_outcome, kept-fault, fault-placed, keep-alike, kept_acts}
use Rattle.nest_machine.proofs.PlacedActs.{DoesAs, MakesAs, MarksAs, FollowActs}
use Rattle.nest_machine.proofs.PlacedRows.{placed-scatter, placed-off, placed-made}
use Rattle.nest_machine.proofs.Rows.{parted-extent}

module _ {F : Type 0} (place : ℕ → ℕ) (is_row : ℕ → Bool) (one_place : IsPlace place is_row) (layout : List Layout → List ℤ → Layout) (start : Storage) (n : ℕ)
    (act : ℕ → ℕ → Storage → Effect F) (number : ℕ → ℕ) where
  abbrev At : ℕ → Storage
  At = parted act start n

  -- the data after the first j acts, where p parallel statements were before
  pub record After (j p : ℕ) (d : Data F) : Type 0 where
    pub rows : Placed place is_row (At j) d.rows
    pub kept : d.kept ≡ kept_acts act start n number j
    pub parts : d.parts ≡ p

  pub does-after : (j p : ℕ) (d : Data F) (t : Tuples F) (l : List ℤ → ℕ → Option Spot) (s : List ℤ) → After j p d
      → t.count s ≡ n → DoesAs place is_row layout start n t l s (λ i. act i j) → number j ≡ p → After (suc j) (p + 1) (traced layout (Does t l s) d)
  does-after j p d t l s b count does num =
      let effect_is : (λ i. effect_of t l s (read d.rows) i) ≡ (λ i. placed_effect place (act i j (At j))) = λ k i. (does i (At j) d.rows b.rows).0 k in
      record {
        rows = subst (λ (e : ℕ → Effect F). Placed place is_row (scatter (λ i. act i j (At j)) n (At j)) (scatter e (t.count s) d.rows)) (sym effect_is)
            (subst (λ c. Placed place is_row (scatter (λ i. act i j (At j)) n (At j)) (scatter (λ i. placed_effect place (act i j (At j))) c d.rows)) (sym count)
            (placed-scatter place is_row one_place (λ i. act i j (At j)) n (At j) d.rows b.rows (λ i. (does i (At j) d.rows b.rows).1)));
        kept = (λ k. keep (outcome_of t s (read d.rows)) ((b.parts ∙ sym num) k) (count k) (b.kept k))
            ∙ keep-alike (outcome_of t s (read d.rows)) (λ i. fault_outcome (act i j (At j))) (number j) n (kept_acts act start n number j)
            (λ i. kept-fault (l s i) (outcome_of t s (read d.rows) i) i (number j)
            ∙ ap (λ e. kept_of (fault_outcome e) i (number j)) (does i (At j) d.rows b.rows).0
            ∙ ap (λ o. kept_of o i (number j)) (fault-placed place (act i j (At j))));
        parts = ap (λ x. x + 1) b.parts;
      }

  pub makes-after : (j p : ℕ) (d : Data F) (r' : ℕ) (s : List ℤ) → After j p d → MakesAs place is_row layout start n r' s (λ i. act i j)
      → After (suc j) p (traced layout (Makes r' s) d)
  makes-after j p d r' s b makes =
      let puts : ℕ → Effect F = λ i. Put (record { row = makes.0; at = i }) (pos 0) in
      let effect_is : puts ≡ (λ i. act i j (At j)) = λ k i. sym (makes.5 i (At j)) k in
      record {
        rows = subst (λ x. Placed place is_row (scatter (λ i. act i j (At j)) n (At j)) (slice_set d.rows x (replicate (size_of (layout d.layouts s)) (pos 0)))) (sym makes.1)
            (subst (λ c. Placed place is_row (scatter (λ i. act i j (At j)) n (At j)) (slice_set d.rows (place makes.0) (replicate c (pos 0)))) (sym (makes.3 d.layouts))
            (subst (λ (e : ℕ → Effect F). Placed place is_row (scatter e n (At j)) (slice_set d.rows (place makes.0) (replicate n (pos 0)))) effect_is
            (placed-made place is_row one_place F makes.0 n (At j) d.rows b.rows makes.2 (parted-extent act start n j makes.0 ∙ makes.4))));
        kept = b.kept ∙ sym (keep-nothing (λ i. fault_outcome (act i j (At j))) (number j) n (kept_acts act start n number j)
            (λ i. ap (λ e. kept_of (fault_outcome e) i (number j)) (makes.5 i (At j))));
        parts = b.parts;
      }

  pub marks-after : (j p : ℕ) (d : Data F) (t : Tuples F) (q : ℕ) (s : List ℤ) → After j p d → MarksAs place is_row layout start n t q s
      → After j (p + 1) (traced layout (Marks t q s) d)
  marks-after j p d t q s b marks =
      let values : ℕ → List ℤ = λ i. map (value_by (read d.rows)) (t.reads s i) in
      record {
        rows = placed-off place is_row one_place (λ i. effect_by (Some (record { row = q; at = i })) (t.outcome s i (values i))) q marks.1 (t.count s) (At j) d.rows
            (λ i. ⊎_elim
            (λ e. inl (ap (effect_by (Some (record { row = q; at = i }))) e))
            (λ e. inr (pos 1, ap (effect_by (Some (record { row = q; at = i }))) e))
            (marks.2 i (values i))) b.rows;
        kept = keep-nothing (λ i. t.outcome s i (values i)) d.parts (t.count s) d.kept
            (λ i. ⊎_elim (λ e. ap (λ o. kept_of o i d.parts) e) (λ e. ap (λ o. kept_of o i d.parts) e) (marks.2 i (values i))) ∙ b.kept;
        parts = ap (λ x. x + 1) b.parts;
      }

  pub all-after : (xs : List (Traced F)) (j p : ℕ) (d : Data F) → After j p d → FollowActs place is_row layout start n act number j p xs
      → (q : ℕ) × After (j + length (acts xs)) q (all_traced layout xs d)
  all-after [] j p d b f = let e : j ≡ j + 0 = omega arith in (p, subst (λ x. After x p d) e b)
  all-after (Does t l s ∷ xs) j p d b f =
      let e : suc j + length (acts xs) ≡ j + suc (length (acts xs)) = omega arith in
      let r = all-after xs (suc j) (p + 1) (traced layout (Does t l s) d) (does-after j p d t l s b f.0.0 f.0.1 f.0.2) f.1 in
      (r.0, subst (λ x. After x r.0 (all_traced layout xs (traced layout (Does t l s) d))) e r.1)
  all-after (Marks t q s ∷ xs) j p d b f = all-after xs j (p + 1) (traced layout (Marks t q s) d) (marks-after j p d t q s b f.0) f.1
  all-after (Makes r' s ∷ xs) j p d b f =
      let e : suc j + length (acts xs) ≡ j + suc (length (acts xs)) = omega arith in
      let r = all-after xs (suc j) p (traced layout (Makes r' s) d) (makes-after j p d r' s b f.0) f.1 in
      (r.0, subst (λ x. After x r.0 (all_traced layout xs (traced layout (Makes r' s) d))) e r.1)
