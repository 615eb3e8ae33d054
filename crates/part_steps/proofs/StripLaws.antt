-- Strips of the tuples that a node computes, and what is written to lines.
use Rattle.std.proofs.Common.{◌≡◌, ℕ, zero, suc, ◌+◌, ◌-◌, ◌*◌, ◌<◌, ◌≤◌, true, List, [], ◌∷◌, ◌++◌, length, map, take, drop, get_or, set, ℤ, pos, Option, Some, None, if◌then◌else◌, refl, sym, ◌∙◌, ap, subst, arith, add-one, get_or-set_same, Result, Ok, Err, OnOk}
use Rattle.std.specs.List.{range_with_len}
use Rattle.std.specs.Prelude.{option_map, slice_index_or}
use Rattle.std.proofs.Math.Seq.{take-suc}
use Rattle.std.proofs.lemmas.List.{drop-drop, drop_all, drop_more, get_or-drop, length-drop, length-set, length-take-le, set-get_or, set-set, set_past, take-append-drop}
use Rattle.std.proofs.lemmas.List.FromFn.{map-range_with_len_more}
use Rattle.storage.specs.Storage.{Storage, Spot, row_of, write}
use Rattle.op_tables.specs.declared.join.Join.{Join}
use Rattle.op_tables.specs.Joins.{join}
use Rattle.array_meaning.specs.Faults.{Fault}
use Rattle.machine_steps.specs.Instr.{Outcome, Value}
use Rattle.machine_steps.specs.Layout.{Layout, address, owns_spot}
use Rattle.machine_steps.specs.Machine.{Kept, earlier, effect_by, is_before, kept_of}
use Rattle.machine_steps.specs.Node.{join_options, local_apply, local_spot, local_write, outcome_value}
use Rattle.node_run.proofs.Keeping.{before-order}
use Rattle.node_run.proofs.Picked.{picked-none}
use Rattle.owner_tables.specs.Lines.{with_line}
use Rattle.tuple_values.specs.declared.strips.ElementLine.{ElementLine}
use Rattle.tuple_values.specs.declared.strips.Strip.{Strip}
use Rattle.tuple_values.specs.Strips.{line_spot, strip_tuple}
use Rattle.part_steps.specs.After.{After}
use Rattle.part_steps.specs.Computed.{join_of, keep_of, over, store_of}
use Rattle.part_steps.proofs.Computed.{over-append}
use Rattle.part_steps.specs.Stores.{line_stored}
use Rattle.part_steps.specs.Strips.{AreOutcomes, IsStripOf, joined_values, strip_tuples, written}
use Rattle.part_steps.specs.declared.strips.StripOutcome.{StripOutcome}

-- ---- tuples

-- the front of a list, by its items
front-is : (xs : List ℕ) (f : ℕ → ℕ) (n : ℕ) → n ≤ length xs → ((k : ℕ) → k < n → get_or xs k 0 ≡ f k) → take n xs ≡ map f (range_with_len 0 n)
front-is xs f zero le at = refl
front-is xs f (suc n) le at =
    let next : suc n ≡ n + 1 = omega arith in
    let all : 0 + n ≡ n = omega arith in
    let less : n < length xs = omega (arith, le) in
    take-suc xs n 0 less
    ∙ (λ i. front-is xs f n (omega (arith, le)) (λ k lt. at k (omega (arith, lt))) i ++ at n (omega arith) i ∷ [])
    ∙ sym (ap (λ m. map f (range_with_len 0 m)) next ∙ map-range_with_len_more f 0 n n all)

pub strip-is : (ts : List ℕ) (from : ℕ) (s : Strip) → IsStripOf ts from s → take s.count (drop from ts) ≡ strip_tuples s
strip-is ts from s strip =
    let within = strip.within in
    let left = length-drop from ts in
    front-is (drop from ts) (strip_tuple s) s.count (omega (arith, within, left)) (λ k lt. get_or-drop from ts k 0 ∙ strip.at k lt)

module _ {S : Type 0} (step : ℕ → S → S) (xs : List ℕ) where
  -- so many items more of a list
  pub over-taken : (done n : ℕ) (before after whole : S) → after ≡ over step (take n (drop done xs)) before → over step (drop done xs) before ≡ whole → over step (drop (done + n) xs) after ≡ whole
  over-taken done n before after whole is so_far =
      ap (over step (drop (done + n) xs)) is ∙ ap (λ ys. over step ys (over step (take n (drop done xs)) before)) (sym (drop-drop n done xs))
      ∙ sym (over-append step (take n (drop done xs)) (drop n (drop done xs)) before) ∙ ap (λ ys. over step ys before) (take-append-drop n (drop done xs)) ∙ so_far

  -- one item more of those from an index on
  pub over-one-more : (from i x : ℕ) (before after start : S) → from ≤ i → i < length xs → x ≡ get_or xs i 0 → after ≡ step x before → before ≡ over step (take (i - from) (drop from xs)) start
      → after ≡ over step (take (i + 1 - from) (drop from xs)) start
  over-one-more from i x before after start le lt is stepped so_far =
      let left = length-drop from xs in
      let inside : i - from < length (drop from xs) = omega (arith, le, lt, left) in
      let next : i + 1 - from ≡ suc (i - from) = omega (arith, le) in
      let place : from + (i - from) ≡ i = omega (arith, le) in
      let here : get_or (drop from xs) (i - from) 0 ≡ x = get_or-drop from xs (i - from) 0 ∙ ap (λ k. get_or xs k 0) place ∙ sym is in
      stepped ∙ ap (step x) so_far
      ∙ sym (ap (λ n. over step (take n (drop from xs)) start) next ∙ ap (λ ys. over step ys start) (take-suc (drop from xs) (i - from) 0 inside)
      ∙ over-append step (take (i - from) (drop from xs)) (get_or (drop from xs) (i - from) 0 ∷ []) start
      ∙ ap (λ y. step y (over step (take (i - from) (drop from xs)) start)) here)

-- what a strip comes to is what its tuples in the run come to
pub over-strip : {S : Type 0} (step : ℕ → S → S) (ts : List ℕ) (from end : ℕ) (s : Strip) (before after : S) → IsStripOf ts from s → end ≡ from + s.count
    → after ≡ over step (strip_tuples s) before → after ≡ over step (take (end - from) (drop from ts)) before
over-strip step ts from end s before after strip is made =
    let count : end - from ≡ s.count = omega (arith, is) in
    made ∙ ap (λ l. over step l before) (sym (ap (λ n. take n (drop from ts)) count ∙ strip-is ts from s strip))

-- ---- what they come to

module _ (b : After) (s : Strip) (o : StripOutcome) (are : AreOutcomes b s o) where
  -- the tuples of the strip from one on
  abbrev tuples_from : ℕ → ℕ → List ℕ
  tuples_from j n = map (strip_tuple s) (range_with_len j n)

  kept-from : (number j n : ℕ) → j + n ≡ s.count → (k : Option (Kept Fault)) → over (keep_of b number) (tuples_from j n) k ≡ k
  kept-from number j zero all k = refl
  kept-from number j (suc n) all k =
      let lt : j < s.count = omega (arith, all) in
      ap (over (keep_of b number) (tuples_from (j + 1) n))
      (ap (λ r. earlier k (kept_of r (strip_tuple s j) number)) (are.value j lt) ∙ picked-none is_before before-order k)
      ∙ kept-from number (j + 1) n (omega (arith, all)) k

  pub kept-over : (number : ℕ) (k : Option (Kept Fault)) → k ≡ over (keep_of b number) (strip_tuples s) k
  kept-over number k = sym (kept-from number 0 s.count (omega arith) k)

  -- nothing is assigned
  unwritten-from : (j n : ℕ) → j + n ≡ s.count → o.left ≡ None → (ps : Storage) → over (store_of b) (tuples_from j n) ps ≡ ps
  unwritten-from j zero all none ps = refl
  unwritten-from j (suc n) all none ps =
      let lt : j < s.count = omega (arith, all) in
      ap (over (store_of b) (tuples_from (j + 1) n))
      ((λ i. applied_by (are.left j lt i) (are.value j lt i)) ∙ ap (λ l. applied_by (option_map (λ l. line_spot l j) l) (Value (slice_index_or o.values.items j (pos 0)))) none)
      ∙ unwritten-from (j + 1) n (omega (arith, all)) none ps
    where
      applied_by : Option Spot → Outcome Fault → Storage
      applied_by left outcome = local_apply b.part.layouts b.id (effect_by left outcome) ps

  pub unwritten : o.left ≡ None → (ps : Storage) → ps ≡ over (store_of b) (strip_tuples s) ps
  unwritten none ps = sym (unwritten-from 0 s.count (omega arith) none ps)

  written-from : (l : ElementLine) (j n : ℕ) → j + n ≡ s.count → o.left ≡ Some l → (ps : Storage)
      → over (store_of b) (tuples_from j n) ps ≡ written b.part.layouts b.id l j (drop j o.values.items) ps
  written-from l j zero all is ps =
      let long = are.count in
      sym (ap (λ vs. written b.part.layouts b.id l j vs ps) (drop_all j o.values.items (omega (arith, all, long))))
  written-from l j (suc n) all is ps =
      let lt : j < s.count = omega (arith, all) in
      let long = are.count in
      let v : ℤ = slice_index_or o.values.items j (pos 0) in
      ap (over (store_of b) (tuples_from (j + 1) n))
      ((λ i. applied_by (are.left j lt i) (are.value j lt i)) ∙ ap (λ l. applied_by (option_map (λ l. line_spot l j) l) (Value (slice_index_or o.values.items j (pos 0)))) is)
      ∙ written-from l (j + 1) n (omega (arith, all)) is (local_write b.part.layouts b.id (line_spot l j) (slice_index_or o.values.items j (pos 0)) ps)
      ∙ ap (λ vs. written b.part.layouts b.id l j vs ps) (sym (drop_more o.values.items j (pos 0) (omega (arith, lt, long))))
    where
      applied_by : Option Spot → Outcome Fault → Storage
      applied_by left outcome = local_apply b.part.layouts b.id (effect_by left outcome) ps

  pub written-over : (l : ElementLine) → o.left ≡ Some l → (ps : Storage) → written b.part.layouts b.id l 0 o.values.items ps ≡ over (store_of b) (strip_tuples s) ps
  written-over l is ps = sym (written-from l 0 s.count (omega arith) is ps)

  joined-from : (op : Join) (j n : ℕ) → j + n ≡ s.count → (k : Option ℤ) → over (join_of b op) (tuples_from j n) k ≡ joined_values op (drop j o.values.items) k
  joined-from op j zero all k =
      let long = are.count in
      sym (ap (λ vs. joined_values op vs k) (drop_all j o.values.items (omega (arith, all, long))))
  joined-from op j (suc n) all k =
      let lt : j < s.count = omega (arith, all) in
      let long = are.count in
      ap (λ r. over (join_of b op) (tuples_from (j + 1) n) (join_options (join op) k (outcome_value r))) (are.value j lt)
      ∙ joined-from op (j + 1) n (omega (arith, all)) (join_options (join op) k (Some (slice_index_or o.values.items j (pos 0))))
      ∙ ap (λ vs. joined_values op vs k) (sym (drop_more o.values.items j (pos 0) (omega (arith, lt, long))))

  pub joined-over : (op : Join) (k : Option ℤ) → joined_values op o.values.items k ≡ over (join_of b op) (strip_tuples s) k
  joined-over op k = sym (joined-from op 0 s.count (omega arith) k)

-- one value more
pub joined-next : (op : Join) (vs : List ℤ) (i : ℕ) (d : ℤ) (now next whole : Option ℤ) → i < length vs → next ≡ join_options (join op) now (Some (get_or vs i d))
    → joined_values op (drop i vs) now ≡ whole → joined_values op (drop (i + 1) vs) next ≡ whole
joined-next op vs i d now next whole lt is so_far =
    ap (joined_values op (drop (i + 1) vs)) is ∙ sym (ap (λ l. joined_values op l now) (drop_more vs i d lt)) ∙ so_far

-- ---- lines of the pieces

module _ (layouts : List Layout) (id : ℕ) (l : ElementLine) (step : ℕ) where
  -- a line that the node owns and that lies at equal distances
  pub line-written : (vs : List ℤ) (done at : ℕ) (ps : Storage)
      → ((k : ℕ) → k < length vs → (owns_spot layouts id (line_spot l (done + k)) ≡ true) × (address layouts id (line_spot l (done + k)) ≡ at + k * step))
      → line_stored l.first.row at step vs ps ≡ written layouts id l done vs ps
  line-written [] done at ps held = refl
  line-written (v ∷ vs) done at ps held =
      let here = held 0 (omega arith) in
      let none : done + 0 ≡ done = omega arith in
      let start : at + 0 * step ≡ at = omega arith in
      let place : address layouts id (line_spot l done) ≡ at = ap (λ k. address layouts id (line_spot l k)) (sym none) ∙ here.1 ∙ start in
      let owner : owns_spot layouts id (line_spot l done) ≡ true = ap (λ k. owns_spot layouts id (line_spot l k)) (sym none) ∙ here.0 in
      ap (line_stored l.first.row (at + step) step vs)
      (sym (ap (λ b. if b then write ps (local_spot layouts id (line_spot l done)) v else ps) owner ∙ ap (λ p. write ps (record { row = l.first.row; at = p }) v) place))
      ∙ line-written vs (done + 1) (at + step) (local_write layouts id (line_spot l done) v ps) (λ k lt.
      let next : done + (k + 1) ≡ done + 1 + k = omega arith in
      let more : at + (k + 1) * step ≡ at + step + k * step = omega arith in
      let there = held (k + 1) (omega (arith, lt)) in
      (ap (λ j. owns_spot layouts id (line_spot l j)) (sym next) ∙ there.0, ap (λ j. address layouts id (line_spot l j)) (sym next) ∙ there.1 ∙ more))

  -- values written after others
  written-after : (xs ys : List ℤ) (done : ℕ) (ps : Storage) → written layouts id l done (xs ++ ys) ps ≡ written layouts id l (done + length xs) ys (written layouts id l done xs ps)
  written-after [] ys done ps = (let none : done ≡ done + 0 = omega arith in ap (λ d. written layouts id l d ys ps) none)
  written-after (x ∷ xs) ys done ps =
      let next : done + 1 + length xs ≡ done + suc (length xs) = omega arith in
      written-after xs ys (done + 1) (local_write layouts id (line_spot l done) x ps)
      ∙ ap (λ d. written layouts id l d ys (written layouts id l (done + 1) xs (local_write layouts id (line_spot l done) x ps))) next

  pub written-more : (vs : List ℤ) (i : ℕ) (d : ℤ) (ps : Storage) → i < length vs
      → local_write layouts id (line_spot l i) (get_or vs i d) (written layouts id l 0 (take i vs) ps) ≡ written layouts id l 0 (take (i + 1) vs) ps
  written-more vs i d ps lt =
      let long : 0 + length (take i vs) ≡ i = omega (arith, length-take-le i vs (omega (arith, lt))) in
      sym (ap (λ n. written layouts id l 0 (take n vs) ps) (add-one i) ∙ ap (λ xs. written layouts id l 0 xs ps) (take-suc vs i d lt)
      ∙ written-after (take i vs) (get_or vs i d ∷ []) 0 ps ∙ ap (λ k. local_write layouts id (line_spot l k) (get_or vs i d) (written layouts id l 0 (take i vs) ps)) long)

module _ (row step : ℕ) where
  -- a row of the pieces with a line in it
  pub row-stored : (vs : List ℤ) (at : ℕ) (m : Storage) → row < length m → set m row (with_line (row_of m row) at step vs) ≡ line_stored row at step vs m
  row-stored [] at m lt = set-get_or m row []
  row-stored (v ∷ vs) at m lt =
      let n : Storage = write m (record { row = row; at = at }) v in
      let here : row_of (write m (record { row = row; at = at }) v) row ≡ set (row_of m row) at v = get_or-set_same m row (set (row_of m row) at v) [] lt in
      sym (set-set m row (set (row_of m row) at v) (with_line (set (row_of m row) at v) (at + step) step vs))
      ∙ ap (λ r. set (write m (record { row = row; at = at }) v) row (with_line r (at + step) step vs)) (sym here)
      ∙ row-stored vs (at + step) (write m (record { row = row; at = at }) v) (subst (λ k. row < k) (sym (length-set m row (set (row_of m row) at v))) lt)

  pub no-row-stored : (vs : List ℤ) (at : ℕ) (m : Storage) → length m ≤ row → m ≡ line_stored row at step vs m
  no-row-stored [] at m le = refl
  no-row-stored (v ∷ vs) at m le = no-row-stored vs (at + step) m le ∙ ap (line_stored row (at + step) step vs) (sym (set_past m row (set (row_of m row) at v) le))

-- ---- tuples at equal distances

-- ---- results

pub on-ok : {A B E : Type 0} (r : Result Unit E) → (A → B) → OnOk r A → OnOk r B
on-ok (Ok u) f a = f a
on-ok (Err e) f a = a
