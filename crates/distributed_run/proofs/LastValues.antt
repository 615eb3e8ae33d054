-- The values that the least owners have last are those of the outcome's arrays.
use Rattle.std.proofs.Common.{◌≡◌, ◌⊎◌, inl, inr, ℕ, ◌<◌, ◌≤◌, true, pos, List, [], ◌∷◌, map, length, get_or, replicate, Some, None, slice_get, refl, sym, ap, subst, ◌∙◌, arith}
use Rattle.std.specs.List.{range_with_len}
use Rattle.std.proofs.lemmas.List.{length-replicate}
use Rattle.std.proofs.lemmas.List.{ext_get_or}
use Rattle.std.proofs.lemmas.List.FromFn.{get_or-map-range_with_len, length-map-range_with_len}
use Rattle.std.proofs.lemmas.Option.{same_Some, slice_get_cases, slice_get_read}
use Rattle.hpf_base.proofs.Ranges.{map-range_agree}
use Rattle.syntax_tree.specs.MainProgram.{MainProgram}
use Rattle.name_table.specs.Entries.{entries}
use Rattle.storage.specs.Storage.{Spot, read}
use Rattle.array_meaning.specs.Faults.{Fault}
use Rattle.array_meaning.specs.Serial as serial
use Rattle.array_meaning.specs.Serial.{Outcome}
use Rattle.mappings.specs.declared.mapping.Mapping.{Mapping}
use Rattle.machine_steps.specs.Instr.{Status, Running, Finished, Faulted}
use Rattle.machine_steps.specs.Layout.{AreOwned, Layout, least_owner_of, owns_spot, sizes}
use Rattle.machine_steps.specs.Node.{Node, local_read}
use Rattle.node_code.specs.Instructions.{NewMapping}
use Rattle.code_meaning.specs.ProgramText.{Text}
use Rattle.node_run.proofs.Reading.{least-owns}
use Rattle.compiled_program.specs.ProgramRuns.{AreLastNodes, end_by_status}
use Rattle.distributed_run.specs.Values.{row_values, value_of, value_on}

-- ---- owners

zeros-sized : (ks : List ℕ) → map length (map (λ k. replicate k (pos 0)) ks) ≡ ks
zeros-sized [] = refl
zeros-sized (k ∷ ks) = ap (λ n. n ∷ map length (map (λ k. replicate k (pos 0)) ks)) (length-replicate k (pos 0)) ∙ ap (λ l. k ∷ l) (zeros-sized ks)

-- the least owner of an element is one of so many nodes, and owns it
pub least-has : (nodes : ℕ) (layouts : List Layout) (spot : Spot) → AreOwned nodes layouts → spot.at < get_or (sizes layouts) spot.row 0
    → (owns_spot layouts (least_owner_of nodes layouts spot) spot ≡ true) × (least_owner_of nodes layouts spot < nodes)
least-has nodes layouts spot owned at =
    least-owns nodes layouts (map (λ k. replicate k (pos 0)) (sizes layouts)) (zeros-sized (sizes layouts)) owned spot at

-- what is read in the piece of the least owner is the value
pub value-by : (layouts : List Layout) (last : List (Node Text Fault)) (spot : Spot) (p : ℕ) (node : Node Text Fault) → p ≡ least_owner_of (length last) layouts spot
    → p < length last → node ≡ get_or last p node → local_read layouts p node.pieces spot ≡ value_of layouts last spot
value-by layouts last spot p node least below here =
    ap (λ found. value_on layouts p found spot) (sym (slice_get_read last (length last) p node refl below here))
    ∙ ap (λ q. value_on layouts q (slice_get last q) spot) least

-- ---- the end

pub finished : (s : Status Fault) (e : serial.End) → end_by_status s ≡ Some e → e ≡ serial.Finished → s ≡ Finished
finished Running e h is = cc
finished Finished e h is = refl
finished (Faulted f) e h is = absurd (let k : serial.Faulted f ≡ serial.Finished = same_Some _ _ h ∙ is in cc)

-- ---- the arrays

-- a list by its places
listed : {A : Type 0} (d : A) (xs : List A) (n : ℕ) → n ≡ length xs → map (λ k. get_or xs k d) (range_with_len 0 n) ≡ xs
listed d xs n count =
    let made : length (map (λ k. get_or xs k d) (range_with_len 0 n)) ≡ n = length-map-range_with_len (λ k. get_or xs k d) 0 n in
    ext_get_or d (map (λ k. get_or xs k d) (range_with_len 0 n)) xs (made ∙ count)
    (λ i lt. get_or-map-range_with_len (λ k. get_or xs k d) 0 n i i d (omega (arith, lt, made)) (omega arith))

module _ (nodes : ℕ) (p : MainProgram) (maps : List Mapping) (moves : ℕ → List NewMapping) (first : List Layout) (last : List (Node Text Fault))
    (are : AreLastNodes nodes p maps moves first last)
    (end : (serial.serial p).end ≡ serial.Finished) where
  abbrev n : ℕ
  n = length (entries p)

  abbrev o : Outcome
  o = serial.serial p

  owned : AreOwned (length last) are.layouts
  owned = subst (λ k. AreOwned k are.layouts) (sym are.many) are.owned

  elements : (spot : Spot) (node : Node Text Fault) → spot.row < n → spot.at < get_or (sizes are.layouts) spot.row 0
      → slice_get last (least_owner_of (length last) are.layouts spot) ≡ Some node
      → local_read are.layouts (least_owner_of (length last) are.layouts spot) node.pieces spot ≡ read o.arrays spot
  elements spot node row at =
      subst (λ k. slice_get last (least_owner_of k are.layouts spot) ≡ Some node → local_read are.layouts (least_owner_of k are.layouts spot) node.pieces spot ≡ read o.arrays spot)
      (sym are.many) (are.elements end spot node row at)

  -- an element
  value-is : (spot : Spot) → spot.row < n → spot.at < get_or (sizes are.layouts) spot.row 0 → value_of are.layouts last spot ≡ read o.arrays spot
  value-is spot row at = by (slice_get_cases last owner).1
    where
      owner : ℕ
      owner = least_owner_of (length last) are.layouts spot

      below : owner < length last
      below = (least-has (length last) are.layouts spot owned at).1

      by : ((node : Node Text Fault) × (owner < length last) × (slice_get last owner ≡ Some node) × (get_or last owner node ≡ node))
          ⊎ ((length last ≤ owner) × (slice_get last owner ≡ None)) → value_of are.layouts last spot ≡ read o.arrays spot
      by (inl k) = ap (λ found. value_on are.layouts owner found spot) k.2 ∙ elements spot k.0 row at k.2
      by (inr k) = absurd (omega (arith, k.0, below))

  row-is : (row : ℕ) → row < n → row_values are.layouts last row ≡ get_or o.arrays row []
  row-is row lt =
      map-range_agree (λ at. value_of are.layouts last (record { row = row; at = at })) (λ at. get_or (get_or o.arrays row []) at (pos 0)) 0
      (get_or (sizes are.layouts) row 0) (λ at from below. value-is (record { row = row; at = at }) lt (omega (arith, below)))
      ∙ listed (pos 0) (get_or o.arrays row []) (get_or (sizes are.layouts) row 0) (are.sized end row lt)

  pub arrays-are : (layouts : List Layout) → layouts ≡ are.layouts → map (row_values layouts last) (range_with_len 0 n) ≡ o.arrays
  arrays-are layouts same =
      ap (λ l. map (row_values l last) (range_with_len 0 n)) same
      ∙ map-range_agree (row_values are.layouts last) (λ row. get_or o.arrays row []) 0 n (λ row from below. row-is row (omega (arith, below)))
      ∙ listed [] o.arrays n (sym (are.count end))
