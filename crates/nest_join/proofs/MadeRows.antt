-- The copies of a nest are made in rows of their own, each once.
use Rattle.std.proofs.Common.{◌≡◌, ℕ, zero, suc, ◌+◌, ◌<◌, ◌≤◌, List, [], ◌∷◌, ◌++◌, length, sym, arith}
use Rattle.nest_syntax.specs.NestKinds.{Kind, Shared, New, Assigned, Reduced}
use Rattle.nest_machine.specs.Entries.{Entry, at_zero, final_entries, finals_entries, conditions_entries, nest_entries, NotMade, AreRows}
use Rattle.program_code.specs.Places.{conditions_from, marks_from, final_by, finals_from, finals_of}

not-append : (r : ℕ) (xs ys : List Entry) → NotMade r xs → NotMade r ys → NotMade r (xs ++ ys)
not-append r [] ys h g = g
not-append r (x ∷ xs) ys h g = (h.0, not-append r xs ys h.1 g)

rows-then : (xs : List Entry) (e : Entry) → AreRows xs → NotMade e.row xs → AreRows (xs ++ e ∷ [])
rows-then [] e h off = (tt, tt)
rows-then (x ∷ xs) e h off = (not-append x.row xs (e ∷ []) h.0 ((λ z. off.0 (sym z)), tt), rows-then xs e h.1 off.1)

-- no row of the first is one of the second
abbrev EachOff : List Entry → List Entry → Type 0
EachOff [] ys = Unit {0}
EachOff (x ∷ xs) ys = NotMade x.row ys × EachOff xs ys

rows-append : (xs ys : List Entry) → AreRows xs → AreRows ys → EachOff xs ys → AreRows (xs ++ ys)
rows-append [] ys h g off = g
rows-append (x ∷ xs) ys h g off = (not-append x.row xs ys h.0 off.0, rows-append xs ys h.1 g off.1)

-- stored conditions
not-before : (stored c r : ℕ) → r < stored → NotMade r (conditions_entries stored c)
not-before stored zero r lt = tt
not-before stored (suc c) r lt = not-append r (conditions_entries stored c) (at_zero (stored + c) ∷ []) (not-before stored c r lt) ((λ z. omega (arith, z, lt)), tt)

not-after : (stored c r : ℕ) → stored + c ≤ r → NotMade r (conditions_entries stored c)
not-after stored zero r le = tt
not-after stored (suc c) r le =
    not-append r (conditions_entries stored c) (at_zero (stored + c) ∷ []) (not-after stored c r (omega (arith, le))) ((λ z. omega (arith, z, le)), tt)

condition-rows : (stored c : ℕ) → AreRows (conditions_entries stored c)
condition-rows stored zero = tt
condition-rows stored (suc c) = rows-then (conditions_entries stored c) (at_zero (stored + c)) (condition-rows stored c) (not-after stored c (stored + c) (omega arith))

module _ (n : ℕ) (scalars : List ℕ) (conditions : ℕ) (kinds : ℕ → Kind) where
  abbrev entries : ℕ → List ℕ → List Entry
  entries j ks = finals_entries (finals_from n scalars conditions kinds j ks)

  abbrev marks : ℕ
  marks = marks_from n scalars conditions

  -- a row that is none of copies and none of marks of the scalars from a place on
  abbrev IsOff : ℕ → ℕ → Type 0
  IsOff j r = (i : ℕ) → j ≤ i → i < length scalars → (n + i ≡ r → ⊥) × (marks + i ≡ r → ⊥)

  off-later : (j r : ℕ) → IsOff j r → IsOff (suc j) r
  off-later j r off i le lt = off i (omega (arith, le)) lt

  not-final : (j k r : ℕ) (kind : Kind) (rest : List Entry) → (n + j ≡ r → ⊥) × (marks + j ≡ r → ⊥) → NotMade r rest
      → NotMade r (final_entries (final_by n scalars conditions kind j k) ++ rest)
  not-final j k r Shared rest off h = (off.0, (off.1, h))
  not-final j k r New rest off h = (off.0, (off.1, h))
  not-final j k r Assigned rest off h = (off.0, (off.1, h))
  not-final j k r (Reduced op) rest off h = (off.0, h)

  not-finals : (ks : List ℕ) (j r : ℕ) → j + length ks ≤ length scalars → IsOff j r → NotMade r (entries j ks)
  not-finals [] j r le off = tt
  not-finals (k ∷ ks) j r le off =
      not-final j k r (kinds k) (entries (suc j) ks) (off j (omega arith) (omega (arith, le))) (not-finals ks (suc j) r (omega (arith, le)) (off-later j r off))

  final-rows : (j k : ℕ) (kind : Kind) (rest : List Entry) → j < length scalars → NotMade (n + j) rest → NotMade (marks + j) rest → AreRows rest
      → AreRows (final_entries (final_by n scalars conditions kind j k) ++ rest)
  final-rows j k Shared rest lt h g rows = (((λ z. omega (arith, z, lt)), h), (g, rows))
  final-rows j k New rest lt h g rows = (((λ z. omega (arith, z, lt)), h), (g, rows))
  final-rows j k Assigned rest lt h g rows = (((λ z. omega (arith, z, lt)), h), (g, rows))
  final-rows j k (Reduced op) rest lt h g rows = (h, rows)

  finals-rows : (ks : List ℕ) (j : ℕ) → j + length ks ≤ length scalars → AreRows (entries j ks)
  finals-rows [] j le = tt
  finals-rows (k ∷ ks) j le =
      final-rows j k (kinds k) (entries (suc j) ks) (omega (arith, le))
      (not-finals ks (suc j) (n + j) (omega (arith, le)) (λ i lt below. ((λ z. omega (arith, z, lt)), (λ z. omega (arith, z, lt, le)))))
      (not-finals ks (suc j) (marks + j) (omega (arith, le)) (λ i lt below. ((λ z. omega (arith, z, lt, below)), (λ z. omega (arith, z, lt)))))
      (finals-rows ks (suc j) (omega (arith, le)))

  -- ---- all of them

  abbrev conds : List Entry
  conds = conditions_entries (conditions_from n scalars conditions) conditions

  copies-off : (j : ℕ) → j < length scalars → NotMade (n + j) conds
  copies-off j lt = not-before (conditions_from n scalars conditions) conditions (n + j) (omega (arith, lt))

  marks-off : (j : ℕ) → NotMade (marks + j) conds
  marks-off j = not-after (conditions_from n scalars conditions) conditions (marks + j) (omega arith)

  kind-off : (j k : ℕ) (kind : Kind) (rest : List Entry) → j < length scalars → EachOff rest conds → EachOff (final_entries (final_by n scalars conditions kind j k) ++ rest) conds
  kind-off j k Shared rest lt h = (copies-off j lt, (marks-off j, h))
  kind-off j k New rest lt h = (copies-off j lt, (marks-off j, h))
  kind-off j k Assigned rest lt h = (copies-off j lt, (marks-off j, h))
  kind-off j k (Reduced op) rest lt h = (copies-off j lt, h)

  each-off : (ks : List ℕ) (j : ℕ) → j + length ks ≤ length scalars → EachOff (entries j ks) conds
  each-off [] j le = tt
  each-off (k ∷ ks) j le = kind-off j k (kinds k) (entries (suc j) ks) (omega (arith, le)) (each-off ks (suc j) (omega (arith, le)))

  pub made-rows : AreRows (nest_entries (finals_of n scalars conditions kinds) (conditions_from n scalars conditions) conditions)
  made-rows =
      rows-append (entries 0 scalars) conds (finals-rows scalars 0 (omega arith)) (condition-rows (conditions_from n scalars conditions) conditions) (each-off scalars 0 (omega arith))

  pub names-unmade : (a : ℕ) → a < n → NotMade a (nest_entries (finals_of n scalars conditions kinds) (conditions_from n scalars conditions) conditions)
  names-unmade a lt =
      not-append a (entries 0 scalars) conds (not-finals scalars 0 a (omega arith) (λ i le below. ((λ z. omega (arith, z, lt)), (λ z. omega (arith, z, lt)))))
      (not-before (conditions_from n scalars conditions) conditions a (omega (arith, lt)))
