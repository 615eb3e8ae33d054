-- Of private clauses.
-- One row of ends at a time, and rows transposed. Only private contracts cite this file.
use Rattle.std.specs.Prelude.{◌≡◌, ℕ, List, [], ◌∷◌, ◌++◌, length, map, Some}
use Rattle.std.specs.List.{slice_get}
use Rattle.pair_mailbox.specs.Ends.{Outgoing, Incoming, Exchanged}
use Rattle.all_pairs.specs.Routes.{route}
use Rattle.all_pairs.specs.Rows.{out_queue, in_queue, joined, IsPassed}

-- the queues from a node to each of so many, just opened
pub record IsOpenRow (from count : ℕ) (outs : List Outgoing) (ins : List Incoming) : Type 0 where
  pub many : length outs ≡ count
  pub one_queue : map out_queue outs ≡ map in_queue ins
  pub outs_fresh : (q : ℕ) (o : Outgoing) → slice_get outs q ≡ Some o → (o.route ≡ route from q) × (o.sent ≡ [])
  pub ins_fresh : (q : ℕ) (i : Incoming) → slice_get ins q ≡ Some i → (i.route ≡ route from q) × (i.taken ≡ [])

-- each element of a list appended to the row of its place
abbrev pub each_appended : {A : Type 0} → List (List A) → List A → List (List A)
each_appended [] xs = []
each_appended (row ∷ rows) [] = row ∷ rows
each_appended (row ∷ rows) (x ∷ xs) = (row ++ x ∷ []) ∷ each_appended rows xs

-- the rows as columns, after what the columns have
abbrev pub transposed : {A : Type 0} → List (List A) → List (List A) → List (List A)
transposed columns [] = columns
transposed columns (row ∷ rows) = transposed (each_appended columns row) rows

-- what each two elements at one place give, one after the other
abbrev pub joined_by : {A B D : Type 0} → (A → B → List D) → List A → List B → List D
joined_by join [] ys = []
joined_by join (x ∷ xs) [] = []
joined_by join (x ∷ xs) (y ∷ ys) = join x y ++ joined_by join xs ys

-- so two lists are joined after what was there, and each two elements at one place are tied
pub record AreTied {A B D : Type 0} (join : A → B → List D) (Tied : A → B → Type 0) (before : List D) (xs : List A) (ys : List B) (all : List D) : Type 0 where
  pub appended : all ≡ before ++ joined_by join xs ys
  pub tied : (k : ℕ) (x : A) (y : B) → slice_get xs k ≡ Some x → slice_get ys k ≡ Some y → Tied x y

-- the closed queue of two ends, and of two rows of ends
abbrev pub one_joined : Outgoing → Incoming → List Exchanged
one_joined o i = joined o i ∷ []

abbrev pub row_joined : List Outgoing → List Incoming → List Exchanged
row_joined outs ins = joined_by one_joined outs ins

abbrev pub IsRowPassed : List Outgoing → List Incoming → Type 0
IsRowPassed outs ins = (k : ℕ) (o : Outgoing) (i : Incoming) → slice_get outs k ≡ Some o → slice_get ins k ≡ Some i → IsPassed o i

-- the queues of a row, and of rows, closed after those that were
abbrev pub IsClosedRow : List Exchanged → List Outgoing → List Incoming → List Exchanged → Type 0
IsClosedRow before outs ins closed = AreTied one_joined IsPassed before outs ins closed

abbrev pub AreClosedRows : List Exchanged → List (List Outgoing) → List (List Incoming) → List Exchanged → Type 0
AreClosedRows before outs ins closed = AreTied row_joined IsRowPassed before outs ins closed
