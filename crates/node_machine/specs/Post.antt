-- Of private clauses.
-- No public clause cites this file. What of a phase is still to be sent and to be taken.
use Rattle.std.specs.Prelude.{ℕ, ℤ, List, [], ◌∷◌, slice_index_or, slice_set, Option, Some, None, Bool, true, false}
use Rattle.node_law.specs.Phases.{next_number}
use Rattle.letters.specs.Parcel.{Parcel}

-- the parcels and the sources that are left, the next one first, and by the other node's number the values taken and the numbers of the
-- next letters
pub record Post : Type 0 where
  pub outbox : List Parcel
  pub inbox : List ℕ
  pub received : List (List ℤ)
  pub next_to : List ℕ
  pub next_from : List ℕ

-- the post after a send, and after a take of these values
abbrev pub after_send : Parcel → List Parcel → Post → Post
after_send parcel rest p = record p { outbox = rest; next_to = slice_set p.next_to parcel.to (next_number (slice_index_or p.next_to parcel.to 0)) }

abbrev pub after_take : ℕ → List ℕ → List ℤ → Post → Post
after_take source rest body p = record p {
  inbox = rest;
  next_from = slice_set p.next_from source (next_number (slice_index_or p.next_from source 0));
  received = slice_set p.received source body;
}

-- where the next parcel goes, and where the next letter comes from
abbrev pub target_of : List Parcel → Option ℕ
target_of [] = None
target_of (parcel ∷ rest) = Some parcel.to

abbrev pub source_of : List ℕ → Option ℕ
source_of [] = None
source_of (source ∷ rest) = Some source

abbrev pub nothing_left : List Parcel → List ℕ → Bool
nothing_left [] [] = true
nothing_left [] (source ∷ rest) = false
nothing_left (parcel ∷ rest) inbox = false
