-- Of the claim.
-- The steps of nodes that pass letters: functions of the node, and of the letter that it takes.
use Rattle.std.specs.Prelude.{◌≡◌, ℕ, ◌==◌, Bool, List, [], ◌∷◌, Option, Some, None, if◌then◌else◌}
use Rattle.node_law.specs.declared.act.Act.{Act}
use Rattle.node_law.specs.declared.act.Act.TheVariants.{Local, Send, Take, Done}

-- the step functions of nodes N over letters M: what a node does next, its phase number, the node after a local
-- step, the letter that it sends, the node after a send and after a take, and whether it awaits a letter
pub record NodeSteps (N M : Type 0) : Type 0 where
  pub act : N → Act
  pub phase : N → ℕ
  pub after_local : N → N
  pub letter : N → M
  pub after_send : N → N
  pub after_take : M → N → N
  pub awaits : N → M → Bool

-- one move of a node: a local step, a send of a letter to a target, or a take of a letter from a source
pub data Move (M : Type 0) : Type 0 where
  Worked : Move M
  Sent : (target : ℕ) → (mail : M) → Move M
  Taken : (source : ℕ) → (mail : M) → Move M

module _ {N M : Type 0} (S : NodeSteps N M) where
  -- the node after a move
  abbrev pub node_after : N → Move M → N
  node_after a Worked = S.after_local a
  node_after a (Sent q m) = S.after_send a
  node_after a (Taken p m) = S.after_take m a

  -- the move is the one that the node's act names, and a letter sent is the node's
  abbrev pub IsMoveOf : N → Move M → Type 0
  IsMoveOf a Worked = S.act a ≡ Local
  IsMoveOf a (Sent q m) = (S.act a ≡ Send (record { 0 = q })) × (m ≡ S.letter a)
  IsMoveOf a (Taken p m) = S.act a ≡ Take (record { 0 = p })

  -- the node after these moves, one after another
  abbrev pub after_all : N → List (Move M) → N
  after_all a [] = a
  after_all a (x ∷ xs) = after_all (node_after a x) xs

  -- each of these moves is the one that the node's act names then
  abbrev pub AreMovesOf : N → List (Move M) → Type 0
  AreMovesOf a [] = Unit {0}
  AreMovesOf a (x ∷ xs) = IsMoveOf a x × AreMovesOf (node_after a x) xs

  -- the same at a number, where there may be no node: then there are no moves
  abbrev pub AreMovesAt : Option N → List (Move M) → Type 0
  AreMovesAt None xs = xs ≡ []
  AreMovesAt (Some a) xs = AreMovesOf a xs

  abbrev pub after_at : Option N → List (Move M) → Option N
  after_at None xs = None
  after_at (Some a) xs = Some (after_all a xs)

  abbrev pub IsDoneAt : Option N → Type 0
  IsDoneAt None = Unit {0}
  IsDoneAt (Some a) = S.act a ≡ Done

-- the letters that moves send to a target, in order
abbrev pub sent : {M : Type 0} → ℕ → List (Move M) → List M
sent q [] = []
sent q (Worked ∷ xs) = sent q xs
sent q (Sent t m ∷ xs) = if t == q then m ∷ sent q xs else sent q xs
sent q (Taken t m ∷ xs) = sent q xs

-- the letters that moves take from a source, in order
abbrev pub taken : {M : Type 0} → ℕ → List (Move M) → List M
taken p [] = []
taken p (Worked ∷ xs) = taken p xs
taken p (Sent t m ∷ xs) = taken p xs
taken p (Taken t m ∷ xs) = if t == p then m ∷ taken p xs else taken p xs

-- the first list is a prefix of the second
abbrev pub IsPrefix : {A : Type 0} → List A → List A → Type 0
IsPrefix [] ys = Unit {0}
IsPrefix (x ∷ xs) [] = ⊥
IsPrefix (x ∷ xs) (y ∷ ys) = (x ≡ y) × IsPrefix xs ys
