-- A node's moves are a function of the letters that it takes.
use Rattle.std.proofs.Common.{◌≡◌, ℕ, ◌==◌, Bool, true, false, List, [], ◌∷◌, ◌++◌, Option, Some, None, if◌then◌else◌, refl, sym, ◌∙◌, ap, eq-eqb}
use Rattle.node_law.specs.declared.act.Act.TheVariants.{Done}
use Rattle.hpf_base.specs.declared.node.NodeId.{NodeId}
use Rattle.node_law.specs.NodeSteps.{IsMoveOf, NodeSteps, Move, Worked, Sent, Taken, node_after, after_all, AreMovesOf, AreMovesAt, after_at, IsDoneAt, sent, taken, IsPrefix}

-- one of the lists is a prefix of the other
abbrev pub AreComparable : {A : Type 0} → List A → List A → Type 0
AreComparable [] ys = Unit {0}
AreComparable (x ∷ xs) [] = Unit {0}
AreComparable (x ∷ xs) (y ∷ ys) = (x ≡ y) × AreComparable xs ys

pub comparable-swap : {A : Type 0} (xs ys : List A) → AreComparable xs ys → AreComparable ys xs
comparable-swap [] [] h = tt
comparable-swap [] (y ∷ ys) h = tt
comparable-swap (x ∷ xs) [] h = tt
comparable-swap (x ∷ xs) (y ∷ ys) h = (sym h.0, comparable-swap xs ys h.1)

-- a prefix of a list is comparable with what the list is comparable with
pub prefix-comparable : {A : Type 0} (xs ys zs : List A) → IsPrefix xs ys → AreComparable ys zs → AreComparable xs zs
prefix-comparable [] ys zs b h = tt
prefix-comparable (x ∷ xs) [] zs b h = absurd b
prefix-comparable (x ∷ xs) (y ∷ ys) [] b h = tt
prefix-comparable (x ∷ xs) (y ∷ ys) (z ∷ zs) b h = (b.0 ∙ h.0, prefix-comparable xs ys zs b.1 h.1)

pub prefix-refl : {A : Type 0} (xs : List A) → IsPrefix xs xs
prefix-refl [] = tt
prefix-refl (x ∷ xs) = (refl, prefix-refl xs)

-- a node's number
pub number-eq : (q r : ℕ) → (let a : NodeId = record { 0 = q } in let b : NodeId = record { 0 = r } in a ≡ b) → q ≡ r
number-eq q r e = ap (λ (n : NodeId). n.0) e

pub comparable-front : {A : Type 0} (b : Bool) (x y : A) (xs ys : List A) → b ≡ true → AreComparable (if b then x ∷ xs else xs) (if b then y ∷ ys else ys) → x ≡ y
comparable-front true x y xs ys e h = h.0
comparable-front false x y xs ys e h = cc

pub comparable-rest : {A : Type 0} (b : Bool) (x y : A) (xs ys : List A) → AreComparable (if b then x ∷ xs else xs) (if b then y ∷ ys else ys) → AreComparable xs ys
comparable-rest true x y xs ys h = h.1
comparable-rest false x y xs ys h = h

pub if-append : {A : Type 0} (b : Bool) (x : A) (xs ys : List A) → (if b then x ∷ (xs ++ ys) else (xs ++ ys)) ≡ (if b then x ∷ xs else xs) ++ ys
if-append true x xs ys = refl
if-append false x xs ys = refl

pub comparable-if : {A : Type 0} (b : Bool) (x y : A) (xs ys : List A) → x ≡ y → AreComparable xs ys → AreComparable (if b then x ∷ xs else xs) (if b then y ∷ ys else ys)
comparable-if true x y xs ys e h = (e, h)
comparable-if false x y xs ys e h = h

module _ {M : Type 0} where
  pub sent-append : (q : ℕ) (xs ys : List (Move M)) → sent q (xs ++ ys) ≡ sent q xs ++ sent q ys
  sent-append q [] ys = refl
  sent-append q (Worked ∷ xs) ys = sent-append q xs ys
  sent-append q (Sent t m ∷ xs) ys = rw (sent-append q xs ys) (if-append (t == q) m (sent q xs) (sent q ys))
  sent-append q (Taken t m ∷ xs) ys = sent-append q xs ys

  pub taken-append : (q : ℕ) (xs ys : List (Move M)) → taken q (xs ++ ys) ≡ taken q xs ++ taken q ys
  taken-append q [] ys = refl
  taken-append q (Worked ∷ xs) ys = taken-append q xs ys
  taken-append q (Sent t m ∷ xs) ys = taken-append q xs ys
  taken-append q (Taken t m ∷ xs) ys = rw (taken-append q xs ys) (if-append (t == q) m (taken q xs) (taken q ys))

  pub sent-comparable : (q : ℕ) (xs ys : List (Move M)) → AreComparable xs ys → AreComparable (sent q xs) (sent q ys)
  sent-comparable q [] ys h = tt
  sent-comparable q (x ∷ xs) [] h = comparable-swap [] (sent q (x ∷ xs)) tt
  sent-comparable q (Worked ∷ xs) (Worked ∷ ys) h = sent-comparable q xs ys h.1
  sent-comparable q (Worked ∷ xs) (Sent s n ∷ ys) h = cc
  sent-comparable q (Worked ∷ xs) (Taken s n ∷ ys) h = cc
  sent-comparable q (Sent t m ∷ xs) (Worked ∷ ys) h = cc
  sent-comparable q (Sent t m ∷ xs) (Sent s n ∷ ys) h =
      let e : s ≡ t = cc in
      rw e (comparable-if (t == q) m n (sent q xs) (sent q ys) (cc) (sent-comparable q xs ys h.1))
  sent-comparable q (Sent t m ∷ xs) (Taken s n ∷ ys) h = cc
  sent-comparable q (Taken t m ∷ xs) (Worked ∷ ys) h = cc
  sent-comparable q (Taken t m ∷ xs) (Sent s n ∷ ys) h = cc
  sent-comparable q (Taken t m ∷ xs) (Taken s n ∷ ys) h = sent-comparable q xs ys h.1

  pub taken-comparable : (q : ℕ) (xs ys : List (Move M)) → AreComparable xs ys → AreComparable (taken q xs) (taken q ys)
  taken-comparable q [] ys h = tt
  taken-comparable q (x ∷ xs) [] h = comparable-swap [] (taken q (x ∷ xs)) tt
  taken-comparable q (Worked ∷ xs) (Worked ∷ ys) h = taken-comparable q xs ys h.1
  taken-comparable q (Worked ∷ xs) (Sent s n ∷ ys) h = cc
  taken-comparable q (Worked ∷ xs) (Taken s n ∷ ys) h = cc
  taken-comparable q (Sent t m ∷ xs) (Worked ∷ ys) h = cc
  taken-comparable q (Sent t m ∷ xs) (Taken s n ∷ ys) h = cc
  taken-comparable q (Sent t m ∷ xs) (Sent s n ∷ ys) h = taken-comparable q xs ys h.1
  taken-comparable q (Taken t m ∷ xs) (Worked ∷ ys) h = cc
  taken-comparable q (Taken t m ∷ xs) (Sent s n ∷ ys) h = cc
  taken-comparable q (Taken t m ∷ xs) (Taken s n ∷ ys) h =
      let e : s ≡ t = cc in
      rw e (comparable-if (t == q) m n (taken q xs) (taken q ys) (cc) (taken-comparable q xs ys h.1))

module _ {N M : Type 0} (S : NodeSteps N M) where
  -- two lists of moves of one node are comparable where, for each source, the letters taken are
  pub moves-comparable : (a : N) (xs ys : List (Move M)) → AreMovesOf S a xs → AreMovesOf S a ys → ((p : ℕ) → AreComparable (taken p xs) (taken p ys)) → AreComparable xs ys
  moves-comparable a [] ys hx hy h = tt
  moves-comparable a (x ∷ xs) [] hx hy h = tt
  moves-comparable a (Worked ∷ xs) (Worked ∷ ys) hx hy h = (refl, moves-comparable (S.after_local a) xs ys hx.1 hy.1 h)
  moves-comparable a (Worked ∷ xs) (Sent q m ∷ ys) hx hy h = cc
  moves-comparable a (Worked ∷ xs) (Taken q m ∷ ys) hx hy h = cc
  moves-comparable a (Sent q m ∷ xs) (Worked ∷ ys) hx hy h = cc
  moves-comparable a (Sent q m ∷ xs) (Sent r n ∷ ys) hx hy h =
      let e : q ≡ r = number-eq q r cc in
      (cc, moves-comparable (S.after_send a) xs ys hx.1 hy.1 h)
  moves-comparable a (Sent q m ∷ xs) (Taken r n ∷ ys) hx hy h = cc
  moves-comparable a (Taken q m ∷ xs) (Worked ∷ ys) hx hy h = cc
  moves-comparable a (Taken q m ∷ xs) (Sent r n ∷ ys) hx hy h = cc
  moves-comparable a (Taken q m ∷ xs) (Taken r n ∷ ys) hx hy h =
      let e : r ≡ q = number-eq r q cc in
      let k : (p : ℕ) → AreComparable (if q == p then m ∷ taken p xs else taken p xs) (if q == p then n ∷ taken p ys else taken p ys) = λ p. rw e at (h p) in
      let f : m ≡ n = comparable-front (q == q) m n (taken q xs) (taken q ys) (eq-eqb q q refl) (k q) in
      let hy1 : AreMovesOf S (S.after_take m a) ys = rw (← f) at hy.1 in
      (cc, moves-comparable (S.after_take m a) xs ys hx.1 hy1 (λ p. comparable-rest (q == p) m n (taken p xs) (taken p ys) (k p)))

  pub moves-comparable_at : (o : Option N) (xs ys : List (Move M)) → AreMovesAt S o xs → AreMovesAt S o ys
      → ((p : ℕ) → AreComparable (taken p xs) (taken p ys)) → AreComparable xs ys
  moves-comparable_at None xs ys hx hy h = rw hx tt
  moves-comparable_at (Some a) xs ys hx hy h = moves-comparable a xs ys hx hy h

  pub moves-append : (a : N) (xs ys : List (Move M)) → AreMovesOf S a xs → AreMovesOf S (after_all S a xs) ys → AreMovesOf S a (xs ++ ys)
  moves-append a [] ys hx hy = hy
  moves-append a (x ∷ xs) ys hx hy = (hx.0, moves-append (node_after S a x) xs ys hx.1 hy)

  pub moves-front : (a : N) (xs ys : List (Move M)) → AreMovesOf S a (xs ++ ys) → AreMovesOf S a xs
  moves-front a [] ys h = tt
  moves-front a (x ∷ xs) ys h = (h.0, moves-front (node_after S a x) xs ys h.1)

  pub moves-back : (a : N) (xs ys : List (Move M)) → AreMovesOf S a (xs ++ ys) → AreMovesOf S (after_all S a xs) ys
  moves-back a [] ys h = h
  moves-back a (x ∷ xs) ys h = moves-back (node_after S a x) xs ys h.1

  pub after_all-append : (a : N) (xs ys : List (Move M)) → after_all S a (xs ++ ys) ≡ after_all S (after_all S a xs) ys
  after_all-append a [] ys = refl
  after_all-append a (x ∷ xs) ys = after_all-append (node_after S a x) xs ys

  -- moves that are comparable with moves to a node that is Done are a prefix of them
  pub done-prefix : (a : N) (xs ys : List (Move M)) → AreMovesOf S a xs → S.act (after_all S a ys) ≡ Done → AreComparable xs ys → IsPrefix xs ys
  done-prefix a [] ys hx d h = tt
  done-prefix a (Worked ∷ xs) [] hx d h = cc
  done-prefix a (Sent q m ∷ xs) [] hx d h = cc
  done-prefix a (Taken p m ∷ xs) [] hx d h = cc
  done-prefix a (x ∷ xs) (y ∷ ys) hx d h = (h.0, done-prefix (node_after S a x) xs ys hx.1 (rw h.0 d) h.1)

  -- the same of the node at a number
  pub append_at : (o : Option N) (xs ys : List (Move M)) → AreMovesAt S o xs → AreMovesAt S (after_at S o xs) ys → AreMovesAt S o (xs ++ ys)
  append_at None xs ys hx hy = rw (hx, hy) refl
  append_at (Some a) xs ys hx hy = moves-append a xs ys hx hy

  pub after_at-append : (o : Option N) (xs ys : List (Move M)) → after_at S o (xs ++ ys) ≡ after_at S (after_at S o xs) ys
  after_at-append None xs ys = refl
  after_at-append (Some a) xs ys = ap Some (after_all-append a xs ys)

  pub front_at : (o : Option N) (xs ys : List (Move M)) → AreMovesAt S o (xs ++ ys) → AreMovesAt S o xs
  front_at None [] ys h = refl
  front_at None (x ∷ xs) ys h = cc
  front_at (Some a) xs ys h = moves-front a xs ys h

  pub done-begins_at : (o : Option N) (xs ys : List (Move M)) → AreMovesAt S o xs → IsDoneAt S (after_at S o ys) → AreComparable xs ys → IsPrefix xs ys
  done-begins_at None xs ys hx d h = rw hx tt
  done-begins_at (Some a) xs ys hx d h = done-prefix a xs ys hx d h

  pub no-move-done : (a : N) (x : Move M) → IsMoveOf S a x → S.act a ≡ Done → ⊥
  no-move-done a Worked h d = cc
  no-move-done a (Sent q m) h d = cc
  no-move-done a (Taken q m) h d = cc

  -- moves that are a prefix of others and lead to a node that is Done are all of them
  done-whole : (a : N) (xs ys : List (Move M)) → AreMovesOf S a ys → S.act (after_all S a xs) ≡ Done → IsPrefix xs ys → xs ≡ ys
  done-whole a [] [] hy d b = refl
  done-whole a [] (y ∷ ys) hy d b = absurd (no-move-done a y hy.0 d)
  done-whole a (x ∷ xs) [] hy d b = absurd b
  done-whole a (x ∷ xs) (y ∷ ys) hy d b =
      let d2 : S.act (after_all S (node_after S a y) xs) ≡ Done = rw b.0 at d in
      let rest : xs ≡ ys = done-whole (node_after S a y) xs ys hy.1 d2 b.1 in
      cc

  pub done-whole_at : (o : Option N) (xs ys : List (Move M)) → AreMovesAt S o xs → AreMovesAt S o ys → IsDoneAt S (after_at S o xs) → IsPrefix xs ys → xs ≡ ys
  done-whole_at None xs ys hx hy d b = hx ∙ sym hy
  done-whole_at (Some a) xs ys hx hy d b = done-whole a xs ys hy d b
