-- Of a promise.
-- Colours of small lists of edges between four nodes.
use Rattle.std.specs.Prelude.{◌≡◌, [], ◌∷◌}
use Rattle.round_color.specs.Coloring.{coloring, degree, busiest_node}

pub record AreRows : Type 0 where
  -- no two edges share an end: one colour
  pub one : coloring 4 ((0, 1) ∷ (1, 3) ∷ (3, 2) ∷ []) ≡ 0 ∷ 0 ∷ 0 ∷ []
  pub one_degree : degree 4 ((0, 1) ∷ (1, 3) ∷ (3, 2) ∷ []) ≡ 1
  pub one_busiest : busiest_node 4 ((0, 1) ∷ (1, 3) ∷ (3, 2) ∷ []) ≡ 0
  -- an array of eight elements goes from BLOCK to CYCLIC: two colours
  pub two : coloring 4 ((0, 1) ∷ (1, 2) ∷ (1, 3) ∷ (2, 0) ∷ (2, 1) ∷ (3, 2) ∷ []) ≡ 0 ∷ 0 ∷ 1 ∷ 0 ∷ 1 ∷ 1 ∷ []
  pub two_degree : degree 4 ((0, 1) ∷ (1, 2) ∷ (1, 3) ∷ (2, 0) ∷ (2, 1) ∷ (3, 2) ∷ []) ≡ 2
  pub two_busiest : busiest_node 4 ((0, 1) ∷ (1, 2) ∷ (1, 3) ∷ (2, 0) ∷ (2, 1) ∷ (3, 2) ∷ []) ≡ 1
  -- no edge: no colour
  pub none : coloring 4 [] ≡ []
  pub none_degree : degree 4 [] ≡ 0
  -- no colour is free at both ends of the last edge: a path of two edges has its colours exchanged
  pub exchanged : coloring 4 ((1, 0) ∷ (2, 1) ∷ (1, 3) ∷ (2, 3) ∷ []) ≡ 1 ∷ 0 ∷ 0 ∷ 1 ∷ []
  -- three exchanges, of up to five edges
  pub thrice : coloring 4 ((1, 2) ∷ (2, 3) ∷ (0, 2) ∷ (2, 1) ∷ (1, 0) ∷ (3, 1) ∷ (2, 0) ∷ (0, 3) ∷ (3, 0) ∷ (0, 1) ∷ (1, 3) ∷ [])
      ≡ 1 ∷ 0 ∷ 0 ∷ 1 ∷ 0 ∷ 0 ∷ 2 ∷ 1 ∷ 1 ∷ 2 ∷ 2 ∷ []
