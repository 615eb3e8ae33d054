-- All edges are coloured, with colours below the greatest number of edges from one node or to one node.
use Rattle.std.proofs.Common.{◌≡◌, ◌≢◌, ℕ, zero, suc, ◌+◌, ◌<◌, ◌≤◌, ◌⊎◌, inl, inr, List, [], ◌∷◌, length, max, refl, sym, subst, arith}
use Rattle.std.proofs.Math.Nat.{le-max_left, le-max_right}
use Rattle.std.proofs.lemmas.Bool.{cases_eq}
use Rattle.std.specs.List.{All, AllPairs}
use Rattle.round_color.specs.Proper.{IsEdge, IsColored}
use Rattle.round_color.specs.Coloring.{Colors, no_colors, color_edge, color_edges, sends, takes, load, greatest_of, degree, colored}
use Rattle.round_color.proofs.Members.{true-false, In, AreDistinct, contains-in, in-contains, all-in, pairs-distinct}
use Rattle.round_color.proofs.Steps.{IsDone, next-colored}

-- ---- the greatest number of edges

pub greatest-bound : (value : ℕ → ℕ) (lo len k : ℕ) → lo ≤ k → k < lo + len → value k ≤ greatest_of value lo len
greatest-bound value lo zero k from below = absurd (omega arith)
greatest-bound value lo (suc len) k from below = by_case (cases_eq lo k) (λ further. greatest-bound value (lo + 1) len k further (omega arith))
  where
    by_case : (lo ≡ k) ⊎ (lo ≡ k → ⊥) → (lo + 1 ≤ k → value k ≤ greatest_of value (lo + 1) len) → value k ≤ max (value lo) (greatest_of value (lo + 1) len)
    by_case (inl e) ih = subst (λ n. value n ≤ max (value lo) (greatest_of value (lo + 1) len)) e (le-max_left (value lo) (greatest_of value (lo + 1) len))
    by_case (inr ne) ih =
        let h = ih (omega (arith, ne)) in let m = le-max_right (value lo) (greatest_of value (lo + 1) len) in omega arith

pub degree-sends : (nodes : ℕ) (edges : List (ℕ × ℕ)) (x : ℕ) → x < nodes → sends edges x ≤ degree nodes edges
degree-sends nodes edges x below =
    let h = greatest-bound (load edges) 0 nodes x (omega arith) (omega arith) in
    let m = le-max_left (sends edges x) (takes edges x) in omega arith

pub degree-takes : (nodes : ℕ) (edges : List (ℕ × ℕ)) (x : ℕ) → x < nodes → takes edges x ≤ degree nodes edges
degree-takes nodes edges x below =
    let h = greatest-bound (load edges) 0 nodes x (omega arith) (omega arith) in
    let m = le-max_right (sends edges x) (takes edges x) in omega arith

-- ---- the edges one behind the other

module _ (nodes n d : ℕ) (full : List (ℕ × ℕ)) (between : (x y : ℕ) → In (x, y) full → IsEdge nodes (x, y))
    (sent : (x : ℕ) → x < nodes → sends full x ≤ d) (taken : (x : ℕ) → x < nodes → takes full x ≤ d) where
  pub all-colored : (done left : List (ℕ × ℕ)) (f : Colors) → IsDone nodes d done f → AreDistinct left
      → ((e : ℕ × ℕ) → In e left → In e done → ⊥) → ((e : ℕ × ℕ) → In e left → In e full) → ((e : ℕ × ℕ) → In e done → In e full)
      → ((e : ℕ × ℕ) → In e full → In e done ⊎ In e left) → length done + length left ≤ n
      → IsDone nodes d full (color_edges nodes n d f left)
  all-colored done [] f h distinct new left-part done-part whole size = record {
    proper = h.proper;
    below = h.below;
    within = h.within;
    listed = λ x y is. done-part (x, y) (h.listed x y is);
    all = λ x y is. h.all x y (is_done (x, y) (whole (x, y) is));
  }
    where
      is_done : (e : ℕ × ℕ) → In e done ⊎ In e [] → In e done
      is_done e (inl is) = is
      is_done e (inr is) = absurd is
  all-colored done (e ∷ left) f h distinct new left-part done-part whole size =
      let given = left-part e (inl refl) in
      let edge = between e.0 e.1 given in
      all-colored (e ∷ done) left (color_edge nodes n d f e)
      (next-colored nodes n d full done f e.0 e.1
      (record {
        so_far = h;
        from = edge.from;
        to = edge.to;
        new = new e (inl refl);
        given = given;
        part = done-part;
        short = omega arith;
        sent = sent e.0 edge.from;
        taken = taken e.1 edge.to;
      }))
      distinct.1 (λ o is. not_again o is) (λ o is. left-part o (inr is)) (λ o is. done_given o is) (λ o is. moved o (whole o is)) (omega arith)
    where
      not_again : (o : ℕ × ℕ) → In o left → (o ≡ e) ⊎ In o done → ⊥
      not_again o is (inl same) = distinct.0 (subst (λ x. In x left) same is)
      not_again o is (inr is') = new o (inr is) is'

      done_given : (o : ℕ × ℕ) → (o ≡ e) ⊎ In o done → In o full
      done_given o (inl same) = left-part o (inl same)
      done_given o (inr is) = done-part o is

      moved : (o : ℕ × ℕ) → In o done ⊎ ((o ≡ e) ⊎ In o left) → ((o ≡ e) ⊎ In o done) ⊎ In o left
      moved o (inl is) = inl (inr is)
      moved o (inr (inl same)) = inl (inl same)
      moved o (inr (inr is)) = inr is

-- at first none is
none-colored : (nodes d : ℕ) → IsDone nodes d [] no_colors
none-colored nodes d = record {
  proper = record { one_target = λ x y z c h k. absurd (true-false (sym h)); one_source = λ x y z c h k. absurd (true-false (sym h)) };
  below = λ x y c h. absurd (true-false (sym h));
  within = λ x y h. absurd (true-false (sym h));
  listed = λ x y h. absurd (true-false (sym h));
  all = λ x y h. absurd h;
}

pub all-done : (nodes : ℕ) (edges : List (ℕ × ℕ)) → All (IsEdge nodes) edges → AreDistinct edges
    → IsDone nodes (degree nodes edges) edges (colored nodes edges)
all-done nodes edges between distinct =
    all-colored nodes (length edges) (degree nodes edges) edges (λ x y. all-in (IsEdge nodes) (x, y) edges between) (degree-sends nodes edges)
    (degree-takes nodes edges) [] edges no_colors
    (none-colored nodes (degree nodes edges)) distinct (λ e is h. h) (λ e is. is) (λ e h. absurd h) (λ e is. inr is) (omega arith)

pub is-colored : (nodes : ℕ) (edges : List (ℕ × ℕ)) → All (IsEdge nodes) edges → AllPairs (λ one other. one ≢ other) edges
    → IsColored (degree nodes edges) edges (colored nodes edges)
is-colored nodes edges between distinct =
    let h = all-done nodes edges between (pairs-distinct edges distinct) in
    record {
      proper = h.proper;
      below = h.below;
      listed = λ x y is. in-contains (x, y) edges (h.listed x y is);
      all = λ x y is. h.all x y (contains-in (x, y) edges is);
    }
