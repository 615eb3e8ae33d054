-- Between the ends of a strip the places go by equal steps.
use Rattle.std.proofs.Common.{◌≡◌, ℕ, ◌+◌, ◌-◌, ◌*◌, ◌<◌, ◌≤◌, List, [], ◌∷◌, map, Option, Some, None, refl, ap, sym, subst, ◌∙◌, arith}
use Rattle.std.specs.Prelude.{option_map}
use Rattle.hpf_base.specs.ElementOrder.{product}
use Rattle.courses.specs.References.{Named, named_spot}
use Rattle.course_forms.specs.Views.{named_of}
use Rattle.course_forms.specs.declared.reference.Reference.{Reference}
use Rattle.course_lines.proofs.NamedLines.{named_line}
use Rattle.tuple_values.specs.declared.strips.ElementLine.{ElementLine}
use Rattle.tuple_values.specs.declared.strips.Strip.{Strip}
use Rattle.tuple_values.specs.NamedElements.{AreInOrder, AreReferences, spot_if}
use Rattle.tuple_values.specs.Statements.{Statement, tuple_left, tuple_reads}
use Rattle.tuple_values.specs.StripEnds.{AreLines, IsLine}
use Rattle.tuple_values.specs.Strips.{AreReadLines, IsInRow, IsLeftLine, IsWithin, line_spot, spots_at, strip_tuple}

first-is : {A : Type 0} (x y : A) (xs ys : List A) → (let l : List A = x ∷ xs in l) ≡ y ∷ ys → x ≡ y
first-is x y xs ys e = cc

rest-is : {A : Type 0} (x y : A) (xs ys : List A) → (let l : List A = x ∷ xs in l) ≡ y ∷ ys → xs ≡ ys
rest-is x y xs ys e = cc

module _ (n : ℕ) (ns : List ℕ) (s : Strip) (row : IsInRow (n ∷ ns) s) where
  one-line : (r : Named) (l : ElementLine) → named_spot (n ∷ ns) (strip_tuple s 0) r ≡ Some (line_spot l 0) → named_spot (n ∷ ns) (strip_tuple s 1) r ≡ Some (line_spot l 1)
      → named_spot (n ∷ ns) (strip_tuple s (s.count - 1)) r ≡ Some (line_spot l (s.count - 1)) → (k : ℕ) → k < s.count → named_spot (n ∷ ns) (strip_tuple s k) r ≡ Some (line_spot l k)
  one-line r l first second last k lt =
      let a : ℕ = l.first.at + 0 * l.step in
      let b : ℕ = l.first.at + 1 * l.step in
      let zero : s.first ≡ strip_tuple s 0 = omega arith in
      let one : s.first + s.step ≡ strip_tuple s 1 = omega arith in
      let up : l.first.at + 0 * l.step ≤ l.first.at + 1 * l.step = omega arith in
      let step : (l.first.at + 1 * l.step) - (l.first.at + 0 * l.step) ≡ l.step = omega arith in
      let none : l.first.at + 0 * l.step ≡ l.first.at = omega arith in
      named_line n ns r l.first.row s.first s.step s.count (l.first.at + 0 * l.step) (l.first.at + 1 * l.step) (l.first.at + (s.count - 1) * l.step) row.1 row.0
      (ap (λ t. named_spot (n ∷ ns) t r) zero ∙ first) (ap (λ t. named_spot (n ∷ ns) t r) one ∙ second) last up k lt
      ∙ (λ i. Some (record { row = l.first.row; at = none i + k * step i }))

  all-lines : (rs : List Named) (ls : List ElementLine) → map (named_spot (n ∷ ns) (strip_tuple s 0)) rs ≡ spots_at ls 0 → map (named_spot (n ∷ ns) (strip_tuple s 1)) rs ≡ spots_at ls 1
      → map (named_spot (n ∷ ns) (strip_tuple s (s.count - 1))) rs ≡ spots_at ls (s.count - 1) → (k : ℕ) → k < s.count → map (named_spot (n ∷ ns) (strip_tuple s k)) rs ≡ spots_at ls k
  all-lines [] [] first second last k lt = refl
  all-lines [] (l ∷ ls) first second last k lt = absurd cc
  all-lines (r ∷ rs) [] first second last k lt = absurd cc
  all-lines (r ∷ rs) (l ∷ ls) first second last k lt =
      (λ i. one-line r l (first-is _ _ _ _ first) (first-is _ _ _ _ second) (first-is _ _ _ _ last) k lt i
      ∷ all-lines rs ls (rest-is _ _ _ _ first) (rest-is _ _ _ _ second) (rest-is _ _ _ _ last) k lt i)

module _ (w : Statement) (s : Strip) (within : IsWithin w s) where
  pub read_lines : (ns : List ℕ) (l : Option Named) (rs : List Named) (ls : List ElementLine) → AreReferences w ns l rs → AreInOrder w ns rs → IsInRow ns s
      → AreLines (tuple_reads w) s ls → AreReadLines w s ls
  read_lines [] l rs ls refs order row lines k lt = absurd row
  read_lines (n ∷ ns) l rs ls refs order row lines k lt =
      let below : (j : ℕ) → j < s.count → strip_tuple s j < product (n ∷ ns) = λ j lt. subst (λ m. strip_tuple s j < m) (sym refs.count) (within j lt) in
      let two : 1 < s.count = row.0 in
      let some : 0 < s.count = omega (arith, two) in
      let end : s.count - 1 < s.count = omega (arith, two) in
      order (strip_tuple s k) (below k lt)
      ∙ all-lines n ns s row rs ls
      (sym (order (strip_tuple s 0) (below 0 some)) ∙ lines.first)
      (sym (order (strip_tuple s 1) (below 1 two)) ∙ lines.second)
      (sym (order (strip_tuple s (s.count - 1)) (below (s.count - 1) end)) ∙ lines.last) k lt

  pub left_line : (ns : List ℕ) (r : Option Reference) (q : Reference) (rs : List Named) (l : ElementLine) → r ≡ Some q → AreReferences w ns (option_map named_of r) rs → IsInRow ns s
      → IsLine (tuple_left w) s l → IsLeftLine w s (Some l)
  left_line [] r q rs l is refs row line k lt = absurd row
  left_line (n ∷ ns) r q rs l is refs row line k lt =
      let two : 1 < s.count = row.0 in
      let named : AreReferences w (n ∷ ns) (Some (named_of q)) rs = subst (λ r. AreReferences w (n ∷ ns) (option_map named_of r) rs) is refs in
      let below : (j : ℕ) → j < s.count → strip_tuple s j < product (n ∷ ns) = λ j lt. subst (λ m. strip_tuple s j < m) (sym refs.count) (within j lt) in
      let some : 0 < s.count = omega (arith, two) in
      let end : s.count - 1 < s.count = omega (arith, two) in
      named.left (strip_tuple s k) (below k lt)
      ∙ one-line n ns s row (named_of q) l
      (sym (named.left (strip_tuple s 0) (below 0 some)) ∙ line.first)
      (sym (named.left (strip_tuple s 1) (below 1 two)) ∙ line.second)
      (sym (named.left (strip_tuple s (s.count - 1)) (below (s.count - 1) end)) ∙ line.last) k lt

  -- where nothing is assigned
  pub left_nowhere : (ns : List ℕ) (r : Option Reference) (rs : List Named) → r ≡ None → AreReferences w ns (option_map named_of r) rs → IsLeftLine w s None
  left_nowhere ns r rs is refs k lt =
      refs.left (strip_tuple s k) (subst (λ m. strip_tuple s k < m) (sym refs.count) (within k lt))
      ∙ ap (λ r. spot_if ns (strip_tuple s k) (option_map named_of r)) is
