-- Nests as they are resolved, and as a plan keeps them.
use Rattle.std.proofs.Common.{◌≡◌, ℕ, suc, List, ◌∷◌, map, Option, Some, None, refl, sym, ap, ◌∙◌, subst}
use Rattle.std.specs.Prelude.{option_map}
use Rattle.name_table.specs.declared.names.Entry.{Entry}
use Rattle.syntax_tree.specs.declared.stmt.DoLoop.{DoLoop, out-DoLoop}
use Rattle.syntax_tree.specs.declared.stmt.Mark.{Mark as HeldMark}
use Rattle.syntax_tree.specs.Expression.{expression}
use Rattle.syntax_tree.specs.Statement as syntax
use Rattle.syntax_tree.specs.Statement.{Axis, Independent, do_construct, independent}
use Rattle.syntax_tree.proofs.Rows.{do_parts}
use Rattle.array_meaning.specs.Statements.{Block, Done, Then, Statement, Do, Mark, Unmarked, Outermost, Loop}
use Rattle.array_meaning.specs.Resolution.{do_loop, inner_mark, loop_of, nest_of, outermost, place_of, resolved, resolved_block, union, with_inner_unmarked}
use Rattle.resolved_program.specs.declared.statements.Nest.{Nest as HeldNest}
use Rattle.program_plan.specs.Nests.{IsNestOf, body_in, count_round, mark_of, new_round, reduction_round, with_nest}
use Rattle.resolved_program.specs.Resolved as plan
use Rattle.resolved_program.specs.Resolved.{inner_loops, innermost}

-- ---- a DO, by its fields

abbrev pub axis_in : DoLoop → Axis
axis_in d = record { index = (out-DoLoop d).index; first = expression (out-DoLoop d).first; last = expression (out-DoLoop d).last; step = option_map expression (out-DoLoop d).step }

abbrev pub whole_body : List Entry → DoLoop → Block
whole_body names d = resolved_block names (syntax.block_of (out-DoLoop d).body.items)

abbrev do_with : List Entry → DoLoop → Option Independent → Statement
do_with names d m = do_loop names m (loop_of names (axis_in d)) (whole_body names d)

do_is : (names : List Entry) (d : DoLoop) → resolved names (do_construct d) ≡ do_with names d (option_map independent (out-DoLoop d).mark)
do_is names d = ap (resolved names) (do_parts d)

marked_is : (names : List Entry) (d : DoLoop) (mark : Option HeldMark) → (out-DoLoop d).mark ≡ mark → resolved names (do_construct d) ≡ do_with names d (option_map independent mark)
marked_is names d mark is = do_is names d ∙ ap (λ m. do_with names d (option_map independent m)) is

pub plain_body : (names : List Entry) (d : DoLoop) → (out-DoLoop d).mark ≡ None → whole_body names d ≡ body_in (resolved names (do_construct d))
plain_body names d is = sym (ap body_in (marked_is names d None is))

pub marked_body : (names : List Entry) (d : DoLoop) (m : HeldMark) → (out-DoLoop d).mark ≡ Some m → with_inner_unmarked (whole_body names d) ≡ body_in (resolved names (do_construct d))
marked_body names d m is = sym (ap body_in (marked_is names d (Some m) is))

-- with a nest, from its parts
pub from_parts : (names : List Entry) (d : DoLoop) (n : Option HeldNest) →
    plan.do_loop n (loop_of names (axis_in d)) (body_in (resolved names (do_construct d))) ≡ with_nest n (resolved names (do_construct d))
from_parts names d n =
    ap (λ s. plan.do_loop n (loop_of names (axis_in d)) (body_in s)) (do_is names d)
    ∙ by_mark (option_map independent (out-DoLoop d).mark)
    ∙ ap (with_nest n) (sym (do_is names d)) where
      by_mark : (m : Option Independent) → plan.do_loop n (loop_of names (axis_in d)) (body_in (do_with names d m)) ≡ with_nest n (do_with names d m)
      by_mark None = refl
      by_mark (Some m) = refl

-- ---- the nest that is kept

mark_is : (n : Option HeldNest) (line : ℕ) (m : Mark) (l : Loop) (b : Block) → plan.mark n l b ≡ mark_of n (Then line (Do m l b) Done)
mark_is None line m l b = refl
mark_is (Some n) line m l b = refl

-- with its own nest a DO is what it is
pub with_own : (names : List Entry) (d : DoLoop) (n : Option HeldNest) → ((line : ℕ) → IsNestOf n (Then line (resolved names (do_construct d)) Done)) →
    with_nest n (resolved names (do_construct d)) ≡ resolved names (do_construct d)
with_own names d n own =
    ap (with_nest n) (do_is names d)
    ∙ by_mark (option_map independent (out-DoLoop d).mark) (subst (λ s. IsNestOf n (Then 0 s Done)) (do_is names d) (own 0))
    ∙ sym (do_is names d) where
      by_mark : (m : Option Independent) → IsNestOf n (Then 0 (do_with names d m) Done) → with_nest n (do_with names d m) ≡ do_with names d m
      by_mark None h = ap (λ k. Do k (loop_of names (axis_in d)) (whole_body names d)) (mark_is n 0 Unmarked (loop_of names (axis_in d)) (whole_body names d) ∙ h)
      by_mark (Some m) h =
          ap (λ k. Do k (loop_of names (axis_in d)) (with_inner_unmarked (whole_body names d)))
          (mark_is n 0 (outermost (nest_of names m (loop_of names (axis_in d))) (whole_body names d) (inner_mark (whole_body names d))) (loop_of names (axis_in d)) (with_inner_unmarked (whole_body names d)) ∙ h)

-- ---- a nest round another

-- where the loop of a block has no mark, nothing changes
unmarked_one : (line : ℕ) (s : Statement) → inner_mark (Then line s Done) ≡ Unmarked → with_inner_unmarked (Then line s Done) ≡ Then line s Done
unmarked_one line (Do m l b) h = ap (λ m. Then line (Do m l b) Done) (sym h)
unmarked_one line s h = refl

pub two : (line next : ℕ) (s t : Statement) (b : Block) → (with_inner_unmarked (Then line s (Then next t b)) ≡ Then line s (Then next t b)) × (inner_mark (Then line s (Then next t b)) ≡ Unmarked)
two line next (Do m l body) t b = (refl, refl)
two line next s t b = (refl, refl)

unmarked_same : (b : Block) → inner_mark b ≡ Unmarked → with_inner_unmarked b ≡ b
unmarked_same Done h = refl
unmarked_same (Then line s Done) h = unmarked_one line s h
unmarked_same (Then line s (Then next t b)) h = (two line next s t b).0

-- the loops of a nest don't depend on marks
loops_one : (n line : ℕ) (s : Statement) → (inner_loops (suc n) (with_inner_unmarked (Then line s Done)) ≡ inner_loops (suc n) (Then line s Done))
    × (innermost (suc n) (with_inner_unmarked (Then line s Done)) ≡ innermost (suc n) (Then line s Done))
loops_one n line (Do m l b) = (refl, refl)
loops_one n line s = (refl, refl)

loops_same : (n : ℕ) (b : Block) → (inner_loops (suc n) (with_inner_unmarked b) ≡ inner_loops (suc n) b) × (innermost (suc n) (with_inner_unmarked b) ≡ innermost (suc n) b)
loops_same n Done = (refl, refl)
loops_same n (Then line s Done) = loops_one n line s
loops_same n (Then line s (Then next t b)) = (ap (inner_loops (suc n)) (two line next s t b).0, ap (innermost (suc n)) (two line next s t b).0)

-- what is kept of a nest, by its fields
abbrev nest_with : ℕ → ℕ → List ℕ → List ℕ → Loop → Block → Mark
nest_with line count new reduction l b = Outermost (record { line = line; loops = l ∷ inner_loops count b; new = new; reduction = reduction }) (innermost count b)

-- a nest of one loop, and what is within it
round_is : (names : List Entry) (m : Independent) (within : Option HeldNest) (l : Loop) (b : Block) → IsNestOf within b →
    nest_with m.line (count_round within) (new_round (map (place_of names) m.new) within) (reduction_round (map (place_of names) m.reduction) within) l (with_inner_unmarked b)
    ≡ outermost (nest_of names m l) b (inner_mark b)
round_is names m None l b h = ap (Outermost (nest_of names m l)) (unmarked_same b (sym h)) ∙ ap (outermost (nest_of names m l) b) h
round_is names m (Some n) l b h =
    (λ i. Outermost (record {
      line = m.line;
      loops = l ∷ (loops_same n.inner_loops b).0 i;
      new = union (map (place_of names) m.new) n.new.items;
      reduction = union (map (place_of names) m.reduction) n.reduction.items;
    }) ((loops_same n.inner_loops b).1 i))
    ∙ ap (outermost (nest_of names m l) b) h

pub marked_nest : (names : List Entry) (d : DoLoop) (m : HeldMark) (within : Option HeldNest) (n : HeldNest) (line : ℕ) → (out-DoLoop d).mark ≡ Some m → IsNestOf within (whole_body names d) →
    n.line ≡ m.line → n.inner_loops ≡ count_round within → n.new.items ≡ new_round (map (place_of names) m.new) within → n.reduction.items ≡ reduction_round (map (place_of names) m.reduction) within →
    IsNestOf (Some n) (Then line (resolved names (do_construct d)) Done)
marked_nest names d m within n line is h line_is count_is new_is reduction_is =
    subst (λ s. IsNestOf (Some n) (Then line s Done)) (sym (marked_is names d (Some m) is))
    ((λ i. nest_with (line_is i) (count_is i) (new_is i) (reduction_is i) (loop_of names (axis_in d)) (with_inner_unmarked (whole_body names d)))
    ∙ round_is names (independent m) within (loop_of names (axis_in d)) (whole_body names d) h)
