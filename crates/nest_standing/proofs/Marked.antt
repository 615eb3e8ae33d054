-- The mark of a nest: its loops, its lists and its innermost body.
use Rattle.std.proofs.Common.{◌≡◌, ℕ, Bool, true, false, List, [], ◌∷◌, ◌++◌, map, Some, None, refl, sym, ap, ◌∙◌, nat_eq}
use Rattle.std.specs.Prelude.{◌||◌}
use Rattle.std.specs.List.{flat_map}
use Rattle.std.proofs.lemmas.List.Folds.{list_any-append}
use Rattle.syntax_tree.specs.Statement as syntax
use Rattle.syntax_tree.specs.Statement.{Axis, Independent}
use Rattle.statement_walk.specs.Nests.{nest_in}
use Rattle.name_table.specs.declared.names.Entry.{Entry}
use Rattle.array_meaning.specs.Terms.{Term, Number, Scalar, Index, Element, Section, Apply, Reduce}
use Rattle.array_meaning.specs.Statements.{Nest, Block, Then, Mark, Unmarked, Outermost}
use Rattle.array_meaning.specs.Resolution.{place_of, assignment, transformation_of, left_of, term_of, loop_of, nest_of, union, outermost, inner_mark, resolved_block}
use Rattle.array_meaning.specs.Iterations.{is_in}
use Rattle.nest_standing.proofs.Ties.{union_in}
use Rattle.nest_standing.proofs.Assignments.{either_statement}

or_nothing : (b : Bool) → b ≡ (b || false)
or_nothing true = refl
or_nothing false = refl

unmarked_assign : (line : ℕ) (l r : Term) (rest : Block) → inner_mark (Then line (assignment l r) rest) ≡ Unmarked
unmarked_assign line (Scalar k) r rest = refl
unmarked_assign line (Element a ts) r rest = refl
unmarked_assign line (Section a subs) r rest = refl
unmarked_assign line (Number v) r rest = refl
unmarked_assign line (Index k) r rest = refl
unmarked_assign line (Apply o ts) r rest = refl
unmarked_assign line (Reduce o t) r rest = refl

module _ (names : List Entry) where
  abbrev pub mark_of : Independent → Axis → syntax.Block → Mark
  mark_of m axis b = outermost (nest_of names m (loop_of names axis)) (resolved_block names b) (inner_mark (resolved_block names b))

  pub record IsMark (m : Independent) (axis : Axis) (b : syntax.Block) : Type 0 where
    pub nest : Nest
    pub is : mark_of m axis b ≡ Outermost nest (resolved_block names (nest_in b).body)
    pub loops : nest.loops ≡ loop_of names axis ∷ map (λ l. loop_of names l.axis) (nest_in b).loops
    pub new : (k : ℕ) → is_in k nest.new ≡ (is_in k (map (place_of names) m.new) || is_in k (flat_map (λ l. map (place_of names) l.mark.new) (nest_in b).loops))
    pub reduction : (k : ℕ) → is_in k nest.reduction
        ≡ (is_in k (map (place_of names) m.reduction) || is_in k (flat_map (λ l. map (place_of names) l.mark.reduction) (nest_in b).loops))

  alone : (m : Independent) (axis : Axis) (b : syntax.Block) → inner_mark (resolved_block names b) ≡ Unmarked → (nest_in b).loops ≡ [] → (nest_in b).body ≡ b → IsMark m axis b
  alone m axis b unmarked none same = record {
    nest = nest_of names m (loop_of names axis);
    is = ap (outermost (nest_of names m (loop_of names axis)) (resolved_block names b)) unmarked
        ∙ ap (λ q. Outermost (nest_of names m (loop_of names axis)) (resolved_block names q)) (sym same);
    loops = ap (λ ls. loop_of names axis ∷ map (λ l. loop_of names l.axis) ls) (sym none);
    new = λ k. or_nothing (is_in k (map (place_of names) m.new))
        ∙ ap (λ ls. is_in k (map (place_of names) m.new) || is_in k (flat_map (λ l. map (place_of names) l.mark.new) ls)) (sym none);
    reduction = λ k. or_nothing (is_in k (map (place_of names) m.reduction))
        ∙ ap (λ ls. is_in k (map (place_of names) m.reduction) || is_in k (flat_map (λ l. map (place_of names) l.mark.reduction) ls)) (sym none);
  }

  pub marked : (m : Independent) (axis : Axis) (b : syntax.Block) → IsMark m axis b
  marked m axis (syntax.Then line (syntax.Do (Some m') axis' b) syntax.Done) =
      let one : Nest = nest_of names m (loop_of names axis) in
      let h = marked m' axis' b in
      record {
        nest = record one { loops = one.loops ++ h.nest.loops; new = union one.new h.nest.new; reduction = union one.reduction h.nest.reduction };
        is = ap (outermost one (resolved_block names (syntax.Then line (syntax.Do (Some m') axis' b) syntax.Done))) h.is;
        loops = ap (λ ls. loop_of names axis ∷ ls) h.loops;
        new = λ k. union_in k one.new h.nest.new ∙ ap (λ q. is_in k one.new || q)
            (h.new k ∙ sym (list_any-append (nat_eq k) (map (place_of names) m'.new) (flat_map (λ l. map (place_of names) l.mark.new) (nest_in b).loops)));
        reduction = λ k. union_in k one.reduction h.nest.reduction ∙ ap (λ q. is_in k one.reduction || q)
            (h.reduction k ∙ sym (list_any-append (nat_eq k) (map (place_of names) m'.reduction) (flat_map (λ l. map (place_of names) l.mark.reduction) (nest_in b).loops)));
      }
  marked m axis (syntax.Then line (syntax.Do (Some m') axis' b) (syntax.Then k s rest)) = alone m axis _ refl refl refl
  marked m axis (syntax.Then line (syntax.Do None axis' b) syntax.Done) = alone m axis _ refl refl refl
  marked m axis (syntax.Then line (syntax.Do None axis' b) (syntax.Then k s rest)) = alone m axis _ refl refl refl
  marked m axis syntax.Done = alone m axis _ refl refl refl
  marked m axis (syntax.Then line (syntax.Assign left right) rest) =
      alone m axis (syntax.Then line (syntax.Assign left right) rest)
      (either_statement (λ st. inner_mark (Then line st (resolved_block names rest)) ≡ Unmarked) names (λ x y how. refl) (syntax.designator left) (transformation_of names right)
      (assignment (left_of names [] left) (term_of names [] right)) (unmarked_assign line (left_of names [] left) (term_of names [] right) (resolved_block names rest))) refl refl
  marked m axis (syntax.Then line (syntax.If arms other) rest) = alone m axis _ refl refl refl
  marked m axis (syntax.Then line (syntax.Where mask body others) rest) = alone m axis _ refl refl refl
  marked m axis (syntax.Then line (syntax.Forall axes mask body) rest) = alone m axis _ refl refl refl
  marked m axis (syntax.Then line (syntax.Print is) rest) = alone m axis _ refl refl refl
  marked m axis (syntax.Then line syntax.Stop rest) = alone m axis _ refl refl refl
  marked m axis (syntax.Then line syntax.Exit rest) = alone m axis _ refl refl refl
  marked m axis (syntax.Then line syntax.Cycle rest) = alone m axis _ refl refl refl
  marked m axis (syntax.Then line syntax.Continue rest) = alone m axis _ refl refl refl
  marked m axis (syntax.Then line (syntax.Redistribute d) rest) = alone m axis _ refl refl refl
