-- A nest that breaks no rule, with its loops.
use Rattle.std.proofs.Common.{◌≡◌, ℕ, Bool, true, false, true≢false, List, [], ◌∷◌, ◌++◌, map, bytes_eq, Some, None, refl, sym, ap, ◌∙◌, append_assoc}
use Rattle.std.specs.Prelude.{◌&&◌, ◌||◌, not}
use Rattle.std.specs.List.{AllByRecursion}
use Rattle.std.proofs.lemmas.List.Folds.{list_any-append}
use Rattle.std.proofs.lemmas.List.{append-nil}
use Rattle.syntax_tree.specs.Expression.{Expression}
use Rattle.syntax_tree.specs.Statement as syntax
use Rattle.syntax_tree.specs.Statement.{Axis}
use Rattle.expression_rules.specs.Inner.{axis_expressions}
use Rattle.expression_rules.specs.Symbols.{Name, is_among}
use Rattle.statement_walk.specs.Heads.{heads, statement_heads}
use Rattle.statement_walk.specs.Nests.{nest_in}
use Rattle.nest_check.specs.NestNames.{NestNames, inner_heads}
use Rattle.nest_check.specs.NestRules.{is_inner_axis, is_step}
use Rattle.nest_check.specs.Paths.{reached_heads}
use Rattle.nest_syntax.specs.NestKinds.{Kind, has_copies}
use Rattle.array_meaning.specs.Terms.{Term, Number, Scalar, Index, Element, Section, Apply, Reduce}
use Rattle.array_meaning.specs.Statements.{Loop, Nest, Block, Then}
use Rattle.array_meaning.specs.Resolution.{control_of, place_of, assignment, transformation_of, left_of, term_of, loop_of, with_inner_unmarked, resolved_block}
use Rattle.fitting_states.specs.FittingStates.{ControlFits, BlockFits}
use Rattle.name_table.proofs.Tests.{all_split}
use Rattle.nest_items.specs.Settled.{without}
use Rattle.nest_items.specs.Paths.{PathsAssign}
use Rattle.nest_items.specs.NestForm.{IsStep, BlockKeeps, LoopsKeep, IsNest}
use Rattle.nest_standing.specs.Named.{Declared, IsNamed}
use Rattle.nest_standing.proofs.Ruled.{IsKept, IsReached, IsGathered, Tied}
use Rattle.nest_standing.proofs.PlacesOf.{place_eq}
use Rattle.nest_standing.proofs.Assignments.{either_statement}
use Rattle.nest_standing.proofs.Kept.{loop_keeps, block_keeps, placed_names}
use Rattle.nest_standing.proofs.PathsOf.{paths_assign}

unmarked_assign : (line : ℕ) (l r : Term) (rest : Block) → with_inner_unmarked (Then line (assignment l r) rest) ≡ Then line (assignment l r) rest
unmarked_assign line (Scalar k) r rest = refl
unmarked_assign line (Element a ts) r rest = refl
unmarked_assign line (Section a subs) r rest = refl
unmarked_assign line (Number v) r rest = refl
unmarked_assign line (Index k) r rest = refl
unmarked_assign line (Apply o ts) r rest = refl
unmarked_assign line (Reduce o t) r rest = refl

unfree_index : (i r : Bool) → i ≡ true → r ≡ false → (i && not r) ≡ true
unfree_index true false f g = refl
unfree_index false r f g = absurd (true≢false (sym f))
unfree_index true true f g = absurd (true≢false g)

one_more : (f i d y : Bool) → f ≡ (i && not d) → (f && not y) ≡ (i && not (d || (y || false)))
one_more f false d y h = ap (λ q. q && not y) h
one_more f true true y h = ap (λ q. q && not y) h
one_more f true false true h = ap (λ q. q && false) h
one_more f true false false h = ap (λ q. q && true) h

or_parts : (a b : Bool) → (a || (b || false)) ≡ false → (a ≡ false) × (b ≡ false)
or_parts false false h = (refl, refl)
or_parts false true h = absurd (true≢false h)
or_parts true b h = absurd (true≢false h)

join_parts : (a b : Bool) → a ≡ false → b ≡ false → (a || (b || false)) ≡ false
join_parts false false f g = refl
join_parts true b f g = absurd (true≢false f)
join_parts false true f g = absurd (true≢false g)

or_nothing : (b : Bool) → b ≡ (b || false)
or_nothing true = refl
or_nothing false = refl

-- what the rules say of a loop inside the outermost one
pub record IsInnerLoop (n : NestNames) (a : Axis) : Type 0 where
  pub rules : is_inner_axis n a ≡ true
  pub gathered : is_among a.index n.indices ≡ true
  pub fit : ControlFits (control_of n.declared [] a)

module _ (n : NestNames) (kinds : ℕ → Kind) (tied : Tied n kinds) (step_is : (x : Expression) → is_step n x ≡ true → IsStep (term_of n.declared [] x))
    (all : ℕ → Bool) (all_is : (x : Name) → Declared n.declared x → all (place_of n.declared x) ≡ is_among x n.indices) where
  -- inside these loops of the nest
  pub record Upto (done ys : List Name) (free : ℕ → Bool) : Type 0 where
    pub free_is : (x : Name) → Declared n.declared x → free (place_of n.declared x) ≡ (is_among x n.indices && not (is_among x done))
    pub round : (x : Name) → is_among x ys ≡ false → is_among x done ≡ false

  more : (done ys : List Name) (free : ℕ → Bool) (i : Name) → Upto done ys free → Declared n.declared i → Upto (done ++ i ∷ []) (ys ++ i ∷ []) (without free (place_of n.declared i))
  more done ys free i h d = record {
    free_is = λ x dx. ap (λ q. free (place_of n.declared x) && not q) (place_eq n.declared x i dx d)
        ∙ one_more (free (place_of n.declared x)) (is_among x n.indices) (is_among x done) (bytes_eq x i) (h.free_is x dx)
        ∙ ap (λ q. is_among x n.indices && not q) (sym (list_any-append (bytes_eq x) done (i ∷ [])));
    round = λ x f.
        let s = or_parts (is_among x ys) (bytes_eq x i) (sym (list_any-append (bytes_eq x) ys (i ∷ [])) ∙ f) in
        list_any-append (bytes_eq x) done (i ∷ []) ∙ join_parts (is_among x done) (bytes_eq x i) (h.round x s.0) s.1;
  }

  abbrev pub loops_in : syntax.Block → List Loop
  loops_in b = map (λ l. loop_of n.declared l.axis) (nest_in b).loops

  abbrev pub Inside : List Name → syntax.Block → Type 0
  Inside done b = (done' ys : List Name) (free : ℕ → Bool) → Upto done' ys free → done' ≡ done ++ map (λ l. l.axis.index) (nest_in b).loops
      → AllByRecursion (IsNamed n.declared) (heads ys (nest_in b).body) → BlockKeeps kinds free (resolved_block n.declared (nest_in b).body)

  ends : (done : List Name) → done ≡ done ++ []
  ends done = sym (append-nil done)

  loops_keep : (done ys : List Name) (free : ℕ → Bool) → Upto done ys free → (b : syntax.Block) → AllByRecursion (IsNamed n.declared) (heads ys b)
      → AllByRecursion (λ l. IsInnerLoop n l.axis) (nest_in b).loops → Inside done b
      → LoopsKeep kinds all free (loops_in b) (with_inner_unmarked (resolved_block n.declared b)) (resolved_block n.declared (nest_in b).body)
  loops_keep done ys free up (syntax.Then line (syntax.Do (Some m) axis b) syntax.Done) named inner inside =
      let parts = (all_split (IsNamed n.declared) (statement_heads ys line (syntax.Do (Some m) axis b)) [] named).0 in
      let i : Name = axis.index in
      let own = parts.1.0.uses.0 in (
        line,
        with_inner_unmarked (resolved_block n.declared b),
        refl,
        loop_keeps n kinds tied step_is all (λ x d f. all_is x d ∙ f) axis (placed_names n kinds tied step_is (axis_expressions axis) parts.1.0.expressions) inner.0.rules own.0.0 inner.0.gathered
            (all_is i own.0.0 ∙ inner.0.gathered) inner.0.fit,
        up.free_is i own.0.0 ∙ unfree_index (is_among i n.indices) (is_among i done) inner.0.gathered (up.round i own.1),
        loops_keep (done ++ i ∷ []) (ys ++ i ∷ []) (without free (place_of n.declared i)) (more done ys free i up own.0.0) b parts.1.1 inner.1
            (λ done' ys' free' up' same. inside done' ys' free' up' (same ∙ append_assoc done (i ∷ []) (map (λ l. l.axis.index) (nest_in b).loops))),
      )
  loops_keep done ys free up (syntax.Then line (syntax.Do (Some m) axis b) (syntax.Then k s rest)) named inner inside = (refl, inside done ys free up (ends done) named)
  loops_keep done ys free up (syntax.Then line (syntax.Do None axis b) syntax.Done) named inner inside = (refl, inside done ys free up (ends done) named)
  loops_keep done ys free up (syntax.Then line (syntax.Do None axis b) (syntax.Then k s rest)) named inner inside = (refl, inside done ys free up (ends done) named)
  loops_keep done ys free up syntax.Done named inner inside = (refl, inside done ys free up (ends done) named)
  loops_keep done ys free up (syntax.Then line (syntax.Assign left right) rest) named inner inside =
      let after : Block = resolved_block n.declared rest in (
        either_statement (λ st. with_inner_unmarked (Then line st after) ≡ Then line st after) n.declared (λ x y how. refl) (syntax.designator left) (transformation_of n.declared right)
            (assignment (left_of n.declared [] left) (term_of n.declared [] right)) (unmarked_assign line (left_of n.declared [] left) (term_of n.declared [] right) after),
        inside done ys free up (ends done) named,
      )
  loops_keep done ys free up (syntax.Then line (syntax.If arms other) rest) named inner inside = (refl, inside done ys free up (ends done) named)
  loops_keep done ys free up (syntax.Then line (syntax.Where mask body others) rest) named inner inside = (refl, inside done ys free up (ends done) named)
  loops_keep done ys free up (syntax.Then line (syntax.Forall axes mask body) rest) named inner inside = (refl, inside done ys free up (ends done) named)
  loops_keep done ys free up (syntax.Then line (syntax.Print is) rest) named inner inside = (refl, inside done ys free up (ends done) named)
  loops_keep done ys free up (syntax.Then line syntax.Stop rest) named inner inside = (refl, inside done ys free up (ends done) named)
  loops_keep done ys free up (syntax.Then line syntax.Exit rest) named inner inside = (refl, inside done ys free up (ends done) named)
  loops_keep done ys free up (syntax.Then line syntax.Cycle rest) named inner inside = (refl, inside done ys free up (ends done) named)
  loops_keep done ys free up (syntax.Then line syntax.Continue rest) named inner inside = (refl, inside done ys free up (ends done) named)
  loops_keep done ys free up (syntax.Then line (syntax.Redistribute d) rest) named inner inside = (refl, inside done ys free up (ends done) named)

  -- the outermost loop round them. `ys` are the indices of the loops round the nest
  pub nest_keeps : (ys : List Name) (axis : Axis) (b : syntax.Block) (nest : Nest)
      → n.loops ≡ axis.index ∷ map (λ l. l.axis.index) (nest_in b).loops
      → nest.loops ≡ loop_of n.declared axis ∷ loops_in b
      → Declared n.declared axis.index → is_among axis.index n.indices ≡ true
      → ((k : ℕ) → has_copies (kinds k) ≡ true → all k ≡ false)
      → AllByRecursion (IsNamed n.declared) (heads (ys ++ axis.index ∷ []) b)
      → AllByRecursion (λ l. IsInnerLoop n l.axis) (nest_in b).loops
      → AllByRecursion (IsKept n) (heads [] (nest_in b).body)
      → AllByRecursion (IsReached n) (reached_heads false [] (nest_in b).body)
      → AllByRecursion (IsGathered n) (inner_heads (nest_in b).body)
      → BlockFits (resolved_block n.declared (nest_in b).body)
      → IsNest kinds all nest (loop_of n.declared axis) (with_inner_unmarked (resolved_block n.declared b)) (resolved_block n.declared (nest_in b).body)
  nest_keeps ys axis b nest loops same d i quiet named inner kept reach gathered fit = record {
    inner = loops_in b;
    loops = same;
    index = tied.copies axis.index d ∙ tied.quiet axis.index d i;
    unseen = all_is axis.index d ∙ i;
    quiet = quiet;
    tight = loops_keep (axis.index ∷ []) (ys ++ axis.index ∷ []) (without all (place_of n.declared axis.index)) first b named inner
        (λ done ys' free up e names. block_keeps n kinds tied step_is [] ys' free false []
        (record { is = λ x dx. up.free_is x dx ∙ ap (λ q. is_among x n.indices && not q) (ap (is_among x) (e ∙ sym loops) ∙ or_nothing (is_among x n.loops)) })
        (λ x f. sym (or_nothing (is_among x n.loops)) ∙ ap (is_among x) (loops ∙ sym e) ∙ up.round x f) (nest_in b).body names kept reach gathered fit);
  }
    where
      first : Upto (axis.index ∷ []) (ys ++ axis.index ∷ []) (without all (place_of n.declared axis.index))
      first = record {
        free_is = λ x dx. ap (λ q. all (place_of n.declared x) && not q) (place_eq n.declared x axis.index dx d)
            ∙ ap (λ q. q && not (bytes_eq x axis.index)) (all_is x dx) ∙ ap (λ q. is_among x n.indices && not q) (or_nothing (bytes_eq x axis.index));
        round = λ x f.
            let s = or_parts (is_among x ys) (bytes_eq x axis.index) (sym (list_any-append (bytes_eq x) ys (axis.index ∷ [])) ∙ f) in
            sym (or_nothing (bytes_eq x axis.index)) ∙ s.1;
      }

  -- and what its paths assign, where no NEW variable is known before
  pub nest_paths : (ys : List Name) (b : syntax.Block) → AllByRecursion (IsNamed n.declared) (heads ys b) → AllByRecursion (IsKept n) (heads [] b)
      → AllByRecursion (IsReached n) (reached_heads false [] b) → PathsAssign kinds (λ k. false) (resolved_block n.declared b)
  nest_paths ys b named kept reach = paths_assign n kinds tied [] ys [] false (λ k. false) (λ x d h. absurd (true≢false (sym h))) b named kept reach
