-- The statements of a program that breaks no rule keep the ranks of arrays.
use Rattle.std.proofs.Common.{◌≡◌, ℕ, ◌≤◌, Bool, true, false, List, [], ◌∷◌, ◌++◌, length, map, nat_lt, Option, Some, None, refl, sym, subst, ◌∙◌, ◌⊎◌, inl, inr, arith}
use Rattle.std.proofs.lemmas.List.{length-map}
use Rattle.std.specs.Prelude.{◌&&◌, ◌||◌, not, option_map}
use Rattle.std.specs.List.{AllByRecursion, flat_map, list_all}
use Rattle.std.proofs.lemmas.Bool.Decides.{nat_tests}
use Rattle.name_table.specs.declared.limits.TheConstants.{MAX_INDICES}
use Rattle.hpf_base.specs.declared.refusal.Reason.TheVariants as reason
use Rattle.syntax_tree.specs.Expression.{Expression}
use Rattle.syntax_tree.specs.Statement as syntax
use Rattle.syntax_tree.specs.Statement.{designator}
use Rattle.expression_rules.specs.declared.symbols.Symbol.{Symbol}
use Rattle.expression_rules.specs.declared.types.Context.{Context}
use Rattle.expression_rules.specs.declared.types.Context.TheVariants.{Statement}
use Rattle.expression_rules.specs.declared.types.TypeAndRank.{TypeAndRank}
use Rattle.expression_rules.specs.Inner.{axis_expressions, item_expressions, present}
use Rattle.expression_rules.specs.Operands.{are_operands}
use Rattle.expression_rules.specs.Symbols.{Name, SymbolTable, find}
use Rattle.expression_rules.specs.Types.{if_typed, is_integer_scalar, is_logical_scalar, type_and_rank}
use Rattle.statement_walk.specs.Head as head
use Rattle.statement_walk.specs.Heads.{PlacedHead, arm_heads, else_heads, heads, independent_heads, indexed, indices_of, masked, placed, statement_heads}
use Rattle.declarations.specs.Reasons.{when}
use Rattle.name_table.specs.Entries.{entry}
use Rattle.name_table.specs.NameRules.{expressions_of, header_names, name_breaches_at, name_reasons, own_uses}
use Rattle.name_table.specs.Places.{ArrayElement, AssignedTo, IntegerScalar, LogicalArray, LogicalScalar, MaskedArray, Place, PrintItem, Requirement, RightOf, Variable, all_meet, context_of, is_element, is_mask, is_masked_by, is_right_of, is_right_side, is_transformed, meets, place, places, whole_rank}
use Rattle.name_table.specs.RankRules.{rank_breaches_at}
use Rattle.name_table.specs.Uses.{allows, repeats}
use Rattle.name_table.specs.declared.names.Entry.{Entry}
use Rattle.array_meaning.specs.Terms.{Element, Scalar, Section, Term}
use Rattle.array_meaning.specs.Statements.{Block, CircularShift, Do, Done, ElementAssignment, Loop, SectionAssignment, Then, Transformation, Transposition, PrefixSum}
use Rattle.array_meaning.specs.Resolution.{assignment, control_of, do_loop, element_assignments, item, item_of, left_of, loop_of, resolved, resolved_arms, resolved_block, resolved_otherwise, section_assignments, step_of, term_of, to_element, to_section, transform_or, with_inner_unmarked}
use Rattle.lowering.specs.Ranks.{ArmsKeepRanks, BlockKeepsRanks, IsRanked, IsRankedControl, IsRankedIndexed, IsRankedItem, IsRankedMask, IsRankedMasked, IsRankedTransformation, KeepsRanks}
use Rattle.name_table.proofs.Tests.{HasValue, all_split, both, empties, fails, holds, no_reason}
use Rattle.name_table.proofs.TypedOperands.{typed_value}
use Rattle.well_formed.proofs.Dimensions.{IsFull, shapes_in}
use Rattle.well_formed.proofs.RankedExpressions.{ranked}
use Rattle.well_formed.proofs.Transformed.{IsMoved, IsShift, ByScalar, is_moved, transformed, untransformed}

-- ---- one statement by itself

abbrev pub IsTyped : Context → SymbolTable → Expression → Type 0
IsTyped c t x = HasValue (type_and_rank c t x)

-- the right side of an assignment by itself may be a transformation, which has no type
abbrev pub IsPlaced : Context → SymbolTable → Requirement → Expression → Type 0
IsPlaced c t (AssignedTo left) x = IsTyped c t x ⊎ IsMoved c t left x
IsPlaced c t r x = IsTyped c t x

right_typed : (c : Context) (t : SymbolTable) (left x : Expression) → is_right_side c t left x ≡ true → IsTyped c t x
right_typed c t left x h = inner (type_and_rank c t left) h
  where
    inner : (o : Option TypeAndRank) → if_typed (λ l. if_typed (is_right_of l) (type_and_rank c t x)) o ≡ true → IsTyped c t x
    inner None h = absurd cc
    inner (Some m) h = typed_value _ (type_and_rank c t x) h

met_placed : (c : Context) (t : SymbolTable) (r : Requirement) (x : Expression) → meets c t r x ≡ true → IsPlaced c t r x
met_placed c t IntegerScalar x h = typed_value is_integer_scalar (type_and_rank c t x) h
met_placed c t LogicalScalar x h = typed_value is_logical_scalar (type_and_rank c t x) h
met_placed c t LogicalArray x h = typed_value is_mask (type_and_rank c t x) h
met_placed c t Variable x h = h
met_placed c t (MaskedArray mask) x h = inner (type_and_rank c t mask) h
  where
    inner : (o : Option TypeAndRank) → if_typed (λ m. if_typed (is_masked_by m) (type_and_rank c t x)) o ≡ true → IsTyped c t x
    inner None h = absurd cc
    inner (Some m) h = typed_value _ (type_and_rank c t x) h
met_placed c t ArrayElement x h = typed_value is_integer_scalar (type_and_rank c t x) (both (is_element x) (if_typed is_integer_scalar (type_and_rank c t x)) h).1
met_placed c t (RightOf left) x h = right_typed c t left x h
met_placed c t (AssignedTo left) x h = by (is_right_side c t left x) refl h
  where
    by : (b : Bool) → is_right_side c t left x ≡ b → (b || is_transformed c t (whole_rank t left) x) ≡ true → IsPlaced c t (AssignedTo left) x
    by true is h = inl (right_typed c t left x is)
    by false is h = inr (is_moved c t left x h)
met_placed c t PrintItem x h = typed_value _ (type_and_rank c t x) h

abbrev pub ArePlaced : Context → SymbolTable → List Place → Type 0
ArePlaced c t ps = AllByRecursion (λ p. IsPlaced c t p.requirement p.expression) ps

all_placed : (c : Context) (t : SymbolTable) (ps : List Place) → all_meet c t ps ≡ true → ArePlaced c t ps
all_placed c t [] h = tt
all_placed c t (p ∷ ps) h =
    let s = both (meets c t p.requirement p.expression) (all_meet c t ps) h in (met_placed c t p.requirement p.expression s.0, all_placed c t ps s.1)

-- each of its expressions has a type and a rank or is a transformation, and a header has 7 indices at most
pub record IsTypedHead (t : SymbolTable) (h : PlacedHead) : Type 0 where
  pub expressions : ArePlaced (context_of h.what) t (places h.what)
  pub few : length (header_names h.what) ≤ MAX_INDICES

typed_head : (t : SymbolTable) (h : PlacedHead) → name_breaches_at t h ≡ [] → rank_breaches_at t h ≡ [] → IsTypedHead t h
typed_head t h names ranks =
    let wrong : Bool = not (list_all (allows t h.do_variables) (own_uses h.what) && list_all (are_operands t) (expressions_of h.what)) || repeats (header_names h.what) in
    let many : Bool = nat_lt MAX_INDICES (length (header_names h.what)) in
    let reasons = empties (when wrong reason.BadName) (when many reason.Limit) (no_reason h.line (name_reasons t h) names) in
    let all : Bool = all_meet (context_of h.what) t (places h.what) in
    record {
      expressions = all_placed (context_of h.what) t (places h.what) (holds all (fails (not all) reason.BadRank (no_reason h.line _ ranks)));
      few = at_most (length (header_names h.what)) (fails many reason.Limit reasons.1);
    }
  where
    at_most : (k : ℕ) → nat_lt MAX_INDICES k ≡ false → k ≤ MAX_INDICES
    at_most k h = grind (arith, nat_tests)

pub all_typed_heads : (t : SymbolTable) (hs : List PlacedHead) → AllByRecursion (λ h. name_breaches_at t h ≡ []) hs → AllByRecursion (λ h. rank_breaches_at t h ≡ []) hs →
    AllByRecursion (IsTypedHead t) hs
all_typed_heads t [] names ranks = tt
all_typed_heads t (h ∷ hs) names ranks = (typed_head t h names.0 ranks.0, all_typed_heads t hs names.1 ranks.1)

-- the expressions of places that all ask the same
pub each_placed : (P : Requirement → Expression → Type 0) (r : Requirement) (es : List Expression) →
    AllByRecursion (λ p. P p.requirement p.expression) (map (place r) es) →
    AllByRecursion (P r) es
each_placed P r [] h = tt
each_placed P r (e ∷ es) h = (h.0, each_placed P r es h.1)

module _ (t : SymbolTable) (full : (x : Name) (s : Symbol) → find x t ≡ Some s → IsFull s) where
  abbrev names : List Entry
  names = map entry t

  -- ---- by terms

  assigned : (l r : Term) → IsRanked (shapes_in names) 0 l → IsRanked (shapes_in names) 0 r → KeepsRanks (shapes_in names) (assignment l r)
  assigned (Scalar k) r h g = g
  assigned (Element a ts) r h g = (h, g)
  assigned (Section a subs) r h g = (h, g)
  assigned l r h g = tt

  masked_more : (line : ℕ) (l r : Term) (rest : List SectionAssignment) → IsRanked (shapes_in names) 0 l → IsRanked (shapes_in names) 0 r →
      AllByRecursion (IsRankedMasked (shapes_in names)) rest → AllByRecursion (IsRankedMasked (shapes_in names)) (to_section line l r ++ rest)
  masked_more line (Section a subs) r rest h g more = ((h, g), more)
  masked_more line l r rest h g more = more

  indexed_more : (n line : ℕ) (l r : Term) (rest : List ElementAssignment) → IsRanked (shapes_in names) n l → IsRanked (shapes_in names) n r →
      AllByRecursion (IsRankedIndexed (shapes_in names) n) rest → AllByRecursion (IsRankedIndexed (shapes_in names) n) (to_element line l r ++ rest)
  indexed_more n line (Element a ts) r rest h g more = ((h, g), more)
  indexed_more n line l r rest h g more = more

  printed : (x : Term) → IsRanked (shapes_in names) 0 x → IsRankedItem (shapes_in names) (item x)
  printed (Section a subs) h = h
  printed x h = h

  unmarked : (b : Block) → BlockKeepsRanks (shapes_in names) b → BlockKeepsRanks (shapes_in names) (with_inner_unmarked b)
  unmarked (Then line (Do mark loop body) Done) h = h
  unmarked b h = h

  looped : (m : Option syntax.Independent) (loop : Loop) (body : Block) → IsRankedControl (shapes_in names) loop.control → BlockKeepsRanks (shapes_in names) body →
      KeepsRanks (shapes_in names) (do_loop names m loop body)
  looped None loop body g more = (g, more)
  looped (Some m) loop body g more = (g, unmarked body more)

  -- ---- by heads

  scalar_ranked : (x : Expression) → IsTyped Statement t x → IsRanked (shapes_in names) 0 (term_of names [] x)
  scalar_ranked x h = ranked t full [] x h

  step_ranked : (s : Option Expression) → AllByRecursion (IsTyped Statement t) (present s) → IsRanked (shapes_in names) 0 (step_of names [] s)
  step_ranked None h = tt
  step_ranked (Some x) h = scalar_ranked x h.0

  control_ranked : (x : syntax.Axis) → AllByRecursion (IsTyped Statement t) (axis_expressions x) → IsRankedControl (shapes_in names) (control_of names [] x)
  control_ranked x h = (scalar_ranked x.first h.0, scalar_ranked x.last h.1.0, step_ranked x.step h.1.1)

  items_ranked : (is : List syntax.Item) → AllByRecursion (IsTyped Statement t) (flat_map item_expressions is) →
      AllByRecursion (IsRankedItem (shapes_in names)) (map (item_of names) is)
  items_ranked [] h = tt
  items_ranked (syntax.Value a ∷ is) h = (printed (term_of names [] a) (scalar_ranked a h.0), items_ranked is h.1)
  items_ranked (syntax.Text bytes ∷ is) h = (tt, items_ranked is h)

  masked_ranked : (xs : List Name) (mask : Expression) (as' : List syntax.Assignment) → AllByRecursion (IsTypedHead t) (masked xs mask as') →
      AllByRecursion (IsRankedMasked (shapes_in names)) (section_assignments names as')
  masked_ranked xs mask [] h = tt
  masked_ranked xs mask (a ∷ as') h =
      let own = h.0.expressions in
      masked_more a.line (left_of names [] a.left) (term_of names [] a.right) (section_assignments names as') (scalar_ranked (designator a.left) own.0)
      (scalar_ranked a.right own.1.0) (masked_ranked xs mask as' h.1)

  controls_ranked : (axes : List syntax.Axis) → AllByRecursion (IsTyped Statement t) (flat_map axis_expressions axes) →
      AllByRecursion (IsRankedControl (shapes_in names)) (map (control_of names []) axes)
  controls_ranked [] h = tt
  controls_ranked (x ∷ axes) h =
      let s = all_split (IsTyped Statement t) (axis_expressions x) (flat_map axis_expressions axes) h in (control_ranked x s.0, controls_ranked axes s.1)

  mask_ranked : (indices : List Name) (m : Option Expression) → AllByRecursion (IsTyped Statement t) (present m) →
      IsRankedMask (shapes_in names) (length indices) (option_map (term_of names indices) m)
  mask_ranked indices None h = tt
  mask_ranked indices (Some x) h = ranked t full indices x h.0

  indexed_ranked : (xs : List Name) (axes : List syntax.Axis) (as' : List syntax.Assignment) → AllByRecursion (IsTypedHead t) (indexed xs axes as') →
      AllByRecursion (IsRankedIndexed (shapes_in names) (length (indices_of axes))) (element_assignments names (indices_of axes) as')
  indexed_ranked xs axes [] h = tt
  indexed_ranked xs axes (a ∷ as') h =
      let own = h.0.expressions in
      indexed_more (length (indices_of axes)) a.line (left_of names (indices_of axes) a.left) (term_of names (indices_of axes) a.right)
      (element_assignments names (indices_of axes) as') (ranked t full (indices_of axes) (designator a.left) own.0)
      (ranked t full (indices_of axes) a.right own.1.0) (indexed_ranked xs axes as' h.1)

  forall_ranked : (xs : List Name) (line : ℕ) (axes : List syntax.Axis) (m : Option Expression) (body : List syntax.Assignment) →
      IsTypedHead t (placed xs line (head.Forall axes m)) → AllByRecursion (IsTypedHead t) (indexed xs axes body) → KeepsRanks (shapes_in names) (resolved names (syntax.Forall axes m body))
  forall_ranked xs line axes m body h more =
      let es : List Expression = flat_map axis_expressions axes in
      let s = all_split (λ p. IsPlaced Statement t p.requirement p.expression) (map (place IntegerScalar) es) (map (place LogicalScalar) (present m)) h.expressions in
      let same : length (indices_of axes) ≡ length (map (control_of names []) axes) = length-map axes (λ x. x.index) ∙ sym (length-map axes (control_of names [])) in (
        subst (λ k. k ≤ MAX_INDICES) same h.few,
        controls_ranked axes (each_placed (IsPlaced Statement t) IntegerScalar es s.0),
        subst (λ k. IsRankedMask (shapes_in names) k (option_map (term_of names (indices_of axes)) m)) same
            (mask_ranked (indices_of axes) m (each_placed (IsPlaced Statement t) LogicalScalar (present m) s.1)),
        subst (λ k. AllByRecursion (IsRankedIndexed (shapes_in names) k) (element_assignments names (indices_of axes) body)) same (indexed_ranked xs axes body more),
      )

  shift_ranked : (how : Transformation) → IsShift t how → IsRankedTransformation (shapes_in names) how
  shift_ranked (CircularShift by) (ByScalar x h) = scalar_ranked x (typed_value is_integer_scalar (type_and_rank Statement t x) h)
  shift_ranked Transposition shift = tt
  shift_ranked PrefixSum shift = tt

  assigned_or : (left : syntax.Variable) (right : Expression) → IsTyped Statement t (designator left) → IsPlaced Statement t (AssignedTo (designator left)) right →
      KeepsRanks (shapes_in names) (resolved names (syntax.Assign left right))
  assigned_or left right h (inl typed) =
      subst (λ o. KeepsRanks (shapes_in names) (transform_or names (designator left) o (assignment (left_of names [] left) (term_of names [] right))))
      (sym (untransformed t right typed))
      (assigned (left_of names [] left) (term_of names [] right) (scalar_ranked (designator left) h) (scalar_ranked right typed))
  assigned_or left right h (inr moved) =
      transformed t full (KeepsRanks (shapes_in names)) (designator left) (assignment (left_of names [] left) (term_of names [] right))
      (λ x y how ranks shift. (ranks, shift_ranked how shift)) right moved

  mutual
    pub block_ranked : (xs : List Name) (b : syntax.Block) → AllByRecursion (IsTypedHead t) (heads xs b) → BlockKeepsRanks (shapes_in names) (resolved_block names b)
    block_ranked xs syntax.Done h = tt
    block_ranked xs (syntax.Then line s b) h =
        let parts = all_split (IsTypedHead t) (statement_heads xs line s) (heads xs b) h in (statement_ranked xs line s parts.0, block_ranked xs b parts.1)

    statement_ranked : (xs : List Name) (line : ℕ) (s : syntax.Statement) → AllByRecursion (IsTypedHead t) (statement_heads xs line s) → KeepsRanks (shapes_in names) (resolved names s)
    statement_ranked xs line (syntax.Assign left right) h =
        let own = h.0.expressions in
        assigned_or left right own.0 own.1.0
    statement_ranked xs line (syntax.If arms rest) h =
        let parts = all_split (IsTypedHead t) (arm_heads xs arms) (else_heads xs rest) h in (arms_ranked xs arms parts.0, else_ranked xs rest parts.1)
    statement_ranked xs line (syntax.Do mark axis b) h =
        let parts = all_split (IsTypedHead t) (independent_heads xs mark) (placed xs line (head.Do mark axis) ∷ heads (xs ++ axis.index ∷ []) b) h in
        let own = each_placed (IsPlaced Statement t) IntegerScalar (axis_expressions axis) parts.1.0.expressions in
        looped mark (loop_of names axis) (resolved_block names b) (control_ranked axis own) (block_ranked (xs ++ axis.index ∷ []) b parts.1.1)
    statement_ranked xs line (syntax.Where mask body others) h =
        let parts = all_split (IsTypedHead t) (masked xs mask body) (masked xs mask others) h.1 in
        (scalar_ranked mask h.0.expressions.0, masked_ranked xs mask body parts.0, masked_ranked xs mask others parts.1)
    statement_ranked xs line (syntax.Forall axes m body) h = forall_ranked xs line axes m body h.0 h.1
    statement_ranked xs line (syntax.Print is) h = items_ranked is (each_placed (IsPlaced Statement t) PrintItem (flat_map item_expressions is) h.0.expressions)
    statement_ranked xs line (syntax.Redistribute d) h = tt
    statement_ranked xs line syntax.Continue h = tt
    statement_ranked xs line syntax.Stop h = tt
    statement_ranked xs line syntax.Exit h = tt
    statement_ranked xs line syntax.Cycle h = tt

    arms_ranked : (xs : List Name) (arms : syntax.Arms) → AllByRecursion (IsTypedHead t) (arm_heads xs arms) → ArmsKeepRanks (shapes_in names) (resolved_arms names arms)
    arms_ranked xs syntax.NoArm h = tt
    arms_ranked xs (syntax.Arm line cond b arms) h =
        let parts = all_split (IsTypedHead t) (heads xs b) (arm_heads xs arms) h.1 in
        (scalar_ranked cond h.0.expressions.0, block_ranked xs b parts.0, arms_ranked xs arms parts.1)

    else_ranked : (xs : List Name) (rest : syntax.Otherwise) → AllByRecursion (IsTypedHead t) (else_heads xs rest) →
        BlockKeepsRanks (shapes_in names) (resolved_otherwise names rest)
    else_ranked xs syntax.Without h = tt
    else_ranked xs (syntax.With b) h = block_ranked xs b h
