-- A nest that breaks no rule is one by its form.
use Rattle.std.proofs.Common.{◌≡◌, ℕ, suc, ◌≤◌, length, ⊎_elim, nat_eq, Bool, true, false, true≢false, List, [], ◌∷◌, ◌++◌, map, position, bytes_eq, Option, Some, None, refl, sym, ap, ap₂, ◌∙◌, subst, append_assoc}
use Rattle.std.specs.Prelude.{◌&&◌, ◌||◌, not, is_some, option_map, option_and_then, slice_get}
use Rattle.std.specs.List.{AllByRecursion, flat_map, list_all}
use Rattle.std.proofs.lemmas.List.{length-map}
use Rattle.std.proofs.lemmas.List.Folds.{list_any-append}
use Rattle.std.proofs.lemmas.Option.{slice_get_cases}
use Rattle.name_table.specs.declared.limits.TheConstants.{MAX_INDICES}
use Rattle.hpf_base.specs.declared.refusal.Reason.TheVariants as reason
use Rattle.syntax_tree.specs.Expression.{Expression}
use Rattle.syntax_tree.specs.Statement as syntax
use Rattle.syntax_tree.specs.Statement.{Axis, Independent}
use Rattle.expression_rules.specs.Inner.{present}
use Rattle.expression_rules.specs.Symbols.{Name, is_among}
use Rattle.statement_walk.specs.Heads.{heads, statement_heads, all_heads}
use Rattle.statement_walk.specs.Nests.{Loop as NamedLoop, Nest as NamedNest, nest_in}
use Rattle.declarations.specs.Reasons.{at}
use Rattle.name_table.specs.Entries.{declared_as}
use Rattle.name_table.specs.NameRules as name_rules
use Rattle.name_table.specs.declared.names.Entry.{Entry}
use Rattle.body_forms.specs.Names.{is_scalar}
use Rattle.nest_check.specs.NestNames.{NestNames, all_added, distinct, do_variable_of, scalar_assigned, inner_heads}
use Rattle.nest_check.specs.NestRules.{is_well_listed, are_well_listed, is_step, is_inner_axis, list_breaches, axis_breaches, inner_loop_breaches, loop_breaches, body_part_breaches, nest_breaches, nest_breaches_at, path_breaches_at}
use Rattle.nest_check.specs.Paths.{reached_heads}
use Rattle.nest_syntax.specs.NestKinds.{Kind, has_copies, kind_of}
use Rattle.array_meaning.specs.Statements.{Block, Do}
use Rattle.array_meaning.specs.Resolution.{control_of, place_of, term_of, loop_of, with_inner_unmarked, resolved_block}
use Rattle.fitting_states.specs.FittingStates.{ControlFits, BlockFits}
use Rattle.name_table.proofs.Tests.{all_split, both, empties, fails, holds, no_reason}
use Rattle.array_meaning.specs.Iterations.{is_in}
use Rattle.nest_items.specs.Standing.{AreKinds}
use Rattle.nest_items.specs.Paths.{PathsAssign}
use Rattle.nest_items.specs.NestForm.{IsStep, IsNest, TextsKeep}
use Rattle.nest_standing.specs.Named.{Declared, AreDeclared, IsScalar, IsNamed}
use Rattle.nest_standing.specs.KeptNests.{nest_of, names_of, StepsAre, FitsNest, IsKeptNest}
use Rattle.nest_items.proofs.NameKinds.{copies_of_kind, kinds_are}
use Rattle.nest_standing.proofs.PlacesOf.{among_is, same_name}
use Rattle.nest_standing.proofs.Ties.{among_all, added_declared, operators_of_nest, tied}
use Rattle.nest_standing.proofs.Exprs.{or_left, or_right}
use Rattle.nest_standing.proofs.Gathers.{all_join, all_first, block_gives, quiet_places, meets, gathered, numbers_joined}
use Rattle.nest_standing.proofs.Accepted.{kept_all, reached_all, axes_all}
use Rattle.nest_standing.proofs.Marked.{marked}
use Rattle.nest_standing.proofs.Texts.{texts_keep}
use Rattle.nest_standing.proofs.Loops.{IsInnerLoop, nest_keeps, nest_paths}

-- ---- lists

scalar_declared : (n : NestNames) (x : Name) → is_scalar (declared_as n.declared x) ≡ true → Declared n.declared x
scalar_declared n x h = by (position (λ (e : Entry). bytes_eq x e.name) n.declared) h
  where
    by : (o : Option ℕ) → is_scalar (option_map (λ (e : Entry). e.what) (option_and_then (slice_get n.declared) o)) ≡ true → is_some o ≡ true
    by None g = absurd (true≢false (sym g))
    by (Some k) g = refl

listed_declared : (n : NestNames) (new reduction xs : List Name) → list_all (is_well_listed n new reduction) xs ≡ true → AreDeclared n.declared xs
listed_declared n new reduction [] h = tt
listed_declared n new reduction (x ∷ xs) h =
    let s = both (is_well_listed n new reduction x) (list_all (is_well_listed n new reduction) xs) h in
    (scalar_declared n x (both (is_scalar (declared_as n.declared x)) (not (is_among x new && is_among x reduction)) s.0).0, listed_declared n new reduction xs s.1)

abbrev IsListedWell : NestNames → Independent → Type 0
IsListedWell n m = AreDeclared n.declared m.new × AreDeclared n.declared m.reduction

well_listed : (n : NestNames) (m : Independent) → list_breaches n m ≡ [] → IsListedWell n m
well_listed n m h =
    let new : List Name = all_added n.new_names m.new in
    let red : List Name = all_added n.reduction_names m.reduction in
    let r = holds (are_well_listed n m) (fails _ reason.BadIndependent (no_reason m.line _ h)) in
    let s = both (list_all (is_well_listed n new red) m.new && list_all (is_well_listed n new red) m.reduction) (list_all (λ x. not (is_among x n.indices)) m.reduction) r in
    let q = both (list_all (is_well_listed n new red) m.new) (list_all (is_well_listed n new red) m.reduction) s.0 in
    (listed_declared n new red m.new q.0, listed_declared n new red m.reduction q.1)

all_listed : (n : NestNames) (ls : List NamedLoop) → flat_map (inner_loop_breaches n) ls ≡ [] → AllByRecursion (λ l. IsListedWell n l.mark) ls
all_listed n [] h = tt
all_listed n (l ∷ ls) h =
    let s = empties (inner_loop_breaches n l) (flat_map (inner_loop_breaches n) ls) h in
    (well_listed n l.mark (empties (list_breaches n l.mark) (axis_breaches n l.line l.axis) s.0).0, all_listed n ls s.1)

lists_in : (names : List Entry) (f : NamedLoop → List Name) (x : Name) (ls : List NamedLoop) → Declared names x → AllByRecursion (λ l. AreDeclared names (f l)) ls
    → is_in (place_of names x) (flat_map (λ l. map (place_of names) (f l)) ls) ≡ is_among x (flat_map f ls)
lists_in names f x [] d h = refl
lists_in names f x (l ∷ ls) d h =
    list_any-append (nat_eq (place_of names x)) (map (place_of names) (f l)) (flat_map (λ l. map (place_of names) (f l)) ls)
    ∙ ap₂ (λ a b. a || b) (among_is names x (f l) d h.0) (lists_in names f x ls d h.1) ∙ sym (list_any-append (bytes_eq x) (f l) (flat_map f ls))

all_map : {A : Type 0} (P Q : A → Type 0) → ((x : A) → P x → Q x) → (xs : List A) → AllByRecursion P xs → AllByRecursion Q xs
all_map P Q f [] h = tt
all_map P Q f (x ∷ xs) h = (f x h.0, all_map P Q f xs h.1)

-- ---- the statements of the body

-- the indices round the innermost body
pub record Inmost (n : NestNames) (done : List Name) (b : syntax.Block) : Type 0 where
  pub round : List Name
  pub has : (x : Name) → is_among x (done ++ map (λ l. l.axis.index) (nest_in b).loops) ≡ true → is_among x round ≡ true
  pub named : AllByRecursion (IsNamed n.declared) (heads round (nest_in b).body)
  pub scalars : AllByRecursion (IsScalar n.declared) (map (λ l. l.axis.index) (nest_in b).loops)

or_nothing : (b : Bool) → (b || false) ≡ b
or_nothing true = refl
or_nothing false = refl

module _ (n : NestNames) where
  here : (done ys : List Name) (b : syntax.Block) → ((x : Name) → is_among x done ≡ true → is_among x ys ≡ true) → (nest_in b).loops ≡ [] → (nest_in b).body ≡ b
      → AllByRecursion (IsNamed n.declared) (heads ys b) → Inmost n done b
  here done ys b within none same named = record {
    round = ys;
    has = λ x h. within x (sym (list_any-append (bytes_eq x) done [] ∙ or_nothing (is_among x done)) ∙ ap (λ ls. is_among x (done ++ map (λ l. l.axis.index) ls)) (sym none) ∙ h);
    named = subst (λ q. AllByRecursion (IsNamed n.declared) (heads ys q)) (sym same) named;
    scalars = subst (λ ls. AllByRecursion (IsScalar n.declared) (map (λ l. l.axis.index) ls)) (sym none) tt;
  }

  inmost : (done ys : List Name) (b : syntax.Block) → ((x : Name) → is_among x done ≡ true → is_among x ys ≡ true) → AllByRecursion (IsNamed n.declared) (heads ys b) → Inmost n done b
  inmost done ys (syntax.Then line (syntax.Do (Some m) axis b) syntax.Done) within named =
      let parts = (all_split (IsNamed n.declared) (statement_heads ys line (syntax.Do (Some m) axis b)) [] named).0 in
      let i : Name = axis.index in
      let h = inmost (done ++ i ∷ []) (ys ++ i ∷ []) b (λ x f. list_any-append (bytes_eq x) ys (i ∷ [])
      ∙ more (is_among x done) (bytes_eq x i || false) (is_among x ys) (within x) (sym (list_any-append (bytes_eq x) done (i ∷ [])) ∙ f)) parts.1.1 in
      record {
        round = h.round;
        has = λ x f. h.has x (list_any-append (bytes_eq x) (done ++ i ∷ []) (map (λ l. l.axis.index) (nest_in b).loops)
            ∙ ap (λ q. q || is_among x (map (λ l. l.axis.index) (nest_in b).loops)) (list_any-append (bytes_eq x) done (i ∷ []))
            ∙ shift (is_among x done) (bytes_eq x i) (is_among x (map (λ l. l.axis.index) (nest_in b).loops))
            ∙ sym (list_any-append (bytes_eq x) done (i ∷ map (λ l. l.axis.index) (nest_in b).loops)) ∙ f);
        named = h.named;
        scalars = (parts.1.0.uses.0.0, h.scalars);
      }
    where
      more : (d b y : Bool) → (d ≡ true → y ≡ true) → (d || b) ≡ true → (y || b) ≡ true
      more true b true f g = refl
      more true b false f g = absurd (true≢false (sym (f refl)))
      more false b true f g = refl
      more false b false f g = g

      shift : (d b r : Bool) → ((d || (b || false)) || r) ≡ (d || (b || r))
      shift true b r = refl
      shift false true r = refl
      shift false false r = refl
  inmost done ys (syntax.Then line (syntax.Do (Some m') axis' b) (syntax.Then k s rest)) within named = here done ys _ within refl refl named
  inmost done ys (syntax.Then line (syntax.Do None axis' b) syntax.Done) within named = here done ys _ within refl refl named
  inmost done ys (syntax.Then line (syntax.Do None axis' b) (syntax.Then k s rest)) within named = here done ys _ within refl refl named
  inmost done ys syntax.Done within named = here done ys syntax.Done within refl refl named
  inmost done ys (syntax.Then line (syntax.Assign left right) rest) within named = here done ys (syntax.Then line (syntax.Assign left right) rest) within refl refl named
  inmost done ys (syntax.Then line (syntax.If arms other) rest) within named = here done ys (syntax.Then line (syntax.If arms other) rest) within refl refl named
  inmost done ys (syntax.Then line (syntax.Where mask body others) rest) within named = here done ys (syntax.Then line (syntax.Where mask body others) rest) within refl refl named
  inmost done ys (syntax.Then line (syntax.Forall axes mask body) rest) within named = here done ys (syntax.Then line (syntax.Forall axes mask body) rest) within refl refl named
  inmost done ys (syntax.Then line (syntax.Print is) rest) within named = here done ys (syntax.Then line (syntax.Print is) rest) within refl refl named
  inmost done ys (syntax.Then line syntax.Stop rest) within named = here done ys (syntax.Then line syntax.Stop rest) within refl refl named
  inmost done ys (syntax.Then line syntax.Exit rest) within named = here done ys (syntax.Then line syntax.Exit rest) within refl refl named
  inmost done ys (syntax.Then line syntax.Cycle rest) within named = here done ys (syntax.Then line syntax.Cycle rest) within refl refl named
  inmost done ys (syntax.Then line syntax.Continue rest) within named = here done ys (syntax.Then line syntax.Continue rest) within refl refl named
  inmost done ys (syntax.Then line (syntax.Redistribute d) rest) within named = here done ys (syntax.Then line (syntax.Redistribute d) rest) within refl refl named

first_index : (x : Name) (is ds : List Name) → is_among x (distinct ((x ∷ is) ++ ds)) ≡ true
first_index x is ds = among_all x [] ((x ∷ is) ++ ds) ∙ or_left (bytes_eq x x) (is_among x (is ++ ds)) (same_name x)

-- each index of a loop is among those of the nest
all_among : (n : NestNames) (done : List Name) (ls : List NamedLoop) (ds : List Name) → n.indices ≡ distinct ((done ++ map (λ l. l.axis.index) ls) ++ ds)
    → AllByRecursion (λ l. is_among l.axis.index n.indices ≡ true) ls
all_among n done [] ds h = tt
all_among n done (l ∷ ls) ds h = (
  ap (is_among l.axis.index) h ∙ among_all l.axis.index [] ((done ++ l.axis.index ∷ map (λ l. l.axis.index) ls) ++ ds)
      ∙ list_any-append (bytes_eq l.axis.index) (done ++ l.axis.index ∷ map (λ l. l.axis.index) ls) ds
      ∙ or_left (is_among l.axis.index (done ++ l.axis.index ∷ map (λ l. l.axis.index) ls)) (is_among l.axis.index ds)
      (list_any-append (bytes_eq l.axis.index) done (l.axis.index ∷ map (λ l. l.axis.index) ls)
      ∙ or_right (is_among l.axis.index done) (bytes_eq l.axis.index l.axis.index || is_among l.axis.index (map (λ l. l.axis.index) ls))
      (or_left (bytes_eq l.axis.index l.axis.index) (is_among l.axis.index (map (λ l. l.axis.index) ls)) (same_name l.axis.index))),
  all_among n (done ++ l.axis.index ∷ []) ls ds (h ∙ ap (λ q. distinct (q ++ ds)) (sym (append_assoc done (l.axis.index ∷ []) (map (λ l. l.axis.index) ls)))),
)

pub loops_good : (n : NestNames) (is : List Name) (ls : List NamedLoop) → AllByRecursion (λ l. is_inner_axis n l.axis ≡ true) ls → AllByRecursion (λ l. is_among l.axis.index n.indices ≡ true) ls
    → AllByRecursion (λ l. ControlFits (control_of n.declared [] l.axis)) ls → AllByRecursion (λ l. IsInnerLoop n l.axis) ls
loops_good n is [] a g f = tt
loops_good n is (l ∷ ls) a g f = (record { rules = a.0; gathered = g.0; fit = f.0 }, loops_good n is ls a.1 g.1 f.1)

-- a nest without a loop too many
few_loops : (t : NamedNest) → name_rules.nest_breaches t ≡ [] → length t.loops ≤ MAX_INDICES
few_loops t none = ⊎_elim (λ h. absurd (too_many h.0 (ap (λ o. flat_map (λ l. at l.line (reason.Limit ∷ [])) (present o)) (sym h.2) ∙ none))) (λ h. h.0) (slice_get_cases t.loops MAX_INDICES).1
  where
    too_many : (l : NamedLoop) → flat_map (λ l. at l.line (reason.Limit ∷ [])) (l ∷ []) ≡ [] → ⊥
    too_many l h = cc

-- ---- the whole

-- the names, the kinds and the indices of a nest
abbrev pub kinds_of : List Entry → ℕ → Independent → Axis → syntax.Block → ℕ → Kind
kinds_of es line m axis b = kind_of (operators_of_nest (names_of es line m axis b)) (marked es m axis b).nest (resolved_block es (nest_in b).body)

abbrev pub indices_of_nest : List Entry → ℕ → Independent → Axis → syntax.Block → ℕ → Bool
indices_of_nest es line m axis b k = is_in k (map (place_of es) (names_of es line m axis b).indices)

pub record Stands (es : List Entry) (line : ℕ) (m : Independent) (axis : Axis) (b : syntax.Block) : Type 0 where
  pub nest : IsNest (kinds_of es line m axis b) (indices_of_nest es line m axis b) (marked es m axis b).nest (loop_of es axis) (with_inner_unmarked (resolved_block es b))
      (resolved_block es (nest_in b).body)
  pub kinds : AreKinds (kinds_of es line m axis b) (marked es m axis b).nest (resolved_block es (nest_in b).body)
  pub paths : PathsAssign (kinds_of es line m axis b) (λ k. false) (resolved_block es (nest_in b).body)
  pub texts : TextsKeep (indices_of_nest es line m axis b) (resolved_block es (nest_in b).body)

pub nest_by_rules : (es : List Entry) (ys : List Name) (line : ℕ) (m : Independent) (axis : Axis) (b : syntax.Block)
    → nest_breaches es (nest_of line m axis b) ≡ [] → IsScalar es axis.index → AllByRecursion (IsNamed es) (heads (ys ++ axis.index ∷ []) b)
    → ((x : Expression) → is_step (names_of es line m axis b) x ≡ true → IsStep (term_of es [] x))
    → AllByRecursion (λ l. ControlFits (control_of es [] l.axis)) (nest_in b).loops → BlockFits (resolved_block es (nest_in b).body)
    → Stands es line m axis b
nest_by_rules es ys line m axis b none index_scalar named step_is loops_fit fit =
    let t : NamedNest = nest_of line m axis b in
    let n : NestNames = names_of es line m axis b in
    let is : List Name = map (λ l. l.axis.index) (nest_in b).loops in
    let h = marked es m axis b in
    let body : Block = resolved_block es (nest_in b).body in
    let ks : ℕ → Kind = kinds_of es line m axis b in
    let parts = empties (loop_breaches n t.loops) (body_part_breaches n t.body) none in
    let outer = empties (list_breaches n m) (flat_map (inner_loop_breaches n) (nest_in b).loops) parts.0 in
    let inside = empties (flat_map (nest_breaches_at n) (all_heads t.body)) (flat_map (path_breaches_at n) (reached_heads false [] t.body)) parts.1 in
    let kept = kept_all n (all_heads t.body) inside.0 in
    let reach = reached_all n (reached_heads false [] t.body) inside.1 in
    let own = well_listed n m outer.0 in
    let lists = all_listed n (nest_in b).loops outer.1 in
    let i = inmost n (axis.index ∷ []) (ys ++ axis.index ∷ []) b (λ x f. list_any-append (bytes_eq x) ys (axis.index ∷ []) ∙ or_right (is_among x ys) _ f) named in
    let gives = block_gives n [] i.round (λ x f. i.has x (sym (or_nothing (is_among x n.loops)) ∙ f)) t.body i.named kept in
    let scalars = all_join (IsScalar es) (axis.index ∷ is) (flat_map do_variable_of (inner_heads t.body)) (index_scalar, i.scalars) gives.indices in
    let met = meets es t h.nest body gives scalars
    (λ x d. h.reduction (place_of es x) ∙ ap₂ (λ a c. a || c) (among_is es x m.reduction d own.1)
    (lists_in es (λ l. l.mark.reduction) x (nest_in b).loops d (all_map (λ l. IsListedWell n l.mark) (λ l. AreDeclared es l.mark.reduction) (λ l q. q.1) (nest_in b).loops lists))
    ∙ sym (list_any-append (bytes_eq x) m.reduction (flat_map (λ l. l.mark.reduction) (nest_in b).loops)) ∙ sym (among_all x [] (flat_map (λ l. l.mark.reduction) t.loops)))
    (λ x d. h.new (place_of es x) ∙ ap₂ (λ a c. a || c) (among_is es x m.new d own.0)
    (lists_in es (λ l. l.mark.new) x (nest_in b).loops d (all_map (λ l. IsListedWell n l.mark) (λ l. AreDeclared es l.mark.new) (λ l q. q.0) (nest_in b).loops lists))
    ∙ sym (list_any-append (bytes_eq x) m.new (flat_map (λ l. l.mark.new) (nest_in b).loops)) ∙ sym (among_all x [] (flat_map (λ l. l.mark.new) t.loops))) in
    let ties = tied n h.nest body met in
    let all_declared : AreDeclared es n.indices =
    added_declared es [] ((axis.index ∷ is) ++ flat_map do_variable_of (inner_heads t.body)) tt
    (all_first (Declared es) (λ x. is_scalar (declared_as es x) ≡ true) ((axis.index ∷ is) ++ flat_map do_variable_of (inner_heads t.body)) scalars) in
    let all_is : (x : Name) → Declared es x → is_in (place_of es x) (map (place_of es) n.indices) ≡ is_among x n.indices = λ x d. among_is es x n.indices d all_declared in
    let quiet : (k : ℕ) → has_copies (ks k) ≡ true → indices_of_nest es line m axis b k ≡ false = λ k c.
    quiet_places es n.indices (flat_map scalar_assigned (inner_heads t.body)) k all_declared gives.quiet
    (ap (is_in k) (sym gives.places) ∙ sym (copies_of_kind (operators_of_nest n) h.nest body k) ∙ c) in
    let nest = nest_keeps n ks ties step_is (indices_of_nest es line m axis b) all_is ys axis b h.nest refl h.loops index_scalar.0
    (first_index axis.index is (flat_map do_variable_of (inner_heads t.body))) quiet named
    (loops_good n is (nest_in b).loops (axes_all n (nest_in b).loops outer.1) (all_among n (axis.index ∷ []) (nest_in b).loops (flat_map do_variable_of (inner_heads t.body)) refl) loops_fit)
    kept reach (gathered es t) fit in
    record {
      nest = nest;
      kinds = kinds_are (operators_of_nest n) (indices_of_nest es line m axis b) h.nest (loop_of es axis) (with_inner_unmarked (resolved_block es b)) body (numbers_joined es t) nest;
      paths = nest_paths n ks ties step_is (indices_of_nest es line m axis b) all_is i.round t.body i.named kept reach;
      texts = texts_keep n ties.scalars (indices_of_nest es line m axis b) (λ x d f. all_is x d ∙ f) [] i.round t.body i.named kept fit;
    }

pub kept_nest : (es : List Entry) (ys : List Name) (line : ℕ) (m : Independent) (axis : Axis) (b : syntax.Block)
    → name_rules.nest_breaches (nest_of line m axis b) ≡ [] → nest_breaches es (nest_of line m axis b) ≡ [] → IsScalar es axis.index
    → AllByRecursion (IsNamed es) (heads (ys ++ axis.index ∷ []) b) → StepsAre es → FitsNest es b → IsKeptNest es m axis b
kept_nest es ys line m axis b few none scalar named step_is fit =
    let h = nest_by_rules es ys line m axis b none scalar named step_is fit.loops fit.body in
    let whole = marked es m axis b in
    record {
      nest = whole.nest;
      is = ap (λ q. Do q (loop_of es axis) (with_inner_unmarked (resolved_block es b))) whole.is;
      form = record {
        operators = operators_of_nest (names_of es line m axis b);
        all = indices_of_nest es line m axis b;
        form = h.nest;
        kinds = h.kinds;
        paths = h.paths;
        texts = h.texts;
        few = subst (λ k. k ≤ MAX_INDICES) (ap suc (sym (length-map (nest_in b).loops (λ l. loop_of es l.axis))) ∙ ap length (sym whole.loops)) (few_loops (nest_of line m axis b) few);
      };
    }
