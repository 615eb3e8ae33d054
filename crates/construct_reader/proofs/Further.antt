-- A program, one line further.
use Rattle.std.proofs.Common.{◌≡◌, ℕ, Bool, true, false, not, ◌||◌, List, [], ◌∷◌, ◌++◌, map, Option, Some, None, is_some, refl, sym, ap, ◌∙◌, subst, append_assoc, append-nil, inl, inr, Global}
use Rattle.std.specs.Prelude.{if◌then◌else◌, ◌⊎◌, Vec, IfSome, max, option_map}
use Rattle.std.proofs.lemmas.Bool.{both_ways}
use Rattle.std.proofs.Math.Bool.{or-false, or-true}
use Rattle.hpf_base.specs.Refusal.{NoBreach}
use Rattle.hpf_base.specs.declared.refusal.Reason.TheVariants as reason
use Rattle.statement_reader.specs.declared.kind.Kind.TheVariants as kind
use Rattle.statement_reader.specs.Forms as statements
use Rattle.syntax_tree.specs.declared.decl.Decl.{Decl}
use Rattle.syntax_tree.specs.declared.decl.DeclKind.{DeclKind}
use Rattle.syntax_tree.specs.declared.decl.DeclKind.TheVariants as declared
use Rattle.syntax_tree.specs.declared.decl.EndForm.{EndForm}
use Rattle.syntax_tree.specs.declared.decl.Tree.{Tree}
use Rattle.syntax_tree.specs.declared.directive.Directive.TheVariants as mapping
use Rattle.syntax_tree.specs.declared.stmt.Stmt.{Stmt}
use Rattle.construct_rules.specs.declared.role.Role.{Role}
use Rattle.construct_rules.specs.declared.role.Role.TheVariants as role
use Rattle.construct_rules.specs.Breaches.{IsNestBreach, roles}
use Rattle.construct_rules.specs.Rules.{declaration_comes, is_misdirected, is_misplaced, closes_wrongly}
use Rattle.construct_rules.specs.ProgramLine.{ProgramLine}
use Rattle.construct_rules.specs.Roles.{role_of}
use Rattle.construct_rules.specs.NestState.{Open, NestState, state_at_start, is_end, is_passed, is_statement, opens_after, state_after}
use Rattle.construct_reader.specs.declared.draft.Draft.{Draft}
use Rattle.construct_reader.specs.declared.draft.Open.{Open as HeldOpen}
use Rattle.construct_reader.specs.declared.progress.Progress.{Progress}
use Rattle.construct_reader.specs.Views.{spelled_block, declaration_line, spelled_end, spelled_independent, spelled_program}
use Rattle.construct_reader.specs.Formed.{AreDeclared, IsBlock, IsProgram}
use Rattle.construct_reader.specs.ProgramLines.{AreEntriesOf, IsSpelled, block_lines, end_line, from_name, is_declared, is_program, kept_after_name, kept_lines, independent_lines, name_lines, numbered, program_lines, without_passed}
use Rattle.construct_reader.specs.Draft.{AreOpen, IsAfter, Takes, draft_lines, end_lines, is_inner, opens_lines, shape, status}
use Rattle.construct_reader.specs.Progress.{IsMarked, IsPhase, Before, Among, Over, IsProgress, front_lines}
use Rattle.construct_reader.specs.NextLine.{statement_line}
use Rattle.construct_reader.proofs.Lists.{are_push}
use Rattle.construct_reader.proofs.Kept.{are_after, declared_after, freed, going, in_time, inner_after, inner_declared, inner_passed, inner_program, kept_without, marked_after, marked_here, marked_next, not_misdirected, not_misplaced, other_name, passed_from, passed_name, passed_without, placed, stated_next}

-- PROGRAM
module _ (ls : List ProgramLine) (last n : ℕ) (x : List ℕ) (rest : List ProgramLine) (v w : Vec Decl Global) (o : Option (List ℕ)) (draft : Draft)
    (over : Bool) (empty : w.items ≡ []) where
  abbrev named_line : ProgramLine
  named_line = statement_line n (statements.Plain kind.Program x)

  abbrev before_name : Progress
  before_name = record { name = o; decls = v; draft = draft; over = over }

  abbrev after_name : Progress
  after_name = record { name = Some x; decls = w; draft = draft; over = over }

  first_lines : draft_lines draft ≡ [] → AreEntriesOf (front_lines after_name ++ draft_lines draft) (named_line ∷ [])
  first_lines e =
      subst (λ es. AreEntriesOf ((name_lines (Some x) ++ map numbered (map declaration_line w.items)) ++ es) (named_line ∷ [])) (sym e)
      (subst (λ ds. AreEntriesOf ((name_lines (Some x) ++ map numbered (map declaration_line ds)) ++ []) (named_line ∷ [])) (sym empty)
      ((refl, tt), tt))

  pub named_progress : IsProgress ls last before_name (named_line ∷ rest) → IsProgress ls last after_name rest
  named_progress p = by_phase p.phase
    where
      free : is_misplaced p.state role.Program ≡ false
      free = not_misplaced p.state last named_line rest p.free

      begun : p.state.begun ≡ false
      begun = in_time p.state role.Program free

      moved : draft_lines draft ≡ [] → kept_lines ls ≡ named_line ∷ kept_after_name rest → over ≡ false → IsProgress ls last after_name rest
      moved e k o = record {
        state = state_after p.state role.Program;
        free = freed p.state last named_line rest p.free;
        opens = p.opens;
        ended = or-false p.state.ended ∙ p.ended;
        marks = marked_after (status draft).pending role.Program (roles rest) refl p.marks;
        sound = p.sound;
        declared = subst (λ ds. AreDeclared (map declaration_line ds)) (sym empty) tt;
        kept = named_line ∷ [];
        lines = first_lines e;
        phase = Among o (or-true p.state.begun) e k;
      }

      by_phase : IsPhase p.state before_name ls (named_line ∷ rest) p.kept → IsProgress ls last after_name rest
      by_phase (Before o b name e k) = moved e k o
      by_phase (Among o b e k) = absurd (both_ways p.state.begun begun b)
      by_phase (Over o b d k) = absurd (both_ways p.state.begun begun b)

-- the role of a declaration
decl_declared : (d : Decl) → is_declared (role_of (declaration_line d).what) ≡ true
decl_declared d = by_what d.what
  where
    by_what : (k : DeclKind) → is_declared (role_of (declaration_line record { line = d.line; what = k }).what) ≡ true
    by_what declared.ImplicitNone = refl
    by_what (declared.Integer d) = refl
    by_what (declared.Parameter cs) = refl
    by_what (declared.Directive (mapping.Processors es)) = refl
    by_what (declared.Directive (mapping.Template es)) = refl
    by_what (declared.Directive (mapping.Dynamic names)) = refl
    by_what (declared.Directive (mapping.Distribute d)) = refl
    by_what (declared.Directive (mapping.Align a)) = refl
    by_what (declared.Directive mapping.Passed) = refl

passed_or_not : (r : Role) → is_declared r ≡ true → (r ≡ role.Passed) ⊎ ((is_passed r ≡ false) × (is_program r ≡ false))
passed_or_not role.Passed h = inl refl
passed_or_not role.Declaration h = inr (refl, refl)
passed_or_not role.SpecificationDirective h = inr (refl, refl)
passed_or_not r h = absurd cc

declared_opens : (r : Role) (os : List Open) → is_declared r ≡ true → opens_after r os ≡ os
declared_opens role.Passed os h = refl
declared_opens role.Declaration os h = refl
declared_opens role.SpecificationDirective os h = refl
declared_opens r os h = absurd cc

declared_no_end : (r : Role) → is_declared r ≡ true → is_end r ≡ false
declared_no_end role.Passed h = refl
declared_no_end role.Declaration h = refl
declared_no_end role.SpecificationDirective h = refl
declared_no_end r h = absurd cc

declared_or_program : (r : Role) → is_declared r ≡ true → (is_declared r || is_program r) ≡ true
declared_or_program r h = ap (λ b. b || is_program r) h

-- after the declarations none comes but those that are passed over
over_passed : (s : NestState) (r : Role) (rs : List Role) → is_declared r ≡ true → is_misplaced s r ≡ false → is_misdirected s r rs ≡ false
    → (s.stated ≡ true) ⊎ (declaration_comes (r ∷ rs) ≡ false) → r ≡ role.Passed
over_passed s role.Passed rs h p d g = refl
over_passed s role.SpecificationDirective rs h p d (inl g) = absurd cc
over_passed s role.Declaration rs h p d (inl g) = let late = in_time s role.Declaration p in absurd cc
over_passed s role.Declaration rs h p d (inr g) = absurd cc
over_passed s role.SpecificationDirective rs h p d (inr g) = absurd cc
over_passed s r rs h p d g = absurd cc

map_push : {A B : Type 0} (f : A → B) (xs : List A) (x : A) → map f (xs ++ x ∷ []) ≡ map f xs ++ f x ∷ []
map_push f [] x = refl
map_push f (y ∷ xs) x = ap (λ l. f y ∷ l) (map_push f xs x)

declared_push : (ls : List ProgramLine) (l : ProgramLine) → AreDeclared ls → is_declared (role_of l.what) ≡ true → AreDeclared (ls ++ l ∷ [])
declared_push [] l h g = (g, tt)
declared_push (k ∷ ls) l h g = (h.0, declared_push ls l h.1 g)

-- a declaration
module _ (ls : List ProgramLine) (last : ℕ) (d : Decl) (rest : List ProgramLine) (o : Option (List ℕ)) (v : Vec Decl Global) (draft : Draft) (over : Bool) where
  abbrev decl_line : ProgramLine
  decl_line = declaration_line d

  abbrev with_decls : Vec Decl Global → Progress
  with_decls v = record { name = o; decls = v; draft = draft; over = over }

  module _ (p : IsProgress ls last (with_decls v) (decl_line ∷ rest)) where
    abbrev after_decl : NestState
    after_decl = state_after p.state (role_of decl_line.what)

    decl_ended : after_decl.ended ≡ (status draft).ended
    decl_ended = ap (λ b. p.state.ended || b) (declared_no_end (role_of decl_line.what) (decl_declared d)) ∙ or-false p.state.ended ∙ p.ended

    decl_opens : after_decl.opens ≡ (status draft).opens
    decl_opens = declared_opens (role_of decl_line.what) p.state.opens (decl_declared d) ∙ p.opens

    decl_marks : IsMarked (status draft).pending (roles rest)
    decl_marks = marked_after (status draft).pending (role_of decl_line.what) (roles rest) (declared_or_program (role_of decl_line.what) (decl_declared d)) p.marks

    -- after the declarations
    pub dropped_progress : over ≡ true → IsProgress ls last (with_decls v) rest
    dropped_progress is_over = by_phase p.phase
      where
        moved : (p.state.stated ≡ true) ⊎ (declaration_comes (role_of decl_line.what ∷ roles rest) ≡ false) → p.state.begun ≡ true
            → kept_lines ls ≡ p.kept ++ without_passed (decl_line ∷ rest) → IsProgress ls last (with_decls v) rest
        moved g b k = record {
          state = after_decl;
          free = freed p.state last decl_line rest p.free;
          opens = decl_opens;
          ended = decl_ended;
          marks = decl_marks;
          sound = p.sound;
          declared = p.declared;
          kept = p.kept;
          lines = p.lines;
          phase = Over is_over (ap (λ b. b || not (is_passed (role_of decl_line.what))) b) (still g) (k ∙ ap (λ ks. p.kept ++ ks) (passed_without decl_line rest passed));
        }
          where
            passed : role_of decl_line.what ≡ role.Passed
            passed =
                over_passed p.state (role_of decl_line.what) (roles rest) (decl_declared d) (not_misplaced p.state last decl_line rest p.free)
                (not_misdirected p.state last decl_line rest p.free) g

            still : (p.state.stated ≡ true) ⊎ (declaration_comes (role_of decl_line.what ∷ roles rest) ≡ false)
                → (after_decl.stated ≡ true) ⊎ (declaration_comes (roles rest) ≡ false)
            still (inl h) = inl (ap (λ b. b || is_statement (role_of decl_line.what)) h)
            still (inr h) = inr (sym (ap (λ r. declaration_comes (r ∷ roles rest)) passed) ∙ h)

        by_phase : IsPhase p.state (with_decls v) ls (decl_line ∷ rest) p.kept → IsProgress ls last (with_decls v) rest
        by_phase (Before o b name e k) = absurd (both_ways over o is_over)
        by_phase (Among o b e k) = absurd (both_ways over o is_over)
        by_phase (Over o b g k) = moved g b k

    -- among the declarations
    module _ (w : Vec Decl Global) (pushed : w.items ≡ v.items ++ d ∷ []) (is_open : over ≡ false) where
      push_declared : AreDeclared (map declaration_line w.items)
      push_declared =
          subst (λ ds. AreDeclared (map declaration_line ds)) (sym pushed)
          (subst AreDeclared (sym (map_push declaration_line v.items d))
          (declared_push (map declaration_line v.items) decl_line p.declared (decl_declared d)))

      push_front : front_lines (with_decls w) ≡ front_lines (with_decls v) ++ numbered decl_line ∷ []
      push_front =
          ap (λ ds. name_lines o ++ map numbered (map declaration_line ds)) pushed
          ∙ ap (λ ds. name_lines o ++ map numbered ds) (map_push declaration_line v.items d)
          ∙ ap (λ ds. name_lines o ++ ds) (map_push numbered (map declaration_line v.items) decl_line)
          ∙ sym (append_assoc (name_lines o) (map numbered (map declaration_line v.items)) (numbered decl_line ∷ []))

      push_lines : draft_lines draft ≡ [] → AreEntriesOf (front_lines (with_decls w) ++ draft_lines draft) (p.kept ++ decl_line ∷ [])
      push_lines e =
          let old : AreEntriesOf (front_lines (with_decls v)) p.kept =
          subst (λ es. AreEntriesOf es p.kept) (append-nil (front_lines (with_decls v)))
          (subst (λ es. AreEntriesOf (front_lines (with_decls v) ++ es) p.kept) e p.lines) in
          let new : AreEntriesOf (front_lines (with_decls v) ++ numbered decl_line ∷ []) (p.kept ++ decl_line ∷ []) =
          are_push (front_lines (with_decls v)) (numbered decl_line) p.kept decl_line old (refl, refl) in
          subst (λ es. AreEntriesOf (front_lines (with_decls w) ++ es) (p.kept ++ decl_line ∷ [])) (sym e)
          (subst (λ es. AreEntriesOf es (p.kept ++ decl_line ∷ []))
          (sym (append-nil (front_lines (with_decls v) ++ numbered decl_line ∷ [])) ∙ ap (λ es. es ++ []) (sym push_front)) new)

      push_moved : draft_lines draft ≡ [] → IsPhase after_decl (with_decls w) ls rest (p.kept ++ decl_line ∷ []) → IsProgress ls last (with_decls w) rest
      push_moved e phase = record {
        state = after_decl;
        free = freed p.state last decl_line rest p.free;
        opens = decl_opens;
        ended = decl_ended;
        marks = decl_marks;
        sound = p.sound;
        declared = push_declared;
        kept = p.kept ++ decl_line ∷ [];
        lines = push_lines e;
        phase = phase;
      }

      more_kept : p.kept ++ kept_after_name (decl_line ∷ rest) ≡ (p.kept ++ decl_line ∷ []) ++ kept_after_name rest
      more_kept = ap (λ ks. p.kept ++ ks) (declared_after decl_line rest (decl_declared d)) ∙ sym (append_assoc p.kept (decl_line ∷ []) (kept_after_name rest))

      pub pushed_progress : IsProgress ls last (with_decls w) rest
      pushed_progress = by_phase p.phase (passed_or_not (role_of decl_line.what) (decl_declared d))
        where
          by_phase : IsPhase p.state (with_decls v) ls (decl_line ∷ rest) p.kept
              → (role_of decl_line.what ≡ role.Passed)
              ⊎ ((is_passed (role_of decl_line.what) ≡ false) × (is_program (role_of decl_line.what) ≡ false))
              → IsProgress ls last (with_decls w) rest
          by_phase (Before o b name e k) (inl h) =
              push_moved e
              (Before o
              (ap (λ b. b || not (is_passed (role_of decl_line.what))) b ∙ ap (λ r. not (is_passed r)) h)
              name e
              (k ∙ (λ i. if passed_name decl_line rest h i then passed_from decl_line rest h i else more_kept i)))
          by_phase (Before o b name e k) (inr h) =
              push_moved e
              (Among o (ap (λ c. p.state.begun || not c) h.0 ∙ or-true p.state.begun) e
              (k ∙ ap (λ b. if b then from_name (decl_line ∷ rest) else p.kept ++ kept_after_name (decl_line ∷ rest)) (other_name decl_line rest h.1 h.0) ∙ more_kept))
          by_phase (Among o b e k) h = push_moved e (Among o (ap (λ b. b || not (is_passed (role_of decl_line.what))) b) e (k ∙ more_kept))
          by_phase (Over o b g k) h = absurd (both_ways over is_open o)

-- a line after the declarations
module _ (ls : List ProgramLine) (last : ℕ) (l : ProgramLine) (rest : List ProgramLine) (o : Option (List ℕ)) (v : Vec Decl Global) (draft : Draft)
    (over : Bool) (inner : is_inner (role_of l.what) ≡ true)
    (p : IsProgress ls last record { name = o; decls = v; draft = draft; over = over } (l ∷ rest)) where
  free_here : is_misplaced p.state (role_of l.what) ≡ false
  free_here = not_misplaced p.state last l rest p.free

  pub takes_inner : Takes (status draft) (role_of l.what)
  takes_inner = record {
    inner = inner;
    going = sym p.ended ∙ going p.state (role_of l.what) free_here (inner_passed (role_of l.what) inner);
    placed = sym (ap (λ os. closes_wrongly os (role_of l.what)) p.opens) ∙ placed p.state (role_of l.what) free_here;
    marks = marked_here (status draft).pending (role_of l.what) (roles rest) inner p.marks;
  }

  module _ (b : Draft) (after : IsAfter draft l b) where
    abbrev after_inner : Progress
    after_inner = record { name = o; decls = v; draft = b; over = true }

    inner_kept : kept_lines ls ≡ (p.kept ++ l ∷ []) ++ without_passed rest
    inner_kept = by_phase p.phase
      where
        more : p.kept ++ (l ∷ without_passed rest) ≡ (p.kept ++ l ∷ []) ++ without_passed rest
        more = sym (append_assoc p.kept (l ∷ []) (without_passed rest))

        by_phase : IsPhase p.state record { name = o; decls = v; draft = draft; over = over } ls (l ∷ rest) p.kept → kept_lines ls ≡ (p.kept ++ l ∷ []) ++ without_passed rest
        by_phase (Before o b name e k) =
            k
            ∙ ap (λ b. if b then from_name (l ∷ rest) else p.kept ++ kept_after_name (l ∷ rest))
            (other_name l rest (inner_program (role_of l.what) inner) (inner_passed (role_of l.what) inner))
            ∙ ap (λ ks. p.kept ++ ks) (inner_after l rest (inner_declared (role_of l.what) inner) (inner_passed (role_of l.what) inner))
            ∙ more
        by_phase (Among o b e k) = k ∙ ap (λ ks. p.kept ++ ks) (inner_after l rest (inner_declared (role_of l.what) inner) (inner_passed (role_of l.what) inner)) ∙ more
        by_phase (Over o b g k) = k ∙ ap (λ ks. p.kept ++ ks) (kept_without l rest (inner_passed (role_of l.what) inner)) ∙ more

    pub inner_progress : IsProgress ls last after_inner rest
    inner_progress = record {
      state = state_after p.state (role_of l.what);
      free = freed p.state last l rest p.free;
      opens = ap (opens_after (role_of l.what)) p.opens ∙ sym (ap (λ s. s.opens) after.stands);
      ended = ap (λ b. b || is_end (role_of l.what)) (going p.state (role_of l.what) free_here (inner_passed (role_of l.what) inner)) ∙ sym (ap (λ s. s.ended) after.stands);
      marks =
          subst (λ p. IsMarked p (roles rest)) (sym (ap (λ s. s.pending) after.stands))
          (marked_next p.state (role_of l.what) (roles rest) (not_misdirected p.state last l rest p.free));
      sound = after.sound;
      declared = p.declared;
      kept = p.kept ++ l ∷ [];
      lines = are_after (front_lines after_inner) (draft_lines draft) (draft_lines b) l after.lines p.kept p.lines;
      phase =
          Over refl (ap (λ c. p.state.begun || not c) (inner_passed (role_of l.what) inner) ∙ or-true p.state.begun)
          (stated_next p.state (role_of l.what) (roles rest) inner (not_misdirected p.state last l rest p.free)) inner_kept;
    }

-- before the first line
pub nothing_progress : (ls : List ProgramLine) (last : ℕ) (v : Vec Decl Global) (os : Vec HeldOpen Global) (b : Vec Stmt Global) → v.items ≡ []
    → os.items ≡ [] → b.items ≡ [] → NoBreach (IsNestBreach last ls)
    → IsProgress ls last record { name = None; decls = v; draft = record { opens = os; block = b; mark = None; end = None }; over = false } ls
nothing_progress ls last v os b e f g h = record {
  state = state_at_start;
  free = h;
  opens = sym (ap shape f);
  ended = refl;
  marks = tt;
  sound = (subst AreOpen (sym f) tt, subst (λ ss. IsBlock (spelled_block ss)) (sym g) tt, tt);
  declared = subst (λ ds. AreDeclared (map declaration_line ds)) (sym e) tt;
  kept = [];
  lines =
      subst (λ ds. AreEntriesOf (map numbered (map declaration_line ds) ++ draft_lines record { opens = os; block = b; mark = None; end = None }) [])
      (sym e) (subst (λ es. AreEntriesOf es []) (sym no_lines) tt);
  phase = Before refl refl refl no_lines refl;
}
  where
    no_lines : draft_lines record { opens = os; block = b; mark = None; end = None } ≡ []
    no_lines = (λ i. (opens_lines (f i) ++ block_lines (spelled_block (g i))) ++ [])

-- after the last line
module _ (ls : List ProgramLine) (last : ℕ) (o : Option (List ℕ)) (v : Vec Decl Global) (draft : Draft) (over : Bool)
    (p : IsProgress ls last record { name = o; decls = v; draft = draft; over = over } []) where
  no_more : (b : Bool) → p.state.ended ≡ b → b ≡ true
  no_more true e = refl
  no_more false e = absurd (p.free (max last 1) reason.BadNest (e, refl))

  pub tree_ready : draft.end ≡ None → ⊥
  tree_ready e = both_ways false refl (sym (p.ended ∙ ap is_some e) ∙ no_more p.state.ended refl)

  all_kept : kept_lines ls ≡ p.kept
  all_kept = by_phase p.phase
    where
      by_phase : IsPhase p.state record { name = o; decls = v; draft = draft; over = over } ls [] p.kept → kept_lines ls ≡ p.kept
      by_phase (Before o b name e k) = k ∙ append-nil p.kept
      by_phase (Among o b e k) = k ∙ append-nil p.kept
      by_phase (Over o b g k) = k ∙ append-nil p.kept

  module _ (e : EndForm) (ends : draft.end ≡ Some e) where
    closed : (draft.opens.items ≡ []) × (draft.mark ≡ None)
    closed = subst (λ o. IfSome o (λ e. (draft.opens.items ≡ []) × (draft.mark ≡ None))) ends p.sound.2

    last_lines : draft_lines draft ≡ block_lines (spelled_block draft.block.items) ++ end_line (spelled_end e) ∷ []
    last_lines =
        (λ i.
        (opens_lines (closed.0 i) ++ block_lines (spelled_block draft.block.items))
        ++ (independent_lines (option_map spelled_independent (closed.1 i)) ++ end_lines (ends i)))

    abbrev the_tree : Tree
    the_tree = record { name = o; decls = v; body = draft.block; end = e }

    pub tree_spelled : IsSpelled ls (spelled_program the_tree) × IsProgram (spelled_program the_tree)
    tree_spelled = (subst (AreEntriesOf (program_lines (spelled_program the_tree))) (sym all_kept) (subst (λ es. AreEntriesOf es p.kept) grouped p.lines), (p.declared, p.sound.1))
      where
        grouped : (name_lines o ++ map numbered (map declaration_line v.items)) ++ draft_lines draft ≡ program_lines (spelled_program the_tree)
        grouped =
            ap (λ es. (name_lines o ++ map numbered (map declaration_line v.items)) ++ es) last_lines
            ∙ sym
            (append_assoc (name_lines o ++ map numbered (map declaration_line v.items)) (block_lines (spelled_block draft.block.items))
            (end_line (spelled_end e) ∷ []))
