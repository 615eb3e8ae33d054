-- The lines that a tree keeps, line by line.
use Rattle.std.proofs.Common.{◌≡◌, ℕ, Bool, true, false, not, ◌||◌, ◌&&◌, List, [], ◌∷◌, ◌++◌, Option, Some, None, refl, sym, ap, ◌∙◌}
use Rattle.std.specs.Prelude.{if◌then◌else◌, ◌⊎◌}
use Rattle.std.proofs.Common.{inl, inr}
use Rattle.std.proofs.lemmas.Bool.{false_from_ne_true, not-false, or_parts}
use Rattle.std.proofs.Math.Bool.{and-true, or-true}
use Rattle.hpf_base.specs.declared.refusal.Reason.TheVariants as reason
use Rattle.hpf_base.specs.Refusal.{NoBreach}
use Rattle.construct_rules.specs.declared.role.Construct.TheVariants as construct
use Rattle.construct_rules.specs.declared.role.Clauses.{Clauses}
use Rattle.construct_rules.specs.declared.role.Role.{Role}
use Rattle.construct_rules.specs.declared.role.Role.TheVariants as role
use Rattle.construct_rules.specs.Breaches.{BreachFrom, roles}
use Rattle.construct_rules.specs.Rules.{comes_late, declaration_comes, is_misdirected, is_misplaced, closes_wrongly, is_independent_target, leaves_nothing, fits_where_or_forall}
use Rattle.construct_rules.specs.ProgramLine.{ProgramLine}
use Rattle.construct_rules.specs.Roles.{role_of}
use Rattle.construct_rules.specs.NestState.{NestState, in_where_or_forall, is_passed, is_statement, state_after}
use Rattle.construct_reader.specs.ProgramLines.{Entry, AreEntriesOf, from_name, has_name, is_declared, is_program, kept_after_name, without_passed}
use Rattle.construct_reader.specs.Draft.{fits_mark, is_inner, pending_after}
use Rattle.construct_reader.specs.Progress.{IsMarked}

module _ (l : ProgramLine) (ls : List ProgramLine) where
  pub passed_name : role_of l.what ≡ role.Passed → has_name (l ∷ ls) ≡ has_name ls
  passed_name e = ap (λ r. is_program r || (is_passed r && has_name ls)) e

  pub passed_from : role_of l.what ≡ role.Passed → from_name (l ∷ ls) ≡ from_name ls
  passed_from e = ap (λ r. if is_passed r then from_name ls else l ∷ kept_after_name ls) e

  pub other_name : is_program (role_of l.what) ≡ false → is_passed (role_of l.what) ≡ false → has_name (l ∷ ls) ≡ false
  other_name e f = ap (λ b. b || (is_passed (role_of l.what) && has_name ls)) e ∙ ap (λ b. b && has_name ls) f

  pub declared_after : is_declared (role_of l.what) ≡ true → kept_after_name (l ∷ ls) ≡ l ∷ kept_after_name ls
  declared_after e = ap (λ b. if b then l ∷ kept_after_name ls else without_passed (l ∷ ls)) e

  pub passed_without : role_of l.what ≡ role.Passed → without_passed (l ∷ ls) ≡ without_passed ls
  passed_without e = ap (λ r. if not (is_passed r) then l ∷ without_passed ls else without_passed ls) e

  pub kept_without : is_passed (role_of l.what) ≡ false → without_passed (l ∷ ls) ≡ l ∷ without_passed ls
  kept_without e = ap (λ b. if not b then l ∷ without_passed ls else without_passed ls) e

  pub inner_after : is_declared (role_of l.what) ≡ false → is_passed (role_of l.what) ≡ false → kept_after_name (l ∷ ls) ≡ l ∷ without_passed ls
  inner_after e f = ap (λ b. if b then l ∷ kept_after_name ls else without_passed (l ∷ ls)) e ∙ kept_without f

pub inner_program : (r : Role) → is_inner r ≡ true → is_program r ≡ false
inner_program role.Program h = absurd cc
inner_program r h = refl

pub inner_passed : (r : Role) → is_inner r ≡ true → is_passed r ≡ false
inner_passed role.Passed h = absurd cc
inner_passed r h = refl

pub inner_declared : (r : Role) → is_inner r ≡ true → is_declared r ≡ false
inner_declared role.Declaration h = absurd cc
inner_declared role.SpecificationDirective h = absurd cc
inner_declared role.Passed h = absurd cc
inner_declared r h = refl

-- what breaks no rule
pub not_misplaced : (s : NestState) (last : ℕ) (l : ProgramLine) (rest : List ProgramLine) → NoBreach (BreachFrom s last (l ∷ rest)) → is_misplaced s (role_of l.what) ≡ false
not_misplaced s last l rest free = false_from_ne_true (is_misplaced s (role_of l.what)) (λ h. free l.number reason.BadNest (inl (refl, h)))

pub not_misdirected : (s : NestState) (last : ℕ) (l : ProgramLine) (rest : List ProgramLine) → NoBreach (BreachFrom s last (l ∷ rest))
    → is_misdirected s (role_of l.what) (roles rest) ≡ false
not_misdirected s last l rest free = false_from_ne_true (is_misdirected s (role_of l.what) (roles rest)) (λ h. free l.number reason.BadDirective (inl (refl, h)))

pub freed : (s : NestState) (last : ℕ) (l : ProgramLine) (rest : List ProgramLine) → NoBreach (BreachFrom s last (l ∷ rest))
    → NoBreach (BreachFrom (state_after s (role_of l.what)) last rest)
freed s last l rest free = λ line why h. free line why (inr h)

module _ (s : NestState) (r : Role) (h : is_misplaced s r ≡ false) where
  first_four : (((closes_wrongly s.opens r || leaves_nothing s.opens r) || comes_late s r) || (in_where_or_forall s.opens && not (fits_where_or_forall r))) ≡ false
  first_four =
      (or_parts
      (((closes_wrongly s.opens r || leaves_nothing s.opens r) || comes_late s r) || (in_where_or_forall s.opens && not (fits_where_or_forall r)))
      (s.ended && not (is_passed r)) h).0

  first_three : ((closes_wrongly s.opens r || leaves_nothing s.opens r) || comes_late s r) ≡ false
  first_three = (or_parts ((closes_wrongly s.opens r || leaves_nothing s.opens r) || comes_late s r) (in_where_or_forall s.opens && not (fits_where_or_forall r)) first_four).0

  pub placed : closes_wrongly s.opens r ≡ false
  placed = (or_parts (closes_wrongly s.opens r) (leaves_nothing s.opens r) (or_parts (closes_wrongly s.opens r || leaves_nothing s.opens r) (comes_late s r) first_three).0).0

  pub in_time : comes_late s r ≡ false
  in_time = (or_parts (closes_wrongly s.opens r || leaves_nothing s.opens r) (comes_late s r) first_three).1

  pub going : is_passed r ≡ false → s.ended ≡ false
  going e =
      let f =
      (or_parts
      (((closes_wrongly s.opens r || leaves_nothing s.opens r) || comes_late s r)
      || (in_where_or_forall s.opens && not (fits_where_or_forall r))) (s.ended && not (is_passed r)) h).1 in
      sym (and-true s.ended) ∙ (sym (ap (λ b. s.ended && not b) e) ∙ f)

-- a pending INDEPENDENT lets no line pass that isn't passed over or that it stands before
pub marked_here : (p : Option Clauses) (r : Role) (rs : List Role) → is_inner r ≡ true → IsMarked p (r ∷ rs) → fits_mark p r ≡ true
marked_here None r rs h m = refl
marked_here (Some cs) role.Program rs h m = absurd cc
marked_here (Some cs) role.Declaration rs h m = absurd cc
marked_here (Some cs) role.SpecificationDirective rs h m = absurd cc
marked_here (Some cs) role.Passed rs h m = absurd cc
marked_here (Some cs) (role.Opens construct.Do) rs h m = m
marked_here (Some cs) (role.Opens construct.Forall) rs h m = m
marked_here (Some cs) (role.One construct.Forall) rs h m = m
marked_here (Some cs) r rs h m = m

pub marked_after : (p : Option Clauses) (r : Role) (rs : List Role) → (is_declared r || is_program r) ≡ true → IsMarked p (r ∷ rs) → IsMarked p rs
marked_after None r rs h m = tt
marked_after (Some cs) role.Program rs h m = absurd cc
marked_after (Some cs) role.Declaration rs h m = absurd cc
marked_after (Some cs) role.SpecificationDirective rs h m = absurd cc
marked_after (Some cs) role.Passed rs h m = m
marked_after (Some cs) r rs h m = absurd cc

-- what INDEPENDENT asks of the lines after it
pub marked_next : (s : NestState) (r : Role) (rs : List Role) → is_misdirected s r rs ≡ false → IsMarked (pending_after r) rs
marked_next s (role.Independent cs) rs h = not-false (is_independent_target cs rs) (or_parts (not s.stated && declaration_comes rs) _ h).1
marked_next s r rs h = tt

-- after a line that isn't a declaration, either the declarations are over or none comes before they are
pub stated_next : (s : NestState) (r : Role) (rs : List Role) → is_inner r ≡ true → is_misdirected s r rs ≡ false
    → ((s.stated || is_statement r) ≡ true) ⊎ (declaration_comes rs ≡ false)
stated_next s r rs i h = by_role r i h
  where
    either : (b c : Bool) → (not b && c) ≡ false → ((b || false) ≡ true) ⊎ (c ≡ false)
    either true c h = inl refl
    either false c h = inr h

    by_role : (r : Role) → is_inner r ≡ true → is_misdirected s r rs ≡ false → ((s.stated || is_statement r) ≡ true) ⊎ (declaration_comes rs ≡ false)
    by_role role.Program i h = absurd cc
    by_role role.Declaration i h = absurd cc
    by_role role.SpecificationDirective i h = absurd cc
    by_role role.Passed i h = absurd cc
    by_role role.Redistribute i h = either s.stated (declaration_comes rs) h
    by_role (role.Independent cs) i h = either s.stated (declaration_comes rs) (or_parts (not s.stated && declaration_comes rs) _ h).0
    by_role r i h = inl (or-true s.stated)

-- more lines on both sides, at the end
pub are_after : (x es fs : List Entry) (l : ProgramLine) → ((ls : List ProgramLine) → AreEntriesOf es ls → AreEntriesOf fs (ls ++ l ∷ []))
    → (ls : List ProgramLine) → AreEntriesOf (x ++ es) ls → AreEntriesOf (x ++ fs) (ls ++ l ∷ [])
are_after [] es fs l f ls h = f ls h
are_after (e ∷ x) es fs l f [] h = absurd h
are_after (e ∷ x) es fs l f (k ∷ ls) h = (h.0, are_after x es fs l f ls h.1)
