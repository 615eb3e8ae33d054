-- What is found line by line is the first of the breaches.
use Rattle.std.proofs.Common.{◌≡◌, ℕ, zero, suc, ◌+◌, ◌-◌, ◌∙◌, ap, length, take, drop, get_or, drop-cons, add-one, ◌<◌, ◌≤◌, ◌⊎◌, sym, inl, inr, max, Bool, true, false, List, [], ◌∷◌, Option, Some, None, refl, arith}
use Rattle.std.specs.Prelude.{if◌then◌else◌, nat_lt}
use Rattle.std.proofs.lemmas.Bool.Decides.{nat_tests}
use Rattle.std.proofs.lemmas.Grind.{common_steps}
use Rattle.std.proofs.lemmas.List.{drop_all, length-map}
use Rattle.std.proofs.lemmas.Bool.{or_parts}
use Rattle.hpf_base.specs.declared.refusal.Reason.{Reason}
use Rattle.hpf_base.specs.declared.refusal.Reason.TheVariants as reason
use Rattle.hpf_base.specs.declared.refusal.Refusal.{Refusal}
use Rattle.hpf_base.specs.Refusal.{number_of}
use Rattle.construct_rules.specs.declared.role.Role.{Role}
use Rattle.construct_rules.specs.declared.role.Role.TheVariants as role
use Rattle.construct_rules.specs.declared.program_line.ProgramLine.{ProgramLine as HeldLine}
use Rattle.construct_rules.specs.ProgramLine.{ProgramLine, content_of, line_of, lines_of}
use Rattle.construct_rules.specs.Roles.{role_of}
use Rattle.construct_rules.specs.NestState.{NestState, state_after, state_at_start, is_statement}
use Rattle.construct_rules.specs.Breaches.{roles, NoEnd, BreachFrom, IsNestBreach}
use Rattle.construct_rules.specs.Rules.{is_misplaced, is_misdirected, is_too_deep, nests_where_or_forall, declaration_comes, Breaks}
use Rattle.hpf_base.specs.FirstBreach.{IsFirstOrNone, earlier, at_line}
use Rattle.construct_rules.specs.Found.{least_reason, end_reason, found_from, declared_length, is_declaration, one_more}
use Rattle.hpf_base.proofs.FirstBreaches.{first_none, first_same, first_both, first_at, Leads, IsLeastReason}

from_nest : (s : NestState) (r : Role) (rs : List Role) (why : Reason) → Breaks s r rs why → 3 ≤ number_of why
from_nest s r rs reason.BadNest h = omega arith
from_nest s r rs reason.BadDirective h = omega arith
from_nest s r rs reason.Limit h = omega arith
from_nest s r rs reason.LeftOut h = omega arith
from_nest s r rs why h = absurd h

from_directive : (s : NestState) (r : Role) (rs : List Role) (why : Reason) → is_misplaced s r ≡ false → Breaks s r rs why → 6 ≤ number_of why
from_directive s r rs reason.BadNest nest h = absurd cc
from_directive s r rs reason.BadDirective nest h = omega arith
from_directive s r rs reason.Limit nest h = omega arith
from_directive s r rs reason.LeftOut nest h = omega arith
from_directive s r rs why nest h = absurd h

from_limit : (s : NestState) (r : Role) (rs : List Role) (why : Reason) → is_misplaced s r ≡ false → is_misdirected s r rs ≡ false → Breaks s r rs why → 10 ≤ number_of why
from_limit s r rs reason.BadNest nest dir h = absurd cc
from_limit s r rs reason.BadDirective nest dir h = absurd cc
from_limit s r rs reason.Limit nest dir h = omega arith
from_limit s r rs reason.LeftOut nest dir h = omega arith
from_limit s r rs why nest dir h = absurd h

from_left_out : (s : NestState) (r : Role) (rs : List Role) (why : Reason) → is_misplaced s r ≡ false → is_misdirected s r rs ≡ false
    → is_too_deep s.opens r ≡ false → Breaks s r rs why → 11 ≤ number_of why
from_left_out s r rs reason.BadNest nest dir deep h = absurd cc
from_left_out s r rs reason.BadDirective nest dir deep h = absurd cc
from_left_out s r rs reason.Limit nest dir deep h = absurd cc
from_left_out s r rs reason.LeftOut nest dir deep h = omega arith
from_left_out s r rs why nest dir deep h = absurd h

from_none : (s : NestState) (r : Role) (rs : List Role) (why : Reason) → is_misplaced s r ≡ false → is_misdirected s r rs ≡ false
    → is_too_deep s.opens r ≡ false → nests_where_or_forall s.opens r ≡ false → Breaks s r rs why → ⊥
from_none s r rs reason.BadNest nest dir deep mask h = absurd cc
from_none s r rs reason.BadDirective nest dir deep mask h = absurd cc
from_none s r rs reason.Limit nest dir deep mask h = absurd cc
from_none s r rs reason.LeftOut nest dir deep mask h = absurd cc
from_none s r rs why nest dir deep mask h = h

least_of_tests : (s : NestState) (r : Role) (rs : List Role) (a b c d : Bool)
    → is_misplaced s r ≡ a → is_misdirected s r rs ≡ b → is_too_deep s.opens r ≡ c → nests_where_or_forall s.opens r ≡ d
    → IsLeastReason (Breaks s r rs)
    (if a
    then Some reason.BadNest
    else (if b then Some reason.BadDirective else (if c then Some reason.Limit else (if d then Some reason.LeftOut else None))))
least_of_tests s r rs true b c d ea eb ec ed = (ea, λ why h. from_nest s r rs why h)
least_of_tests s r rs false true c d ea eb ec ed = (eb, λ why h. from_directive s r rs why ea h)
least_of_tests s r rs false false true d ea eb ec ed = (ec, λ why h. from_limit s r rs why ea eb h)
least_of_tests s r rs false false false true ea eb ec ed = (ed, λ why h. from_left_out s r rs why ea eb ec h)
least_of_tests s r rs false false false false ea eb ec ed = λ why h. from_none s r rs why ea eb ec ed h

pub least_is_least : (s : NestState) (r : Role) (rs : List Role) → IsLeastReason (Breaks s r rs) (least_reason s r rs)
least_is_least s r rs = least_of_tests s r rs _ _ _ _ refl refl refl refl

-- a text without END is refused once, at its end
end_is_first : (s : NestState) (last : ℕ) → IsFirstOrNone (NoEnd s last) (at_line (max last 1) (end_reason s))
end_is_first s last = step s.ended refl
  where
    none : s.ended ≡ true → (line : ℕ) (why : Reason) → NoEnd s last line why → ⊥
    none e line reason.BadNest h = absurd cc
    none e line why h = h

    some : (line : ℕ) (why : Reason) → NoEnd s last line why → Leads (record { line = max last 1; reason = reason.BadNest }) line why
    some line reason.BadNest h = inr (sym h.1, omega arith)
    some line why h = absurd h

    step : (t : Bool) → s.ended ≡ t → IsFirstOrNone (NoEnd s last) (at_line (max last 1) (if t then None else Some reason.BadNest))
    step true e = none e
    step false e = record { stands = (e, refl); first = some }

-- the breaches of the first line
abbrev BreachAt : NestState → ProgramLine → List ProgramLine → ℕ → Reason → Type 0
BreachAt s l ls line why = (line ≡ l.number) × Breaks s (role_of l.what) (roles ls) why

regroup : (A B C : Type 0) → (A ⊎ B) ⊎ C → A ⊎ (B ⊎ C)
regroup A B C (inl (inl a)) = inl a
regroup A B C (inl (inr b)) = inr (inl b)
regroup A B C (inr c) = inr (inr c)

regroup_back : (A B C : Type 0) → A ⊎ (B ⊎ C) → (A ⊎ B) ⊎ C
regroup_back A B C (inl a) = inl (inl a)
regroup_back A B C (inr (inl b)) = inl (inr b)
regroup_back A B C (inr (inr c)) = inr c

found_is_first : (A : ℕ → Reason → Type 0) (best : Option Refusal) (s : NestState) (last : ℕ) (ls : List ProgramLine) → IsFirstOrNone A best
    → IsFirstOrNone (λ line why. A line why ⊎ BreachFrom s last ls line why) (found_from best s last ls)
found_is_first A best s last [] h = first_both A (NoEnd s last) best _ h (end_is_first s last)
found_is_first A best s last (l ∷ ls) h =
    first_same _ _ _ (λ line why. regroup _ _ _) (λ line why. regroup_back _ _ _)
    (found_is_first (λ line why. A line why ⊎ BreachAt s l ls line why) _ (state_after s (role_of l.what)) last ls
    (first_both A (BreachAt s l ls) best _ h (first_at l.number (Breaks s (role_of l.what) (roles ls)) _ (least_is_least s (role_of l.what) (roles ls)))))

-- what is found is the first breach of the lines
pub found : (last : ℕ) (ls : List ProgramLine) → IsFirstOrNone (IsNestBreach last ls) (found_from None state_at_start last ls)
found last ls =
    first_same _ _ _ (λ line why b. elim b [ inl x ↦ absurd x | inr y ↦ y ]) (λ line why b. inr b)
    (found_is_first (λ line why. ⊥) None state_at_start last ls first_none)

-- after a line that is no statement, one line fewer
pub declared_next : (r : Role) (rs : List Role) → is_statement r ≡ false → declared_length rs ≡ declared_length (r ∷ rs) - 1
declared_next r rs e = rw e (step (is_declaration r) (declared_length rs))
  where
    step : (t : Bool) (n : ℕ) → n ≡ (if t then suc n else one_more n) - 1
    step true n = omega arith
    step false zero = omega arith
    step false (suc n) = omega arith

counted : (n : ℕ) → nat_lt 0 n ≡ nat_lt 0 (one_more n)
counted zero = refl
counted (suc n) = grind (arith, nat_tests)

-- a declaration comes where one counts
pub declares : (rs : List Role) → declaration_comes rs ≡ nat_lt 0 (declared_length rs)
declares [] = refl
declares (role.Declaration ∷ rs) = grind (arith, nat_tests)
declares (role.SpecificationDirective ∷ rs) = grind (arith, nat_tests)
declares (role.Program ∷ rs) = declares rs ∙ counted (declared_length rs)
declares (role.Passed ∷ rs) = declares rs ∙ counted (declared_length rs)
declares (role.Redistribute ∷ rs) = declares rs ∙ counted (declared_length rs)
declares (role.Independent cs ∷ rs) = declares rs ∙ counted (declared_length rs)
declares (r ∷ rs) = refl

at : {A : Type 0} (xs : List A) (i : ℕ) (x : A) → i < length xs → x ≡ get_or xs i x → drop i xs ≡ x ∷ drop (i + 1) xs
at xs i x lt e = rw (add-one, drop-cons xs i x lt) (ap (λ y. y ∷ drop (suc i) xs) (sym e))

rest_at : {A : Type 0} (xs : List A) (i : ℕ) → i < length xs → take (length xs - (i + 1)) (drop (i + 1) xs) ≡ drop (i + 1) xs
rest_at xs i lt = grind (arith, common_steps)

-- the roles of lines, at a place and after it
roles_after : (i : ℕ) (ls : List HeldLine) → drop i (roles (lines_of ls)) ≡ roles (lines_of (drop i ls))
roles_after zero ls = refl
roles_after (suc i) [] = refl
roles_after (suc i) (l ∷ ls) = roles_after i ls

module _ (lines : List HeldLine) (rs : List Role) (are : rs ≡ roles (lines_of lines)) (i : ℕ) (lt : i < length lines) where
  pub in_roles : i < length rs
  in_roles =
      let n : length rs ≡ length lines = ap length are ∙ length-map (lines_of lines) (λ l. role_of l.what) ∙ length-map lines line_of in
      omega (arith, lt, n)

  pub role_at : (l : HeldLine) (r : Role) → l ≡ get_or lines i l → r ≡ get_or rs i r → r ≡ role_of (content_of l.what)
  role_at l r el er =
      let both : r ∷ drop (i + 1) rs ≡ role_of (content_of l.what) ∷ roles (lines_of (drop (i + 1) lines)) =
      sym (at rs i r in_roles er) ∙ ap (drop i) are ∙ roles_after i lines ∙ ap (λ ls. roles (lines_of ls)) (at lines i l lt el) in
      cc

  pub roles_left : take (length rs - (i + 1)) (drop (i + 1) rs) ≡ roles (lines_of (drop (i + 1) lines))
  roles_left = rest_at rs i in_roles ∙ ap (drop (i + 1)) are ∙ roles_after (i + 1) lines

-- one more line after those that some stand before
pub found_next : (best : Option Refusal) (s : NestState) (last : ℕ) (lines : List HeldLine) (i : ℕ) (l : HeldLine) (r : Role) (left : List Role)
    (why : Option Reason) (here best' : Option Refusal) (s' : NestState)
    → i < length lines → l ≡ get_or lines i l
    → r ≡ role_of (content_of l.what)
    → left ≡ roles (lines_of (drop (i + 1) lines))
    → why ≡ least_reason s r left
    → here ≡ at_line l.number why
    → best' ≡ earlier best here
    → s' ≡ state_after s r
    → found_from best s last (lines_of (drop i lines)) ≡ found_from best' s' last (lines_of (drop (i + 1) lines))
found_next best s last lines i l r left why here best' s' lt el er all ew eh eb es =
    let e = at lines i l lt el in
    rw (es, eb, eh, ew, all, er, e)

-- and the declarations after it
pub declared_after_line : (rs : List Role) (i declared : ℕ) (r : Role)
    → i < length rs → r ≡ get_or rs i r
    → is_statement r ≡ false
    → declared_length (drop i rs) ≡ declared - i
    → declared_length (drop (i + 1) rs) ≡ declared - (i + 1)
declared_after_line rs i declared r lt er no_statement h =
    let e = at rs i r lt er in
    let h' = rw e at h in
    let next = declared_next r (drop (i + 1) rs) no_statement in
    omega (arith, h', next)

pub declares_after : (rs ts : List Role) (i declared : ℕ) (r : Role)
    → ts ≡ rs
    → i < length rs → r ≡ get_or rs i r
    → is_statement r ≡ false
    → declared_length (drop i rs) ≡ declared - i
    → nat_lt (i + 1) declared ≡ declaration_comes (take (length ts - (i + 1)) (drop (i + 1) ts))
declares_after rs ts i declared r same lt er no_statement h =
    let all = rest_at rs i lt in
    let d : declared_length (drop (i + 1) rs) ≡ declared - (i + 1) = declared_after_line rs i declared r lt er no_statement h in
    rw (same, all, declares, d) (grind (arith, nat_tests))

-- before the first statement no line was one
pub stated_before : (s s' : NestState) (r : Role) → s' ≡ state_after s r → s'.stated ≡ false → (s.stated ≡ false) × (is_statement r ≡ false)
stated_before s s' r es h = let h' = rw es at h in or_parts s.stated (is_statement r) h'

-- no line is left
pub found_end : (best : Option Refusal) (s : NestState) (last : ℕ) (lines : List HeldLine) (i most : ℕ) (why : Option Reason) (here best' : Option Refusal)
    → length lines ≤ i
    → most ≡ max last 1
    → why ≡ end_reason s
    → here ≡ at_line most why
    → best' ≡ earlier best here
    → found_from best s last (lines_of (drop i lines)) ≡ best'
found_end best s last lines i most why here best' le em ew eh eb = rw (eb, eh, ew, em, drop_all i lines le)
