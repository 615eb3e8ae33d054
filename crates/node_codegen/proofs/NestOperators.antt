-- What joins by the first of right sides.
use Rattle.std.proofs.Common.{◌≡◌, ℕ, nat_eq, List, [], ◌∷◌, ◌++◌, Option, Some, None, true, false, ◌||◌, refl, sym, ap, ◌∙◌}
use Rattle.std.proofs.lemmas.Bool.{true≢false}
use Rattle.std.proofs.lemmas.List.Folds.{list_any-append}
use Rattle.array_meaning.specs.Iterations.{is_in}
use Rattle.std.specs.Prelude.{is_some, unwrap_or}
use Rattle.std.specs.Option.{option_or}
use Rattle.op_tables.specs.declared.join.Join.{Join}
use Rattle.op_tables.specs.declared.join.Join.TheVariants.{Sum}
use Rattle.array_meaning.specs.Terms.{Term, Apply}
use Rattle.program_code.specs.NestCode.{operator_by}
use Rattle.node_codegen.specs.NestScalars.{first_operator}

pub first_of_both : (xs ys : List Term) → option_or (first_operator xs) (first_operator ys) ≡ first_operator (xs ++ ys)
first_of_both [] ys = refl
first_of_both (x ∷ xs) ys = refl

pub some_of_both : (a b : Option Join) → is_some (option_or a b) ≡ (is_some a || is_some b)
some_of_both None b = refl
some_of_both (Some j) b = refl

pub operator_first : (rights : List Term) → unwrap_or (first_operator rights) Sum ≡ operator_by rights
operator_first [] = refl
operator_first (Apply o ts ∷ rights) = refl
operator_first (t ∷ rights) = refl

-- it is the first of the first ones, or else that of the others
pub first_here : (xs ys : List Term) (first : Option Join) → first ≡ first_operator xs → is_some first ≡ true → first ≡ first_operator (xs ++ ys)
first_here [] ys first is some = absurd (true≢false (sym some ∙ ap is_some is))
first_here (x ∷ xs) ys first is some = is

pub first_later : (xs ys : List Term) (first : Option Join) → first ≡ first_operator xs → is_some first ≡ false → first_operator (xs ++ ys) ≡ first_operator ys
first_later [] ys first is none = refl
first_later (x ∷ xs) ys first is none = absurd (true≢false (ap is_some (sym is) ∙ none))

pub in_here : (k : ℕ) (xs ys : List ℕ) → is_in k xs ≡ true → is_in k (xs ++ ys) ≡ true
in_here k xs ys is = list_any-append (nat_eq k) xs ys ∙ ap (λ b. b || is_in k ys) is

pub in_later : (k : ℕ) (xs ys : List ℕ) → is_in k xs ≡ false → is_in k (xs ++ ys) ≡ is_in k ys
in_later k xs ys is = list_any-append (nat_eq k) xs ys ∙ ap (λ b. b || is_in k ys) is
