-- The command as it is built.
use Rattle.std.proofs.Common.{ap, refl, cond, Bool, true, false, Some, List, [], ◌∷◌, ◌++◌, ◌≡◌, ◌∙◌, map}
use Rattle.std.specs.Prelude.{◌||◌}
use Rattle.clap.specs.Walk.{Rule, Row, arg_by_id, with_default, has_row}
use Rattle.clap.specs.Simple.{Shape, built, filled, with_index, new_rule}
use Rattle.clap.specs.Kinds.{Kinds, or_else}
use Rattle.clap.specs.Faults.{default_fault, defaults_fault, is_simple_and_free}
use Rattle.hpf_words.specs.Parts.{Field, value_of, flag, action, grid, threads, size, arrays, fixed, name_of, options}
use Rattle.hpf_words.specs.Command.{hpf_app, value_rule, flag_rule}

abbrev pub rule : Field → Rule
rule (value_of v) = filled (value_rule (name_of (value_of v)))
rule (flag g) = filled (flag_rule (name_of (flag g)))
rule action = with_index 1 (filled (new_rule (name_of action)))

abbrev pub fields : List Field
fields = options ++ action ∷ []

abbrev pub R : List Rule
R = map rule fields

abbrev pub S : Shape
S = (built hpf_app).top

pub is_free : is_simple_and_free hpf_app ≡ true
is_free = refl

pub by_id : (f : Field) → arg_by_id R (name_of f) ≡ Some (rule f)
by_id (value_of grid) = refl
by_id (value_of threads) = refl
by_id (value_of size) = refl
by_id (flag arrays) = refl
by_id (flag fixed) = refl
by_id action = refl

abbrev pub nothing : Kinds
nothing = []

-- no default is refused
no_fault : (rows : List Row) (f : Field) → default_fault rows (rule f) ≡ []
no_fault rows f = go f
  where
    always : (b : Bool) (k : Kinds) → cond (b || true) [] k ≡ []
    always true k = refl
    always false k = refl

    either : (b : Bool) → cond (b || false) nothing nothing ≡ nothing
    either true = refl
    either false = refl

    go : (f : Field) → default_fault rows (rule f) ≡ []
    go (value_of v) = always (has_row (name_of (value_of v)) rows) _
    go (flag g) = either (has_row (name_of (flag g)) rows)
    go action = always (has_row (name_of action) rows) _

pub defaults_pass : (fs : List Field) (rows : List Row) → defaults_fault rows (map rule fs) ≡ []
unfolding defaults_fault
defaults_pass [] rows = refl
defaults_pass (f ∷ fs) rows =
    ap (λ k. or_else k (defaults_fault (with_default rows (rule f)) (map rule fs))) (no_fault rows f) ∙ defaults_pass fs (with_default rows (rule f))
