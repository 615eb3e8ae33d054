-- A layout is the same as itself.
use Rattle.std.proofs.Common.{◌≡◌, Bool, true, List, [], ◌∷◌, refl, eq-eqb}
use Rattle.std.proofs.lemmas.Bool.{and_from}
use Rattle.std.specs.Cmp.{signed_Decides}
use Rattle.std.specs.Cmp.Lexicographic.{pointwise}
use Rattle.std.specs.Prelude.{◌==◌}
use Rattle.std.specs.Ordering.{int_eq}
use Rattle.mappings.specs.declared.mapping.AlignDim.{AlignDim}
use Rattle.mappings.specs.declared.mapping.AlignDim.TheVariants.{Linear, At, Every}
use Rattle.mappings.specs.declared.mapping.Form.{Form}
use Rattle.mappings.specs.declared.mapping.Form.TheVariants.{Whole, Block, Cyclic, Gen}
use Rattle.mappings.specs.declared.mapping.Line.{Line}
use Rattle.mappings.specs.declared.mapping.MapDim.{MapDim}
use Rattle.machine_steps.specs.Layout.{Layout}
use Rattle.machine_steps.specs.SameLayouts.{is_same_align, is_same_dim, is_same_form, is_same_layout, is_same_line}

each-itself : {A : Type 0} (test : A → A → Bool) → ((x : A) → test x x ≡ true) → (xs : List A) → pointwise test xs xs ≡ true
each-itself test h [] = refl
each-itself test h (x ∷ xs) = and_from _ _ (h x) (each-itself test h xs)

form-itself : (form : Form) → is_same_form form form ≡ true
form-itself Whole = refl
form-itself (Block m) = eq-eqb m m refl
form-itself (Cyclic m) = eq-eqb m m refl
form-itself (Gen sizes) = each-itself ◌==◌ (λ n. eq-eqb n n refl) sizes

line-itself : (line : Line) → is_same_line line line ≡ true
line-itself line =
    and_from _ _ ((signed_Decides line.lower line.lower).1 refl)
    (and_from _ _ (eq-eqb line.extent line.extent refl) (and_from _ _ (form-itself line.form) (eq-eqb line.procs line.procs refl)))

align-itself : (align : AlignDim) → is_same_align align align ≡ true
align-itself (Linear dim a b) = and_from _ _ (eq-eqb dim dim refl) (and_from _ _ ((signed_Decides a a).1 refl) ((signed_Decides b b).1 refl))
align-itself (At v) = (signed_Decides v v).1 refl
align-itself Every = refl

dim-itself : (dim : MapDim) → is_same_dim dim dim ≡ true
dim-itself dim = and_from _ _ (line-itself dim.line) (and_from _ _ (eq-eqb dim.grid_dim dim.grid_dim refl) (align-itself dim.align))

pub layout-itself : (l : Layout) → is_same_layout l l ≡ true
layout-itself l =
    and_from _ _
    (and_from _ _ (each-itself int_eq (λ v. (signed_Decides v v).1 refl) l.shape.lower) (each-itself int_eq (λ v. (signed_Decides v v).1 refl) l.shape.extent))
    (and_from _ _ (each-itself ◌==◌ (λ v. eq-eqb v v refl) l.mapping.grid) (each-itself is_same_dim dim-itself l.mapping.dims))
