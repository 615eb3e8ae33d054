-- Of a promise.
-- When two lists of slots agree on the slots that are mentioned.
use Rattle.std.specs.Prelude.{ℕ, ◌+◌, ◌&&◌, Bool, true, false, List, ℤ, Option, Some, None}
use Rattle.std.specs.List.{list_all}
use Rattle.std.specs.Ordering.{int_eq}
use Rattle.node_code.specs.Flat.{Flat, Int, Slot, Axis, Read, Operated, Flats, NoFlat, AndFlat}
use Rattle.code_meaning.specs.Flat.{slot}
use Rattle.node_code.specs.Forms.{Sub, SubAt, SubAlong, ArrayForm, FlatForm, SectionForm, OperationForm, Forms, NoForm, AndForm}
use Rattle.node_code.specs.Anchors.{AnchorSub, AnchorAt, AnchorAlong, FlatAnchor}
use Rattle.node_code.specs.Instructions as code
use Rattle.node_code.specs.Instructions.{Instruction}
use Rattle.node_code.specs.NestStatements.{NestLeft, ElementLeft, CopyLeft, NestStatement}
use Rattle.node_code.specs.Parallel.{Assignment, Evaluation}

abbrev pub agree_at : List ℤ → List ℤ → ℕ → Bool
agree_at old new k = int_eq (slot old k) (slot new k)

abbrev mutual
  pub agree_on_flat : List ℤ → List ℤ → Flat → Bool
  agree_on_flat old new (Int v) = true
  agree_on_flat old new (Slot k) = agree_at old new k
  agree_on_flat old new (Axis k) = true
  agree_on_flat old new (Read k) = true
  agree_on_flat old new (Operated o fs) = agree_on_flats old new fs

  pub agree_on_flats : List ℤ → List ℤ → Flats → Bool
  agree_on_flats old new NoFlat = true
  agree_on_flats old new (AndFlat f fs) = agree_on_flat old new f && agree_on_flats old new fs

-- a triplet stands in three slots
abbrev pub agree_on_sub : List ℤ → List ℤ → Sub → Bool
agree_on_sub old new (SubAt f) = agree_on_flat old new f
agree_on_sub old new (SubAlong v) = agree_at old new v && (agree_at old new (v + 1) && agree_at old new (v + 2))

abbrev pub agree_on_subs : List ℤ → List ℤ → List Sub → Bool
agree_on_subs old new ds = list_all (agree_on_sub old new) ds

abbrev mutual
  pub agree_on_form : List ℤ → List ℤ → ArrayForm → Bool
  agree_on_form old new (FlatForm f) = agree_on_flat old new f
  agree_on_form old new (SectionForm a ds) = agree_on_subs old new ds
  agree_on_form old new (OperationForm o fs) = agree_on_forms old new fs

  pub agree_on_forms : List ℤ → List ℤ → Forms → Bool
  agree_on_forms old new NoForm = true
  agree_on_forms old new (AndForm f fs) = agree_on_form old new f && agree_on_forms old new fs

-- what copies lie beside
abbrev pub agree_on_anchor_sub : List ℤ → List ℤ → AnchorSub → Bool
agree_on_anchor_sub old new (AnchorAt f) = agree_on_flat old new f
agree_on_anchor_sub old new (AnchorAlong first stride) = agree_on_flat old new first && agree_on_flat old new stride

abbrev pub agree_on_beside : List ℤ → List ℤ → Option FlatAnchor → Bool
agree_on_beside old new None = true
agree_on_beside old new (Some a) = list_all (agree_on_anchor_sub old new) a.subscripts

abbrev pub agree_on_assignment : List ℤ → List ℤ → Assignment → Bool
agree_on_assignment old new p =
    agree_on_subs old new p.over && (agree_on_subs old new p.left && (agree_on_form old new p.right && agree_on_beside old new p.beside))

abbrev pub agree_on_evaluation : List ℤ → List ℤ → Evaluation → Bool
agree_on_evaluation old new p = agree_on_subs old new p.over && (agree_on_form old new p.form && agree_on_beside old new p.beside)

abbrev pub agree_on_left : List ℤ → List ℤ → NestLeft → Bool
agree_on_left old new (ElementLeft a ds) = agree_on_subs old new ds
agree_on_left old new (CopyLeft row) = true

abbrev pub agree_on_nest : List ℤ → List ℤ → NestStatement → Bool
agree_on_nest old new p =
    agree_on_subs old new p.over && (agree_on_left old new p.left && (agree_on_form old new p.right && agree_on_beside old new p.beside))

-- a parallel statement or a reduction, and they agree on all that it mentions
abbrev pub agree_on : List ℤ → List ℤ → Instruction → Bool
agree_on old new (code.Par p) = agree_on_assignment old new p
agree_on old new (code.ParForall p) = agree_on_assignment old new p
agree_on old new (code.ParNest p) = agree_on_nest old new p
agree_on old new (code.ParCopy copy p) = agree_on_evaluation old new p
agree_on old new (code.ParForallCopy copy p) = agree_on_evaluation old new p
agree_on old new (code.Reduce p o x) = agree_on_evaluation old new p
agree_on old new i = false
