-- The code of the statements of a nest, by that of their parts.
use Rattle.std.proofs.Common.{◌≡◌, ℕ, suc, ◌+◌, List, [], ◌∷◌, ◌++◌, Option, Some, None, true, false, pos, length, map, append_assoc, refl, arith, sym, ap, ◌∙◌}
use Rattle.std.proofs.lemmas.Bool.{true≢false}
use Rattle.std.proofs.lemmas.List.{map-append}
use Rattle.array_meaning.specs.Terms.{Term}
use Rattle.node_code.specs.declared.instruction.Instruction.{Instruction as HeldInstruction}
use Rattle.node_code.specs.Flat.{Int}
use Rattle.node_code.specs.Instructions.{Instruction, MakeCopies}
use Rattle.node_code.specs.Texts.{instruction, instructions}
use Rattle.nest_syntax.specs.Asked.{tested_asked}
use Rattle.program_code.specs.NestInstructions as forms
use Rattle.program_code.specs.NestInstructions.{test_instruction, count_nest}
use Rattle.program_code.specs.NestCode.{Lined, PlainBody, plain_else}
use Rattle.node_codegen.specs.declared.nest_names.NestNames.{NestNames}
use Rattle.node_codegen.specs.NestNames.{arms_by, beside_by, body_by, over_by, test_by, text_by}
use Rattle.node_codegen.specs.NestTexts.{IsArmCode, is_bare}

-- code that is made, before what stands after it
pub with_code : (w : NestNames) (rest : PlainBody) (guard : Option ℕ) (k m b pc : ℕ) (c v : List Instruction) → v ≡ c → m ≡ k →
    c ++ body_by w rest guard k b (pc + length c) ≡ v ++ body_by w rest guard m b (pc + length v)
with_code w rest guard k m b pc c v same number = λ i. sym same i ++ body_by w rest guard (sym number i) b (pc + length (sym same i))

-- code that is put after other code
pub put_after : (made new part : List HeldInstruction) (whole before after : List Instruction) → new ≡ made ++ part → whole ≡ instructions made ++ before →
    before ≡ instructions part ++ after → whole ≡ instructions new ++ after
put_after made new part whole before after more so_far next =
    so_far ∙ ap (λ l. instructions made ++ l) next ∙ sym (append_assoc (instructions made) (instructions part) after)
    ∙ ap (λ l. l ++ after) (sym (ap instructions more ∙ map-append instruction made part))

-- an arm, by its condition's instruction and the code of its body
pub arm_is : (w : NestNames) (test : Option (Lined Term)) (body : PlainBody) (guard : Option ℕ) (earlier : List ℕ) (k b pc copy : ℕ) (t : Instruction) (c v : List Instruction) →
    copy ≡ w.stored + k → t ≡ test_instruction w.line (over_by w) (beside_by w) (text_by w) (test_by w) w.stored (tested_asked guard earlier) test copy →
    c ≡ body_by w body (Some k) (k + 1) b (pc + 2) → v ≡ MakeCopies copy (over_by w) (Int (pos 0)) (beside_by w) ∷ t ∷ c → IsArmCode w test body guard earlier k b pc v
arm_is w test body guard earlier k b pc copy t c v row tests inside whole = λ others.
    let rest = arms_by w others guard (k ∷ earlier) (k + 1 + count_nest body) b in
    let own = body_by w body (Some k) (k + 1) b (pc + 2) in
    let long : length v ≡ suc (suc (length own)) = ap length whole ∙ ap (λ l. suc (suc (length l))) inside in
    let place : pc + 2 + length own ≡ pc + length v = omega (arith, long) in
    let made : v ≡ MakeCopies (w.stored + k) (over_by w) (Int (pos 0)) (beside_by w)
    ∷ test_instruction w.line (over_by w) (beside_by w) (text_by w) (test_by w) w.stored (tested_asked guard earlier) test (w.stored + k) ∷ own =
    whole ∙ (λ i. MakeCopies (row i) (over_by w) (Int (pos 0)) (beside_by w)
    ∷ (tests ∙ ap (test_instruction w.line (over_by w) (beside_by w) (text_by w) (test_by w) w.stored (tested_asked guard earlier) test) row) i ∷ inside i) in
    ap (λ p. MakeCopies (w.stored + k) (over_by w) (Int (pos 0)) (beside_by w)
    ∷ test_instruction w.line (over_by w) (beside_by w) (text_by w) (test_by w) w.stored (tested_asked guard earlier) test (w.stored + k) ∷ (own ++ rest p)) place
    ∙ ap (λ l. l ++ rest (pc + length v)) (sym made)

-- an ELSE without statements is none
pub bare_else : (b : PlainBody) → is_bare b ≡ true → plain_else b ≡ forms.NoArm
bare_else forms.NoText is = refl
bare_else (forms.AndText a rest) is = absurd (true≢false (sym is))
bare_else (forms.AndIf arms rest) is = absurd (true≢false (sym is))
bare_else (forms.AndLoop bounds inner rest) is = absurd (true≢false (sym is))

pub some_else : (b : PlainBody) → is_bare b ≡ false → plain_else b ≡ forms.AndArm None b forms.NoArm
some_else forms.NoText is = absurd (true≢false is)
some_else (forms.AndText a rest) is = refl
some_else (forms.AndIf arms rest) is = refl
some_else (forms.AndLoop bounds inner rest) is = refl

-- one that is put after others
pub push_after : {A B : Type 0} (f : A → B) (made new : List A) (one : A) (first : B) (before rest whole : List B) → new ≡ made ++ one ∷ [] → f one ≡ first →
    before ≡ first ∷ rest → map f made ++ before ≡ whole → map f new ++ rest ≡ whole
push_after f made new one first before rest whole more is next so_far =
    ap (λ l. l ++ rest) (ap (map f) more ∙ map-append f made (one ∷ []))
    ∙ append_assoc (map f made) (f one ∷ []) rest
    ∙ ap (λ i. map f made ++ i ∷ rest) is
    ∙ ap (λ l. map f made ++ l) (sym next)
    ∙ so_far
