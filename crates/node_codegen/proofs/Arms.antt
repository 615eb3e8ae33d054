-- The code of an IF, by that of its parts.
use Rattle.std.proofs.Common.{◌≡◌, ℕ, suc, ◌+◌, List, [], ◌∷◌, ◌++◌, Global, Vec, length, append_assoc, length-append, arith, sym, ap, ◌∙◌}
use Rattle.std.proofs.lemmas.List.{append-nil, length-map, map-append}
use Rattle.std.proofs.lemmas.Grind.{flat_map-append}
use Rattle.array_meaning.specs.Terms.{Term}
use Rattle.node_code.specs.declared.instruction.Instruction.{Instruction as HeldInstruction}
use Rattle.node_code.specs.Instructions.{Instruction, Jump, JumpIfZero, Set}
use Rattle.node_code.specs.Texts.{instruction, instructions}
use Rattle.program_code.specs.ExpressionCode.{code_of, flat_of, slots_of}
use Rattle.program_code.specs.StatementCode.{arm_code}
use Rattle.node_codegen.specs.Arms.{arms_before, codes, jump_over, jumping_to}

-- an arm, by the code of its condition and that of its body
pub arm_is : (line pc b : ℕ) (t : Term) (body rest : ℕ → List Instruction) (c p v : List HeldInstruction) →
    instructions c ≡ code_of line b t ++ Set line (b + slots_of t) (flat_of b t) ∷ [] →
    instructions p ≡ body (pc + length c + 1) →
    instructions v ≡ instructions c ++ JumpIfZero (pc + length c + 1 + length p + 1) (b + slots_of t) ∷ instructions p →
    arm_code line pc b t body rest ≡ instructions v ++ jump_over (pc + length (instructions v) + 1) rest
arm_is line pc b t body rest c p v condition inside whole =
    let test : List Instruction = code_of line b t in
    let set : List Instruction = Set line (b + slots_of t) (flat_of b t) ∷ [] in
    let x : ℕ = b + slots_of t in
    let q : ℕ = pc + length (instructions v) + 1 in
    let lc : length c ≡ length test + 1 = sym (length-map c instruction) ∙ ap length condition ∙ length-append test set in
    let place : pc + length c + 1 ≡ pc + length test + 2 = omega (arith, lc) in
    let same : body (pc + length test + 2) ≡ instructions p = sym (inside ∙ ap body place) in
    let lp : length (body (pc + length test + 2)) ≡ length p = ap length same ∙ length-map p instruction in
    let lv : length (instructions v) ≡ length c + suc (length p) =
    ap length whole ∙ length-append (instructions c) (JumpIfZero (pc + length c + 1 + length p + 1) x ∷ instructions p)
    ∙ (λ i. length-map c instruction i + suc (length-map p instruction i)) in
    let after : pc + length test + 2 + length (body (pc + length test + 2)) + 1 ≡ q = omega (arith, lc, lp, lv) in
    let over : pc + length c + 1 + length p + 1 ≡ q = omega (arith, lv) in
    (λ i. test ++ Set line x (flat_of b t) ∷ JumpIfZero (after i) x ∷ (same i ++ jump_over (after i) rest))
    ∙ sym (ap (λ l. l ++ jump_over q rest) (whole ∙ (λ i. condition i ++ JumpIfZero (over i) x ∷ instructions p))
    ∙ append_assoc (test ++ set) (JumpIfZero q x ∷ instructions p) (jump_over q rest)
    ∙ append_assoc test set (JumpIfZero q x ∷ (instructions p ++ jump_over q rest)))

-- one arm more
pub arms_next : (at at' : ℕ) (cs : List (List Instruction)) (c : List Instruction) (whole rest : ℕ → List Instruction) →
    at' ≡ at + length c + 1 → whole at ≡ c ++ jump_over (at + length c + 1) rest →
    arms_before at cs whole ≡ arms_before at' (cs ++ c ∷ []) rest
arms_next at at' cs c whole rest next first =
    let e : whole at ≡ c ++ jump_over at' rest = first ∙ ap (λ k. c ++ jump_over k rest) (sym next) in
    let l : length (whole at) ≡ length c + suc (length (rest at')) = ap length e ∙ length-append c (jump_over at' rest) in
    let end : at + length (whole at) ≡ at' + length (rest at') = omega (arith, next, l) in
    (λ i. jumping_to (end i) cs ++ e i)
    ∙ sym (ap (λ l. jumping_to (at' + length (rest at')) cs ++ l) (append_assoc c (Jump (at' + length (rest at')) ∷ []) (rest at')))
    ∙ sym (append_assoc (jumping_to (at' + length (rest at')) cs) (c ++ Jump (at' + length (rest at')) ∷ []) (rest at'))
    ∙ ap (λ l. (jumping_to (at' + length (rest at')) cs ++ l) ++ rest at') (sym (append-nil (c ++ Jump (at' + length (rest at')) ∷ [])))
    ∙ ap (λ l. l ++ rest at') (sym (flat_map-append (λ c. c ++ Jump (at' + length (rest at')) ∷ []) cs (c ∷ [])))

-- the codes with one more
pub codes_next : (made new : List (Vec HeldInstruction Global)) (one : Vec HeldInstruction Global) → new ≡ made ++ one ∷ [] → codes new ≡ codes made ++ instructions one.items ∷ []
codes_next made new one is = ap codes is ∙ map-append (λ (v : Vec HeldInstruction Global). instructions v.items) made (one ∷ [])
