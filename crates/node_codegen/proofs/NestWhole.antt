-- The code of a whole nest, by that of its parts.
use Rattle.std.proofs.Common.{◌≡◌, ℕ, ◌+◌, ◌*◌, List, [], ◌∷◌, ◌++◌, length, map, append_assoc, refl, ap, ◌∙◌}
use Rattle.array_meaning.specs.Statements.{Block, Loop, Nest, Outermost}
use Rattle.resolved_program.specs.declared.statements.Statement.{Statement as HeldStatement}
use Rattle.resolved_program.specs.Resolved.{block_of}
use Rattle.node_code.specs.Forms.{SubAlong}
use Rattle.node_code.specs.Instructions.{Instruction}
use Rattle.program_code.specs.NestInstructions.{nest_instructions}
use Rattle.program_code.specs.NestCode.{along, finals, indices_code, inner_bounds, nest_beside, nest_code, nest_rows, nest_slots, plain, stored, test_in, text_in, trips_code}
use Rattle.program_code.specs.StatementCode.{marked_code, marked_copies, marked_slots}
use Rattle.node_codegen.specs.declared.nest_names.NestNames.{NestNames}
use Rattle.node_codegen.specs.NestNames.{AreNamesOf, beside_by, over_by, test_at, test_by, text_at, text_by, with_index}
use Rattle.node_codegen.specs.NestFinals.{finals_at, finals_by}
use Rattle.node_codegen.proofs.NestNames.{finals_is, texts_are}

-- ---- what asks for the indices of loops alone

pub along_indices : (v : ℕ) (ls : List Loop) → along v (map with_index (map (λ l. l.index) ls)) ≡ along v ls
along_indices v [] = refl
along_indices v (l ∷ ls) = ap (λ over. over ++ SubAlong v ∷ []) (along_indices (v + 4) ls)

pub trips_indices : (line v target : ℕ) (ls : List Loop) → trips_code line v target (map with_index (map (λ l. l.index) ls)) ≡ trips_code line v target ls
trips_indices line v target [] = refl
trips_indices line v target (l ∷ ls) = ap (λ c. trips_code line v target (l ∷ []) ++ c) (trips_indices line (v + 4) target ls)

pub indices_indices : (line v target : ℕ) (ls : List Loop) → indices_code line v target (map with_index (map (λ l. l.index) ls)) ≡ indices_code line v target ls
indices_indices line v target [] = refl
indices_indices line v target (l ∷ ls) = ap (λ c. indices_code line v target (l ∷ []) ++ c) (indices_indices line (v + 4) target ls)

-- ---- a nest with statements

pub marked_is : (n line : ℕ) (nest : Nest) (ss : List HeldStatement) (v pc : ℕ) (loops : List Instruction) → (length ss ≡ 0 → ⊥) →
    marked_code n line (Outermost nest (block_of ss)) v pc loops ≡ nest_code n line nest (block_of ss) v pc
marked_is n line nest [] v pc loops some = absurd (some refl)
marked_is n line nest (s ∷ ss) v pc loops some = refl

pub slots_marked : (nest : Nest) (ss : List HeldStatement) (loops : ℕ) → (length ss ≡ 0 → ⊥) → marked_slots (Outermost nest (block_of ss)) loops ≡ nest_slots nest (block_of ss)
slots_marked nest [] loops some = absurd (some refl)
slots_marked nest (s ∷ ss) loops some = refl

pub copies_marked : (n : ℕ) (nest : Nest) (ss : List HeldStatement) (loops : ℕ) → (length ss ≡ 0 → ⊥) →
    marked_copies n (Outermost nest (block_of ss)) loops ≡ nest_rows n nest (block_of ss)
copies_marked n nest [] loops some = absurd (some refl)
copies_marked n nest (s ∷ ss) loops some = refl

-- ---- its code

-- the statements, over the names as code holds them
statements_are : (n line : ℕ) (nest : Nest) (body : Block) (v : ℕ) (w : NestNames) (b pc : ℕ) → AreNamesOf n line nest body v w →
    nest_instructions w.line (over_by w) (beside_by w) (text_by w) (test_by w) w.stored (finals_by w body 0 w.scalars.items) (plain body) b pc
    ≡ nest_instructions line (along v nest.loops) (nest_beside nest body) (text_in n nest body) (test_in n nest body) (stored n nest body) (finals n nest body) (plain body) b pc
statements_are n line nest body v w b pc are =
    (λ i. nest_instructions (are.line_is i) (are.over_is i) (are.beside_is i)
    (text_at (are.names_are i) (are.marks_are i) (are.scalars_are i) (are.reduction_is i) (are.indices_are i))
    (test_at (are.names_are i) (are.marks_are i) (are.scalars_are i) (are.reduction_is i) (are.indices_are i))
    (are.stored_is i) (finals_at (are.names_are i) (are.marks_are i) (are.reduction_is i) body 0 (are.scalars_are i)) (plain body) b pc)
    ∙ (λ i. nest_instructions line (along v nest.loops) (nest_beside nest body) (texts_are n nest body i) (test_in n nest body) (stored n nest body) (finals_is n nest body i) (plain body) b pc)

-- the parts, one after the other
pub nest_is : (n line : ℕ) (nest : Nest) (body : Block) (v pc : ℕ) (w : NestNames) (count from b after end : ℕ) (bounds trips statements indices whole : List Instruction) →
    AreNamesOf n line nest body v w → bounds ≡ inner_bounds line v nest.loops → count ≡ length nest.loops → from ≡ pc + length bounds + count → b ≡ v + 4 * count →
    statements ≡ nest_instructions w.line (over_by w) (beside_by w) (text_by w) (test_by w) w.stored (finals_by w body 0 w.scalars.items) (plain body) b from →
    after ≡ from + length statements → trips ≡ trips_code line v after nest.loops → end ≡ after + 3 * count → indices ≡ indices_code line v end nest.loops →
    whole ≡ (bounds ++ trips) ++ (statements ++ indices) → whole ≡ nest_code n line nest body v pc
nest_is n line nest body v pc w count from b after end bounds trips statements indices whole are first many begins slots inner ends over last shown all =
    let begin : from ≡ pc + length (inner_bounds line v nest.loops) + length nest.loops = begins ∙ (λ i. pc + length (first i) + many i) in
    let free : b ≡ v + 4 * length nest.loops = slots ∙ ap (λ c. v + 4 * c) many in
    let own = λ (b from : ℕ). nest_instructions line (along v nest.loops) (nest_beside nest body) (text_in n nest body) (test_in n nest body) (stored n nest body) (finals n nest body) (plain body) b from in
    let made : statements ≡ own (v + 4 * length nest.loops) (pc + length (inner_bounds line v nest.loops) + length nest.loops) =
    inner ∙ statements_are n line nest body v w b from are ∙ (λ i. own (free i) (begin i)) in
    let behind : after ≡ pc + length (inner_bounds line v nest.loops) + length nest.loops
    + length (own (v + 4 * length nest.loops) (pc + length (inner_bounds line v nest.loops) + length nest.loops)) = ends ∙ (λ i. begin i + length (made i)) in
    all ∙ append_assoc bounds trips (statements ++ indices)
    ∙ (λ i. first i ++ ((over ∙ ap (λ p. trips_code line v p nest.loops) behind) i
    ++ (made i ++ (shown ∙ ap (λ p. indices_code line v p nest.loops) (last ∙ (λ i. behind i + 3 * many i))) i)))
