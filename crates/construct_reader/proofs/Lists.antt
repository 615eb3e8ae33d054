-- The lines of lists that grow.
use Rattle.std.proofs.Common.{◌≡◌, ℕ, true, List, [], ◌∷◌, ◌++◌, Some, length, arith, refl, sym, ap, ◌∙◌, append_assoc, append-nil}
use Rattle.syntax_tree.specs.declared.stmt.Arm.{Arm as HeldArm}
use Rattle.syntax_tree.specs.declared.stmt.Stmt.{Stmt}
use Rattle.syntax_tree.specs.declared.stmt.StatementKind.TheBlock.{struct-Arm}
use Rattle.syntax_tree.specs.Expression.{expression}
use Rattle.statement_reader.specs.declared.kind.Kind.TheVariants as kind
use Rattle.statement_reader.specs.Forms as statements
use Rattle.construct_rules.specs.ProgramLine.{OfStatement, ProgramLine}
use Rattle.construct_reader.specs.declared.draft.Open.{Open as HeldOpen}
use Rattle.construct_reader.specs.SpelledProgram.{NoIfBlock}
use Rattle.construct_reader.specs.Views.{arm_before, spelled_if_blocks, spelled_block, spelled_row, spelled_statement}
use Rattle.construct_reader.specs.Build.{are_begun}
use Rattle.construct_reader.specs.Formed.{IsBlock, IsStatement, AreArms, AreMore}
use Rattle.construct_reader.specs.ProgramLines.{Entry, IsEntryOf, AreEntriesOf, else_if_lines, block_lines, else_if, if_lines, statement_lines}
use Rattle.construct_reader.specs.Draft.{AreOpen, IsOpened, open_of, opened_lines, opens_lines, shape}

pub block_push : (ss : List Stmt) (s : Stmt) → block_lines (spelled_block (ss ++ s ∷ [])) ≡ block_lines (spelled_block ss) ++ statement_lines (spelled_statement s)
block_push [] s = append-nil (statement_lines (spelled_statement s))
block_push (t ∷ ss) s =
    ap (λ l. statement_lines (spelled_statement t) ++ l) (block_push ss s)
    ∙ sym (append_assoc (statement_lines (spelled_statement t)) (block_lines (spelled_block ss)) (statement_lines (spelled_statement s)))

pub block_sound : (ss : List Stmt) (s : Stmt) → IsBlock (spelled_block ss) → IsStatement (spelled_statement s) → IsBlock (spelled_block (ss ++ s ∷ []))
block_sound [] s h g = (g, tt)
block_sound (t ∷ ss) s h g = (h.0, block_sound ss s h.1 g)

pub opens_push : (os : List HeldOpen) (o : HeldOpen) → opens_lines (os ++ o ∷ []) ≡ opens_lines os ++ (block_lines (spelled_block o.before.items) ++ opened_lines o.what)
opens_push [] o = append-nil (block_lines (spelled_block o.before.items) ++ opened_lines o.what)
opens_push (p ∷ os) o =
    ap (λ l. (block_lines (spelled_block p.before.items) ++ opened_lines p.what) ++ l) (opens_push os o)
    ∙ sym (append_assoc (block_lines (spelled_block p.before.items) ++ opened_lines p.what) (opens_lines os) (block_lines (spelled_block o.before.items) ++ opened_lines o.what))

pub open_sound : (os : List HeldOpen) (o : HeldOpen) → AreOpen os → IsBlock (spelled_block o.before.items) → IsOpened o.what → AreOpen (os ++ o ∷ [])
open_sound [] o h b w = ((b, w), tt)
open_sound (p ∷ os) o h b w = (h.0, open_sound os o h.1 b w)

pub open_front : (os : List HeldOpen) (o : HeldOpen) → AreOpen (os ++ o ∷ []) → AreOpen os
open_front [] o h = tt
open_front (p ∷ os) o h = (h.0, open_front os o h.1)

pub open_last : (os : List HeldOpen) (o : HeldOpen) → AreOpen (os ++ o ∷ []) → IsBlock (spelled_block o.before.items) × IsOpened o.what
open_last [] o h = h.0
open_last (p ∷ os) o h = open_last os o h.1

pub shape_push : (os : List HeldOpen) (o : HeldOpen) → shape (os ++ o ∷ []) ≡ open_of o.what ∷ shape os
shape_push [] o = refl
shape_push (p ∷ os) o = ap (λ l. l ++ open_of p.what ∷ []) (shape_push os o)

more_push : (xs : List HeldArm) (a : HeldArm) → else_if_lines (spelled_if_blocks (xs ++ a ∷ [])) ≡ else_if_lines (spelled_if_blocks xs) ++ else_if_lines (arm_before a NoIfBlock)
more_push [] a = refl
more_push (struct-Arm n cond shape row glued ∷ xs) a =
    ap (λ l. (Some n, OfStatement (else_if glued (expression cond))) ∷ (block_lines (spelled_row row) ++ l)) (more_push xs a)
    ∙ ap (λ l. (Some n, OfStatement (else_if glued (expression cond))) ∷ l)
    (sym (append_assoc (block_lines (spelled_row row)) (else_if_lines (spelled_if_blocks xs)) (else_if_lines (arm_before a NoIfBlock))))

-- arms with one more after them
pub arms_push : (n : ℕ) (xs : List HeldArm) (a : HeldArm) → are_begun n xs ≡ true
    → if_lines (spelled_if_blocks (xs ++ a ∷ [])) ≡ if_lines (spelled_if_blocks xs) ++ else_if_lines (arm_before a NoIfBlock)
arms_push n [] a h = absurd cc
arms_push n (struct-Arm m cond shape row glued ∷ xs) a h =
    ap (λ l. (Some m, OfStatement (statements.Plain kind.IfThen (expression cond))) ∷ (block_lines (spelled_row row) ++ l)) (more_push xs a)
    ∙ ap (λ l. (Some m, OfStatement (statements.Plain kind.IfThen (expression cond))) ∷ l)
    (sym (append_assoc (block_lines (spelled_row row)) (else_if_lines (spelled_if_blocks xs)) (else_if_lines (arm_before a NoIfBlock))))

more_sound : (xs : List HeldArm) (a : HeldArm) → AreMore (spelled_if_blocks xs) → AreMore (arm_before a NoIfBlock) → AreMore (spelled_if_blocks (xs ++ a ∷ []))
more_sound [] a h g = g
more_sound (struct-Arm m cond shape row glued ∷ xs) a h g = (h.0, more_sound xs a h.1 g)

pub arms_sound : (xs : List HeldArm) (a : HeldArm) → AreArms (spelled_if_blocks xs) → AreMore (arm_before a NoIfBlock) → AreArms (spelled_if_blocks (xs ++ a ∷ []))
arms_sound [] a h g = absurd h
arms_sound (struct-Arm m cond shape row glued ∷ xs) a h g = (h.0, h.1, more_sound xs a h.2 g)

pub begun_push : (n : ℕ) (xs : List HeldArm) (a : HeldArm) → are_begun n xs ≡ true → are_begun n (xs ++ a ∷ []) ≡ true
begun_push n [] a h = absurd cc
begun_push n (b ∷ xs) a h = h

-- one line more on both sides
pub are_push : (es : List Entry) (e : Entry) (ls : List ProgramLine) (l : ProgramLine) → AreEntriesOf es ls → IsEntryOf e l → AreEntriesOf (es ++ e ∷ []) (ls ++ l ∷ [])
are_push [] e [] l h g = (g, tt)
are_push [] e (k ∷ ls) l h g = absurd h
are_push (d ∷ es) e [] l h g = absurd h
are_push (d ∷ es) e (k ∷ ls) l h g = (h.0, are_push es e ls l h.1 g)

pub nil_length : {A : Type 0} (xs : List A) → length xs ≡ 0 → xs ≡ []
nil_length [] h = refl
nil_length (x ∷ xs) h = absurd (omega arith)
