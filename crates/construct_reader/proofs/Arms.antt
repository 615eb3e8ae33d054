-- One more arm of an IF.
use Rattle.std.proofs.Common.{◌≡◌, ℕ, Bool, List, [], ◌∷◌, ◌++◌, Some, sym, ap, ◌∙◌, subst, append_assoc, append-nil, Global}
use Rattle.std.specs.Prelude.{Vec}
use Rattle.syntax_tree.specs.declared.expr.Expr.{Expr}
use Rattle.syntax_tree.specs.declared.stmt.Arm.{Arm as HeldArm}
use Rattle.syntax_tree.specs.Expression.{expression}
use Rattle.construct_rules.specs.ProgramLine.{OfStatement}
use Rattle.construct_reader.specs.declared.draft.Opened.TheVariants as opened
use Rattle.construct_reader.specs.SpelledProgram.{SpelledBlock, IfBlocks, IfBlock, NoIfBlock}
use Rattle.construct_reader.specs.Views.{arm_before, spelled_if_blocks}
use Rattle.construct_reader.specs.Formed.{IsBlock, AreMore}
use Rattle.construct_reader.specs.ProgramLines.{else_if_lines, block_lines, if_lines, else_if}
use Rattle.construct_reader.specs.Draft.{AreFinished, IsOpened}
use Rattle.construct_reader.proofs.Lists.{arms_push, arms_sound, begun_push}

pub next_finished : (first : ℕ) (v : Vec HeldArm Global) (n : ℕ) (cond : Expr) (glued : Bool) (b : SpelledBlock) (a : HeldArm) (ys : List HeldArm)
    → ((arms : IfBlocks) → arm_before a arms ≡ IfBlock n (expression cond) b glued arms) → IsOpened (opened.ElseIf first v n cond glued) → IsBlock b
    → ys ≡ v.items ++ a ∷ [] → AreFinished (opened.ElseIf first v n cond glued) b first ys
next_finished first v n cond glued b a ys is h g e = subst (λ ys. AreFinished (opened.ElseIf first v n cond glued) b first ys) (sym e) record {
  lines =
      arms_push first v.items a h.0
      ∙ ap (λ as'. if_lines (spelled_if_blocks v.items) ++ else_if_lines as') (is NoIfBlock)
      ∙ ap (λ l. if_lines (spelled_if_blocks v.items) ++ (Some n, OfStatement (else_if glued (expression cond))) ∷ l) (append-nil (block_lines b))
      ∙ sym (append_assoc (if_lines (spelled_if_blocks v.items)) ((Some n, OfStatement (else_if glued (expression cond))) ∷ []) (block_lines b));
  begun = begun_push first v.items a h.0;
  sound = arms_sound v.items a h.1 (subst AreMore (sym (is NoIfBlock)) (g, tt));
}
