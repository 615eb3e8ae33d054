-- Drafts, one line further.
use Rattle.std.proofs.Common.{◌≡◌, false, List, [], ◌∷◌, ◌++◌, None, refl, sym, ap, ◌∙◌, subst, append_assoc, append-nil, Global}
use Rattle.std.specs.Prelude.{Vec}
use Rattle.syntax_tree.specs.declared.stmt.Stmt.{Stmt}
use Rattle.construct_reader.specs.declared.draft.Open.{Open as HeldOpen}
use Rattle.construct_reader.specs.Views.{spelled_block, spelled_statement}
use Rattle.construct_reader.specs.Formed.{IsBlock, IsStatement}
use Rattle.construct_reader.specs.ProgramLines.{block_lines, statement_lines}
use Rattle.construct_reader.specs.Draft.{AreOpen, IsAppended, IsNested, IsOpened, opened_lines, opens_lines, shape}
use Rattle.construct_reader.proofs.Lists.{block_push, block_sound, open_sound, opens_push, shape_push}

pub nested_is : (os : List HeldOpen) (o : HeldOpen) (v : Vec HeldOpen Global) (b : Vec Stmt Global) → v.items ≡ os ++ o ∷ [] → b.items ≡ []
    → AreOpen os → IsBlock (spelled_block o.before.items) → IsOpened o.what
    → IsNested os o.before.items o.what record { opens = v; block = b; mark = None; end = None }
nested_is os o v b e f h g w = record {
  lines =
      append-nil (opens_lines v.items ++ block_lines (spelled_block b.items))
      ∙ ap (λ ss. opens_lines v.items ++ block_lines (spelled_block ss)) f
      ∙ append-nil (opens_lines v.items)
      ∙ ap opens_lines e
      ∙ opens_push os o
      ∙ sym (append_assoc (opens_lines os) (block_lines (spelled_block o.before.items)) (opened_lines o.what));
  sound = (subst AreOpen (sym e) (open_sound os o h g w), subst (λ ss. IsBlock (spelled_block ss)) (sym f) tt, tt);
  stands = ap (λ os. record { opens = shape os; pending = None; ended = false }) e ∙ ap (λ s. record { opens = s; pending = None; ended = false }) (shape_push os o);
}

pub appended_is : (os : Vec HeldOpen Global) (ss : List Stmt) (s : Stmt) (b : Vec Stmt Global) → b.items ≡ ss ++ s ∷ [] → AreOpen os.items
    → IsBlock (spelled_block ss) → IsStatement (spelled_statement s)
    → IsAppended os.items ss s record { opens = os; block = b; mark = None; end = None }
appended_is os ss s b e h g w = record {
  lines =
      append-nil (opens_lines os.items ++ block_lines (spelled_block b.items))
      ∙ ap (λ ss. opens_lines os.items ++ block_lines (spelled_block ss)) e
      ∙ ap (λ l. opens_lines os.items ++ l) (block_push ss s)
      ∙ sym (append_assoc (opens_lines os.items) (block_lines (spelled_block ss)) (statement_lines (spelled_statement s)));
  sound = (h, subst (λ ss. IsBlock (spelled_block ss)) (sym e) (block_sound ss s g w), tt);
  stands = refl;
}
