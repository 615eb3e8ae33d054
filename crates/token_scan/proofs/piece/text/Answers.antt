use Rattle.std.proofs.Common.{ℕ, ◌+◌, ◌≤◌, ◌∷◌, [], List, length, take, Some, refl, sym, ap, subst, ◌∙◌, append_assoc, arith}
use Rattle.std.proofs.lemmas.List.{length-drop, take_rest}
use Rattle.token_scan.specs.Pieces.{NoneQuoted, quoted}
use Rattle.token_scan.specs.Tokens.{first_byte}
use Rattle.token_scan.proofs.Fronts.{first_byte-take}
use Rattle.token_scan.proofs.Texts.{doubled, no_text, quoted-text, text-more, text_front}
use Rattle.token_scan.proofs.piece.text.Goals as goal

pub returns-in_default : goal.returns-in_default
returns-in_default c = no_text c.args.bytes.now c.requires c.in_default.ensures

pub loop-run-init : goal.loop-run-init
loop-run-init c =
    let bytes = c.args.bytes.now in
    let len : ℕ = length c.in-Some.run'.now + 2 in record {
      some = omega arith;
      within = c.in-Some.ensures.0;
      read = sym (quoted-text (first_byte bytes) (take len bytes) (first_byte-take bytes len (omega arith))) ∙ c.in-Some.ensures.1 ∙ ap Some (sym c.in_ok-characters.ensures.items);
    }

pub loop-run-preserved : goal.loop-run-preserved
loop-run-preserved c =
    let bytes = c.args.bytes.now in
    let len = c.loop-run.len in
    let run = c.in-Some-quoted.run'.now in
    let k : ℕ = length run + 2 in
    let read = c.loop-run.characters.items in
    let within : len + k ≤ length bytes = omega (arith, c.in-Some-quoted.ensures.0, ap length (take_rest bytes len), length-drop len bytes, c.loop-run.invariant.within) in record {
      some = omega (arith, c.loop-run.invariant.some);
      within = within;
      read = text-more bytes read len k c.loop-run.invariant.some (omega arith) within c.loop-run.invariant.read
          ∙ ap (doubled (first_byte bytes) read) (ap (λ (l : List ℕ). quoted (first_byte bytes) (take k l)) (sym (take_rest bytes len)) ∙ c.in-Some-quoted.ensures.1)
          ∙ ap Some (sym (rw (c.in_ok-extend_from_slice.ensures.items, c.in_ok-push.ensures.items) (append_assoc read (first_byte bytes ∷ []) run)));
    }

pub returns : goal.returns
returns c =
    let bytes = c.args.bytes.now in
    let i = c.loop-run.invariant in (
      text_front bytes c.new.result c.loop-run.len c.requires i.some i.within (i.read ∙ ap Some (sym c.new.ensures))
          (subst (NoneQuoted (first_byte bytes)) (take_rest bytes c.loop-run.len) c.in_default-quoted.ensures),
      refl,
    )
