-- Pieces that a sink took or a source gave, one after another.
use Rattle.std.proofs.Common.{◌≡◌, ℕ, ◌+◌, List, ◌++◌, length, take, drop, Option, None, Some, sym, ◌∙◌, ap, append_assoc}
use Rattle.std.proofs.lemmas.List.{take_at, take-append-drop, drop-drop}
use Rattle.hpf_ports.specs.Ports.{AreAppended}

-- a sink that took one piece and then another
pub AreAppended-more : (held mid end : Option (List ℕ)) (xs ys : List ℕ) → AreAppended held mid xs → AreAppended mid end ys → AreAppended held end (xs ++ ys)
AreAppended-more None mid end xs ys first second = rw first at second
AreAppended-more (Some held) mid end xs ys first second =
    let next = rw first at second in
    next ∙ ap (λ bytes. Some bytes) (append_assoc held xs ys)

-- what a source over memory has left, with a piece of it copied into the front of a buffer
pub piece_left : (bytes left piece after : List ℕ) (given n : ℕ) → drop given bytes ≡ left → length piece ≡ n → piece ≡ take n (drop given bytes)
    → left ≡ take n (piece ++ after) ++ drop (given + n) bytes
piece_left bytes left piece after given n left_is len piece_is =
    sym left_is ∙ sym (take-append-drop n (drop given bytes)) ∙ same
  where
    same : take n (drop given bytes) ++ drop n (drop given bytes) ≡ take n (piece ++ after) ++ drop (given + n) bytes
    same = rw (take_at piece after n len, drop-drop n given bytes, ← piece_is)
