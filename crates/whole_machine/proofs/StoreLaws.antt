-- Stores one by one.
use Rattle.std.proofs.Common.{◌≡◌, ℕ, ◌+◌, ◌<◌, List, [], ◌∷◌, ◌++◌, length, take, get_or, add-one, refl, sym, ◌∙◌, ap, subst}
use Rattle.std.proofs.Math.Seq.{take-suc}
use Rattle.storage.specs.Storage.{Storage, write}
use Rattle.storage.specs.Spots.{spot_of}
use Rattle.whole_machine.specs.declared.stores.Store.{Store}
use Rattle.whole_machine.specs.Stores.{stored_all}

-- one store more at the end
pub stored-more : (ss : List Store) (s : Store) (rows : Storage) → stored_all (ss ++ s ∷ []) rows ≡ write (stored_all ss rows) (spot_of s.spot) s.value
stored-more [] s rows = refl
stored-more (t ∷ ss) s rows = stored-more ss s (write rows (spot_of t.spot) t.value)

-- of a list one store more
pub stored-next : (ss xs : List Store) (i : ℕ) (z : Store) (old now new : Storage) → xs ≡ ss → i < length xs → now ≡ stored_all (take i ss) old
    → new ≡ write now (spot_of (get_or xs i z).spot) (get_or xs i z).value → new ≡ stored_all (take (i + 1) ss) old
stored-next ss xs i z old now new same lt so_far e =
    let inside : i < length ss = subst (λ (l : List Store). i < length l) same lt in
    e ∙ (λ k. write (so_far k) (spot_of (get_or (same k) i z).spot) (get_or (same k) i z).value)
    ∙ sym (ap (λ n. stored_all (take n ss) old) (add-one i) ∙ ap (λ l. stored_all l old) (take-suc ss i z inside) ∙ stored-more (take i ss) (get_or ss i z) old)
