-- Stores one by one.
use Rattle.std.proofs.Common.{◌≡◌, ℕ, ℤ, ◌+◌, ◌<◌, true, List, [], ◌∷◌, ◌++◌, length, take, get_or, if◌then◌else◌, add-one, refl, sym, ◌∙◌, ap, subst}
use Rattle.std.proofs.Math.Seq.{take-suc}
use Rattle.storage.specs.Storage.{Storage, Spot, write}
use Rattle.machine_steps.specs.Layout.{Layout, owns_spot}
use Rattle.machine_steps.specs.Node.{local_write, local_spot}
use Rattle.storage.specs.Spots.{spot_of}
use Rattle.part_steps.specs.declared.stores.Store.{Store}
use Rattle.part_steps.specs.declared.stores.Stored.{Stored}
use Rattle.part_steps.specs.Stores.{each_stored, put, stored_all}

-- ---- one store more at the end

pub stored-more : (ss : List Stored) (s : Stored) (pieces : Storage) → stored_all (ss ++ s ∷ []) pieces ≡ put s (stored_all ss pieces)
stored-more [] s pieces = refl
stored-more (t ∷ ss) s pieces = stored-more ss s (put t pieces)

pub each-more : (ss : List Store) (s : Store) (pieces : Storage) → each_stored (ss ++ s ∷ []) pieces ≡ write (each_stored ss pieces) (spot_of s.spot) s.value
each-more [] s pieces = refl
each-more (t ∷ ss) s pieces = each-more ss s (write pieces (spot_of t.spot) t.value)

-- a store of an element that the node owns
pub stored-here : (layouts : List Layout) (id : ℕ) (spot : Spot) (value : ℤ) (ss : List Store) (s : Store) (new : List Store) (pieces : Storage) → new ≡ ss ++ s ∷ []
    → spot_of s.spot ≡ local_spot layouts id spot → s.value ≡ value → owns_spot layouts id spot ≡ true → each_stored new pieces ≡ local_write layouts id spot value (each_stored ss pieces)
stored-here layouts id spot value ss s new pieces e at is owner =
    ap (λ xs. each_stored xs pieces) e ∙ each-more ss s pieces ∙ (λ i. write (each_stored ss pieces) (at i) (is i))
    ∙ ap (λ b. if b then write (each_stored ss pieces) (local_spot layouts id spot) value else each_stored ss pieces) (sym owner)

-- a store at the end of the list, after which there are no single ones
pub stored-last : (ss : List Store) (list new : List Stored) (s : Stored) (pieces before : Storage) → ss ≡ [] → new ≡ list ++ s ∷ []
    → each_stored ss (stored_all list pieces) ≡ before → each_stored ss (stored_all new pieces) ≡ put s before
stored-last ss list new s pieces before none more is =
    (λ i. each_stored (none i) (stored_all (more i) pieces)) ∙ stored-more list s pieces ∙ ap (put s) (sym (ap (λ ss. each_stored ss (stored_all list pieces)) none) ∙ is)

-- ---- of a list one store more

pub stored-next : (ss xs : List Stored) (i : ℕ) (z : Stored) (old now new : Storage) → xs ≡ ss → i < length xs → now ≡ stored_all (take i ss) old
    → new ≡ put (get_or xs i z) now → new ≡ stored_all (take (i + 1) ss) old
stored-next ss xs i z old now new same lt so_far e =
    let inside : i < length ss = subst (λ (l : List Stored). i < length l) same lt in
    e ∙ (λ k. put (get_or (same k) i z) (so_far k))
    ∙ sym (ap (λ n. stored_all (take n ss) old) (add-one i) ∙ ap (λ l. stored_all l old) (take-suc ss i z inside) ∙ stored-more (take i ss) (get_or ss i z) old)

pub each-next : (ss : List Store) (i : ℕ) (z : Store) (old now new : Storage) → i < length ss → now ≡ each_stored (take i ss) old
    → new ≡ write now (spot_of (get_or ss i z).spot) (get_or ss i z).value → new ≡ each_stored (take (i + 1) ss) old
each-next ss i z old now new lt so_far e =
    e ∙ ap (λ ps. write ps (spot_of (get_or ss i z).spot) (get_or ss i z).value) so_far
    ∙ sym (ap (λ n. each_stored (take n ss) old) (add-one i) ∙ ap (λ l. each_stored l old) (take-suc ss i z lt) ∙ each-more (take i ss) (get_or ss i z) old)
