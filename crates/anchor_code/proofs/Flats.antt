-- Lists of expressions over the slots.
use Rattle.std.proofs.Common.{◌≡◌, List, [], ◌∷◌, map, refl, sym, ap, ◌∙◌}
use Rattle.node_code.specs.declared.flat.Flat.{Flat as HeldFlat}
use Rattle.node_code.specs.Flat.{Flat, Flats, NoFlat, AndFlat}
use Rattle.node_code.specs.Texts.{flat, flats_of}

abbrev flats_in : List Flat → Flats
flats_in [] = NoFlat
flats_in (f ∷ fs) = AndFlat f (flats_in fs)

flats_held : (fs : List HeldFlat) → flats_of fs ≡ flats_in (map flat fs)
flats_held [] = refl
flats_held (f ∷ fs) = ap (AndFlat (flat f)) (flats_held fs)

-- they are the same where each is
pub same_flats : (fs gs : List HeldFlat) → map flat fs ≡ map flat gs → flats_of fs ≡ flats_of gs
same_flats fs gs same = flats_held fs ∙ ap flats_in same ∙ sym (flats_held gs)
