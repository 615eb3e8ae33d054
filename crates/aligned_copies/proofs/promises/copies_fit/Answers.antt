use Rattle.aligned_copies.proofs.Valid.{numbers-fit}
use Rattle.aligned_copies.proofs.promises.copies_fit.Goals as goal

pub returns : goal.returns
returns c nodes layout ns xs laid good each = numbers-fit nodes layout ns xs laid good each
