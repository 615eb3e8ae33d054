use Rattle.aligned_copies.proofs.Valid.{beside-laid}
use Rattle.aligned_copies.proofs.promises.copies_are_laid.Goals as goal

pub returns : goal.returns
returns c nodes layout ns xs laid good each = beside-laid nodes layout ns xs laid good each
