-- `slices::pieces::stands` meets its contract: the bytes that begin the part cut out there stand there. Assumes nothing.
use mathlib.Core.Path.{◌∙◌}
use Rattle.slices.proofs.PieceLaws.{starts_stand}
use Rattle.slices.proofs.pieces.stands.Goals as goal

pub returns : goal.returns
returns g c =
    let args = c.args in
    c.starts_with.ensures.value ∙ starts_stand args.bytes.now args.s.now args.at g.row.N c.told-bytes c.requires
