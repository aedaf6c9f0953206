-- why the fetch stopped is why there is no text
use Rattle.std.proofs.Common.{Err, ap}
use Rattle.mpy_format.proofs.Endings.{unfetched}
use Rattle.mpy_format.proofs.page.find_text.Goals as goal

pub returns-in_err-bytes-clause-stopped : goal.returns-in_err-bytes-clause-stopped
returns-in_err-bytes-clause-stopped g c = unfetched c.args.file.now (g.S.Shelf.seen c.args.shelf.now) c.in_err-bytes.field-0.0 c.from_residual.result c.from_residual.ensures.1 (λ e. c.in_err-bytes.ensures.long (ap Err e))
