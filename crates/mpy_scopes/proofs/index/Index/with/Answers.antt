use Rattle.std.proofs.Common.{map, sym, ◌∙◌}
use Rattle.mpy_scopes.specs.Seen.{name_of}
use Rattle.mpy_scopes.proofs.Positions.{no_place}
use Rattle.mpy_scopes.proofs.index.Index.with.Goals as goal

pub and-requires : goal.and-requires
and-requires c = no_place (map name_of c.args.self.names.items) c.args.x.now (sym c.has.ensures ∙ c.if-has.false)
