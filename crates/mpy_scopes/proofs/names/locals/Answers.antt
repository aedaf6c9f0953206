use Rattle.std.proofs.Common.{map, ap, ◌∙◌}
use Rattle.mpy_tree.specs.View.{routine_of}
use Rattle.mpy_scopes.specs.Seen.{name_of, site_of}
use Rattle.mpy_scopes.proofs.Positions.{locals_of}
use Rattle.mpy_scopes.proofs.names.locals.Goals as goal

pub returns : goal.returns
returns c =
    locals_of (routine_of c.args.func.now) (map site_of c.args.seen.now) (map name_of c.in_ok-assigned.assigned.names.items) (map name_of c.in_ok-params.field-0.names.items) (map name_of c.deref.result.now) (map name_of c.in_ok-index.index.names.items)
    c.requires c.in_ok-assigned.ensures c.in_ok-params.ensures (ap (map name_of) c.deref.ensures.value ∙ c.in_ok-names.ensures) c.in_ok-index.ensures
