use Rattle.std.proofs.Common.{map, ap, sym, ◌∙◌}
use Rattle.mpy_scopes.specs.Seen.{name_of}
use Rattle.eml_instances.specs.Substitutions.{kept}
use Rattle.eml_instances.proofs.FittingLocals.{first_mapped}
use Rattle.eml_instances.proofs.standings.kept.Goals as goal

pub returns : goal.returns
returns c =
    ap (map name_of) c.truncate.ensures.items
    ∙ first_mapped c.args.names.items
    ∙ ap (λ b. kept b (map name_of c.args.names.items)) (sym c.if-all.false)
