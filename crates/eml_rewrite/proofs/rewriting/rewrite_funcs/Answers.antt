use Rattle.std.proofs.Common.{refl, map}
use Rattle.mpy_tree.specs.View.{routine_of}
use Rattle.eml_rewrite.specs.Programs.{funcs_grown, setting_of}
use Rattle.eml_rewrite.proofs.Programs.{built_within}
use Rattle.eml_rewrite.proofs.rewriting.rewrite_funcs.Goals as goal

pub returns : goal.returns
returns g c =
    let fs = c.args.scopes.now.funcs.now in
    built_within c.grow_funcs.result
    (funcs_grown (setting_of (g.K.Known.gives c.args.known.now) c.args.rules.now fs)
    (map routine_of fs)) 1000000 _ c.grow_funcs.new.counter refl refl c.grow_funcs.ensures
