use Rattle.std.proofs.Common.{refl}
use Rattle.sym_paths.proofs.Gathers.{see_next}
use Rattle.sym_paths.proofs.Lists.{holds_append, holds_one}
use Rattle.sym_paths.proofs.outs.add_next.Goals as goal

pub returns-clause-held : goal.returns-clause-held
returns-clause-held g c =
    let a = c.requires.so_far in
    record {
      next = holds_append a.next (holds_one c.requires.path) c.in_ok-push.ensures.ok;
      broke = a.broke;
      continued = a.continued;
      returned = a.returned;
    }

pub returns-clause-value : goal.returns-clause-value
returns-clause-value g c vs o at =
    see_next c.args._slots.now (g.L.Logic.reads c.args._g.now vs) c.args.out.now _ c.args.path o at
    c.in_ok-push.ensures.ok refl refl refl
