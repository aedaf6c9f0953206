use Rattle.sym_paths.proofs.Gathers.{see_both}
use Rattle.sym_paths.proofs.Lists.{holds_append, given_append}
use Rattle.sym_paths.proofs.outs.add_part.Goals as goal

pub returns-clause-held : goal.returns-clause-held
returns-clause-held g c =
    let a = c.requires.so_far in
    let b = c.requires.part in
    record {
      next = holds_append a.next b.next c.in_ok-append.ensures.ok;
      broke = holds_append a.broke b.broke c.in_ok-append-2.ensures.ok;
      continued = holds_append a.continued b.continued c.in_ok-append-3.ensures.ok;
      returned = given_append a.returned b.returned c.in_ok-append-4.ensures.ok;
    }

pub returns-clause-value : goal.returns-clause-value
returns-clause-value g c vs =
    see_both c.args._slots.now (g.L.Logic.reads c.args._g.now vs) c.args.out.now c.args.part _
    c.in_ok-append.ensures.ok c.in_ok-append-2.ensures.ok c.in_ok-append-3.ensures.ok
    c.in_ok-append-4.ensures.ok
