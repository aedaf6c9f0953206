use Rattle.std.proofs.Common.{refl}
use Rattle.bit_words.specs.Logic.{extends_keeps}
use Rattle.sym_paths.specs.Later.{paths_later, all_given_later, see_later}
use Rattle.sym_paths.proofs.Gathers.{see_step}
use Rattle.sym_paths.proofs.Lists.{holds_append, given_append}
use Rattle.sym_paths.proofs.outs.take_step.Goals as goal

pub returns-clause-held : goal.returns-clause-held
returns-clause-held g c =
    let e = extends_keeps c.join_all.ensures.extends in
    let a = c.requires.so_far in
    let b = c.requires.step in
    record {
      next = paths_later e a.next;
      broke = holds_append (paths_later e a.broke) (paths_later e b.broke)
          c.in_ok-append.ensures.ok;
      continued = holds_append (paths_later e a.continued) (paths_later e b.continued)
          c.in_ok-append-2.ensures.ok;
      returned = given_append (all_given_later e a.returned) (all_given_later e b.returned)
          c.in_ok-append-3.ensures.ok;
    }

pub returns-clause-value : goal.returns-clause-value
returns-clause-value g c vs =
    let slots = c.args.slots.now in
    let e = extends_keeps c.join_all.ensures.extends in
    see_step slots (g.L.Logic.reads c.join_all.new.g vs) c.args.out.now c.args.step _ _ _
    (see_later e c.requires.so_far vs) (see_later e c.requires.step vs) refl
    c.in_ok-append.ensures.ok c.in_ok-append-2.ensures.ok c.in_ok-append-3.ensures.ok
