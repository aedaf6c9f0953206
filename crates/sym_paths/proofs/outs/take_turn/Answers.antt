use Rattle.std.proofs.Common.{◌∙◌, ap, refl}
use Rattle.bit_words.specs.Logic.{extends_keeps}
use Rattle.sym_paths.specs.Later.{paths_later, all_given_later, see_later}
use Rattle.sym_paths.specs.Paths.{gone_way, ways}
use Rattle.sym_paths.proofs.Gathers.{see_turn}
use Rattle.sym_paths.proofs.Joins.{ways_both}
use Rattle.sym_paths.proofs.Lists.{holds_append, given_append}
use Rattle.sym_paths.proofs.outs.take_turn.Goals as goal

pub join_all-requires : goal.join_all-requires
join_all-requires g c =
    holds_append c.requires.turn.next c.requires.turn.continued c.in_ok-append.ensures.ok

pub returns-clause-held : goal.returns-clause-held
returns-clause-held g c =
    let e = extends_keeps c.join_all.ensures.extends in
    let a = c.requires.so_far in
    let b = c.requires.turn in
    record {
      next = holds_append (paths_later e a.next) (paths_later e b.broke)
          c.in_ok-append-2.ensures.ok;
      broke = paths_later e a.broke;
      continued = paths_later e a.continued;
      returned = given_append (all_given_later e a.returned) (all_given_later e b.returned)
          c.in_ok-append-3.ensures.ok;
    }

pub returns-clause-value : goal.returns-clause-value
returns-clause-value g c vs =
    let slots = c.args.slots.now in
    let e = extends_keeps c.join_all.ensures.extends in
    see_turn slots (g.L.Logic.reads c.join_all.new.g vs) c.args.out.now c.args.turn _ _ _
    (see_later e c.requires.so_far vs) (see_later e c.requires.turn vs)
    c.in_ok-append-2.ensures.ok refl refl c.in_ok-append-3.ensures.ok

pub returns-clause-next : goal.returns-clause-next
returns-clause-next g c vs =
    let start = g.L.Logic.reads c.args.g.now vs in
    let slots = c.args.slots.now in
    c.in_ok-on.ensures.value vs
    ∙ ap (λ l. gone_way slots (ways start l)) c.in_ok-append.ensures.ok
    ∙ ways_both slots start c.args.turn.next c.args.turn.continued
