use Rattle.std.proofs.Common.{◌∙◌, ap, map}
use Rattle.bit_words.specs.Logic.{extends_keeps, extends_trans}
use Rattle.sym_paths.specs.Ends.{first_end}
use Rattle.sym_paths.specs.Later.{paths_later, ways_later}
use Rattle.sym_paths.specs.Paths.{first_handed, handed, ways}
use Rattle.sym_paths.proofs.Endings.{body_end, ends_in_turn}
use Rattle.sym_paths.proofs.done.end_of_body.Goals as goal

pub join_returned-requires : goal.join_returned-requires
join_returned-requires g c = record {
  all = c.requires.returned;
  last = c.in_ok-none.ensures.held;
}

pub join_paths-requires : goal.join_paths-requires
join_paths-requires g c = record {
  paths = paths_later (extends_keeps c.join_returned.ensures.extends) c.requires.continued;
  last = c.in_ok-returned.ensures.held;
}

pub join_paths-requires-2 : goal.join_paths-requires-2
join_paths-requires-2 g c =
    let two = extends_trans c.join_returned.ensures.extends c.join_paths.ensures.extends in
    record {
      paths = paths_later (extends_keeps two) c.requires.broke;
      last = c.in_ok-continued.ensures.held;
    }

pub join_paths-requires-3 : goal.join_paths-requires-3
join_paths-requires-3 g c =
    let two = extends_trans c.join_returned.ensures.extends c.join_paths.ensures.extends in
    let three = extends_trans two c.join_paths-2.ensures.extends in
    record {
      paths = paths_later (extends_keeps three) c.requires.next;
      last = c.in_ok-broke.ensures.held;
    }

pub returns-in_err-end-clause-extends : goal.returns-in_err-end-clause-extends
returns-in_err-end-clause-extends g c =
    let two = extends_trans c.join_returned.ensures.extends c.join_paths.ensures.extends in
    let three = extends_trans two c.join_paths-2.ensures.extends in
    extends_trans three c.join_paths-3.ensures.extends

pub returns-clause-extends : goal.returns-clause-extends
returns-clause-extends g c =
    let two = extends_trans c.join_returned.ensures.extends c.join_paths.ensures.extends in
    let three = extends_trans two c.join_paths-2.ensures.extends in
    extends_trans three c.join_paths-3.ensures.extends

pub returns-clause-value : goal.returns-clause-value
returns-clause-value g c vs run e =
    let start = g.L.Logic.reads c.args.g.now vs in
    let slots = c.args.slots.now in
    let out = c.args.out in
    let one = c.join_returned.ensures.extends in
    let two = extends_trans one c.join_paths.ensures.extends in
    let three = extends_trans two c.join_paths-2.ensures.extends in
    let next = ap (first_end slots) (ways_later (extends_keeps three) c.requires.next vs) in
    let broke = ap (first_end slots) (ways_later (extends_keeps two) c.requires.broke vs) in
    let continued = ap (first_end slots) (ways_later (extends_keeps one) c.requires.continued vs) in
    let returned = first_handed slots.limits (map (handed start) out.returned) in
    ends_in_turn returned (c.in_ok-end.ensures.value vs) (c.in_ok-broke.ensures.value vs)
    (c.in_ok-continued.ensures.value vs) (c.in_ok-returned.ensures.value vs)
    (c.in_ok-none.ensures.value vs) next broke continued
    ∙ body_end slots (ways start out.next) (ways start out.broke) (ways start out.continued)
    returned run e
