use Rattle.std.proofs.Common.{ap, arith, length}
use Rattle.list_values.proofs.Gives.{put_gives}
use Rattle.list_values.proofs.OfKind.{like_made, parts_are, word_width}
use Rattle.list_values.proofs.items.replacement.Goals as goal

pub put-requires : goal.put-requires
put-requires g c =
    let list = c.parts_of-list.ensures in
    let needs = c.requires in
    let width = word_width c.args.a.now c.args.number.now needs.alike in
    let many = ap length list.items in
    record {
      few = omega (arith, many, needs.list.few);
      list = parts_are width many list.len list.items needs.list.parts;
      wide = needs.wide;
      short = needs.short;
      index = needs.place;
      word = needs.number;
    }

pub returns-clause-made : goal.returns-clause-made
returns-clause-made g c =
    let changed = c.in_ok-changed.ensures in
    like_made c.requires.list (word_width c.args.a.now c.args.number.now c.requires.alike) (ap length c.parts_of-list.ensures.items) changed.made changed.owned c.like-value.ensures

pub returns-clause-value : goal.returns-clause-value
returns-clause-value g c vs l v cap e =
    let reads = g.L.Logic.reads in
    let list = c.parts_of-list in
    let changed = c.in_ok-changed in
    put_gives (reads c.args.g.now vs) (reads c.put.new.g vs) c.args.a.now _ v list.result.len.now list.result.items.now _
    c.requires.list.sized list.ensures.len list.ensures.items e
    changed.changed.len changed.changed.items c.args.number.now _ _ c.requires.alike c.like-value.ensures
    (λ within. let same = changed.ensures.length vs in omega (arith, same, within, changed.ensures.made.many)) (changed.ensures.value vs)
