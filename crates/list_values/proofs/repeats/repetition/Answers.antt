use Rattle.std.proofs.Common.{ap, arith, length}
use Rattle.list_values.specs.Sequences.{item_width}
use Rattle.list_values.proofs.Gives.{product_gives}
use Rattle.list_values.proofs.OfKind.{like_made, parts_are}
use Rattle.list_values.proofs.repeats.repetition.Goals as goal

pub repeat-requires : goal.repeat-requires
repeat-requires g c κs h =
    let list = c.parts_of-list.ensures in
    let many = ap length list.items in
    (h.0, (h.1, (omega (arith, many, c.requires.list.few), (parts_are (ap item_width list.items) many list.len list.items c.requires.list.parts, (c.requires.wide, (c.requires.short, c.requires.number))))))

pub returns-clause-made : goal.returns-clause-made
returns-clause-made g c =
    let list = c.parts_of-list.ensures in
    let repeated = c.in_ok-repeated.ensures in
    like_made c.requires.list (ap item_width list.items) (ap length list.items) repeated.made repeated.owned c.like-value.ensures

pub returns-clause-value : goal.returns-clause-value
returns-clause-value g c vs l v cap e =
    let reads = g.L.Logic.reads in
    let list = c.parts_of-list in
    let repeated = c.in_ok-repeated in
    product_gives (reads c.args.g.now vs) (reads c.repeat.new.g vs) c.args.a.now _ l v repeated.repeated.len list.result.len.now repeated.repeated.items list.result.items.now _
    c.requires.list.sized list.ensures.len list.ensures.items cap e
    _ c.like-value.ensures (repeated.ensures.proper vs) (repeated.ensures.value vs)
