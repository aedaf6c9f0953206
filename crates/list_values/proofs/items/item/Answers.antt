use Rattle.std.proofs.Common.{ap, arith, length}
use Rattle.bit_lists.proofs.Held.{word_as}
use Rattle.list_values.specs.Sequences.{item_width}
use Rattle.list_values.proofs.Gives.{item_gives}
use Rattle.list_values.proofs.OfKind.{parts_are, sequence_kept}
use Rattle.list_values.proofs.items.item.Goals as goal

pub index-requires : goal.index-requires
index-requires g c κs h =
    let list = c.parts_of-list.ensures in
    let needs = c.requires in
    let many = ap length list.items in
    (h.0, (h.1, (omega (arith, many, needs.list.some), (omega (arith, many, needs.list.few), (parts_are (ap item_width list.items) many list.len list.items needs.list.parts, (needs.wide, (needs.short, needs.place)))))))

pub as_item-requires : goal.as_item-requires
as_item-requires g c = record {
  list = sequence_kept c.index.ensures.extends c.requires.list;
  word = word_as (ap item_width c.parts_of-list.ensures.items) c.in_ok-found.ensures.made;
}

pub returns-clause-made : goal.returns-clause-made
returns-clause-made g c =
    let made = c.in_ok-value.ensures.made in
    record { owned = made.owned; owned_fault = c.in_ok-found.ensures.owned; form = made.form }

pub returns-clause-value : goal.returns-clause-value
returns-clause-value g c vs l v cap e =
    let reads = g.L.Logic.reads in
    let list = c.parts_of-list in
    item_gives (reads c.args.g.now vs) (reads c.index.new.g vs) c.args.a.now c.in_ok-value.value v list.result.len.now list.result.items.now _
    c.requires.list.sized list.ensures.len list.ensures.items e
    _ _ (c.in_ok-value.ensures.value vs) (c.in_ok-found.ensures.value vs)
