use Rattle.std.proofs.Common.{drop, [], ◌∷◌}
use Rattle.sym_paths.specs.Items.{leads_in}
use Rattle.sym_paths.specs.Paths.{gone_way, way}
use Rattle.sym_values.specs.Reading.{read}
use Rattle.sym_blocks.proofs.Items.{item_there}
use Rattle.sym_blocks.proofs.each.next_item.Goals as goal

pub returns-clause-value : goal.returns-clause-value
returns-clause-value g c vs o ms at reads =
    let slots = c.args.slots.now in
    let rd = g.L.Logic.reads c.args.g.now vs in
    let item = c.args.item.now in
    leads_in (gone_way slots (way rd c.assign.result ∷ [])) (gone_way slots (way rd c.args.path ∷ [])) o (drop item.place ms) item.name.now (read rd c.in_ok-value.value) at
    (λ s v rest e is. let has = reads s e in c.in_ok-value.ensures.value vs has.value v ms has.read_as has.items (item_there ms item.place v rest is))
    (λ s v p q. c.assign.ensures.value vs s v p q) (c.assign.ensures.none vs)
