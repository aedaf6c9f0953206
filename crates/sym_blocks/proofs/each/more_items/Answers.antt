use Rattle.std.proofs.Common.{◌∙◌, ap, sym, drop, [], ◌∷◌}
use Rattle.bit_words.specs.Logic.{extends_keeps}
use Rattle.sym_paths.specs.Items.{leads_on, leads_out}
use Rattle.sym_paths.specs.Later.{way_later}
use Rattle.sym_paths.specs.Paths.{Way, gone_way, way}
use Rattle.sym_blocks.proofs.Items.{more_at}
use Rattle.sym_blocks.proofs.each.more_items.Goals as goal

pub returns-clause-yes : goal.returns-clause-yes
returns-clause-yes g c vs o ms at reads =
    let slots = c.args.slots.now in
    let mid = g.L.Logic.reads c.has_item.new.g vs in
    let here = ap (λ (w : Way). gone_way slots (w ∷ [])) (way_later (extends_keeps c.has_item.ensures.extends) c.requires.path vs) ∙ at in
    leads_on _ (gone_way slots (way mid c.args.path ∷ [])) o (mid c.constant-never.result) (mid c.in_ok-more.more) (drop c.args.place ms) here (c.constant-never.ensures.value vs)
    (λ s e. let has = reads s e in c.in_ok-more.ensures.value vs has.value ms has.read_as has.items ∙ sym (more_at ms c.args.place))
    (c.in_ok-sides.ensures.yes vs)

pub returns-clause-no : goal.returns-clause-no
returns-clause-no g c vs o ms at reads =
    let slots = c.args.slots.now in
    let mid = g.L.Logic.reads c.has_item.new.g vs in
    let here = ap (λ (w : Way). gone_way slots (w ∷ [])) (way_later (extends_keeps c.has_item.ensures.extends) c.requires.path vs) ∙ at in
    leads_out _ (gone_way slots (way mid c.args.path ∷ [])) o (mid c.constant-never.result) (mid c.in_ok-more.more) (drop c.args.place ms) here (c.constant-never.ensures.value vs)
    (λ s e. let has = reads s e in c.in_ok-more.ensures.value vs has.value ms has.read_as has.items ∙ sym (more_at ms c.args.place))
    (c.in_ok-sides.ensures.no vs)
