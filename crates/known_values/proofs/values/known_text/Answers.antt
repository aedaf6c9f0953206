use Rattle.std.proofs.Common.{refl}
use Rattle.sym_values.specs.declared.value.SymValue.TheVariants.{Text}
use Rattle.known_values.proofs.Items.{text_known}
use Rattle.known_values.proofs.values.known_text.Goals as goal

pub returns-in-Some-2 : goal.returns-in-Some-2
returns-in-Some-2 g c vs =
    let len = c.args.len.now in
    let items = c.args.items.now in
    let known = rw c.in-Some-2.is at c.in_ok-known_characters.ensures in
    text_known (g.L.Logic.reads c.args.g.now vs) (Text len items) len items c.in-Some.count
    c.in-Some-2.characters refl (c.in-Some.ensures.value vs) c.in-Some.ensures.within (known vs)
