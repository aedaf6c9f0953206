use Rattle.std.proofs.Common.{refl}
use Rattle.sym_values.specs.declared.value.SymValue.TheVariants.{List}
use Rattle.known_values.proofs.Items.{list_known}
use Rattle.known_values.proofs.values.known_list.Goals as goal

pub returns-in-Some-2 : goal.returns-in-Some-2
returns-in-Some-2 g c vs =
    let len = c.args.len.now in
    let items = c.args.items.now in
    let known = rw c.in-Some-2.is at c.in_ok-known_ints.ensures in
    list_known (g.L.Logic.reads c.args.g.now vs) (List len items) len items c.in-Some.count
    c.in-Some-2.numbers refl (c.in-Some.ensures.value vs) c.in-Some.ensures.within (known vs)
