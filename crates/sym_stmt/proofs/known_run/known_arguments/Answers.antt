use Rattle.std.proofs.Common.{ap, arith, length, map, refl, sym, ◌∙◌}
use Rattle.std.proofs.lemmas.List.{map_push, take_all}
use Rattle.std.proofs.lemmas.Option.{slice_get_read}
use Rattle.known_values.proofs.Items.{item_known}
use Rattle.sym_values.specs.Forms.{bits_of}
use Rattle.sym_values.specs.Owned.{owns_one}
use Rattle.sym_values.specs.Reading.{read, sure}
use Rattle.sym_stmt.proofs.known_run.known_arguments.Goals as goal

pub known_value-requires : goal.known_value-requires
known_value-requires g c =
    let args = c.args.args.now in
    let i = c.loop-arg.arg-index in
    let at = slice_get_read args (length args) i c.arg-item.result refl (omega arith) c.arg-item.is in
    owns_one bits_of args i c.arg-item.result c.requires at

pub loop-arg-preserved : goal.loop-arg-preserved
loop-arg-preserved g c vs =
    let args = c.args.args.now in
    let i = c.loop-arg.arg-index in
    let rd = read (g.L.Logic.reads c.args.g.now vs) in
    let values = c.loop-arg.values.items in
    let value = c.in-Some.value in
    let at = slice_get_read args (length args) i c.arg-item.result refl (omega arith) c.arg-item.is in
    let known = rw c.in-Some.is at c.in_ok-known_value.ensures in
    let pushed = ap (map sure) c.in_ok-push-in-Some.ensures.items ∙ map_push sure values value in
    item_known rd args i c.arg-item.result (map sure values) (map sure c.push.new.self.items)
    (sure value) at (c.loop-arg.invariant vs) (known vs) pushed

pub returns : goal.returns
returns g c vs =
    let all = take_all c.loop-arg.arg-index c.args.args.now (omega arith) in
    rw c.from_vec.ensures
    (sym (ap (map (read (g.L.Logic.reads c.args.g.now vs))) all) ∙ c.loop-arg.invariant vs)
