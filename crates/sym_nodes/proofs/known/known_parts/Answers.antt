use Rattle.std.proofs.Common.{List, arith, subst}
use Rattle.std.proofs.lemmas.List.{take_all}
use Rattle.sym_values.specs.declared.value.SymOutcome.{SymOutcome}
use Rattle.sym_nodes.specs.Operands.{ValuesRead}
use Rattle.sym_nodes.proofs.Knowing.{part_owned, part_read}
use Rattle.sym_nodes.proofs.known.known_parts.Goals as goal

pub known_value-requires : goal.known_value-requires
known_value-requires g c =
    part_owned c.args.parts.now c.loop-part.part-index c.part-item.result c.requires (omega arith)
    c.part-item.is

pub loop-part-preserved : goal.loop-part-preserved
loop-part-preserved g c vs =
    let known = rw c.in-Some.is at c.in_ok-known_value.ensures in
    part_read (g.L.Logic.reads c.args.g.now vs) c.args.parts.now c.loop-part.part-index
    c.part-item.result c.loop-part.values.items c.push.new.self.items c.in-Some.value
    (omega arith) c.part-item.is (c.loop-part.invariant vs) (known vs)
    c.in_ok-push-in-Some.ensures.items

pub returns : goal.returns
returns g c vs =
    let values = c.loop-part.values.items in
    let all = take_all c.loop-part.part-index c.args.parts.now (omega arith) in
    rw c.from_vec.ensures
    (subst (λ (os : List (SymOutcome _)). ValuesRead (g.L.Logic.reads c.args.g.now vs) os values)
    all (c.loop-part.invariant vs))
