use Rattle.std.proofs.Common.{◌≡◌, ℕ, ◌≤◌, map, length, List, sym, ap, ◌∙◌, arith}
use Rattle.std.specs.Prelude.{nat_le}
use Rattle.mpy_tree.specs.View.{routine_of}
use Rattle.mpy_tree.specs.Rules.{single}
use Rattle.mpy_types.proofs.Counting.{at_the_end}
use Rattle.mpy_types.proofs.rules.+type_in.Goals as goal

pub are_arguments-returns : goal.are_arguments-returns
are_arguments-returns g t c =
    let es = c.args.es.now.items.items in
    let h : length es ≤ c.loop-k.k = omega arith in
    let e : c.len.result ≡ c.loop-k.k = omega arith in
    ap (λ (xs : List (List ℕ)). nat_le (length xs) c.len.result) c.items-params.ensures
    ∙ sym (c.loop-k.invariant ∙ at_the_end (single (g.K.Known.gives c.args.known.now)) (map routine_of c.args.funcs.now) c.args.func c.args.g.number c.args.g.func.now.params es c.loop-k.k c.len.result h e)
