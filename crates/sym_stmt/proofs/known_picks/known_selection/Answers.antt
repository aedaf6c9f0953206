use Rattle.std.proofs.Common.{arith}
use Rattle.std.proofs.lemmas.Option.{slice_get_within}
use Rattle.sym_values.specs.Owned.{owns_one}
use Rattle.sym_stmt.proofs.KnownPicks.{one_more}
use Rattle.sym_stmt.proofs.known_picks.known_selection.Goals as goal

pub known_number-requires : goal.known_number-requires
known_number-requires g c =
    rw c.as_slice.ensures
    (owns_one (λ w. w) c.args.picks.now c.loop-i.i c.at.result.now c.requires c.at.ensures)

pub loop-i-preserved : goal.loop-i-preserved
loop-i-preserved g c =
    let known = rw c.as_slice.ensures at c.in-Some.ensures.value in
    one_more (g.L.Logic.reads c.args.g.now) c.args.picks.now c.loop-i.i c.in-Some.member
    c.at.result.now c.loop-i.choices.items c.in_ok-choices.choices.items c.at.ensures known
    c.loop-i.invariant c.in_ok-choices.ensures

pub returns : goal.returns
returns g c vs =
    rw c.from_vec.ensures (record {
      member = λ j bits is. c.loop-i.invariant.read vs j bits
          (omega (arith, slice_get_within c.args.picks.now j bits is)) is;
    })
