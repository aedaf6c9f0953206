use Rattle.std.proofs.Common.{◌≡◌, arith}
use Rattle.mpy_tree.specs.View.{routines_of}
use Rattle.mpy_interp.proofs.Depths.{at_depth}
use Rattle.mpy_interp.proofs.program.evaluate.Goals as goal

pub returns-then-l-eq2 : goal.returns-then-l-eq2
returns-then-l-eq2 c =
    let l = c.args.l.now in
    let depth : l.depth ≡ 2 = omega arith in
    at_depth l (routines_of c.args.p.now) c.args.entry.now c.args.args.items 1 c.begin-then-l-eq2.result depth c.begin-then-l-eq2.ensures

pub returns-then-l-eq3 : goal.returns-then-l-eq3
returns-then-l-eq3 c =
    let l = c.args.l.now in
    let depth : l.depth ≡ 3 = omega arith in
    at_depth l (routines_of c.args.p.now) c.args.entry.now c.args.args.items 2 c.begin-then-l-eq3.result depth c.begin-then-l-eq3.ensures

pub returns-then-l-eq4 : goal.returns-then-l-eq4
returns-then-l-eq4 c =
    let l = c.args.l.now in
    let depth : l.depth ≡ 4 = omega arith in
    at_depth l (routines_of c.args.p.now) c.args.entry.now c.args.args.items 3 c.begin-then-l-eq4.result depth c.begin-then-l-eq4.ensures

pub returns-then-l-eq5 : goal.returns-then-l-eq5
returns-then-l-eq5 c =
    let l = c.args.l.now in
    let depth : l.depth ≡ 5 = omega arith in
    at_depth l (routines_of c.args.p.now) c.args.entry.now c.args.args.items 4 c.begin-then-l-eq5.result depth c.begin-then-l-eq5.ensures

pub returns-then-l-eq6 : goal.returns-then-l-eq6
returns-then-l-eq6 c =
    let l = c.args.l.now in
    let depth : l.depth ≡ 6 = omega arith in
    at_depth l (routines_of c.args.p.now) c.args.entry.now c.args.args.items 5 c.begin-then-l-eq6.result depth c.begin-then-l-eq6.ensures

pub returns-then-l-eq7 : goal.returns-then-l-eq7
returns-then-l-eq7 c =
    let l = c.args.l.now in
    let depth : l.depth ≡ 7 = omega arith in
    at_depth l (routines_of c.args.p.now) c.args.entry.now c.args.args.items 6 c.begin-then-l-eq7.result depth c.begin-then-l-eq7.ensures

pub returns : goal.returns
returns c =
    let l = c.args.l.now in
    let depth : l.depth ≡ 8 = omega (arith, l.depth_range.0, l.depth_range.1) in
    at_depth l (routines_of c.args.p.now) c.args.entry.now c.args.args.items 7 c.begin-2.result depth c.begin-2.ensures
