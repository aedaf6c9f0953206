use Rattle.std.proofs.Common.{◌≡◌, All, subst, true, get_or, pos, FitsSigned, rules, w32}
use Rattle.std.specs.Fmt.{signed_decimal}
use Rattle.std.proofs.lemmas.Int.{to_z-of_z}
use Rattle.std.proofs.lemmas.List.{take_all}
use Rattle.std.proofs.lemmas.List.Elements.{All-more}
use Rattle.mpy_tree.specs.Operations.{fits_width}
use Rattle.input_space.proofs.Joining.{joined_next}
use Rattle.input_space.proofs.Numerals.{fits_from}
use Rattle.input_space.proofs.printing.print_numbers.Goals as goal

pub loop-z-preserved : goal.loop-z-preserved
loop-z-preserved c =
    let z = get_or c.args.zs.now c.loop-z.z-index (pos 0) in
    let f : FitsSigned w32 z = search rules in
    let g = simp to_z-of_z at c.in_ok-print_number.ensures in (
      joined_next signed_decimal c.args.zs.now c.loop-z.z-index (pos 0) c.loop-z.out.items c.loop-z.separator.now _ _ _ c.loop-z-test.true c.in_ok-extend_from_slice-2.ensures.items g c.loop-z.invariant.0,
      All-more (λ y. fits_width 32 y ≡ true) c.args.zs.now c.loop-z.z-index (pos 0) c.loop-z-test.true c.loop-z.invariant.1 (fits_from z f),
    )

pub returns-clause-fits : goal.returns-clause-fits
returns-clause-fits c =
    subst (All (λ y. fits_width 32 y ≡ true)) (take_all c.loop-z.z-index c.args.zs.now c.loop-z-test.false) c.loop-z.invariant.1
