use Rattle.std.proofs.Common.{◌≡◌, ◌+◌, ◌∷◌, ◌++◌, true, false, get_or, take, drop, sym, ap, ◌∙◌}
use Rattle.std.specs.Prelude.{◌==◌}
use Rattle.std.specs.List.{list_any}
use Rattle.std.proofs.lemmas.List.{take_more, drop_more, take-append-drop}
use Rattle.bounds_reader.specs.Ranges.{has_twice}
use Rattle.bounds_reader.proofs.Alphabets.{twice_found, twice_not}
use Rattle.bounds_reader.proofs.ranges.has_twice.Goals as goal

pub returns-then-contains : goal.returns-then-contains
returns-then-contains c =
    let xs = c.args.bytes.now in
    let i = c.loop-i.i in
    let x = get_or xs i 0 in
    let found : list_any (λ d. d == x) (take i xs) ≡ true = sym c.contains.ensures.value ∙ c.if-contains.true in
    let cut : xs ≡ take i xs ++ x ∷ drop (i + 1) xs =
    sym (take-append-drop i xs) ∙ ap (λ t. take i xs ++ t) (drop_more xs i 0 c.loop-i-test.true) in
    sym (ap has_twice cut ∙ twice_found (take i xs) x (drop (i + 1) xs) found)

pub loop-i-preserved : goal.loop-i-preserved
loop-i-preserved c =
    let xs = c.args.bytes.now in
    let i = c.loop-i.i in
    let x = get_or xs i 0 in
    let other : list_any (λ d. d == x) (take i xs) ≡ false = sym c.contains.ensures.value ∙ c.if-contains.false in
    ap has_twice (take_more xs i 0 c.loop-i-test.true) ∙ twice_not (take i xs) x c.loop-i.invariant other
