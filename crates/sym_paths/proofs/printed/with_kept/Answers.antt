use Rattle.std.proofs.Common.{◌≡◌, ◌++◌, length, take}
use Rattle.sym_paths.proofs.Kept.{rekept_held, rekept_way}
use Rattle.sym_paths.proofs.printed.with_kept.Goals as goal

pub returns-clause-held : goal.returns-clause-held
returns-clause-held g c =
    let slots = c.args.slots.now in
    let path = c.args.path in
    let kept = c.args.kept in
    let one = c.into_vec-values.ensures in
    let two = c.count.ensures in
    let three = c.truncate.ensures.items in
    let four = c.into_vec.ensures in
    let five = c.in_ok-append.ensures.items in
    let six = c.from_vec.ensures in
    let whole : c.from_vec.result ≡ take (length slots.types) path.values ++ kept = cc in
    rekept_held slots path c.requires.held kept c.from_vec.result c.requires.kept whole

pub returns-clause-value : goal.returns-clause-value
returns-clause-value g c vs s at proper =
    let slots = c.args.slots.now in
    let path = c.args.path in
    let kept = c.args.kept in
    let one = c.into_vec-values.ensures in
    let two = c.count.ensures in
    let three = c.truncate.ensures.items in
    let four = c.into_vec.ensures in
    let five = c.in_ok-append.ensures.items in
    let six = c.from_vec.ensures in
    let whole : c.from_vec.result ≡ take (length slots.types) path.values ++ kept = cc in
    rekept_way slots path c.requires.held kept c.from_vec.result c.requires.kept whole
    (g.L.Logic.reads c.args._g.now vs) s c.requires.each at proper
