use Rattle.std.proofs.Common.{[], Bool, map, if◌then◌else◌, sym, ap, ◌∙◌}
use Rattle.std.specs.List.{flat_map}
use Rattle.mpy_tree.specs.View.{term_of, block_of, routine_of}
use Rattle.mpy_tree.specs.Leasts.{least}
use Rattle.mpy_tree.specs.Rules.{single}
use Rattle.mpy_tree.specs.Sites.{sites}
use Rattle.mpy_tree.specs.Sharing.{changed_on, opens}
use Rattle.mpy_share.proofs.Leasts.{nothing_changed}
use Rattle.mpy_share.proofs.share.Shares.changed_if.Goals as goal

pub returns-else-is_open : goal.returns-else-is_open
returns-else-is_open g c =
    let S = single (g.K.Known.gives c.args.self.now.place.known.now) in
    let p = map routine_of c.args.self.now.place.funcs.now in
    let i = c.args.self.now.place.func in
    sym (ap (λ (b : Bool). least (flat_map (changed_on S p i (if b then opens (term_of c.args.e.now) else [])) (sites (block_of c.args.body.now)))) c.if-is_open.false
    ∙ nothing_changed S p i (sites (block_of c.args.body.now)))
