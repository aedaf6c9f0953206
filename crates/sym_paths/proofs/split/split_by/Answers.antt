use Rattle.std.proofs.Common.{[], ◌∷◌}
use Rattle.bit_words.specs.Logic.{extends_trans}
use Rattle.sym_paths.specs.Paths.{gone_way, way}
use Rattle.sym_paths.proofs.Joins.{yes_fine, no_fine}
use Rattle.sym_paths.proofs.split.split_by.Goals as goal

pub divide-requires-clause-test : goal.divide-requires-clause-test
divide-requires-clause-test g c = c.narrow.ensures.extends.kept _ c.requires.test

pub returns-clause-extends : goal.returns-clause-extends
returns-clause-extends g c = extends_trans c.narrow.ensures.extends c.divide.ensures.extends

pub returns-clause-yes : goal.returns-clause-yes
returns-clause-yes g c vs =
    let start = g.L.Logic.reads c.args.g.now vs in
    let slots = c.args.slots.now in
    let test = c.narrow.ensures.extends.same _ c.requires.test vs in
    let yes = rw test at (c.in_ok-sides.ensures.yes vs) in
    yes_fine (start c.args.fault) (start c.args.test) _ _ _
    (gone_way slots (way start c.args.path ∷ [])) (c.not-fine.ensures.value vs)
    (c.in_ok-here.ensures.value vs) yes

pub returns-clause-no : goal.returns-clause-no
returns-clause-no g c vs =
    let start = g.L.Logic.reads c.args.g.now vs in
    let slots = c.args.slots.now in
    let test = c.narrow.ensures.extends.same _ c.requires.test vs in
    let no = rw test at (c.in_ok-sides.ensures.no vs) in
    no_fine (start c.args.fault) (start c.args.test) _ _ _
    (gone_way slots (way start c.args.path ∷ [])) (c.not-fine.ensures.value vs)
    (c.in_ok-here.ensures.value vs) no
