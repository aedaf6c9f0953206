use Rattle.std.proofs.Common.{ap, sym, ◌∙◌, map}
use Rattle.std.specs.Prelude.{slice_get}
use Rattle.sym_values.specs.Reading.{sure}
use Rattle.list_values.specs.Sequences.{item_of_kind}
use Rattle.list_values.proofs.ByPlace.{member_at}
use Rattle.list_values.proofs.turns.item_at.Goals as goal

pub returns-clause-value : goal.returns-clause-value
returns-clause-value g c vs v w ms e k at =
    let f = g.L.Logic.reads c.args.g.now vs in
    let place = c.args.place in
    let there = ap (λ items. slice_get items place) (sym c.parts_of-list.ensures.items) ∙ c.at.ensures in
    let word = ap (λ u. sure (item_of_kind c.args.a.now (map f u))) c.in_ok-word.ensures in
    c.in_ok-item.ensures.value vs ∙ word ∙ ap sure (member_at f c.args.a.now v w ms place c.at.result.now c.requires.list.sized e k at there)
