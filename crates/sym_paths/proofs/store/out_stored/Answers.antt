use Rattle.std.proofs.Common.{◌∙◌, ap, [], ◌∷◌}
use Rattle.bit_words.specs.Logic.{extends_keeps}
use Rattle.sym_values.specs.Later.{value_in_later, value_later}
use Rattle.sym_values.specs.Reading.{read, spelled}
use Rattle.sym_values.specs.Results.{IsValueIn}
use Rattle.sym_paths.specs.Paths.{way, gone_way}
use Rattle.sym_paths.specs.Storing.{stored, stored_is, store_shows}
use Rattle.sym_paths.proofs.store.out_stored.Goals as goal

pub assign-there-requires : goal.assign-there-requires
assign-there-requires g c =
    let typed = c.requires.typed in
    let step = extends_keeps c.narrow.ensures.extends in
    let value : IsValueIn g.L.Logic.owns c.args.g.now _ c.args.outcome.value =
    record { owned = typed.2.owned; form = typed.2.form } in
    record {
      held = c.in_ok-here.ensures.held;
      typed = (typed.0, typed.1, value_in_later step value);
    }

pub returns-clause-value : goal.returns-clause-value
returns-clause-value g c vs o k at h =
    let start = g.L.Logic.reads c.args.g.now vs in
    let new = g.L.Logic.reads c.narrow.new.g vs in
    let slots = c.args.slots.now in
    let x = c.args.x.now in
    let outcome = c.args.outcome in
    let typed = c.requires.typed in
    let step = extends_keeps c.narrow.ensures.extends in
    let fine = c.not-fine.ensures.value vs in
    let here = rw fine at (c.in_ok-here.ensures.value vs) in
    let same = ap spelled (value_later step outcome.value typed.2.owned vs) in
    let assigned = c.assign-there.ensures in
    let done = stored_is _ _ (gone_way slots (way new c.assign-there.result ∷ [])) o
    (start outcome.fault) (read start outcome.value) k x at here h
    (λ s v p q. assigned.value vs s v p (same ∙ q)) (assigned.none vs) in
    c.in_ok-out.ensures.value vs (stored o k x) done ∙ store_shows o k x
