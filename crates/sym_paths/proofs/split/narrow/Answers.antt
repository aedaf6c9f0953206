use Rattle.bit_words.specs.Logic.{extends_keeps}
use Rattle.bit_words.specs.Later.{owned_later, read_later}
use Rattle.sym_values.specs.Later.{values_later}
use Rattle.sym_paths.specs.Later.{path_bit, path_values, path_set, holds_path}
use Rattle.sym_paths.specs.Paths.{way}
use Rattle.sym_paths.proofs.Joins.{also_way}
use Rattle.sym_paths.proofs.split.narrow.Goals as goal

pub both-requires-clause-left : goal.both-requires-clause-left
both-requires-clause-left g c = path_bit c.requires.held

pub returns-clause-held : goal.returns-clause-held
returns-clause-held g c =
    let e = extends_keeps c.both.ensures.extends in
    let h = c.requires.held in
    holds_path _ c.in_ok-bit.ensures.owned (owned_later e (path_values h))
    (owned_later e (path_set h)) h.forms_are h.long

pub returns-clause-value : goal.returns-clause-value
returns-clause-value g c vs =
    let e = extends_keeps c.both.ensures.extends in
    let h = c.requires.held in
    also_way c.args.slots.now (way (g.L.Logic.reads c.args.g.now vs) c.args.path) _ _
    (c.in_ok-bit.ensures.value vs) (values_later e c.args.path.values (path_values h) vs)
    (read_later e (path_set h) vs)
