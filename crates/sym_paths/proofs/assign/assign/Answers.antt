use Rattle.std.proofs.Common.{◌∙◌, ◌<◌, ◌∷◌, [], ap, refl, map, length, arith, set}
use Rattle.std.proofs.lemmas.List.{length-map, length-set, map-set}
use Rattle.sym_values.specs.Forms.{form_of, forms_of}
use Rattle.sym_values.specs.Reading.{map_bits}
use Rattle.sym_paths.specs.Later.{path_bit, path_values, path_set, holds_path}
use Rattle.sym_paths.specs.Paths.{Way, way, gone_way}
use Rattle.sym_paths.specs.Slots.{slot_forms}
use Rattle.sym_paths.proofs.Joins.{same_way}
use Rattle.std.proofs.lemmas.Option.{slice_get_within}
use Rattle.sym_paths.proofs.Setting.{first_place, has_place, place_within, slot_form}
use Rattle.sym_paths.proofs.Setting.{forms_set, owns_set, owns_bit_set, set_way, set_none}
use Rattle.sym_paths.proofs.assign.assign.Goals as goal

pub unreachable-requires : goal.unreachable-requires
unreachable-requires g c =
    let s = c.args.slots.now in
    let typed = c.requires.typed in
    has_place s.names s.types c.args.x.now typed.0 c.in-None.ensures typed.1

pub set-requires : goal.set-requires
set-requires g c =
    let s = c.args.slots.now in
    let typed = c.requires.typed in
    let values = c.args.path.values in
    let at = slot_form s c.args.x.now c.in-Some.i typed.0 (forms_of values) c.in-Some.ensures
    typed.1 c.requires.held.forms_are in
    let within = slice_get_within (forms_of values) c.in-Some.i _ at in
    omega (arith, length-map values form_of)

pub replaced-requires : goal.replaced-requires
replaced-requires g c =
    let s = c.args.slots.now in
    let typed = c.requires.typed in
    let at = slot_form s c.args.x.now c.in-Some.i typed.0 (slot_forms s) c.in-Some.ensures
    typed.1 refl in
    let within = slice_get_within (slot_forms s) c.in-Some.i _ at in
    let long = c.requires.held.long in
    omega arith

pub returns-clause-held : goal.returns-clause-held
returns-clause-held g c =
    let s = c.args.slots.now in
    let h = c.requires.held in
    let typed = c.requires.typed in
    let values = c.args.path.values in
    let bits = c.args.path.set in
    let i = c.in-Some.i in
    let yes = c.constant-yes.result in
    let at = slot_form s c.args.x.now i typed.0 (forms_of values) c.in-Some.ensures typed.1
    h.forms_are in
    holds_path _ (path_bit h)
    (rw c.set.ensures (owns_set values i c.args.value (path_values h) typed.2.owned))
    (rw c.replaced.ensures (owns_bit_set bits i yes (path_set h) c.constant-yes.ensures.owned))
    (ap forms_of c.set.ensures ∙ forms_set values i c.args.value _ at typed.2.form ∙ h.forms_are)
    (ap length c.replaced.ensures ∙ length-set bits i yes ∙ h.long)

pub returns-clause-value : goal.returns-clause-value
returns-clause-value g c vs s v at is =
    let rd = g.L.Logic.reads c.args.g.now vs in
    let slots = c.args.slots.now in
    let path = c.args.path in
    let x = c.args.x.now in
    let i = c.in-Some.i in
    let yes = c.constant-yes.result in
    let typed = c.requires.typed in
    let value = map_bits rd c.args.value in
    let values = ap (map (map_bits rd)) c.set.ensures
    ∙ map-set (map_bits rd) path.values i c.args.value in
    let bits = ap (map rd) c.replaced.ensures ∙ map-set rd path.set i yes
    ∙ ap (set (map rd path.set) i) (c.constant-yes.ensures.value vs) in
    let slot = slot_form slots x i typed.0 (slot_forms slots) c.in-Some.ensures typed.1 refl in
    let within = slice_get_within (slot_forms slots) i _ slot in
    let same = ap length c.requires.held.forms_are in
    let long = c.requires.held.long in
    let one : i < length (map (map_bits rd) path.values) =
    omega (arith, length-map path.values form_of, length-map path.values (map_bits rd)) in
    let two : i < length (map rd path.set) = omega (arith, length-map path.set rd) in
    let first = first_place slots.names x i c.in-Some.ensures in
    let three = place_within slots x i typed.0 c.in-Some.ensures typed.1 in
    ap (λ (w : Way). gone_way slots (w ∷ [])) (same_way refl values bits)
    ∙ set_way slots (way rd path) x i value s v first one two three is at

pub returns-clause-none : goal.returns-clause-none
returns-clause-none g c vs at =
    let rd = g.L.Logic.reads c.args.g.now vs in
    set_none c.args.slots.now (way rd c.args.path) (map (map_bits rd) c.set.new.self)
    (map rd c.replaced.result) at
