use Rattle.std.proofs.Common.{◌-◌, ◌∙◌, ◌++◌, ap, arith, map, length, replicate, true}
use Rattle.std.proofs.Common.{false}
use Rattle.std.proofs.lemmas.List.{drop-map, length-append, length-map, map-append}
use Rattle.bit_words.proofs.Kept.{owns_none}
use Rattle.sym_values.specs.Forms.{form_of}
use Rattle.sym_values.specs.Reading.{map_bits}
use Rattle.sym_paths.specs.Later.{holds_path}
use Rattle.sym_paths.specs.Paths.{kept_proper, printed_in, state_in}
use Rattle.sym_paths.proofs.Entering.{bound_is, gone_to, read_proper}
use Rattle.sym_paths.proofs.entry.entry.Goals as goal

pub with_constants-requires : goal.with_constants-requires
with_constants-requires g c = rw c.new.ensures owns_none

pub returns-clause-held : goal.returns-clause-held
returns-clause-held g c =
    let all = c.in_ok-values.ensures in
    let none = ap length c.new.ensures in
    let begins = ap length all.begins.1 ∙ length-append c.args.args all.begins.0 in
    let forms = ap length all.forms in
    let marked = c.in_ok-marked.ensures.width in
    let set = c.in_ok-set.ensures.width in
    holds_path _ c.constant-bit.ensures.owned all.owned c.in_ok-set.ensures.owned all.forms
    (omega (arith, begins, forms, marked, set, length-map c.in_ok-values.values form_of))

pub returns-clause-value : goal.returns-clause-value
returns-clause-value g c vs params given_values begins long is =
    let rd = g.L.Logic.reads c.args.g.now vs in
    let slots = c.args.slots.now in
    let args = c.args.args in
    let all = c.in_ok-values.ensures in
    let rest = map (map_bits rd) all.begins.0 in
    let given = c.len-given.result in
    let others = c.len.result - given in
    let values = map (map_bits rd) c.in_ok-values.values in
    let bits = map rd c.in_ok-set.set in
    let both = params ++ begins.0 in
    let proper = all.proper vs ∙ read_proper rd args given_values is in
    let locals = ap (map (map_bits rd)) all.begins.1
    ∙ map-append (map_bits rd) args all.begins.0 in
    let none = ap (λ l. map rd l ++ replicate given true) c.new.ensures in
    let marked = c.in_ok-marked.ensures.value vs ∙ none in
    let set = c.in_ok-set.ensures.value vs ∙ ap (λ w. w ++ replicate others false) marked in
    let there = drop-map (map_bits rd) (length slots.types) c.in_ok-values.values in
    gone_to slots _ _ (c.constant-bit.ensures.value vs) proper
    (ap (kept_proper slots.limits) there ∙ all.kept_proper vs)
    (ap (λ l. state_in l values bits) begins.1
    ∙ ap (λ v. state_in both v bits) locals
    ∙ ap (λ s. state_in both (map (map_bits rd) args ++ rest) s) set
    ∙ bound_is rd params begins.0 args rest given_values given others long c.len-given.ensures is)
    (ap (printed_in slots.limits) there ∙ all.kept vs)
