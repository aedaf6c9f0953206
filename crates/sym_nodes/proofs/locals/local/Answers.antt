use Rattle.std.proofs.Common.{◌∙◌, ap, arith, sym, subst}
use Rattle.mpy_tree.specs.Locals.{place_of}
use Rattle.mpy_tree.specs.Values.{set_or_fault}
use Rattle.sym_values.specs.declared.value.SymValue.{SymValue}
use Rattle.sym_values.specs.Forms.{bits_of, form_for, form_of}
use Rattle.sym_values.specs.Owned.{owns_one}
use Rattle.bit_words.specs.Logic.{OwnsAll}
use Rattle.bit_words.proofs.Kept.{owns_read}
use Rattle.sym_values.specs.Reading.{IsOutcome, read}
use Rattle.sym_nodes.specs.Views.{env_of}
use Rattle.sym_nodes.proofs.Lookups.{found_at, found_below, local_is, type_there}
use Rattle.sym_nodes.proofs.locals.local.Goals as goal

pub at-held-requires : goal.at-held-requires
at-held-requires g c =
    let env = env_of c.args.view.now in
    let below = found_below env.names c.args.x.now c.in-Some.i c.in-Some.ensures in
    let many = c.requires.env.valued in
    omega arith

pub at-mark-requires : goal.at-mark-requires
at-mark-requires g c =
    let env = env_of c.args.view.now in
    let below = found_below env.names c.args.x.now c.in-Some.i c.in-Some.ensures in
    let many = c.requires.env.marked in
    omega arith

pub not-fault-requires : goal.not-fault-requires
not-fault-requires g c = owns_read c.in-Some.i c.requires.env.marks c.at-mark.ensures

pub returns-clause-made : goal.returns-clause-made
returns-clause-made g c t e =
    let env = env_of c.args.view.now in
    let held = c.at-held.result.now in
    let same = c.in_ok-value-in-Some.ensures in
    let below = found_below env.names c.args.x.now c.in-Some.i c.in-Some.ensures in
    let typed = type_there env.values (place_of env.names c.args.x.now) c.in-Some.i held t c.in-Some.ensures c.at-held.ensures e in
    record {
      owned = subst (λ (x : SymValue _). OwnsAll g.L.Logic.owns c.args.g.now (bits_of x)) (sym same) (owns_one bits_of env.values c.in-Some.i held c.requires.env.values c.at-held.ensures);
      owned_fault = c.not-fault.ensures.owned;
      form = ap form_of same ∙ c.requires.env.forms c.in-Some.i held below c.at-held.ensures ∙ ap (form_for env.limits) typed;
    }

pub returns-clause-value : goal.returns-clause-value
returns-clause-value g c vs s h =
    let env = env_of c.args.view.now in
    let rd = g.L.Logic.reads c.args.g.now vs in
    let held = c.at-held.result.now in
    let mark = c.at-mark.result in
    let local = h.local c.in-Some.i c.args.x.now held mark (found_at env.names c.args.x.now c.in-Some.i c.in-Some.ensures) c.at-held.ensures c.at-mark.ensures in
    subst (λ (x : SymValue _). IsOutcome (rd c.not-fault.result) (read rd x) (set_or_fault (s c.args.x.now))) (sym c.in_ok-value-in-Some.ensures)
    (local_is (rd mark) (rd c.not-fault.result) (read rd held) (s c.args.x.now) (c.not-fault.ensures.value vs) local)
