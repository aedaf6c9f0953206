use Rattle.std.proofs.Common.{◌≡◌, ◌∙◌, ap, sym, arith, get_or}
use Rattle.choice_tree.specs.Heads.{one_if}
use Rattle.sym_values.specs.declared.value.SymOutcome.{SymOutcome}
use Rattle.sym_values.specs.Forms.{form_for, form_of}
use Rattle.sym_nodes.specs.Operands.{ty_of}
use Rattle.sym_nodes.proofs.Choosing.{part_at}
use Rattle.sym_nodes.proofs.Slicing.{ends_in, ends_number, slice_read, sliced_type}
use Rattle.sym_nodes.proofs.TypeRules.{slice_is, some_type}
use Rattle.sym_nodes.proofs.operations.slice_operation.Goals as goal

pub slice_value-requires-clause-from : goal.slice_value-requires-clause-from
slice_value-requires-clause-from g c = ends_in c.args.limits.now c.args.parts.now c.args.from 1 c.end_at-low.result c.requires.parts c.end_at-low.ensures

pub slice_value-requires-clause-to : goal.slice_value-requires-clause-to
slice_value-requires-clause-to g c = ends_in c.args.limits.now c.args.parts.now c.args.to _ c.end_at-high.result c.requires.parts c.end_at-high.ensures

pub slice_value-requires-clause-from_number : goal.slice_value-requires-clause-from_number
slice_value-requires-clause-from_number g c =
    let typed = some_type _ c.requires.typed in
    ends_number c.args.parts.now c.args.from 1 typed.0 c.end_at-low.result typed.1 (λ e. omega arith) c.end_at-low.ensures

pub slice_value-requires-clause-to_number : goal.slice_value-requires-clause-to_number
slice_value-requires-clause-to_number g c =
    let typed = some_type _ c.requires.typed in
    let many = c.requires.many in
    ends_number c.args.parts.now c.args.to _ typed.0 c.end_at-high.result typed.1 (λ e. let one : one_if c.args.to ≡ 1 = ap one_if e in omega arith) c.end_at-high.ensures

pub returns-clause-made : goal.returns-clause-made
returns-clause-made g c t e =
    let l = c.args.limits.now in
    let parts = c.args.parts.now in
    let o = c.index-parts-0.result in
    let many = c.requires.many in
    let first = part_at l parts 0 o c.requires.parts (omega arith) c.index-parts-0.is in
    let made = c.in_ok-part.ensures.made in
    record { owned = made.owned; owned_fault = made.owned_fault; form = made.form ∙ ap (λ (p : SymOutcome _). form_of p.value) (sym c.index-parts-0.is) ∙ first.form ∙ ap (form_for l) (sym (slice_is (ty_of o.value) t (sliced_type parts o t e c.index-parts-0.is)).0) }

pub returns-clause-value : goal.returns-clause-value
returns-clause-value g c vs ws e =
    let reads = g.L.Logic.reads in
    slice_read (reads c.args.g.now vs) (reads c.slice_value.new.g vs) c.in_ok-part.part c.args.from c.args.to c.args.parts.now (get_or c.args.parts.now 0 c.index-parts-0.result) c.end_at-low.result c.end_at-high.result
    c.requires.many (ap (get_or c.args.parts.now 0) c.index-parts-0.is) c.end_at-low.ensures c.end_at-high.ensures (c.in_ok-part.ensures.value vs) ws e
