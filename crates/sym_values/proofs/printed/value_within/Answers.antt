use Rattle.std.proofs.Common.{◌∙◌}
use Rattle.sym_values.specs.declared.value.SymValue.TheVariants as sym_value
use Rattle.sym_values.proofs.PrintedWords.{int_within, list_within, text_within, within_read}
use Rattle.sym_values.proofs.printed.value_within.Goals as goal

pub returns-in_ok-word_at-in-Int-clause-value : goal.returns-in_ok-word_at-in-Int-clause-value
returns-in_ok-word_at-in-Int-clause-value g c rd =
    let word = c.in_ok-word_at-in-Int.field-0 in
    let made = int_within c.args.limits.now c.args.ty word c.args.bits.now c.in-Int.is c.requires c.in_ok-word_at-in-Int.ensures in
    within_read c.args.limits.now c.args.ty (sym_value.Int word) c.args.bits.now rd made.0 made.1

pub returns-in_ok-items-in-List : goal.returns-in_ok-items-in-List
returns-in_ok-items-in-List g c =
    let len = c.from_vec-len.result in
    let items = c.in_ok-items-in-List.items in
    let made = list_within c.args.limits.now c.args.ty len items c.args.bits.now c.in-List.is c.requires (c.from_vec-len.ensures ∙ c.into_vec.ensures ∙ c.in_ok-word_at-in-List.ensures) c.in_ok-items-in-List.ensures in
    record { form = made.0; bits = made.1; value = λ rd. within_read c.args.limits.now c.args.ty (sym_value.List len items) c.args.bits.now rd made.0 made.1 }

pub returns-in_ok-items-in-Text : goal.returns-in_ok-items-in-Text
returns-in_ok-items-in-Text g c =
    let len = c.from_vec-len-in-Text.result in
    let items = c.in_ok-items-in-Text.items in
    let made = text_within c.args.limits.now c.args.ty len items c.args.bits.now c.in-Text.is c.requires (c.from_vec-len-in-Text.ensures ∙ c.into_vec-in-Text.ensures ∙ c.in_ok-word_at-in-Text.ensures) c.in_ok-items-in-Text.ensures in
    record { form = made.0; bits = made.1; value = λ rd. within_read c.args.limits.now c.args.ty (sym_value.Text len items) c.args.bits.now rd made.0 made.1 }
