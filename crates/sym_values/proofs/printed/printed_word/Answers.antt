use Rattle.std.proofs.Common.{◌∙◌, ◌-◌, ap, length}
use Rattle.std.specs.Prelude.{replicate}
use Rattle.sym_values.specs.Printed.{kind_of}
use Rattle.sym_values.proofs.PrintedWords.{kind_digits, word_front, word_long, word_made, word_reads}
use Rattle.sym_values.proofs.printed.printed_word.Goals as goal

pub pad-requires : goal.pad-requires
pad-requires g c =
    let front = word_front _ _ _ _ _ _ _ c.new-word.ensures c.in_ok-push.ensures.ok c.in_ok-push-2.ensures.ok c.in_ok-push_value.ensures in
    rw c.print_width.ensures (word_long c.args.limits.now c.requires.typed.0 c.args.value.now _ _ _ c.requires.typed.1 front)

pub returns-clause-made : goal.returns-clause-made
returns-clause-made g c =
    let front = word_front _ _ _ _ _ _ _ c.new-word.ensures c.in_ok-push.ensures.ok c.in_ok-push-2.ensures.ok c.in_ok-push_value.ensures in
    word_made c.args.limits.now c.requires.typed.0 c.args.value.now _ _ _ _ _ _ c.requires.typed.1 front c.print_width.ensures c.in_ok-pad.ensures c.constant.ensures.owned c.constant-2.ensures.owned c.constant-3.ensures.owned c.requires.owned

pub returns-clause-value : goal.returns-clause-value
returns-clause-value g c vs =
    let t = c.requires.typed.0 in
    let front = word_front _ _ _ _ _ _ _ c.new-word.ensures c.in_ok-push.ensures.ok c.in_ok-push-2.ensures.ok c.in_ok-push_value.ensures in
    let kind = c.kind_of-kind.ensures ∙ ap kind_of (c.type_of.ensures c.args.limits.now t c.requires.typed.1) in
    let digits = kind_digits t _ _ _ kind (c.constant.ensures.value vs) (c.constant-2.ensures.value vs) in
    word_reads c.args.limits.now t c.args.value.now (g.L.Logic.reads c.args.g.now vs) c.constant.result c.constant-2.result c.push_value.new.out c.pad.new.out (replicate (c.print_width.result - length c.push_value.new.out) c.constant-3.result) c.requires.typed.1 front c.in_ok-pad.ensures digits
