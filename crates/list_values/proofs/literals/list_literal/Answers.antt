use Rattle.std.proofs.Common.{◌≤◌, ◌∙◌, ap, arith, length}
use Rattle.std.specs.Prelude.{nat_lt}
use Rattle.list_values.proofs.Singles.{list_made}
use Rattle.list_values.proofs.Written.{few_words, literal_is, words_owned}
use Rattle.list_values.proofs.literals.list_literal.Goals as goal

pub count_of-requires : goal.count_of-requires
count_of-requires g c =
    let small : length c.in_ok-words.words ≤ c.args.limits.now.cap = few_words c.in_ok-words.words c.args.numbers.now c.args.limits.now.cap c.in_ok-words.ensures in
    let most = c.args.limits.now.cap_range in
    omega arith

pub constant_length-requires : goal.constant_length-requires
constant_length-requires g c =
    let small : length c.in_ok-words.words ≤ c.args.limits.now.cap = few_words c.in_ok-words.words c.args.numbers.now c.args.limits.now.cap c.in_ok-words.ensures in
    let most = c.args.limits.now.cap_range in
    omega (arith, c.count_of.ensures)

pub padded-requires : goal.padded-requires
padded-requires g c = record {
  within = few_words c.in_ok-words.words c.args.numbers.now c.args.limits.now.cap c.in_ok-words.ensures;
  words = words_owned c.in_ok-words.words c.args.numbers.now c.args.limits.now.cap c.in_ok-words.ensures c.requires;
}

pub returns-clause-made : goal.returns-clause-made
returns-clause-made g c =
    let items = c.in_ok-items.ensures in
    let made = list_made c.in_ok-len.ensures.made items.made items.many in
    record { owned = made.owned; owned_fault = c.constant-fault.ensures.owned; form = made.form }

pub returns-clause-value : goal.returns-clause-value
returns-clause-value g c vs =
    let items = c.in_ok-items.ensures in
    literal_is (g.L.Logic.reads c.args.g.now vs) c.args.limits.now c.args.numbers.now c.in_ok-words.words _ _ _ c.in_ok-words.ensures (c.in_ok-len.ensures.value vs ∙ c.count_of.ensures) items.many items.front (c.constant-fault.ensures.value vs ∙ ap (nat_lt c.args.limits.now.cap) c.len-2.ensures)
