use Rattle.std.proofs.Common.{[], ◌∙◌, ap, length, map, sym}
use Rattle.std.proofs.lemmas.List.{length-map}
use Rattle.std.proofs.lemmas.Simd.{map-map}
use Rattle.bit_words.specs.Logic.{extends_keeps}
use Rattle.bit_words.specs.Words.{nat_of}
use Rattle.sym_values.specs.Later.{words_later}
use Rattle.pick_bits.specs.MemberWords.{all_numbered}
use Rattle.pick_bits.proofs.MemberWords.{length-member_words, members_are, some_members}
use Rattle.pick_bits.proofs.fresh.fresh_members.Goals as goal

pub all_numbered-requires-clause-many : goal.all_numbered-requires-clause-many
all_numbered-requires-clause-many g c =
    let v = g.V.Logic in
    let made = c.in_ok-members.ensures.value [] in
    ap length c.deref.ensures.value
    ∙ sym (length-map c.in_ok-members.members.items (map (v.reads c.fresh_numbers.new.g [])))
    ∙ ap length made ∙ length-member_words c.args.counts.now [] (v.count c.args.g.now)

pub returns-clause-many : goal.returns-clause-many
returns-clause-many g c =
    let v = g.V.Logic in
    let made = c.in_ok-members.ensures.value [] in
    sym (length-map c.in_ok-members.members.items (map (v.reads c.fresh_numbers.new.g [])))
    ∙ ap length made ∙ length-member_words c.args.counts.now [] (v.count c.args.g.now)

pub returns-clause-within : goal.returns-clause-within
returns-clause-within g c vs =
    let v = g.V.Logic in
    let ns = c.args.counts.now in
    c.in_ok-within.ensures.value vs
    ∙ ap (λ ws. all_numbered ns (map (map (v.reads c.fresh_numbers.new.g vs)) ws))
    c.deref.ensures.value
    ∙ ap (all_numbered ns) (c.in_ok-members.ensures.value vs)
    ∙ sym (some_members ns vs (v.count c.args.g.now))

pub returns-clause-members : goal.returns-clause-members
returns-clause-members g c vs is e =
    let v = g.V.Logic in
    let ws = c.in_ok-members.members.items in
    let made = c.in_ok-members.ensures in
    let keeps = extends_keeps c.all_numbered.ensures.extends in
    sym (map-map nat_of (map (v.reads c.all_numbered.new.g vs)) ws)
    ∙ ap (map nat_of) (words_later keeps ws made.owned vs ∙ made.value vs)
    ∙ members_are c.args.counts.now vs (v.count c.args.g.now) is e
