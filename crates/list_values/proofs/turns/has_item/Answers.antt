use Rattle.std.proofs.Common.{ap, sym, ◌∙◌, length, map, subst}
use Rattle.bit_words.specs.Logic.{OwnsAll}
use Rattle.bit_words.specs.Words.{nat_of}
use Rattle.list_values.proofs.ByPlace.{member_count, place_is_there}
use Rattle.list_values.proofs.turns.has_item.Goals as goal

pub less_number-requires : goal.less_number-requires
less_number-requires g c =
    let digits = c.as_slice.ensures ∙ c.parts_of-list.ensures.len in
    subst (OwnsAll g.L.Logic.owns c.args.g.now) (sym digits) c.requires.list.parts.length_of.owned

pub returns-clause-value : goal.returns-clause-value
returns-clause-value g c vs v ms e k =
    let f = g.L.Logic.reads c.args.g.now vs in
    let digits = ap (λ len. nat_of (map f len)) (c.as_slice.ensures ∙ c.parts_of-list.ensures.len) in
    let many = member_count f c.args.a.now v ms c.requires.list.sized e k in
    place_is_there c.args.place _ (length ms) _ _ (c.in_ok-short.ensures.value vs) (c.not.ensures.value vs) (many ∙ sym digits)
