use Rattle.std.proofs.Common.{ap, sym, subst, arith, length}
use Rattle.sym_values.specs.Forms.{HasLength}
use Rattle.sym_values.specs.Owned.{word_owned}
use Rattle.list_values.specs.Sequences.{IsWordFor, item_width}
use Rattle.list_values.proofs.OfKind.{parts_alike, parts_are, sequence_alike, word_width}
use Rattle.list_values.proofs.Membership.{alike_text, number_member, text_member}
use Rattle.list_values.proofs.members.member_bit.Goals as goal

pub has_word-requires : goal.has_word-requires
has_word-requires g c =
    let list = c.parts_of-list.ensures in
    let alike : IsWordFor c.in-Int.word c.args.a.now = rw c.in-Int.is at c.requires.alike in
    let width = word_width c.args.a.now c.in-Int.word alike in
    let many = ap length list.items in
    record {
      some = omega (arith, width, c.requires.wide);
      few = omega (arith, many, c.requires.list.few);
      word = word_owned c.requires.item c.in-Int.is;
      list = parts_are width many list.len list.items c.requires.list.parts;
    }

pub parts_of-part-requires : goal.parts_of-part-requires
parts_of-part-requires g c = subst HasLength (sym c.in-Text.is) tt

pub has_part-requires : goal.has_part-requires
has_part-requires g c κs h =
    let needs = c.requires in
    let list = c.parts_of-list.ensures in
    let part = c.parts_of-part.ensures in
    let alike = alike_text c.args.x.now c.args.a.now _ _ c.in-Text.is needs.alike in
    let inner = sequence_alike c.args.x.now c.args.a.now needs.list (subst HasLength (sym c.in-Text.is) tt) needs.item alike in
    let width = ap item_width part.items in
    let many = ap length part.items in (
      h.0,
      (
        h.1,
        (
          omega (arith, many, inner.some),
          (
            omega (arith, many, inner.few),
            (
              parts_are width many part.len part.items inner.parts,
              parts_are width many list.len list.items (parts_alike c.args.x.now c.args.a.now needs.list (sym alike)),
            ),
          ),
        ),
      ),
    )

pub returns-in_ok-found-in-Int-clause-value : goal.returns-in_ok-found-in-Int-clause-value
returns-in_ok-found-in-Int-clause-value g c vs v w e k =
    let list = c.parts_of-list in
    let alike : IsWordFor c.in-Int.word c.args.a.now = rw c.in-Int.is at c.requires.alike in
    number_member (g.L.Logic.reads c.args.g.now vs) c.args.x.now c.args.a.now c.in-Int.word list.result.len.now list.result.items.now _ v w c.in-Int.is alike list.ensures.len list.ensures.items e k (c.in_ok-found-in-Int.ensures.value vs)

pub returns-in_ok-found-in-Text-clause-value : goal.returns-in_ok-found-in-Text-clause-value
returns-in_ok-found-in-Text-clause-value g c vs v w e k =
    let list = c.parts_of-list in
    let part = c.parts_of-part in
    let alike = alike_text c.args.x.now c.args.a.now _ _ c.in-Text.is c.requires.alike in
    text_member (g.L.Logic.reads c.args.g.now vs) c.args.x.now c.args.a.now _ part.result.len.now list.result.len.now _ part.result.items.now list.result.items.now _ v w c.in-Text.is (sym alike)
    part.ensures.len part.ensures.items list.ensures.len list.ensures.items c.requires.list.sized e k (c.in_ok-found-in-Text.ensures.value vs)
