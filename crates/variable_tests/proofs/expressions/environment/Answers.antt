use Rattle.std.proofs.Common.{◌≡◌, ◌∷◌, [], rules, subst, sym}
use Rattle.std.proofs.lemmas.List.Elements.{All-nil}
use Rattle.bit_words.specs.Later.{owned_later}
use Rattle.bit_words.specs.Logic.{OwnsAll}
use Rattle.sym_values.specs.Forms.{joined}
use Rattle.sym_values.specs.Owned.{owns_one_more}
use Rattle.variable_tests.specs.Expressions.{x}
use Rattle.variable_tests.proofs.ExpressionTypes.{one_named, one_number}
use Rattle.variable_tests.proofs.expressions.environment.Goals as goal

pub returns-clause-made : goal.returns-clause-made
returns-clause-made g c =
    let owns = g.V.Logic.owns in
    let last = c.fresh_bits-2.new.g in
    let values = c.in_ok-values.ensures in
    let set = c.in_ok-set.ensures.made in
    let one = c.fresh_bits.ensures.keeps in
    let two = c.fresh_bits-2.ensures.keeps in
    let names : c.from_vec.result ≡ x ∷ [] = search rules in
    let none = subst (λ ps. OwnsAll owns last (joined ps)) (sym c.new-picks.ensures)
    (record { each = All-nil (owns last) }) in
    one_named _ names set.width values.forms (owned_later two (owned_later one values.owned))
    (owned_later two set.owned)
    (owns_one_more (λ w. w) c.new-picks.result _ c.in_ok-member.member none
    c.in_ok-member.ensures.made.owned c.in_ok-push.ensures.ok)

pub returns-clause-types : goal.returns-clause-types
returns-clause-types g c = one_number _ _ c.in_ok-values.ensures.forms
