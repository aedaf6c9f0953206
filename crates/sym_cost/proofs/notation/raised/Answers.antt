use Rattle.std.proofs.Common.{◌≡◌, ◌∙◌, ◌+◌, length, map, sym, subst, arith, rules, w32}
use Rattle.std.proofs.lemmas.Int.{to_z-of_z}
use Rattle.sym_cost.specs.declared.notation.Notation.{Notation}
use Rattle.sym_cost.specs.Notations.{HasWidth, Spells}
use Rattle.sym_cost.proofs.Spelled.{raised_spelled}
use Rattle.sym_cost.proofs.notation.raised.Goals as goal

pub add-requires : goal.add-requires
add-requires g c =
    let own = c.in_ok-own-in-Binary.ensures.made in
    let first = own.width in
    let second : length c.args.inner.now ≡ 14 =
    subst (λ (f : Notation). HasWidth f (length c.args.inner.now)) c.in-Binary.is
    c.requires.width in
    record {
      some = omega (arith, first);
      alike = second ∙ sym first;
      left = own.owned;
      right = c.requires.owned;
    }

pub returns-in_ok-sum-in-Binary-clause-made : goal.returns-in_ok-sum-in-Binary-clause-made
returns-in_ok-sum-in-Binary-clause-made g c =
    let made = c.in_ok-sum-in-Binary.ensures.made in
    record {
      owned = made.owned;
      width = subst (λ (f : Notation). HasWidth f (length c.in_ok-sum-in-Binary.sum.word))
          (sym c.in-Binary.is) (made.width ∙ c.in_ok-own-in-Binary.ensures.made.width);
    }

pub returns-in_ok-sum-in-Binary-clause-value : goal.returns-in_ok-sum-in-Binary-clause-value
returns-in_ok-sum-in-Binary-clause-value g c vs n room x =
    let rd = g.L.Logic.reads c.args.g.now vs in
    raised_spelled c.args.notation (map rd c.in_ok-own-in-Binary.own.word) (map rd
    c.args.inner.now) _ _ c.args.cost n _ c.in-Binary.is c.in_ok-own-in-Binary.ensures.made.width
    room x c.number_of.ensures (rw (to_z-of_z w32 c.number_of.result (search rules)) at
    (c.in_ok-own-in-Binary.ensures.value vs)) (c.in_ok-sum-in-Binary.ensures.value vs)

pub returns-in_ok-sum-in-Unary-clause-made : goal.returns-in_ok-sum-in-Unary-clause-made
returns-in_ok-sum-in-Unary-clause-made g c =
    let made = c.in_ok-sum-in-Unary.ensures.made in
    record {
      owned = made.owned;
      width = subst (λ (f : Notation). HasWidth f (length c.in_ok-sum-in-Unary.sum))
          (sym c.in-Unary.is) (omega (arith, made.width));
    }

pub returns-in_ok-sum-in-Unary-clause-value : goal.returns-in_ok-sum-in-Unary-clause-value
returns-in_ok-sum-in-Unary-clause-value g c vs n room x =
    let rd = g.L.Logic.reads c.args.g.now vs in
    let is = c.in-Unary.is in
    let inner = subst (λ (f : Notation). Spells f (map rd c.args.inner.now) n) is x in
    subst (λ (f : Notation). Spells f (map (g.L.Logic.reads c.args.g.now vs)
    c.in_ok-sum-in-Unary.sum) (c.args.cost + n)) (sym is)
    (c.in_ok-sum-in-Unary.ensures.value vs n inner)
