use Rattle.std.proofs.Common.{◌≡◌, ◌∙◌, ◌+◌, length, map, sym, subst, arith}
use Rattle.sym_cost.specs.declared.notation.Notation.{Notation}
use Rattle.sym_cost.specs.Notations.{HasWidth, Spells}
use Rattle.sym_cost.proofs.Spelled.{sum_spelled}
use Rattle.sym_cost.proofs.notation.sum.Goals as goal

pub add-requires : goal.add-requires
add-requires g c =
    let first : length c.args.a.now ≡ 14 =
    subst (λ (f : Notation). HasWidth f (length c.args.a.now)) c.in-Binary.is
    c.requires.left.width in
    let second : length c.args.b.now ≡ 14 =
    subst (λ (f : Notation). HasWidth f (length c.args.b.now)) c.in-Binary.is
    c.requires.right.width in
    record {
      some = omega (arith, first);
      alike = second ∙ sym first;
      left = c.requires.left.owned;
      right = c.requires.right.owned;
    }

pub returns-in_ok-sum-in-Binary-clause-made : goal.returns-in_ok-sum-in-Binary-clause-made
returns-in_ok-sum-in-Binary-clause-made g c =
    let made = c.in_ok-sum-in-Binary.ensures.made in
    record {
      owned = made.owned;
      width = subst (HasWidth c.args.notation) (sym made.width) c.requires.left.width;
    }

pub returns-in_ok-sum-in-Binary-clause-value : goal.returns-in_ok-sum-in-Binary-clause-value
returns-in_ok-sum-in-Binary-clause-value g c vs m n room x y =
    sum_spelled c.args.notation _ _ _ _ m n c.in-Binary.is c.requires.left.width room x y
    (c.in_ok-sum-in-Binary.ensures.value vs)

pub returns-in_ok-sum-in-Unary-clause-made : goal.returns-in_ok-sum-in-Unary-clause-made
returns-in_ok-sum-in-Unary-clause-made g c =
    let made = c.in_ok-sum-in-Unary.ensures.made in
    record {
      owned = made.owned;
      width = subst (λ (f : Notation). HasWidth f (length c.in_ok-sum-in-Unary.sum))
          (sym c.in-Unary.is) (omega (arith, made.width));
    }

pub returns-in_ok-sum-in-Unary-clause-value : goal.returns-in_ok-sum-in-Unary-clause-value
returns-in_ok-sum-in-Unary-clause-value g c vs m n room x y =
    let rd = g.L.Logic.reads c.args.g.now vs in
    let is = c.in-Unary.is in
    let left = subst (λ (f : Notation). Spells f (map rd c.args.a.now) m) is x in
    let right = subst (λ (f : Notation). Spells f (map rd c.args.b.now) n) is y in
    subst (λ (f : Notation). Spells f (map (g.L.Logic.reads c.counters_sum.new.g vs)
    c.in_ok-sum-in-Unary.sum) (m + n)) (sym is)
    (c.in_ok-sum-in-Unary.ensures.value vs m n left right)
