use Rattle.std.proofs.Common.{◌≡◌, ◌∙◌, ap, subst, List, Bool, arith, length}
use Rattle.std.specs.Prelude.{ℤ, pos, ◌-ℤ◌, neg_ℤ}
use Rattle.std.proofs.lemmas.Int.{ints}
use Rattle.bit_words.specs.Words.{int_of, int_read, OverflowsAs, Holds}
use Rattle.bit_words.proofs.Integers.{int_zeros}
use Rattle.bit_words.proofs.sums.neg.Given as given
use Rattle.bit_words.proofs.sums.neg.Goals as goal

from_zero : (z y : ℤ) → z ≡ pos 0 → z -ℤ y ≡ neg_ℤ y
from_zero z y e = omega (arith, ints)

nothing : (g : given.Over) (c : goal.After-drop-nothing-inside-2 g) (vs : List Bool) → int_read g.L.Logic.reads c.args.g.now vs c.in_ok-nothing.nothing ≡ pos 0
nothing g c vs = ap int_of (c.in_ok-nothing.ensures.value vs) ∙ int_zeros c.len.result

pub returns-clause-over : goal.returns-clause-over
returns-clause-over g c vs =
    subst (λ (z : ℤ). OverflowsAs (g.L.Logic.reads c.sub.new.g vs c.in_ok-opposite.opposite.over) (length c.args.a.now) z) (from_zero _ _ (nothing g c vs))
    (rw (c.in_ok-nothing.ensures.made.width, c.len.ensures) at (c.in_ok-opposite.ensures.over vs))

pub returns-clause-value : goal.returns-clause-value
returns-clause-value g c vs =
    subst (λ (z : ℤ). Holds (int_read g.L.Logic.reads c.sub.new.g vs c.in_ok-opposite.opposite.word) (length c.args.a.now) z) (from_zero _ _ (nothing g c vs))
    (rw (c.in_ok-nothing.ensures.made.width, c.len.ensures) at (c.in_ok-opposite.ensures.value vs))
