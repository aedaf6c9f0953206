use Rattle.std.proofs.Common.{◌≡◌, subst, List, Bool, arith, map, length}
use Rattle.std.specs.Prelude.{ℤ, pos, ◌+ℤ◌, ◌-ℤ◌}
use Rattle.std.proofs.lemmas.Int.{ints}
use Rattle.std.proofs.lemmas.List.{length-map}
use Rattle.bit_words.specs.Words.{bit_value, int_read, OverflowsAs, Holds}
use Rattle.bit_words.proofs.Integers.{int_not}
use Rattle.bit_words.proofs.sums.sub.Given as given
use Rattle.bit_words.proofs.sums.sub.Goals as goal

-- the opposites and one more are the opposite
taken_away : (g : given.Over) (c : goal.After-drop-flipped-inside-2 g) (vs : List Bool) →
    int_read g.L.Logic.reads c.args.g.now vs c.args.a.now +ℤ int_read g.L.Logic.reads c.args.g.now vs c.in_ok-flipped.flipped +ℤ pos (bit_value (g.L.Logic.reads c.args.g.now vs c.constant-yes.result))
    ≡ int_read g.L.Logic.reads c.args.g.now vs c.args.a.now -ℤ int_read g.L.Logic.reads c.args.g.now vs c.args.b.now
taken_away g c vs =
    let b = map (g.L.Logic.reads c.args.g.now vs) c.args.b.now in
    let opposite = int_not b (simp length-map (omega arith)) in
    rw (c.in_ok-flipped.ensures.value vs, c.constant-yes.ensures.value vs) (omega (arith, ints))

pub returns-clause-over : goal.returns-clause-over
returns-clause-over g c vs = subst (λ (z : ℤ). OverflowsAs (g.L.Logic.reads c.signed_sum.new.g vs c.in_ok-difference.difference.over) (length c.args.a.now) z) (taken_away g c vs) (c.in_ok-difference.ensures.over vs)

pub returns-clause-value : goal.returns-clause-value
returns-clause-value g c vs = subst (λ (z : ℤ). Holds (int_read g.L.Logic.reads c.signed_sum.new.g vs c.in_ok-difference.difference.word) (length c.args.a.now) z) (taken_away g c vs) (c.in_ok-difference.ensures.value vs)
