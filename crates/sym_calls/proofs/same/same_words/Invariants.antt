use Rattle.std.proofs.Common.{take}
use Rattle.sym_calls.specs.Alike.{WordsAlike}
use Rattle.sym_calls.proofs.same.same_words.Given as goal

-- the words so far are alike
abbrev pub invariant-loop-i : goal.invariant-loop-i
invariant-loop-i g l = WordsAlike g.L.Logic.reads l.fn.g (take l.i l.v) (take l.i l.w)
