use Rattle.std.proofs.Common.{◌≡◌, [], ◌∷◌, map, take}
use Rattle.mpy_tree.proofs.lists.Chars.characters.Given as goal

abbrev pub invariant-loop-c : goal.invariant-loop-c
invariant-loop-c l = l.texts.items ≡ map (λ c. c ∷ []) (take l.c-index l.c-items)
