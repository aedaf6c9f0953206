use Rattle.std.proofs.Common.{◌≡◌, ◌++◌, ◌+◌, ◌*◌, ◌<◌, ◌≤◌, length, map, Some}
use Rattle.mpy_tree.specs.declared.levels.Level.TheVariants as level
use Rattle.mpy_tree.specs.Options.{◌>>=◌}
use Rattle.mpy_expressions.specs.Reading.{at_level, reading, with_joints, with_suffixes, some_elements, elements, levels_above}
use Rattle.mpy_expressions.proofs.expressions.+expression.Given as goal

-- thirty steps a terminal are enough for all levels and what they call
abbrev pub decreases-expression : goal.decreases-expression
decreases-expression g l = 30 * length l.ts.now + 2 * levels_above l.level + 3

abbrev pub decreases-conditional : goal.decreases-conditional
decreases-conditional g l = 30 * length l.ts.now + 22

abbrev pub decreases-chain : goal.decreases-chain
decreases-chain g l = 30 * length l.ts.now + 2 * levels_above l.level + 2

abbrev pub decreases-prefixed : goal.decreases-prefixed
decreases-prefixed g l = 30 * length l.ts.now + 2 * levels_above l.level + 2

abbrev pub decreases-comparison : goal.decreases-comparison
decreases-comparison g l = 30 * length l.ts.now + 14

abbrev pub decreases-power : goal.decreases-power
decreases-power g l = 30 * length l.ts.now + 6

abbrev pub decreases-postfix : goal.decreases-postfix
decreases-postfix g l = 30 * length l.ts.now + 4

abbrev pub decreases-atom : goal.decreases-atom
decreases-atom g l = 30 * length l.ts.now + 2

abbrev pub decreases-conditional_tail : goal.decreases-conditional_tail
decreases-conditional_tail g l = 30 * length l.ts.now

abbrev pub decreases-joint_tail : goal.decreases-joint_tail
decreases-joint_tail g l = 30 * length l.ts.now

abbrev pub decreases-comparison_tail : goal.decreases-comparison_tail
decreases-comparison_tail g l = 30 * length l.ts.now

abbrev pub decreases-suffix_at : goal.decreases-suffix_at
decreases-suffix_at g l = 30 * length l.ts.now

abbrev pub decreases-second_end : goal.decreases-second_end
decreases-second_end g l = 30 * length l.ts.now + 24

abbrev pub decreases-elements : goal.decreases-elements
decreases-elements g l = 30 * length l.ts.now + 24

abbrev pub decreases-set : goal.decreases-set
decreases-set g l = 30 * length l.ts.now + 25

abbrev pub decreases-name_or_call : goal.decreases-name_or_call
decreases-name_or_call g l = 30 * length l.ts.now + 24

abbrev pub decreases-parenthesized : goal.decreases-parenthesized
decreases-parenthesized g l = 30 * length l.ts.now + 24

-- what is joined so far and what is joined to it from here on is the whole
abbrev pub invariant-chain-loop-link : goal.invariant-chain-loop-link
invariant-chain-loop-link g l = record {
  whole : at_level g.T.Forms.forms (reading g.T.Forms.forms) l.level l.ts ≡ Some (with_joints g.T.Forms.forms (reading g.T.Forms.forms) l.level (length l.rest) (g.T.Forms.plain l.left, l.rest));
  short : length l.rest < length l.ts;
}

abbrev pub decreases-chain-loop-link : goal.decreases-chain-loop-link
decreases-chain-loop-link g l = length l.rest

abbrev pub invariant-postfix-loop-behind : goal.invariant-postfix-loop-behind
invariant-postfix-loop-behind g l = record {
  whole : at_level g.T.Forms.forms (reading g.T.Forms.forms) level.Postfix l.ts ≡ Some (with_suffixes g.T.Forms.forms (reading g.T.Forms.forms) (length l.rest) (g.T.Forms.plain l.value, l.rest));
  short : length l.rest < length l.ts;
}

abbrev pub decreases-postfix-loop-behind : goal.decreases-postfix-loop-behind
decreases-postfix-loop-behind g l = length l.rest

-- the elements so far, and those from here on, are all
abbrev pub invariant-elements-loop-items : goal.invariant-elements-loop-items
invariant-elements-loop-items g l = record {
  whole : elements (reading g.T.Forms.forms) l.bracket l.fn.ts ≡ (some_elements (reading g.T.Forms.forms) l.bracket (length l.ts) l.ts >>= λ es. Some (map g.T.Forms.plain l.items.items ++ es.0, es.1));
  short : length l.ts ≤ length l.fn.ts;
}

abbrev pub decreases-elements-loop-items : goal.decreases-elements-loop-items
decreases-elements-loop-items g l = length l.ts
