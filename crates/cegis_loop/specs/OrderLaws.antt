-- Laws of the order of questions.
use Rattle.std.specs.Prelude.{◌≡◌, ℕ, suc, ◌+◌, ◌*◌, ◌≤◌, List, [], ◌∷◌, ◌++◌, length}
use Rattle.std.specs.Prelude.{Some, None}
use Rattle.std.specs.List.{Contains}
use Rattle.cegis_loop.specs.Space.{Space, NoneAbove}
use Rattle.cegis_loop.specs.State.{Question, Low, Fail, Told, Refuted, Open}
use Rattle.cegis_loop.specs.Order.{End, NoChoice, Settled, IsSearch, IsWholeSearch, IsAtLeast}

-- a whole search asks at most two questions for each input, one for each bound, and three
abbrev pub FewQuestions : {C I : Type 0} → Space C I → Type 0
FewQuestions {C} {I} s = (kept : List I) (asked : List (Told C)) (end : End C)
    → IsWholeSearch s kept asked end
    → length asked ≤ 2 * length s.inputs + s.most_cost + 3

-- over how many inputs the last refuted question for a choice was, or `before` where there is none
abbrev pub last_ruled : {C : Type 0} → ℕ → List (Told C) → ℕ
last_ruled before [] = before
last_ruled before (Refuted (Low bound cases) ∷ asked) = last_ruled cases asked
last_ruled before (_ ∷ asked) = last_ruled before asked

-- that number is the one by which a search says whether it needs a closing question
abbrev pub SettledOverLastRuled : {C I : Type 0} → Space C I → Type 0
SettledOverLastRuled {C} {I} s = (kept : List I) (asked : List (Told C)) (c : C) (cases : ℕ)
    → IsSearch s kept asked (Settled c cases) → cases ≡ last_ruled 0 asked

-- a question that isn't refuted rules out no cost
abbrev pub OpenRulesOutNothing : Type 0 → Type 0
OpenRulesOutNothing C = (asked : List (Told C)) (question : Question C) (k : ℕ)
    → IsAtLeast asked k → IsAtLeast (asked ++ Open question ∷ []) k

-- where a whole search ends with a choice that costs something, the question for a cheaper one was
-- asked over all kept inputs, and refuted
abbrev pub CheaperRuledOut : {C I : Type 0} → Space C I → Type 0
CheaperRuledOut {C} {I} s =
    (kept : List I) (asked : List (Told C)) (c : C) (cases less : ℕ)
    → NoneAbove s s.most_cost → IsWholeSearch s kept asked (Settled c cases)
    → IsAtLeast asked (s.cost c) → s.cost c ≡ suc less
    → Contains asked (Refuted (Low (Some less) (length kept)))

-- where a whole search ends with a choice, the question whether that fails was refuted, and no
-- other such question
pub record ChoiceDidntFail {C I : Type 0} (s : Space C I) : Type 0 where
  pub refuted : (kept : List I) (asked : List (Told C)) (c : C) (cases : ℕ)
      → IsWholeSearch s kept asked (Settled c cases) → Contains asked (Refuted (Fail c))
  pub alone : (kept : List I) (asked : List (Told C)) (c e : C) (cases : ℕ)
      → IsWholeSearch s kept asked (Settled c cases) → Contains asked (Refuted (Fail e)) → e ≡ c

-- where a whole search ends with no choice, the question for any choice over all kept inputs was
-- refuted
abbrev pub AnyRuledOut : {C I : Type 0} → Space C I → Type 0
AnyRuledOut {C} {I} s =
    (kept : List I) (asked : List (Told C)) → IsWholeSearch s kept asked NoChoice
    → Contains asked (Refuted (Low None (length kept)))
