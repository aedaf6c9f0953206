-- From what is read of the terminals behind a place to the tokens there.
use Rattle.std.proofs.Common.{◌≡◌, ℕ, ◌+◌, ◌-◌, ◌≤◌, List, ◌++◌, length, take, drop, Option, Some, None, IfSome, ap, sym, ◌∙◌, subst, arith}
use Rattle.std.proofs.lemmas.List.{take-map, take-append-drop, length-map, length-drop, length-append}
use Rattle.std.proofs.Math.Seq.{take-append_seam, take-length}
use Rattle.mpy_tree.specs.Syntax.{Term}
use Rattle.mpy_lexer.specs.declared.token.Token.{Token}
use Rattle.mpy_tree.specs.declared.levels.Level.TheVariants as level
use Rattle.mpy_expressions.specs.declared.terminals.Terminal.{Terminal}
use Rattle.mpy_expressions.specs.Terminals.{terminal_of, terminals}
use Rattle.mpy_expressions.specs.Grammar.{Spells}
use Rattle.mpy_expressions.specs.Reading.{reading}
use Rattle.mpy_expressions.specs.Programs.{programs}
use Rattle.mpy_expressions.specs.Longest.{EndsAt, IsLongest, NoneBegins}
use Rattle.mpy_expressions.proofs.Sound.{reading_sound, Fronts}
use Rattle.mpy_expressions.proofs.Complete.{reading_longest, Found}

-- how many terminals there are behind a place
behind_length : (toks : List Token) (from : ℕ) → length (terminals (drop from toks)) ≡ length toks - from
behind_length toks from = length-map (drop from toks) terminal_of ∙ length-drop from toks

fronts_of : (ts : List (Terminal Unit)) (x : Term × List (Terminal Unit)) → reading programs level.Conditional ts ≡ Some x → Fronts programs level.Conditional ts x
fronts_of ts x h = subst (λ o. IfSome o (Fronts programs level.Conditional ts)) h (reading_sound programs level.Conditional ts)

pub found_between : (toks : List Token) (from : ℕ) (x : Term × List (Terminal Unit)) → from ≤ length toks → reading programs level.Conditional (terminals (drop from toks)) ≡ Some x → EndsAt toks from (length toks - length x.1) x.0
found_between toks from x within h =
    let ts = terminals (drop from toks) in
    let f = fronts_of ts x h in
    let sizes : length toks - from ≡ length f.0 + length x.1 = sym (behind_length toks from) ∙ ap length f.1 ∙ length-append f.0 x.1 in
    let count : length toks - length x.1 - from ≡ length f.0 = omega arith in
    let cut : terminals (take (length toks - length x.1 - from) (drop from toks)) ≡ f.0 =
    ap (λ n. terminals (take n (drop from toks))) count ∙ sym (take-map terminal_of (length f.0) (drop from toks)) ∙ ap (take (length f.0)) f.1 ∙ take-append_seam f.0 x.1 in
    record {
      begins = omega arith;
      within = omega arith;
      spelled = subst (λ l. Spells programs level.Conditional l x.0) (sym cut) f.2;
    }

-- what ends at a place is a front of the terminals
front_at : (toks : List Token) (from to : ℕ) → terminals (drop from toks) ≡ terminals (take (to - from) (drop from toks)) ++ drop (to - from) (terminals (drop from toks))
front_at toks from to = sym (take-append-drop (to - from) (terminals (drop from toks))) ∙ ap (λ l. l ++ drop (to - from) (terminals (drop from toks))) (take-map terminal_of (to - from) (drop from toks))

read_at : (toks : List Token) (from to : ℕ) (e : Term) → EndsAt toks from to e → Found programs level.Conditional (terminals (take (to - from) (drop from toks))) e (drop (to - from) (terminals (drop from toks)))
read_at toks from to e h = reading_longest programs level.Conditional (terminals (take (to - from) (drop from toks))) e (drop (to - from) (terminals (drop from toks))) h.spelled

pub longest_between : (toks : List Token) (from : ℕ) (x : Term × List (Terminal Unit)) → from ≤ length toks → reading programs level.Conditional (terminals (drop from toks)) ≡ Some x → IsLongest toks from (length toks - length x.1)
longest_between toks from x within h later e ends =
    let f = read_at toks from later e ends in
    let same : Some x ≡ Some f.0 = sym h ∙ ap (reading programs level.Conditional) (front_at toks from later) ∙ f.1 in
    let rest : length x.1 ≡ length f.0.1 = ap rest_length same in
    let left : length (drop (later - from) (terminals (drop from toks))) ≡ length toks - from - (later - from) = length-drop (later - from) (terminals (drop from toks)) ∙ ap (λ n. n - (later - from)) (behind_length toks from) in
    let b = ends.begins in
    let w = ends.within in
    let short = f.2 in
    omega arith
  where
    rest_length : Option (Term × List (Terminal Unit)) → ℕ
    rest_length None = 0
    rest_length (Some y) = length y.1

pub none_between : (toks : List Token) (from : ℕ) → reading programs level.Conditional (terminals (drop from toks)) ≡ None → NoneBegins toks from
none_between toks from h to e ends =
    let f = read_at toks from to e ends in
    let z : None ≡ Some f.0 = sym h ∙ ap (reading programs level.Conditional) (front_at toks from to) ∙ f.1 in cc

-- all that stands behind a place
pub all_behind : (toks : List Token) (from : ℕ) → take (length toks - from) (drop from toks) ≡ drop from toks
all_behind toks from = ap (λ n. take n (drop from toks)) (sym (length-drop from toks)) ∙ take-length (drop from toks)
