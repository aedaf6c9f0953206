-- The brackets of a row's tokens are those of its scraps.
use Rattle.std.proofs.Common.{◌≡◌, ℕ, Bool, true, false, not, ◌&&◌, ◌||◌, List, [], ◌∷◌, map, refl, ap, ◌∙◌}
use Rattle.mpy_lexer.specs.declared.token.Token.{Token}
use Rattle.mpy_lexer.specs.Brackets.{mark_of, first_of_mark, is_closing, closes, open_behind, open_after, has_unmatched}
use Rattle.mpy_round_trip.proofs.Scraps.{Brackets, Scrap, gap, word, open_behind_all, AreMatched, AreBalanced, scrap_of, words_in}

open_words : (line : ℕ) (opened : Brackets) (ss : List Scrap) → open_behind_all line opened (words_in ss) ≡ open_behind_all line opened ss
open_words line opened [] = refl
open_words line opened (gap ∷ ss) = open_words line opened ss
open_words line opened (word k bytes ∷ ss) = open_words line (open_behind line opened (first_of_mark k bytes)) ss

matched_words : (line : ℕ) (opened : Brackets) (ss : List Scrap) → AreMatched line opened ss → AreMatched line opened (words_in ss)
matched_words line opened [] matched = tt
matched_words line opened (gap ∷ ss) matched = matched_words line opened ss matched
matched_words line opened (word k bytes ∷ ss) matched = (matched.0, matched_words line (open_behind line opened (first_of_mark k bytes)) ss matched.1)

open_tokens : (line : ℕ) (opened : Brackets) (ts : List Token) → open_after line opened ts ≡ open_behind_all line opened (map scrap_of ts)
unfolding open_after
open_tokens line opened [] = refl
open_tokens line opened (t ∷ ts) = open_tokens line (open_behind line opened (mark_of t)) ts

unmatched_case : (a b c : Bool) → not a || b ≡ true → c ≡ false → (a && not b) || c ≡ false
unmatched_case true true c h e = e
unmatched_case true false c h e = absurd cc
unmatched_case false b c h e = e

matched_tokens : (line : ℕ) (opened : Brackets) (ts : List Token) → AreMatched line opened (map scrap_of ts) → has_unmatched line opened ts ≡ false
unfolding has_unmatched
matched_tokens line opened [] matched = refl
matched_tokens line opened (t ∷ ts) matched =
    unmatched_case (is_closing (mark_of t)) (closes opened (mark_of t)) (has_unmatched line (open_behind line opened (mark_of t)) ts) matched.0 (matched_tokens line (open_behind line opened (mark_of t)) ts matched.1)

-- balanced scraps leave open what was open
pub same_open : (line : ℕ) (opened : Brackets) (ss : List Scrap) (ts : List Token) → AreBalanced ss → map scrap_of ts ≡ words_in ss → open_after line opened ts ≡ opened
same_open line opened ss ts balanced e = open_tokens line opened ts ∙ ap (open_behind_all line opened) e ∙ open_words line opened ss ∙ balanced.same line opened

pub none_unmatched : (line : ℕ) (opened : Brackets) (ss : List Scrap) (ts : List Token) → AreBalanced ss → map scrap_of ts ≡ words_in ss → has_unmatched line opened ts ≡ false
none_unmatched line opened ss ts balanced e = matched_tokens line opened ts (rw e (matched_words line opened ss (balanced.matched line opened)))
