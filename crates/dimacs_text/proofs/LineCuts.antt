-- Lines at the front of a text, and words at the front of a line.
use Rattle.std.proofs.Common.{if◌then◌else◌, ◌≡◌, ℕ, ◌-◌, ◌<◌, ◌≤◌, Bool, true, false, not, ◌==◌, List, [], ◌∷◌, ◌++◌, filter, length, take, drop, refl, sym, ap, ◌∙◌, subst, arith}
use Rattle.std.specs.List.{list_all, prefix_len}
use Rattle.std.proofs.lemmas.List.{append-nil, take-append-drop, take_all}
use Rattle.step_lines.specs.Lines.{lacks}
use Rattle.step_lines.specs.Words.{is_at}
use Rattle.step_lines.proofs.Apart.{both, clash, is_nil, is_not_nil}
use Rattle.dimacs_text.specs.TextLines.{is_space, is_some_word, lines_of, onto, pieces, words_of}
use Rattle.dimacs_text.proofs.Cuts.{back_stops, front_passes, stops}

not_true : (b : Bool) → not b ≡ true → b ≡ false
not_true true h = absurd (cc)
not_true false h = refl

pub line_cut : (l rest : List ℕ) → lacks 10 l ≡ true → lines_of (l ++ 10 ∷ rest) ≡ l ∷ lines_of rest
line_cut [] rest h = refl
line_cut (c ∷ l) rest h =
    let r = both (not (c == 10)) (lacks 10 l) h in
    let e : (c == 10) ≡ false = not_true (c == 10) r.0 in
    rw e (ap (onto c) (line_cut l rest r.1))

pub line_at : (l rest : List ℕ) (b : ℕ) → lacks 10 l ≡ true → b ≡ 10 → lines_of (l ++ b ∷ rest) ≡ l ∷ lines_of rest
line_at l rest b h e = ap (λ x. lines_of (l ++ x ∷ rest)) e ∙ line_cut l rest h

pub line_last : (c : ℕ) (l : List ℕ) → lacks 10 (c ∷ l) ≡ true → lines_of (c ∷ l) ≡ (c ∷ l) ∷ []
line_last c [] h =
    let r = both (not (c == 10)) true h in
    let e : (c == 10) ≡ false = not_true (c == 10) r.0 in
    rw e refl
line_last c (d ∷ l) h =
    let r = both (not (c == 10)) (lacks 10 (d ∷ l)) h in
    let e : (c == 10) ≡ false = not_true (c == 10) r.0 in
    rw e (ap (onto c) (line_last d l r.1))

-- words

pub skip_spaces : (gap rest : List ℕ) → list_all is_space gap ≡ true → words_of (gap ++ rest) ≡ words_of rest
skip_spaces [] rest h = refl
skip_spaces (c ∷ gap) rest h =
    let r = both (is_space c) (list_all is_space gap) h in
    let e : is_space c ≡ true = r.0 in
    subst (λ b. filter is_some_word (if b then [] ∷ pieces (gap ++ rest) else onto c (pieces (gap ++ rest))) ≡ words_of rest) (sym e) (skip_spaces gap rest r.1)

abbrev pub is_other : ℕ → Bool
is_other c = not (is_space c)

piece_step : (c : ℕ) (cs : List ℕ) → is_other c ≡ true → pieces (c ∷ cs) ≡ onto c (pieces cs)
piece_step c cs h =
    let e = not_true (is_space c) h in
    ap (λ b. if b then [] ∷ pieces cs else onto c (pieces cs)) e

-- the pieces behind the first
abbrev behind_first : List (List ℕ) → List (List ℕ)
behind_first [] = []
behind_first (p ∷ ps) = ps

one_piece : (w rest : List ℕ) → list_all is_other w ≡ true → stops is_other rest ≡ true → pieces (w ++ rest) ≡ w ∷ behind_first (pieces rest)
one_piece [] [] h g = refl
one_piece [] (c ∷ rest) h g =
    let e : is_space c ≡ true = twice (is_space c) g in
    (ap (λ b. if b then [] ∷ pieces rest else onto c (pieces rest)) e)
    ∙ sym (ap (λ b. [] ∷ behind_first (if b then [] ∷ pieces rest else onto c (pieces rest))) e)
  where
    twice : (b : Bool) → not (not b) ≡ true → b ≡ true
    twice true h = refl
    twice false h = absurd (cc)
one_piece (c ∷ w) rest h g =
    let r = both (is_other c) (list_all is_other w) h in
    piece_step c (w ++ rest) r.0 ∙ ap (onto c) (one_piece w rest r.1 g)

rest_words : (rest : List ℕ) → stops is_other rest ≡ true → filter is_some_word (behind_first (pieces rest)) ≡ words_of rest
rest_words [] g = refl
rest_words (c ∷ rest) g =
    let e : is_space c ≡ true = twice (is_space c) g in
    ap (λ b. filter is_some_word (behind_first (if b then [] ∷ pieces rest else onto c (pieces rest)))) e
    ∙ sym (ap (λ b. filter is_some_word (if b then [] ∷ pieces rest else onto c (pieces rest))) e)
  where
    twice : (b : Bool) → not (not b) ≡ true → b ≡ true
    twice true h = refl
    twice false h = absurd (cc)

pub one_word : (c : ℕ) (w rest : List ℕ) → list_all is_other (c ∷ w) ≡ true → stops is_other rest ≡ true → words_of ((c ∷ w) ++ rest) ≡ (c ∷ w) ∷ words_of rest
one_word c w rest h g =
    ap (filter is_some_word) (one_piece (c ∷ w) rest h g) ∙ ap (λ ws. (c ∷ w) ∷ ws) (rest_words rest g)

-- what the reader of the first word gives
pub word_read : (text gap words piece rest : List ℕ) → text ≡ gap ++ words → list_all is_space gap ≡ true → words ≡ piece ++ rest → list_all is_other piece ≡ true → stops is_other rest ≡ true → (piece ≡ [] → ⊥) → words_of text ≡ piece ∷ words_of rest
word_read text gap words [] rest e g f p s some = absurd (some refl)
word_read text gap words (c ∷ w) rest e g f p s some =
    ap words_of e ∙ skip_spaces gap words g ∙ ap words_of f ∙ one_word c w rest p s

-- spaces alone
pub no_word_read : (text gap words piece rest : List ℕ) → text ≡ gap ++ words → list_all is_space gap ≡ true → stops is_space words ≡ true → words ≡ piece ++ rest → stops is_other rest ≡ true → piece ≡ [] → words_of text ≡ []
no_word_read text gap words piece rest e g stop f s none =
    ap words_of e ∙ skip_spaces gap words g ∙ ends words stop (subst (λ t. stops is_other t ≡ true) (sym (f ∙ ap (λ p. p ++ rest) none)) s)
  where
    ends : (t : List ℕ) → stops is_space t ≡ true → stops is_other t ≡ true → words_of t ≡ []
    ends [] h g = refl
    ends (c ∷ cs) h g = absurd (clash (not (is_space c)) g h)

-- the readers of the first line and of the first word

pub last_cut : (text piece rest : List ℕ) → text ≡ piece ++ rest → lacks 10 piece ≡ true → length rest < 1 → false ≡ (length piece == 0) → lines_of text ≡ piece ∷ lines_of rest
last_cut text [] rest e h l f = absurd (is_not_nil [] f refl)
last_cut text (c ∷ p) [] e h l f = ap lines_of (e ∙ append-nil (c ∷ p)) ∙ line_last c p h
last_cut text (c ∷ p) (d ∷ rest) e h l f = absurd (omega arith)

pub some_cut : (text piece rest : List ℕ) → text ≡ piece ++ rest → lacks 10 piece ≡ true → is_at 10 rest ≡ true → 1 ≤ length rest → lines_of text ≡ piece ∷ lines_of (take (length rest - 1) (drop 1 rest))
some_cut text piece [] e h i l = absurd (omega arith)
some_cut text piece (b ∷ rest) e h i l =
    let is : b ≡ 10 = grind arith in
    let low : length rest ≤ length (b ∷ rest) - 1 = omega arith in
    let all : take (length (b ∷ rest) - 1) rest ≡ rest = take_all (length (b ∷ rest) - 1) rest low in
    ap lines_of e ∙ line_at piece rest b h is ∙ ap (λ t. piece ∷ lines_of t) (sym all)

module _ (text words piece rest : List ℕ) (n m : ℕ) (e : n ≡ prefix_len is_space text) (f : words ≡ drop n text) (g : m ≡ prefix_len is_other words) (h : piece ≡ take m words) (i : rest ≡ drop m words) where
  gap : List ℕ
  gap = take n text

  text_is : text ≡ gap ++ words
  unfolding gap
  text_is = sym (take-append-drop n text) ∙ ap (λ t. take n text ++ t) (sym f)

  gap_is : list_all is_space gap ≡ true
  unfolding gap
  gap_is = ap (λ k. list_all is_space (take k text)) e ∙ front_passes is_space text

  words_are : words ≡ piece ++ rest
  words_are = sym (take-append-drop m words) ∙ ap (λ t. t ++ drop m words) (sym h) ∙ ap (λ t. piece ++ t) (sym i)

  piece_is : list_all is_other piece ≡ true
  piece_is = ap (list_all is_other) (h ∙ ap (λ k. take k words) g) ∙ front_passes is_other words

  rest_is : stops is_other rest ≡ true
  rest_is = ap (stops is_other) (i ∙ ap (λ k. drop k words) g) ∙ back_stops is_other words

  words_stop : stops is_space words ≡ true
  words_stop = ap (stops is_space) (f ∙ ap (λ k. drop k text) e) ∙ back_stops is_space text

  pub word_from : false ≡ (length piece == 0) → words_of text ≡ piece ∷ words_of rest
  word_from some = word_read text gap words piece rest text_is gap_is words_are piece_is rest_is (is_not_nil piece some)

  pub no_word_from : true ≡ (length piece == 0) → words_of text ≡ []
  no_word_from none = no_word_read text gap words piece rest text_is gap_is words_stop words_are rest_is (is_nil piece none)
