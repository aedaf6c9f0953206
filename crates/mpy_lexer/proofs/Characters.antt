-- The characters of a text literal, one after another.
use Rattle.std.proofs.Common.{◌≡◌, ℕ, Bool, true, false, ◌==◌, cond, List, [], ◌∷◌, ◌++◌, Option, Some, None, option_map, refl, ap, sym, ◌∙◌, append_assoc, append-nil}
use Rattle.mpy_lexer.specs.TextLiterals.{character_at, characters, with_character, is_last, is_escapable, is_printable}

-- what is left where no character follows: the closing quote, or what is wrong
abbrev pub closed_by : ℕ → List ℕ → Option (List ℕ)
closed_by quote bytes = cond (is_last quote bytes) (Some []) None

abbrev pub go_on : ℕ → List ℕ → Option (ℕ × List ℕ) → Option (List ℕ)
go_on quote bytes None = closed_by quote bytes
go_on quote bytes (Some x) = with_character x.0 (characters quote x.1)

by_tests : (quote c d : ℕ) (rest : List ℕ) (a b e f : Bool) →
    cond a None (cond b (cond e (with_character d (characters quote rest)) None) (cond f (with_character c (characters quote (d ∷ rest))) None))
    ≡ go_on quote (c ∷ d ∷ rest) (cond a None (cond b (cond e (Some (d, rest)) None) (cond f (Some (c, d ∷ rest)) None)))
by_tests quote c d rest true b e f = refl
by_tests quote c d rest false true true f = refl
by_tests quote c d rest false true false f = refl
by_tests quote c d rest false false e true = refl
by_tests quote c d rest false false e false = refl

pub characters_step : (quote : ℕ) (bytes : List ℕ) → characters quote bytes ≡ go_on quote bytes (character_at quote bytes)
unfolding characters
characters_step quote [] = refl
characters_step quote (c ∷ []) = refl
characters_step quote (c ∷ d ∷ rest) = by_tests quote c d rest (c == quote) (c == 92) (is_escapable d) (is_printable c)

-- one character more is found
pub one_more : (quote : ℕ) (bytes found : List ℕ) (c : ℕ) (rest : List ℕ) → character_at quote bytes ≡ Some (c, rest) → option_map (λ cs. found ++ cs) (characters quote bytes) ≡ option_map (λ cs. (found ++ (c ∷ [])) ++ cs) (characters quote rest)
one_more quote bytes found c rest h = ap (option_map (λ cs. found ++ cs)) (characters_step quote bytes ∙ ap (go_on quote bytes) h) ∙ pushed (characters quote rest)
  where
    pushed : (o : Option (List ℕ)) → option_map (λ cs. found ++ cs) (with_character c o) ≡ option_map (λ cs. (found ++ (c ∷ [])) ++ cs) o
    pushed None = refl
    pushed (Some cs) = ap Some (sym (append_assoc found (c ∷ []) cs))

-- all are found
pub all_found : (quote : ℕ) (bytes found : List ℕ) → character_at quote bytes ≡ None → is_last quote bytes ≡ true → option_map (λ cs. found ++ cs) (characters quote bytes) ≡ Some found
all_found quote bytes found h l = ap (option_map (λ cs. found ++ cs)) (characters_step quote bytes ∙ ap (go_on quote bytes) h ∙ ap (λ b. cond b (Some []) None) l) ∙ ap Some (append-nil found)

-- the literal isn't one
pub not_closed : (quote : ℕ) (bytes found : List ℕ) → character_at quote bytes ≡ None → is_last quote bytes ≡ false → option_map (λ cs. found ++ cs) (characters quote bytes) ≡ None
not_closed quote bytes found h l = ap (option_map (λ cs. found ++ cs)) (characters_step quote bytes ∙ ap (go_on quote bytes) h ∙ ap (λ b. cond b (Some []) None) l)

pub ruleset walk = (characters_step, all_found, not_closed)
