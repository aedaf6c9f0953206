-- Sides are read exactly as they are spelled.
use Rattle.std.proofs.Common.{◌≡◌, ◌==◌, ℕ, Bool, true, false, cond, List, [], ◌∷◌, ◌++◌, Option}
use Rattle.std.proofs.Common.{Some, None, IfSome, refl, ap, sym, ◌∙◌, subst, append-nil, arith}
use Rattle.std.specs.List.{list_any}
use Rattle.std.proofs.lemmas.Bool.Decides.{nat_tests}
use Rattle.mpy_tree.specs.Options.{◌>>=◌}
use Rattle.mpy_tree.specs.declared.levels.Level.TheVariants as level
use Rattle.mpy_lexer.specs.declared.token.Token.{Token}
use Rattle.mpy_expressions.specs.Grammar.{Spells, higher}
use Rattle.mpy_expressions.specs.Grammar.{hole as a_hole}
use Rattle.mpy_expressions.specs.Reading.{or_else, reading}
use Rattle.mpy_expressions.specs.declared.words.Word.TheVariants as word
use Rattle.mpy_expressions.specs.declared.terminals.Terminal.{Terminal}
use Rattle.mpy_expressions.specs.declared.terminals.Terminal.TheVariants as terminal
use Rattle.mpy_expressions.proofs.Shorter.{if_bound}
use Rattle.mpy_expressions.proofs.Sound.{Fronts, reading_sound}
use Rattle.mpy_expressions.proofs.Complete.{reading_exact}
use Rattle.choice_tree.specs.declared.forms.Mark.{Mark}
use Rattle.choice_tree.specs.declared.forms.Mark.TheVariants as mark
use Rattle.choice_tree.specs.declared.rules.Meta.{Meta}
use Rattle.choice_tree.specs.declared.rules.Place.{Place}
use Rattle.choice_tree.specs.declared.rules.Place.TheVariants as place
use Rattle.choice_tree.specs.Matching.{letter_v}
use Rattle.choice_tree.specs.Sides.{sides}
use Rattle.choice_tree.specs.Templates.{Template, hole}
use Rattle.eml_sides.specs.RuleTerminals.{rule_terminals}
use Rattle.eml_sides.specs.Singles.{is_right_alone}
use Rattle.eml_sides.specs.SideReading.{Front, named, placed, front, is_none, is_colon, is_ended}
use Rattle.eml_sides.specs.SideReading.{ended, expression_of, side_of, left_of, right_of}
use Rattle.eml_sides.specs.SidesSpelled.{IsForNames, SpellsSide, anywhere, returned, assigned}
use Rattle.eml_sides.specs.SidesSpelled.{tested, repeated, each, SpellsLeft, SpellsRight}
use Rattle.eml_sides.proofs.Begun.{may_begin}

-- an expression of rules
abbrev Is : List (Terminal Mark) → Template → Type 0
Is es e = Spells sides level.Conditional es e

nothing_left : (us : List (Terminal Mark)) → is_none us ≡ true → us ≡ []
nothing_left [] h = refl
nothing_left (t ∷ us) h = absurd (cc)

colon_left : (us : List (Terminal Mark)) → is_colon us ≡ true → us ≡ terminal.Word word.Colon ∷ []
colon_left (terminal.Word word.Colon ∷ []) h = refl
colon_left _ h = absurd (cc)

-- whatever expression ends the front, and what ends the side, spell the side
abbrev IsFront : List (Terminal Mark) → Front → Type 0
IsFront ts f = (es us : List (Terminal Mark)) (e : Template) → f.1 ≡ es ++ us → Is es e
    → is_ended f.0 us ≡ true → SpellsSide ts f.0 e

-- what stands behind the front
all_of : (ts es us : List (Terminal Mark)) → ts ≡ es ++ us → is_none us ≡ true → ts ≡ es
all_of ts es us p h = p ∙ ap (λ l. es ++ l) (nothing_left us h) ∙ append-nil es

before_colon : (ts es us : List (Terminal Mark)) → ts ≡ es ++ us → is_colon us ≡ true
    → ts ≡ es ++ (terminal.Word word.Colon ∷ [])
before_colon ts es us p h = p ∙ ap (λ l. es ++ l) (colon_left us h)

anywhere_front : (ts : List (Terminal Mark)) → IsFront ts (place.Anywhere, ts)
anywhere_front ts es us e p s h =
    subst (λ l. SpellsSide l place.Anywhere e) (sym (all_of ts es us p h)) (anywhere s)

returned_front : (ts : List (Terminal Mark))
    → IsFront (terminal.Word word.Return ∷ ts) (place.Return, ts)
returned_front ts es us e p s h =
    subst (λ l. SpellsSide (terminal.Word word.Return ∷ l) place.Return e)
    (sym (all_of ts es us p h)) (returned s)

tested_front : (ts : List (Terminal Mark)) → IsFront (terminal.Word word.If ∷ ts) (place.If, ts)
tested_front ts es us e p s h =
    subst (λ l. SpellsSide (terminal.Word word.If ∷ l) place.If e) (sym (before_colon ts es us p h))
    (tested s)

repeated_front : (ts : List (Terminal Mark))
    → IsFront (terminal.Word word.While ∷ ts) (place.While, ts)
repeated_front ts es us e p s h =
    subst (λ l. SpellsSide (terminal.Word word.While ∷ l) place.While e)
    (sym (before_colon ts es us p h)) (repeated s)

for_names : (n : ℕ) → (n == letter_v) ≡ true → n ≡ letter_v
for_names n h = grind (arith, nat_tests)

-- a place with a target
named_front : (ts rest : List (Terminal Mark)) (m : Meta) (p : Place)
    → (IsForNames m → IsFront ts (p, rest)) → IfSome (named m p rest) (IsFront ts)
named_front ts rest m p f = by (m.letter == letter_v) (λ h. f (for_names m.letter h))
  where
    by : (b : Bool) → (b ≡ true → IsFront ts (p, rest))
        → IfSome (cond b (Some (p, rest)) None) (IsFront ts)
    by true g = g refl
    by false g = tt

assigned_front : (m : Meta) (ts : List (Terminal Mark)) → IsForNames m
    → IsFront (terminal.Special (mark.Meta m) ∷ terminal.Word word.Assign ∷ ts) (place.Assign m, ts)
assigned_front m ts v es us e p s h =
    subst
    (λ l. SpellsSide (terminal.Special (mark.Meta m) ∷ terminal.Word word.Assign ∷ l)
    (place.Assign m) e) (sym (all_of ts es us p h)) (assigned m v s)

each_front : (m : Meta) (ts : List (Terminal Mark)) → IsForNames m
    → IsFront (terminal.Word word.For ∷ terminal.Special (mark.Meta m) ∷ terminal.Word word.In ∷ ts)
    (place.For m, ts)
each_front m ts v es us e p s h =
    subst
    (λ l. SpellsSide
    (terminal.Word word.For ∷ terminal.Special (mark.Meta m) ∷ terminal.Word word.In ∷ l)
    (place.For m) e) (sym (before_colon ts es us p h)) (each m v s)

placed_sound : (ts : List (Terminal Mark)) → IfSome (placed ts) (IsFront ts)
placed_sound (terminal.Word word.Return ∷ ts) = returned_front ts
placed_sound (terminal.Word word.If ∷ ts) = tested_front ts
placed_sound (terminal.Word word.While ∷ ts) = repeated_front ts
placed_sound
    (terminal.Word word.For ∷ terminal.Special (mark.Meta m) ∷ terminal.Word word.In ∷ ts) =
    named_front
    (terminal.Word word.For ∷ terminal.Special (mark.Meta m) ∷ terminal.Word word.In ∷ ts) ts m
    (place.For m) (each_front m ts)
placed_sound (terminal.Special (mark.Meta m) ∷ terminal.Word word.Assign ∷ ts) =
    named_front (terminal.Special (mark.Meta m) ∷ terminal.Word word.Assign ∷ ts) ts m
    (place.Assign m) (assigned_front m ts)
placed_sound _ = tt

front_sound : (ts : List (Terminal Mark)) → IsFront ts (front ts)
front_sound ts = by (placed ts) (placed_sound ts)
  where
    by : (o : Option Front) → IfSome o (IsFront ts) → IsFront ts (or_else o (place.Anywhere, ts))
    by None h = anywhere_front ts
    by (Some f) h = h

expression_sound : (ts : List (Terminal Mark)) (f : Front) → IsFront ts f
    → IfSome (expression_of f) (λ s. SpellsSide ts s.0 s.1)
expression_sound ts f is =
    if_bound (reading sides level.Conditional f.1) (ended f.0)
    (Fronts sides level.Conditional f.1) _ (reading_sound sides level.Conditional f.1)
    (λ e p. by e (is_ended f.0 e.1) (λ h. is p.0 e.1 e.0 p.1 p.2 h))
  where
    by : (e : Template × List (Terminal Mark)) (b : Bool) → (b ≡ true → SpellsSide ts f.0 e.0)
        → IfSome {T = Place × Template} (cond b (Some (f.0, e.0)) None) (λ s. SpellsSide ts s.0 s.1)
    by e true g = g refl
    by e false g = tt

pub side_spelled : (ts : List (Terminal Mark)) (p : Place) (t : Template) → side_of ts ≡ Some (p, t)
    → SpellsSide ts p t
unfolding side_of
side_spelled ts p t e =
    subst (λ o. IfSome o (λ s. SpellsSide ts s.0 s.1)) e
    (expression_sound ts (front ts) (front_sound ts))

-- an expression alone, and one before a colon
read_whole : (es : List (Terminal Mark)) (e : Template) → Is es e
    → reading sides level.Conditional es ≡ Some (e, [])
read_whole es e s = ap (reading sides level.Conditional) (sym (append-nil es))
    ∙ reading_exact sides level.Conditional es e [] s tt

read_to_colon : (es : List (Terminal Mark)) (e : Template) → Is es e
    → reading sides level.Conditional (es ++ (terminal.Word word.Colon ∷ []))
    ≡ Some (e, terminal.Word word.Colon ∷ [])
read_to_colon es e s =
    reading_exact sides level.Conditional es e (terminal.Word word.Colon ∷ []) s tt

-- what is read to the end isn't read to a terminal before it
abbrev rest_of : Option (Template × List (Terminal Mark)) → List (Terminal Mark)
rest_of None = []
rest_of (Some x) = x.1

one_end : (o : Option (Template × List (Terminal Mark))) (e f : Template) (t : Terminal Mark)
    (us : List (Terminal Mark)) → o ≡ Some (e, []) → o ≡ Some (f, t ∷ us) → ⊥
one_end o e f t us p q = let z : [] ≡ t ∷ us = ap rest_of (sym p ∙ q) in cc

-- an expression goes on behind no `=`
before_assign : (m : Meta) (us : List (Terminal Mark)) (e : Template)
    → Is (terminal.Special (mark.Meta m) ∷ terminal.Word word.Assign ∷ us) e → ⊥
before_assign m us e s =
    let t : Is (terminal.Special (mark.Meta m) ∷ []) (hole m) =
    higher
    (higher
    (higher
    (higher (higher (higher (higher (higher (higher (higher (a_hole (mark.Meta m) refl))))))))))
    in
    one_end
    (reading sides level.Conditional
    (terminal.Special (mark.Meta m) ∷ terminal.Word word.Assign ∷ us)) e (hole m)
    (terminal.Word word.Assign) us
    (read_whole (terminal.Special (mark.Meta m) ∷ terminal.Word word.Assign ∷ us) e s)
    (reading_exact sides level.Conditional (terminal.Special (mark.Meta m) ∷ []) (hole m)
    (terminal.Word word.Assign ∷ us) t tt)

-- an expression names no place
unplaced : (es : List (Terminal Mark)) (e : Template) → Is es e → placed es ≡ None
unplaced (terminal.Word word.Return ∷ us) e s =
    absurd (may_begin sides level.Conditional (terminal.Word word.Return ∷ us) e s)
unplaced (terminal.Word word.If ∷ us) e s =
    absurd (may_begin sides level.Conditional (terminal.Word word.If ∷ us) e s)
unplaced (terminal.Word word.While ∷ us) e s =
    absurd (may_begin sides level.Conditional (terminal.Word word.While ∷ us) e s)
unplaced (terminal.Word word.For ∷ us) e s =
    absurd (may_begin sides level.Conditional (terminal.Word word.For ∷ us) e s)
unplaced (terminal.Special (mark.Meta m) ∷ terminal.Word word.Assign ∷ us) e s =
    absurd (before_assign m us e s)
unplaced _ e s = refl

for_names_true : (m : Meta) → IsForNames m → (m.letter == letter_v) ≡ true
for_names_true m h = ap (λ n. n == letter_v) h

-- a place with a target is read
named_read : (m : Meta) (p : Place) (ts rest : List (Terminal Mark)) → IsForNames m
    → expression_of (or_else (named m p rest) (place.Anywhere, ts)) ≡ expression_of (p, rest)
named_read m p ts rest h =
    ap (λ b. expression_of (or_else (cond b (Some (p, rest)) None) (place.Anywhere, ts)))
    (for_names_true m h)

pub side_read : (ts : List (Terminal Mark)) (p : Place) (t : Template) → SpellsSide ts p t
    → side_of ts ≡ Some (p, t)
unfolding side_of
side_read ts p t (anywhere {es} {e} s) =
    ap (λ o. expression_of (or_else o (place.Anywhere, es))) (unplaced es e s)
    ∙ ap (λ o. o >>= ended place.Anywhere) (read_whole es e s)
side_read ts p t (returned {es} {e} s) = ap (λ o. o >>= ended place.Return) (read_whole es e s)
side_read ts p t (assigned m {es} {e} h s) =
    named_read m (place.Assign m) (terminal.Special (mark.Meta m) ∷ terminal.Word word.Assign ∷ es)
    es h ∙ ap (λ o. o >>= ended (place.Assign m)) (read_whole es e s)
side_read ts p t (tested {es} {e} s) = ap (λ o. o >>= ended place.If) (read_to_colon es e s)
side_read ts p t (repeated {es} {e} s) = ap (λ o. o >>= ended place.While) (read_to_colon es e s)
side_read ts p t (each m {es} {e} h s) =
    named_read m (place.For m)
    (terminal.Word word.For ∷ terminal.Special
    (mark.Meta m) ∷ terminal.Word word.In ∷ (es ++ (terminal.Word word.Colon ∷ [])))
    (es ++ (terminal.Word word.Colon ∷ [])) h
    ∙ ap (λ o. o >>= ended (place.For m)) (read_to_colon es e s)

pub right_spelled : (ts : List Token) (p : Place) (t : Template) → right_of ts ≡ Some (p, t)
    → SpellsRight ts p t
unfolding right_of
right_spelled ts p t e = side_spelled (rule_terminals ts) p t e

pub right_read : (ts : List Token) (p : Place) (t : Template) → SpellsRight ts p t
    → right_of ts ≡ Some (p, t)
unfolding right_of
right_read ts p t s = side_read (rule_terminals ts) p t s

pub left_spelled : (ts : List Token) (p : Place) (t : Template) → left_of ts ≡ Some (p, t)
    → SpellsLeft ts p t
unfolding left_of
left_spelled ts p t e = by (list_any is_right_alone ts) refl e
  where
    by : (b : Bool) → list_any is_right_alone ts ≡ b
        → cond b None (side_of (rule_terminals ts)) ≡ Some (p, t) → SpellsLeft ts p t
    by true h e = absurd (cc)
    by false h e = record { none_of_right = h; spelled = side_spelled (rule_terminals ts) p t e }

pub left_read : (ts : List Token) (p : Place) (t : Template) → SpellsLeft ts p t
    → left_of ts ≡ Some (p, t)
unfolding left_of
left_read ts p t s = ap (λ b. cond b None (side_of (rule_terminals ts))) s.none_of_right
    ∙ side_read (rule_terminals ts) p t s.spelled
