-- The item that is read is spelled by the terminals.
use Rattle.std.proofs.Common.{◌≡◌, ℕ, Bool, true, false, List, [], ◌∷◌, ◌++◌, Option, Some, None, IfSome, cond, refl, ap, sym, ◌∙◌, subst, append_assoc, append-nil, codes}
use Rattle.std.proofs.lemmas.Slice.Eq.{bytes_eq-Decides}
use Rattle.mpy_tree.specs.Names.{is_print}
use Rattle.mpy_tree.specs.declared.operators.ArithOp.{ArithOp}
use Rattle.mpy_tree.specs.Syntax.{Term, Action}
use Rattle.mpy_tree.specs.Syntax as ast
use Rattle.mpy_tree.specs.declared.levels.Level.TheVariants as level
use Rattle.mpy_expressions.specs.Programs.{programs}
use Rattle.mpy_expressions.specs.declared.words.Word.{Word}
use Rattle.mpy_expressions.specs.declared.words.Word.TheVariants as word
use Rattle.mpy_expressions.specs.declared.terminals.Terminal.{Terminal}
use Rattle.mpy_expressions.specs.declared.terminals.Terminal.TheVariants as terminal
use Rattle.mpy_expressions.specs.Grammar.{Spells}
use Rattle.mpy_tree.specs.Options.{◌>>=◌}
use Rattle.mpy_expressions.specs.Reading.{reading, behind_closing_bracket, behind_closing_paren, behind_colon}
use Rattle.mpy_parser.specs.Items.{Opening, when, else_when, while, headed, augmented, name_list, SpellsSimple, assign, augment, put, augment_at, append, print, give_nothing, give, pass, leave, again, SpellsHeader, a_function, an_if, an_elif, an_else, a_while, a_for, SpellsBody, open_body, one_statement, SpellsItem, a_statement, a_header}
use Rattle.mpy_parser.specs.ItemReading.{ended, whole, augmenting, augmented_at, assigned, at_place, is_append, argument, appending, method, printing, called, behind_name, given_at, simple_at, names_at, parameters_at, function_at, each_at, header_at, body_at, body_behind, headed_at, item_at}
use Rattle.mpy_expressions.proofs.Shorter.{if_bound, weaker, either_way}
use Rattle.mpy_expressions.proofs.Sound.{Fronts, Begins, reading_sound, begins_colon, begins_closing_bracket, begins_closing_paren}

ended_sound : {A : Type 0} (a : A) (ts : List (Terminal Unit)) → IfSome (ended a ts) (λ b. (a ≡ b) × (ts ≡ []))
ended_sound a [] = (refl, refl)
ended_sound a (t ∷ ts) = tt

whole_sound : (ts : List (Terminal Unit)) → IfSome (whole ts) (Spells programs level.Conditional ts)
whole_sound ts = if_bound (reading programs level.Conditional ts) _ (Fronts programs level.Conditional ts) _ (reading_sound programs level.Conditional ts) (λ e f.
    weaker (ended e.0 e.1) (λ b. (e.0 ≡ b) × (e.1 ≡ [])) _ (ended_sound e.0 e.1) (λ b p.
    let same : ts ≡ f.0 = f.1 ∙ ap (λ l. f.0 ++ l) p.1 ∙ append-nil f.0 in
    subst (Spells programs level.Conditional ts) p.0 (subst (λ l. Spells programs level.Conditional l e.0) (sym same) f.2)))

-- assignments by an operator
abbrev Augments : Word → List (Terminal Unit) → ArithOp × Term → Type 0
Augments w ts a = (augmented w ≡ Some a.0) × Spells programs level.Conditional ts a.1

augmenting_sound : (w : Word) (ts : List (Terminal Unit)) → IfSome (augmenting w ts) (Augments w ts)
augmenting_sound w ts = if_bound (augmented w) _ (λ op. augmented w ≡ Some op) _ (itself (augmented w)) (λ op p.
    if_bound (whole ts) _ (Spells programs level.Conditional ts) _ (whole_sound ts) (λ e s. (p, s)))
  where
    itself : {A : Type 0} (o : Option A) → IfSome o (λ a. o ≡ Some a)
    itself None = tt
    itself (Some a) = refl

augment_sound : (x : List ℕ) (w : Word) (ts : List (Terminal Unit)) → IfSome (augmenting w ts >>= λ a. Some (ast.Augment x a.0 a.1)) (SpellsSimple (terminal.Name x ∷ terminal.Word w ∷ ts))
augment_sound x w ts = if_bound (augmenting w ts) _ (Augments w ts) _ (augmenting_sound w ts) (λ a s. augment x w s.0 s.1)

augment_at_sound : (x : List ℕ) (i : Term) (is : List (Terminal Unit)) (w : Word) (ts : List (Terminal Unit)) → Spells programs level.Conditional is i → IfSome (augmented_at x i w ts) (SpellsSimple ((terminal.Name x ∷ terminal.Word word.LeftBracket ∷ is) ++ (terminal.Word word.RightBracket ∷ terminal.Word w ∷ ts)))
augment_at_sound x i is w ts h = if_bound (augmenting w ts) _ (Augments w ts) _ (augmenting_sound w ts) (λ a s. augment_at x w s.0 h s.1)

assigned_by_word : (x : List ℕ) (i : Term) (is : List (Terminal Unit)) (w : Word) (ts : List (Terminal Unit)) → Spells programs level.Conditional is i → IfSome (assigned x i (terminal.Word w ∷ ts)) (SpellsSimple ((terminal.Name x ∷ terminal.Word word.LeftBracket ∷ is) ++ (terminal.Word word.RightBracket ∷ terminal.Word w ∷ ts)))
assigned_by_word x i is word.Assign ts h = if_bound (whole ts) _ (Spells programs level.Conditional ts) _ (whole_sound ts) (λ e s. put x h s)
assigned_by_word x i is w ts h = augment_at_sound x i is w ts h

assigned_sound : (x : List ℕ) (i : Term) (is ts : List (Terminal Unit)) → Spells programs level.Conditional is i → IfSome (assigned x i ts) (SpellsSimple ((terminal.Name x ∷ terminal.Word word.LeftBracket ∷ is) ++ (terminal.Word word.RightBracket ∷ ts)))
assigned_sound x i is (terminal.Word w ∷ ts) h = assigned_by_word x i is w ts h
assigned_sound x i is [] h = tt
assigned_sound x i is (terminal.Name y ∷ ts) h = tt
assigned_sound x i is (terminal.Number n ∷ ts) h = tt
assigned_sound x i is (terminal.Text cs ∷ ts) h = tt
assigned_sound x i is (terminal.Special y ∷ ts) h = tt
assigned_sound x i is (terminal.Operator y ∷ ts) h = tt
assigned_sound x i is (terminal.Comparator y ∷ ts) h = tt
assigned_sound x i is (terminal.Other ∷ ts) h = tt

at_place_sound : (x : List ℕ) (ts : List (Terminal Unit)) → IfSome (at_place x ts) (SpellsSimple (terminal.Name x ∷ terminal.Word word.LeftBracket ∷ ts))
at_place_sound x ts = if_bound (reading programs level.Conditional ts) _ (Fronts programs level.Conditional ts) _ (reading_sound programs level.Conditional ts) (λ i f.
    if_bound (behind_closing_bracket i.1) _ (Begins word.RightBracket i.1) _ (begins_closing_bracket i.1) (λ rest p.
    let same : ts ≡ f.0 ++ (terminal.Word word.RightBracket ∷ rest) = f.1 ∙ ap (λ l. f.0 ++ l) p in
    weaker (assigned x i.0 rest) (SpellsSimple ((terminal.Name x ∷ terminal.Word word.LeftBracket ∷ f.0) ++ (terminal.Word word.RightBracket ∷ rest))) _ (assigned_sound x i.0 f.0 rest f.2) (λ act s.
    subst (λ l. SpellsSimple (terminal.Name x ∷ terminal.Word word.LeftBracket ∷ l) act) (sym same) s)))

-- an expression and a closing parenthesis
abbrev Closes : List (Terminal Unit) → Term → Type 0
Closes ts e = (es : List (Terminal Unit)) × (ts ≡ es ++ (terminal.Word word.RightParen ∷ [])) × Spells programs level.Conditional es e

argument_sound : (ts : List (Terminal Unit)) → IfSome (argument ts) (Closes ts)
argument_sound ts = if_bound (reading programs level.Conditional ts) _ (Fronts programs level.Conditional ts) _ (reading_sound programs level.Conditional ts) (λ e f.
    if_bound (behind_closing_paren e.1) _ (Begins word.RightParen e.1) _ (begins_closing_paren e.1) (λ rest p.
    weaker (ended e.0 rest) (λ b. (e.0 ≡ b) × (rest ≡ [])) _ (ended_sound e.0 rest) (λ b q.
    (f.0, f.1 ∙ ap (λ l. f.0 ++ l) (p ∙ ap (λ l. terminal.Word word.RightParen ∷ l) q.1), subst (Spells programs level.Conditional f.0) q.0 f.2))))

appending_sound : (x : List ℕ) (ts : List (Terminal Unit)) → IfSome (appending x ts) (SpellsSimple (terminal.Name x ∷ terminal.Word word.Dot ∷ terminal.Name (codes "append") ∷ terminal.Word word.LeftParen ∷ ts))
appending_sound x ts = if_bound (argument ts) _ (Closes ts) _ (argument_sound ts) (λ e s.
    subst (λ l. SpellsSimple (terminal.Name x ∷ terminal.Word word.Dot ∷ terminal.Name (codes "append") ∷ terminal.Word word.LeftParen ∷ l) (ast.Append x e)) (sym s.1) (append x s.2))

method_sound_at : (x f : List ℕ) (ts : List (Terminal Unit)) (b : Bool) → (b ≡ true → f ≡ codes "append") → IfSome (cond b (appending x ts) None) (SpellsSimple (terminal.Name x ∷ terminal.Word word.Dot ∷ terminal.Name f ∷ terminal.Word word.LeftParen ∷ ts))
method_sound_at x f ts false same = tt
method_sound_at x f ts true same = weaker (appending x ts) (SpellsSimple (terminal.Name x ∷ terminal.Word word.Dot ∷ terminal.Name (codes "append") ∷ terminal.Word word.LeftParen ∷ ts)) _ (appending_sound x ts)
    (λ act s. subst (λ g. SpellsSimple (terminal.Name x ∷ terminal.Word word.Dot ∷ terminal.Name g ∷ terminal.Word word.LeftParen ∷ ts) act) (sym (same refl)) s)

method_sound : (x : List ℕ) (ts : List (Terminal Unit)) → IfSome (method x ts) (SpellsSimple (terminal.Name x ∷ terminal.Word word.Dot ∷ ts))
method_sound x (terminal.Name f ∷ terminal.Word word.LeftParen ∷ ts) = method_sound_at x f ts (is_append f) (bytes_eq-Decides f (codes "append")).0
method_sound x _ = tt

printing_sound : (ts : List (Terminal Unit)) → IfSome (printing ts) (SpellsSimple (terminal.Name (codes "print") ∷ terminal.Word word.LeftParen ∷ ts))
printing_sound ts = if_bound (argument ts) _ (Closes ts) _ (argument_sound ts) (λ e s.
    subst (λ l. SpellsSimple (terminal.Name (codes "print") ∷ terminal.Word word.LeftParen ∷ l) (ast.Print e)) (sym s.1) (print s.2))

called_sound_at : (f : List ℕ) (ts : List (Terminal Unit)) (b : Bool) → (b ≡ true → f ≡ codes "print") → IfSome (cond b (printing ts) None) (SpellsSimple (terminal.Name f ∷ terminal.Word word.LeftParen ∷ ts))
called_sound_at f ts false same = tt
called_sound_at f ts true same = weaker (printing ts) (SpellsSimple (terminal.Name (codes "print") ∷ terminal.Word word.LeftParen ∷ ts)) _ (printing_sound ts)
    (λ act s. subst (λ g. SpellsSimple (terminal.Name g ∷ terminal.Word word.LeftParen ∷ ts) act) (sym (same refl)) s)

called_sound : (f : List ℕ) (ts : List (Terminal Unit)) → IfSome (called f ts) (SpellsSimple (terminal.Name f ∷ terminal.Word word.LeftParen ∷ ts))
called_sound f ts = called_sound_at f ts (is_print f) (bytes_eq-Decides f (codes "print")).0

behind_name_sound : (x : List ℕ) (w : Word) (ts : List (Terminal Unit)) → IfSome (behind_name x w ts) (SpellsSimple (terminal.Name x ∷ terminal.Word w ∷ ts))
behind_name_sound x word.Assign ts = if_bound (whole ts) _ (Spells programs level.Conditional ts) _ (whole_sound ts) (λ e s. assign x s)
behind_name_sound x word.LeftBracket ts = at_place_sound x ts
behind_name_sound x word.Dot ts = method_sound x ts
behind_name_sound x word.LeftParen ts = called_sound x ts
behind_name_sound x w ts = augment_sound x w ts

given_sound : (ts : List (Terminal Unit)) → IfSome (given_at ts) (SpellsSimple (terminal.Word word.Return ∷ ts))
given_sound [] = give_nothing
given_sound (t ∷ ts) = if_bound (whole (t ∷ ts)) _ (Spells programs level.Conditional (t ∷ ts)) _ (whole_sound (t ∷ ts)) (λ e s. give s)

-- a word alone
word_sound : (w : Word) (act : Action) → SpellsSimple (terminal.Word w ∷ []) act → (ts : List (Terminal Unit)) → IfSome (ended act ts) (SpellsSimple (terminal.Word w ∷ ts))
word_sound w act s [] = s
word_sound w act s (t ∷ ts) = tt

pub simple_sound : (ts : List (Terminal Unit)) → IfSome (simple_at ts) (SpellsSimple ts)
simple_sound (terminal.Word word.Pass ∷ ts) = word_sound word.Pass ast.Pass pass ts
simple_sound (terminal.Word word.Break ∷ ts) = word_sound word.Break ast.Break leave ts
simple_sound (terminal.Word word.Continue ∷ ts) = word_sound word.Continue ast.Continue again ts
simple_sound (terminal.Word word.Return ∷ ts) = given_sound ts
simple_sound (terminal.Name x ∷ terminal.Word w ∷ ts) = behind_name_sound x w ts
simple_sound _ = tt

-- names, and the closing parenthesis
abbrev pub AreNames : List (Terminal Unit) → List (List ℕ) × List (Terminal Unit) → Type 0
AreNames ts xs = ts ≡ name_list xs.0 ++ (terminal.Word word.RightParen ∷ xs.1)

abbrev pub IsSome_names : List (List ℕ) → Type 0
IsSome_names [] = ⊥
IsSome_names (x ∷ xs) = Unit {0}

joined_names : (x : List ℕ) (xs : List (List ℕ)) (us : List (Terminal Unit)) → IsSome_names xs → name_list (x ∷ xs) ++ us ≡ terminal.Name x ∷ terminal.Word word.Comma ∷ (name_list xs ++ us)
joined_names x [] us h = absurd h
joined_names x (y ∷ ys) us h = refl

names_sound : (ts : List (Terminal Unit)) → IfSome (names_at ts) (λ xs. IsSome_names xs.0 × AreNames ts xs)
names_sound (terminal.Name x ∷ terminal.Word word.RightParen ∷ ts) = (tt, refl)
names_sound (terminal.Name x ∷ terminal.Word word.Comma ∷ ts) = if_bound (names_at ts) _ (λ xs. IsSome_names xs.0 × AreNames ts xs) _ (names_sound ts) (λ xs h.
    (tt, ap (λ l. terminal.Name x ∷ terminal.Word word.Comma ∷ l) h.1 ∙ sym (joined_names x xs.0 (terminal.Word word.RightParen ∷ xs.1) h.0)))
names_sound _ = tt

parameters_sound : (ts : List (Terminal Unit)) → IfSome (parameters_at ts) (AreNames ts)
parameters_sound (terminal.Word word.RightParen ∷ ts) = refl
parameters_sound ts = weaker (names_at ts) (λ xs. IsSome_names xs.0 × AreNames ts xs) _ (names_sound ts) (λ xs h. h.1)

-- a header, and what stands behind it
abbrev pub Heads : List (Terminal Unit) → Opening × List (Terminal Unit) → Type 0
Heads ts h = (hs : List (Terminal Unit)) × (ts ≡ hs ++ h.1) × SpellsHeader hs h.0

function_sound : (ts : List (Terminal Unit)) → IfSome (function_at ts) (Heads (terminal.Word word.Def ∷ ts))
function_sound (terminal.Name f ∷ terminal.Word word.LeftParen ∷ ts) = if_bound (parameters_at ts) _ (AreNames ts) _ (parameters_sound ts) (λ xs p. (
  (terminal.Word word.Def ∷ terminal.Name f ∷ terminal.Word word.LeftParen ∷ name_list xs.0) ++ (terminal.Word word.RightParen ∷ []),
  ap (λ l. terminal.Word word.Def ∷ terminal.Name f ∷ terminal.Word word.LeftParen ∷ l) (p ∙ sym (append_assoc (name_list xs.0) (terminal.Word word.RightParen ∷ []) xs.1)),
  a_function f xs.0,
))
function_sound _ = tt

-- a word before an expression
test_sound : (w : Word) (make : Term → Opening) → ((es : List (Terminal Unit)) (e : Term) → Spells programs level.Conditional es e → SpellsHeader (terminal.Word w ∷ es) (make e)) → (ts : List (Terminal Unit)) → IfSome (reading programs level.Conditional ts >>= λ e. Some (make e.0, e.1)) (Heads (terminal.Word w ∷ ts))
test_sound w make spells ts = if_bound (reading programs level.Conditional ts) _ (Fronts programs level.Conditional ts) _ (reading_sound programs level.Conditional ts) (λ e f. (terminal.Word w ∷ f.0, ap (λ l. terminal.Word w ∷ l) f.1, spells f.0 e.0 f.2))

each_sound : (ts : List (Terminal Unit)) → IfSome (each_at ts) (Heads (terminal.Word word.For ∷ ts))
each_sound (terminal.Name x ∷ terminal.Word word.In ∷ ts) = if_bound (reading programs level.Conditional ts) _ (Fronts programs level.Conditional ts) _ (reading_sound programs level.Conditional ts) (λ e f.
    (terminal.Word word.For ∷ terminal.Name x ∷ terminal.Word word.In ∷ f.0, ap (λ l. terminal.Word word.For ∷ terminal.Name x ∷ terminal.Word word.In ∷ l) f.1, a_for x f.2))
each_sound _ = tt

header_sound : (ts : List (Terminal Unit)) → IfSome (header_at ts) (Heads ts)
header_sound (terminal.Word word.Def ∷ ts) = function_sound ts
header_sound (terminal.Word word.If ∷ ts) = test_sound word.If when (λ es e s. an_if s) ts
header_sound (terminal.Word word.Elif ∷ ts) = test_sound word.Elif else_when (λ es e s. an_elif s) ts
header_sound (terminal.Word word.Else ∷ ts) = (terminal.Word word.Else ∷ [], refl, an_else)
header_sound (terminal.Word word.While ∷ ts) = test_sound word.While while (λ es e s. a_while s) ts
header_sound (terminal.Word word.For ∷ ts) = each_sound ts
header_sound _ = tt

body_sound : (ts : List (Terminal Unit)) → IfSome (body_at ts) (SpellsBody ts)
body_sound [] = open_body
body_sound (t ∷ ts) = if_bound (simple_at (t ∷ ts)) _ (SpellsSimple (t ∷ ts)) _ (simple_sound (t ∷ ts)) (λ act s. one_statement s)

behind_sound : (ts : List (Terminal Unit)) → IfSome (body_behind ts) (λ m. (rest : List (Terminal Unit)) × Begins word.Colon ts rest × SpellsBody rest m)
behind_sound ts = if_bound (behind_colon ts) _ (Begins word.Colon ts) _ (begins_colon ts) (λ rest p.
    weaker (body_at rest) (SpellsBody rest) _ (body_sound rest) (λ m s. (rest, p, s)))

headed_sound : (ts : List (Terminal Unit)) (h : Opening × List (Terminal Unit)) → Heads ts h → IfSome (headed_at h) (SpellsItem ts)
headed_sound ts h f = if_bound (body_behind h.1) _ (λ m. (rest : List (Terminal Unit)) × Begins word.Colon h.1 rest × SpellsBody rest m) _ (behind_sound h.1) (λ body s.
    subst (λ l. SpellsItem l (headed h.0 body)) (sym (f.1 ∙ ap (λ l. f.0 ++ l) s.1)) (a_header f.2 s.2))

-- what is read is spelled
pub item_sound : (ts : List (Terminal Unit)) → IfSome (item_at ts) (SpellsItem ts)
unfolding item_at
item_sound ts = either_way (header_at ts) _ _ (Heads ts) _ (header_sound ts) (λ h f. headed_sound ts h f)
    (if_bound (simple_at ts) _ (SpellsSimple ts) _ (simple_sound ts) (λ act s. a_statement s))
