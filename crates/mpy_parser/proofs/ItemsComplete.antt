-- The item that the terminals spell is read.
use Rattle.std.proofs.Common.{◌≡◌, ℕ, List, [], ◌∷◌, ◌++◌, Option, Some, None, refl, ap, sym, ◌∙◌, append_assoc, append-nil}
use Rattle.mpy_tree.specs.declared.operators.ArithOp.{ArithOp}
use Rattle.mpy_tree.specs.Syntax.{Term, a_term, Action}
use Rattle.mpy_tree.specs.Syntax as ast
use Rattle.mpy_tree.specs.declared.levels.Level.TheVariants as level
use Rattle.mpy_expressions.specs.Programs.{programs}
use Rattle.mpy_expressions.specs.declared.words.Word.{Word}
use Rattle.mpy_expressions.specs.declared.words.Word.TheVariants as word
use Rattle.mpy_expressions.specs.declared.terminals.Terminal.{Terminal}
use Rattle.mpy_expressions.specs.declared.terminals.Terminal.TheVariants as terminal
use Rattle.mpy_expressions.specs.Grammar.{Spells}
use Rattle.mpy_tree.specs.Options.{◌>>=◌}
use Rattle.mpy_expressions.specs.Reading.{reading}
use Rattle.mpy_parser.specs.Items.{Opening, LineItem, simple, augmented, name_list, SpellsSimple, assign, augment, put, augment_at, append, print, give_nothing, give, pass, leave, again, SpellsHeader, a_function, an_if, an_elif, an_else, a_while, a_for, SpellsBody, open_body, one_statement, SpellsItem, a_statement, a_header}
use Rattle.mpy_parser.specs.ItemReading.{ended, whole, augmenting, assigned, at_place, argument, behind_name, given_at, simple_at, names_at, parameters_at, header_at, body_at, headed_at, item_at}
use Rattle.mpy_expressions.proofs.Readings.{nothing_in_nothing, reading_short}
use Rattle.mpy_expressions.proofs.Complete.{reading_exact}

whole_reads : (ts : List (Terminal Unit)) (e : Term) → Spells programs level.Conditional ts e → whole ts ≡ Some e
whole_reads ts e s = ap (λ o. o >>= λ x. ended x.0 x.1) (ap (reading programs level.Conditional) (sym (append-nil ts)) ∙ reading_exact programs level.Conditional ts e [] s tt)

augmenting_reads : (w : Word) (op : ArithOp) (ts : List (Terminal Unit)) (e : Term) → augmented w ≡ Some op → whole ts ≡ Some e → augmenting w ts ≡ Some (op, e)
augmenting_reads w op ts e h p = ap (λ o. o >>= λ f. whole ts >>= λ a. Some (f, a)) h ∙ ap (λ o. o >>= λ a. Some (op, a)) p

-- a word that augments is none of the others
augment_reads : (x : List ℕ) (w : Word) (op : ArithOp) (ts : List (Terminal Unit)) (e : Term) → augmented w ≡ Some op → whole ts ≡ Some e → behind_name x w ts ≡ Some (ast.Augment x op e)
augment_reads x word.Assign op ts e h p = absurd (cc)
augment_reads x word.LeftBracket op ts e h p = absurd (cc)
augment_reads x word.Dot op ts e h p = absurd (cc)
augment_reads x word.LeftParen op ts e h p = absurd (cc)
augment_reads x w op ts e h p = ap (λ o. o >>= λ a. Some (ast.Augment x a.0 a.1)) (augmenting_reads w op ts e h p)

augment_at_reads : (x : List ℕ) (i : Term) (w : Word) (op : ArithOp) (ts : List (Terminal Unit)) (e : Term) → augmented w ≡ Some op → whole ts ≡ Some e → assigned x i (terminal.Word w ∷ ts) ≡ Some (ast.AugmentAt x i op e)
augment_at_reads x i word.Assign op ts e h p = absurd (cc)
augment_at_reads x i w op ts e h p = ap (λ o. o >>= λ a. Some (ast.AugmentAt x i a.0 a.1)) (augmenting_reads w op ts e h p)

place_reads : (x : List ℕ) (is rest : List (Terminal Unit)) (i : Term) (act : Action) → Spells programs level.Conditional is i → assigned x i rest ≡ Some act → at_place x (is ++ (terminal.Word word.RightBracket ∷ rest)) ≡ Some act
place_reads x is rest i act s p = let q = reading_exact programs level.Conditional is i (terminal.Word word.RightBracket ∷ rest) s tt in rw (q, p)

argument_reads : (es : List (Terminal Unit)) (e : Term) → Spells programs level.Conditional es e → argument (es ++ (terminal.Word word.RightParen ∷ [])) ≡ Some e
argument_reads es e s = let q = reading_exact programs level.Conditional es e (terminal.Word word.RightParen ∷ []) s tt in rw q

given_reads : (ts : List (Terminal Unit)) (e : Term) → Spells programs level.Conditional ts e → given_at ts ≡ Some (ast.Return (a_term e))
given_reads [] e s = absurd (let p = whole_reads [] e s in let q = nothing_read in let z : None ≡ Some e = sym q ∙ p in cc)
  where
    nothing_read : whole [] ≡ None
    nothing_read = let p = nothing_in_nothing (reading programs level.Conditional []) (reading_short programs level.Conditional []) in rw p
given_reads (t ∷ ts) e s = let p = whole_reads (t ∷ ts) e s in rw p

simple_reads : (ts : List (Terminal Unit)) (act : Action) → SpellsSimple ts act → simple_at ts ≡ Some act
simple_reads ts act (assign x {es} {e} s) = let p = whole_reads es e s in rw p
simple_reads ts act (augment x w {op} {es} {e} h s) = augment_reads x w op es e h (whole_reads es e s)
simple_reads ts act (put x {is} {es} {i} {e} s t) = let p = whole_reads es e t in place_reads x is (terminal.Word word.Assign ∷ es) i (ast.Put x i e) s (rw p)
simple_reads ts act (augment_at x w {op} {is} {es} {i} {e} h s t) = place_reads x is (terminal.Word w ∷ es) i (ast.AugmentAt x i op e) s (augment_at_reads x i w op es e h (whole_reads es e t))
simple_reads ts act (append x {es} {e} s) = ap (λ o. o >>= λ t. Some (ast.Append x t)) (argument_reads es e s)
simple_reads ts act (print {es} {e} s) = ap (λ o. o >>= λ t. Some (ast.Print t)) (argument_reads es e s)
simple_reads ts act give_nothing = refl
simple_reads ts act (give {es} {e} s) = given_reads es e s
simple_reads ts act pass = refl
simple_reads ts act leave = refl
simple_reads ts act again = refl

-- names
names_read : (x : List ℕ) (xs : List (List ℕ)) (ts : List (Terminal Unit)) → names_at (name_list (x ∷ xs) ++ (terminal.Word word.RightParen ∷ ts)) ≡ Some (x ∷ xs, ts)
names_read x [] ts = refl
names_read x (y ∷ ys) ts = let p = names_read y ys ts in rw p

parameters_read : (xs : List (List ℕ)) (ts : List (Terminal Unit)) → parameters_at (name_list xs ++ (terminal.Word word.RightParen ∷ ts)) ≡ Some (xs, ts)
parameters_read [] ts = refl
parameters_read (x ∷ []) ts = names_read x [] ts
parameters_read (x ∷ y ∷ ys) ts = names_read x (y ∷ ys) ts

-- a header is read, up to the colon behind it
header_reads : (hs : List (Terminal Unit)) (h : Opening) (rest : List (Terminal Unit)) → SpellsHeader hs h → header_at (hs ++ (terminal.Word word.Colon ∷ rest)) ≡ Some (h, terminal.Word word.Colon ∷ rest)
header_reads hs h rest (a_function f params) =
    let p : parameters_at ((name_list params ++ (terminal.Word word.RightParen ∷ [])) ++ (terminal.Word word.Colon ∷ rest)) ≡ Some (params, terminal.Word word.Colon ∷ rest) = ap parameters_at (append_assoc (name_list params) (terminal.Word word.RightParen ∷ []) (terminal.Word word.Colon ∷ rest)) ∙ parameters_read params (terminal.Word word.Colon ∷ rest) in
    rw p
header_reads hs h rest (an_if {es} {e} s) = let p = reading_exact programs level.Conditional es e (terminal.Word word.Colon ∷ rest) s tt in rw p
header_reads hs h rest (an_elif {es} {e} s) = let p = reading_exact programs level.Conditional es e (terminal.Word word.Colon ∷ rest) s tt in rw p
header_reads hs h rest an_else = refl
header_reads hs h rest (a_while {es} {e} s) = let p = reading_exact programs level.Conditional es e (terminal.Word word.Colon ∷ rest) s tt in rw p
header_reads hs h rest (a_for x {es} {e} s) = let p = reading_exact programs level.Conditional es e (terminal.Word word.Colon ∷ rest) s tt in rw p

-- a simple statement has a terminal
body_reads : (ts : List (Terminal Unit)) (m : Option Action) → SpellsBody ts m → body_at ts ≡ Some m
body_reads ts m open_body = refl
body_reads [] m (one_statement {act = act} s) = absurd (let p = simple_reads [] act s in let z : None ≡ Some act = p in cc)
body_reads (t ∷ ts) m (one_statement {act = act} s) = let p = simple_reads (t ∷ ts) act s in rw p

-- no simple statement begins with the word of a header
no_header : (ts : List (Terminal Unit)) (act : Action) → SpellsSimple ts act → header_at ts ≡ None
no_header ts act (assign x s) = refl
no_header ts act (augment x w h s) = refl
no_header ts act (put x s t) = refl
no_header ts act (augment_at x w h s t) = refl
no_header ts act (append x s) = refl
no_header ts act (print s) = refl
no_header ts act give_nothing = refl
no_header ts act (give s) = refl
no_header ts act pass = refl
no_header ts act leave = refl
no_header ts act again = refl

by_header : (ts : List (Terminal Unit)) (h : Opening × List (Terminal Unit)) → header_at ts ≡ Some h → item_at ts ≡ headed_at h
unfolding item_at
by_header ts h p = ap (λ o. elim o as (λ _. Option LineItem) [ Some x ↦ headed_at x | None ↦ (simple_at ts >>= λ act. Some (simple act)) ]) p

by_statement : (ts : List (Terminal Unit)) → header_at ts ≡ None → item_at ts ≡ (simple_at ts >>= λ act. Some (simple act))
unfolding item_at
by_statement ts p = ap (λ o. elim o as (λ _. Option LineItem) [ Some x ↦ headed_at x | None ↦ (simple_at ts >>= λ act. Some (simple act)) ]) p

pub item_reads : (ts : List (Terminal Unit)) (i : LineItem) → SpellsItem ts i → item_at ts ≡ Some i
item_reads ts i (a_statement {act = act} s) = by_statement ts (no_header ts act s) ∙ (let p = simple_reads ts act s in rw p)
item_reads us i (a_header {hs} {ts} {h} {body = m} s t) =
    let p = body_reads ts m t in
    by_header (hs ++ (terminal.Word word.Colon ∷ ts)) (h, terminal.Word word.Colon ∷ ts) (header_reads hs h ts s) ∙ rw p
