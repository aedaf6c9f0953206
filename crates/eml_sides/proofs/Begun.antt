-- No expression begins with the word of a place.
use Rattle.std.proofs.Common.{true, false, List, [], ◌∷◌, ◌++◌}
use Rattle.mpy_tree.specs.Levels.{above}
use Rattle.mpy_tree.specs.declared.levels.Level.{Level}
use Rattle.mpy_expressions.specs.Forms.{Forms}
use Rattle.mpy_expressions.specs.Grammar.{Spells, conditional, disjunction, conjunction, negation}
use Rattle.mpy_expressions.specs.Grammar.{compared, arithmetic, operated, likened, minus, index}
use Rattle.mpy_expressions.specs.Grammar.{slice, number, quoted, truth, name, hole, call, items}
use Rattle.mpy_expressions.specs.Grammar.{set, parenthesized, higher, comparison}
use Rattle.mpy_expressions.specs.Joints.{arith_word}
use Rattle.mpy_expressions.specs.declared.words.Word.TheVariants as word
use Rattle.mpy_expressions.specs.declared.terminals.Terminal.{Terminal}
use Rattle.mpy_expressions.specs.declared.terminals.Terminal.TheVariants as terminal

-- an expression may begin so: there is a terminal, and it is none of these words
abbrev pub MayBegin : {X : Type 0} → List (Terminal X) → Type 0
MayBegin [] = ⊥
MayBegin (terminal.Word word.Return ∷ ts) = ⊥
MayBegin (terminal.Word word.If ∷ ts) = ⊥
MayBegin (terminal.Word word.While ∷ ts) = ⊥
MayBegin (terminal.Word word.For ∷ ts) = ⊥
MayBegin _ = Unit {0}

with_more : {X : Type 0} (xs ys : List (Terminal X)) → MayBegin xs → MayBegin (xs ++ ys)
with_more [] ys h = absurd h
with_more (terminal.Word word.Return ∷ xs) ys h = absurd h
with_more (terminal.Word word.If ∷ xs) ys h = absurd h
with_more (terminal.Word word.While ∷ xs) ys h = absurd h
with_more (terminal.Word word.For ∷ xs) ys h = absurd h
with_more _ ys h = tt

pub may_begin : {X T : Type 0} (forms : Forms X T) (k : Level) (ts : List (Terminal X)) (e : T)
    → Spells forms k ts e → MayBegin ts
may_begin forms k us e (conditional {xs} {ts} {ys} {a} s t u) =
    with_more (xs ++ (terminal.Word word.If ∷ ts)) (terminal.Word word.Else ∷ ys)
    (with_more xs (terminal.Word word.If ∷ ts) (may_begin forms _ xs a s))
may_begin forms k us e (disjunction {xs} {ys} {a} s t) =
    with_more xs (terminal.Word word.Or ∷ ys) (may_begin forms _ xs a s)
may_begin forms k us e (conjunction {xs} {ys} {a} s t) =
    with_more xs (terminal.Word word.And ∷ ys) (may_begin forms _ xs a s)
may_begin forms k us e (negation s) = tt
may_begin forms k us e (compared {xs} {ys} {a} op s t) =
    with_more (xs ++ comparison op) ys (with_more xs (comparison op) (may_begin forms _ xs a s))
may_begin forms k us e (arithmetic {xs} {ys} {a} op s t) =
    with_more xs (terminal.Word (arith_word op) ∷ ys) (may_begin forms _ xs a s)
may_begin forms k us e (operated {xs} {ys} {a} x h s t) =
    with_more xs (terminal.Operator x ∷ ys) (may_begin forms _ xs a s)
may_begin forms k us e (likened {xs} {ys} {a} x h s t) =
    with_more xs (terminal.Comparator x ∷ ys) (may_begin forms _ xs a s)
may_begin forms k us e (minus s) = tt
may_begin forms k us e (index {xs} {ys} {v} s t) =
    with_more (xs ++ (terminal.Word word.LeftBracket ∷ ys)) (terminal.Word word.RightBracket ∷ [])
    (with_more xs (terminal.Word word.LeftBracket ∷ ys) (may_begin forms _ xs v s))
may_begin forms k us e (slice {xs} {ys} {zs} {v} s f t) =
    with_more ((xs ++ (terminal.Word word.LeftBracket ∷ ys)) ++ (terminal.Word word.Colon ∷ zs))
    (terminal.Word word.RightBracket ∷ [])
    (with_more (xs ++ (terminal.Word word.LeftBracket ∷ ys)) (terminal.Word word.Colon ∷ zs)
    (with_more xs (terminal.Word word.LeftBracket ∷ ys) (may_begin forms _ xs v s)))
may_begin forms k us e (number n) = tt
may_begin forms k us e (quoted cs) = tt
may_begin forms k us e (truth true) = tt
may_begin forms k us e (truth false) = tt
may_begin forms k us e (name x) = tt
may_begin forms k us e (hole x h) = tt
may_begin forms k us e (call f s) = tt
may_begin forms k us e (items s) = tt
may_begin forms k us e (set h s) = tt
may_begin forms k us e (parenthesized s) = tt
may_begin forms k us e (higher s) = may_begin forms (above k) us e s
