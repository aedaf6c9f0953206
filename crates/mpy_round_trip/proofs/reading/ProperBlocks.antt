-- Proper items nest as proper functions.
use Rattle.std.proofs.Common.{ℕ, Bool, List, [], ◌∷◌, ◌++◌, All, Option, subst}
use Rattle.std.proofs.lemmas.List.Elements.{All-nil, All-cons}
use Rattle.mpy_tree.specs.Syntax.{Action, Block, Branches, MaybeBlock, Routine}
use Rattle.mpy_lexer.specs.declared.forms.Form.TheVariants.{Program}
use Rattle.mpy_lexer.specs.Spans.{IsLineOf, LinesAreOfTheirSource}
use Rattle.mpy_parser.specs.Nesting.{ItemLine, IsBlock, IsBody, AreArms, AreRoutines, no_lines, a_simple, a_loop, an_each, a_test, behind_colon, below, no_more, an_elif, an_else, no_routines, a_routine, routine}
use Rattle.mpy_round_trip.proofs.ProperForms.{HasStatement, IsProperBlock, IsProperBody, AreProperArms, IsProperElse, IsProperRoutine, AreProper}
use Rattle.mpy_round_trip.specs.ReadingProper.{ReadsProper}
use Rattle.mpy_round_trip.proofs.ProperTrees.{trees_of_program}
use Rattle.mpy_round_trip.proofs.reading.ProperItems.{IsProperBehind, AreProperItems, proper_items}

parts : (xs ys : List ItemLine) → AreProperItems (xs ++ ys) → AreProperItems xs × AreProperItems ys
parts [] ys p = (tt, p)
parts (x ∷ xs) ys p = let rest = parts xs ys p.1 in ((p.0, rest.0), rest.1)

-- the block of a line and others
has_statement : {loop : Bool} {c : ℕ} {first : ItemLine} {lines : List ItemLine} {b : Block} → IsBlock loop c (first ∷ lines) b → HasStatement b
has_statement (a_simple may d) = tt
has_statement (a_loop i d) = tt
has_statement (an_each i d) = tt
has_statement (a_test i a d) = tt

mutual
  proper_block : {loop : Bool} {c : ℕ} {is : List ItemLine} {b : Block} → IsBlock loop c is b → AreProperItems is → IsProperBlock loop b
  proper_block no_lines p = tt
  proper_block {loop = loop} (a_simple may d) p = (p.0 loop may, proper_block d p.1)
  proper_block (a_loop {inner = inner} {rest} i d) p = let both = parts inner rest p.1 in ((p.0.0, proper_body i p.0.1 both.0), proper_block d both.1)
  proper_block (an_each {inner = inner} {rest} i d) p = let both = parts inner rest p.1 in ((p.0.0.0, p.0.0.1, proper_body i p.0.1 both.0), proper_block d both.1)
  proper_block (a_test {inner = inner} {others} {rest} i a d) p =
      let both = parts (inner ++ others) rest p.1 in
      let test = parts inner others both.0 in
      let more = proper_arms a test.1 in
      ((tt, (p.0.0, proper_body i p.0.1 test.0, more.0), more.1), proper_block d both.1)

  proper_body : {loop : Bool} {c line : ℕ} {m : Option Action} {inner : List ItemLine} {body : Block} → IsBody loop c line m inner body → IsProperBehind m → AreProperItems inner → IsProperBody loop body
  proper_body {loop = loop} (behind_colon may) h p = (tt, (h loop may, tt))
  proper_body (below deeper l i) h p = (has_statement i, proper_block i p)

  proper_arms : {loop : Bool} {c : ℕ} {others : List ItemLine} {arms : Branches} {last : MaybeBlock} → AreArms loop c others arms last → AreProperItems others → AreProperArms loop arms × IsProperElse loop last
  proper_arms no_more p = (tt, tt)
  proper_arms (an_elif {inner = inner} {others} i a) p =
      let both = parts inner others p.1 in
      let more = proper_arms a both.1 in
      ((p.0.0, proper_body i p.0.1 both.0, more.0), more.1)
  proper_arms (an_else i) p = (tt, proper_body i p.0.1 p.1)

proper_routines : {is : List ItemLine} {rs : List Routine} → AreRoutines is rs → AreProperItems is → AreProper rs
proper_routines no_routines p = All-nil IsProperRoutine
proper_routines (a_routine {line} {f} {params} {inner = inner} {rest} {body} {rs} i d) p =
    let both = parts inner rest p.1 in
    All-cons IsProperRoutine (routine line f params body) rs (record { name = p.0.0.0; params = p.0.0.1; body = proper_body i p.0.1 both.0 }) (proper_routines d both.1)

pub reads_proper : LinesAreOfTheirSource → ReadsProper
reads_proper of_source bytes rs r = trees_of_program rs (proper_routines r.nested (proper_items bytes r.lines r.items (subst (All (IsLineOf Program bytes)) r.lexed.lines (of_source Program bytes)) r.spelled))
