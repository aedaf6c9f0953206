-- The entries of lines, one after another.
use Rattle.std.proofs.Common.{◌≡◌, ℕ, suc, ◌+◌, ◌<◌, List, [], ◌∷◌, ◌++◌, length, take, drop, get_or, Some, None, IfSome, refl, ap, sym, ◌∙◌, subst}
use Rattle.std.proofs.lemmas.List.{take_more, take-append-drop, map-append}
use Rattle.std.proofs.Math.Seq.{drop-cons}
use Rattle.mpy_lexer.specs.declared.line.Line.{Line}
use Rattle.mpy_parser.specs.declared.entries.Entry.{Entry}
use Rattle.mpy_expressions.specs.declared.terminals.Terminal.{Terminal}
use Rattle.mpy_parser.specs.Items.{LineItem, SpellsItem}
use Rattle.mpy_parser.specs.Nesting.{ItemLine}
use Rattle.mpy_parser.specs.ItemReading.{item_at}
use Rattle.mpy_parser.specs.Programs.{IsItem, AreItems, NotSpelled, IsFirstUnspelled}
use Rattle.mpy_parser.specs.Views.{line_of, lines_of}
use Rattle.mpy_parser.proofs.ItemsSound.{item_sound}
use Rattle.mpy_parser.proofs.ItemsComplete.{item_reads}

pub spelled_by : (ts : List (Terminal Unit)) (i : LineItem) → item_at ts ≡ Some i → SpellsItem ts i
spelled_by ts i h = subst (λ o. IfSome o (SpellsItem ts)) h (item_sound ts)

pub not_spelled_by : (ts : List (Terminal Unit)) → item_at ts ≡ None → (i : LineItem) → SpellsItem ts i → ⊥
not_spelled_by ts h i s = let z : None ≡ Some i = sym h ∙ item_reads ts i s in cc

snoc : (ls : List Line) (is : List ItemLine) (l : Line) (i : ItemLine) → AreItems ls is → IsItem l i → AreItems (ls ++ (l ∷ [])) (is ++ (i ∷ []))
snoc [] [] l i h s = (s, tt)
snoc [] (j ∷ is) l i h s = absurd h
snoc (k ∷ ls) [] l i h s = absurd h
snoc (k ∷ ls) (j ∷ is) l i h s = (h.0, snoc ls is l i h.1 s)

-- with one entry more
pub one_more_entry : (ls : List Line) (n : ℕ) (d : Line) (es more : List Entry) (e : Entry) → n < length ls → more ≡ es ++ (e ∷ []) → AreItems (take n ls) (lines_of es) → IsItem (get_or ls n d) (line_of e) → AreItems (take (n + 1) ls) (lines_of more)
one_more_entry ls n d es more e h is a b =
    subst (λ l. AreItems l (lines_of more)) (sym (take_more ls n d h))
    (subst (λ i. AreItems (take n ls ++ (get_or ls n d ∷ [])) i) (sym (ap lines_of is ∙ map-append line_of es (e ∷ [])))
    (snoc (take n ls) (lines_of es) (get_or ls n d) (line_of e) a b))

-- the line at n is the first that spells nothing
pub first_unspelled : (ls : List Line) (n : ℕ) (d : Line) (es : List Entry) → n < length ls → AreItems (take n ls) (lines_of es) → NotSpelled (get_or ls n d) → IsFirstUnspelled ls (get_or ls n d).line
first_unspelled ls n d es h a s = record {
  before = take n ls;
  first = get_or ls n d;
  rest = drop (suc n) ls;
  items = lines_of es;
  cut = sym (take-append-drop n ls) ∙ ap (λ l. take n ls ++ l) (drop-cons ls n d h);
  spelled = a;
  unspelled = s;
  line_is = refl;
}
