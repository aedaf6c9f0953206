-- A text has one answer: it spells one program at most, or is refused for one cause at one line.
use Rattle.std.proofs.Common.{◌≡◌, ℕ, Bool, true, false, nat_lt, length, if◌then◌else◌, List, [], ◌∷◌, ◌++◌, Option, Some, None, Result, Ok, Err, refl, ap, sym, ◌∙◌, subst}
use Rattle.mpy_tree.specs.declared.refusal.Cause.{Cause}
use Rattle.mpy_tree.specs.declared.refusal.Cause.TheVariants as cause
use Rattle.mpy_tree.specs.Syntax.{Routine}
use Rattle.mpy_lexer.specs.declared.line.Line.{Line}
use Rattle.mpy_lexer.specs.declared.forms.Form.TheVariants.{Program}
use Rattle.mpy_lexer.specs.declared.line.LexError.{LexError}
use Rattle.mpy_lexer.specs.declared.line.LexError.TheVariants as lex_error
use Rattle.mpy_lexer.specs.declared.line.LexCause.{LexCause}
use Rattle.mpy_lexer.specs.declared.line.LexCause.TheVariants as lex_cause
use Rattle.mpy_tree.specs.Leasts.{least}
use Rattle.std.specs.Option.{option_or}
use Rattle.mpy_lexer.specs.Lexing.{lex, byte_fault, token_fault, length_fault, logical_lines, lines_unless}
use Rattle.mpy_lexer.specs.PhysicalLines.{rows}
use Rattle.mpy_limits.specs.Limits.{limit_lines}
use Rattle.mpy_parser.specs.Faults.{indent_fault, block_fault}
use Rattle.mpy_expressions.specs.Terminals.{terminals}
use Rattle.mpy_parser.specs.Items.{LineItem, SpellsItem}
use Rattle.mpy_parser.specs.Nesting.{ItemLine, item_line, AreRoutines}
use Rattle.mpy_parser.specs.Programs.{IsItem, AreItems, NotSpelled, HasLines, HasNoLongLine, Reads, IsProgram, IsRefused, by_lexing, by_columns, by_item, by_blocks, by_limits, lexing_cause}
use Rattle.mpy_parser.proofs.ItemsComplete.{item_reads}

item_or : LineItem → Option LineItem → LineItem
item_or d None = d
item_or d (Some i) = i

-- terminals spell one item at most
pub one_item : (l : Line) (i j : LineItem) → SpellsItem (terminals l.tokens) i → SpellsItem (terminals l.tokens) j → i ≡ j
unfolding item_or
one_item l i j s t = ap (item_or i) (sym (item_reads (terminals l.tokens) i s) ∙ item_reads (terminals l.tokens) j t)

same_item_line : (a b c d : ℕ) (x y : LineItem) → a ≡ b → c ≡ d → x ≡ y → item_line a c x ≡ item_line b d y
same_item_line a b c d x y p q r = ap (λ n. item_line n c x) p ∙ ap (λ n. item_line b n x) q ∙ ap (item_line b d) r

one_line : (l : Line) (i j : ItemLine) → IsItem l i → IsItem l j → i ≡ j
one_line l i j s t = same_item_line i.line j.line i.column j.column i.item j.item (s.line ∙ sym t.line) (s.column ∙ sym t.column) (one_item l i.item j.item s.item t.item)

pub one_list : (ls : List Line) (is js : List ItemLine) → AreItems ls is → AreItems ls js → is ≡ js
one_list [] [] [] s t = refl
one_list [] [] (j ∷ js) s t = absurd t
one_list [] (i ∷ is) js s t = absurd s
one_list (l ∷ ls) [] js s t = absurd s
one_list (l ∷ ls) (i ∷ is) [] s t = absurd t
one_list (l ∷ ls) (i ∷ is) (j ∷ js) s t = let p = one_line l i j s.0 t.0 in let q = one_list ls is js s.1 t.1 in cc

-- where a line spells nothing the lines are no items
pub not_items : (before : List Line) (l : Line) (rest : List Line) (is : List ItemLine) → NotSpelled l → AreItems (before ++ (l ∷ rest)) is → ⊥
not_items [] l rest [] h s = s
not_items [] l rest (i ∷ is) h s = h i.item s.0.item
not_items (b ∷ before) l rest [] h s = s
not_items (b ∷ before) l rest (i ∷ is) h s = not_items before l rest is h s.1

heads : {A : Type 0} (x y : A) (xs ys : List A) → x ∷ xs ≡ y ∷ ys → x ≡ y
heads x y xs ys p = cc

tails : {A : Type 0} (x y : A) (xs ys : List A) → x ∷ xs ≡ y ∷ ys → xs ≡ ys
tails x y xs ys p = cc

-- the first line that spells nothing is one
pub one_unspelled : (bs : List Line) (l : Line) (ls : List Line) (cs : List Line) (m : Line) (ms : List Line) (is js : List ItemLine) → bs ++ (l ∷ ls) ≡ cs ++ (m ∷ ms) → AreItems bs is → AreItems cs js → NotSpelled l → NotSpelled m → l.line ≡ m.line
one_unspelled [] l ls [] m ms is js e s t g h = ap (λ x. x.line) (heads l m ls ms e)
one_unspelled [] l ls (c ∷ cs) m ms is [] e s t g h = absurd t
one_unspelled [] l ls (c ∷ cs) m ms is (j ∷ js) e s t g h = absurd (g j.item (subst (λ x. SpellsItem (terminals x.tokens) j.item) (sym (heads l c ls (cs ++ (m ∷ ms)) e)) t.0.item))
one_unspelled (b ∷ bs) l ls [] m ms [] js e s t g h = absurd s
one_unspelled (b ∷ bs) l ls [] m ms (i ∷ is) js e s t g h = absurd (h i.item (subst (λ x. SpellsItem (terminals x.tokens) i.item) (heads b m (bs ++ (l ∷ ls)) ms e) s.0.item))
one_unspelled (b ∷ bs) l ls (c ∷ cs) m ms [] js e s t g h = absurd s
one_unspelled (b ∷ bs) l ls (c ∷ cs) m ms (i ∷ is) [] e s t g h = absurd t
one_unspelled (b ∷ bs) l ls (c ∷ cs) m ms (i ∷ is) (j ∷ js) e s t g h = one_unspelled bs l ls cs m ms is js (tails b c (bs ++ (l ∷ ls)) (cs ++ (m ∷ ms)) e) s.1 t.1 g h

-- What the lines of a program are: no column and no block is at fault, and they are one program. Shown for the nesting of lines, and used here.
pub record NestingLaws : Type 0 where
  pub columns : (ls : List Line) (is : List ItemLine) (rs : List Routine) → AreItems ls is → AreRoutines is rs → indent_fault [] ls ≡ None
  pub blocks : (is : List ItemLine) (rs : List Routine) → AreRoutines is rs → block_fault [] is ≡ None
  pub one : (is : List ItemLine) (rs qs : List Routine) → AreRoutines is rs → AreRoutines is qs → rs ≡ qs

ok_lines : (r : Result (List Line) LexError) (ls ms : List Line) → r ≡ Ok ls → r ≡ Ok ms → ls ≡ ms
ok_lines r ls ms p q = let z : Ok ls ≡ Ok ms = sym p ∙ q in cc

not_both : {A : Type 0} (o : Option A) (a : A) → o ≡ None → o ≡ Some a → ⊥
not_both o a p q = let z : None ≡ Some a = sym p ∙ q in cc

err_not_ok : (e : LexError) (ls : List Line) → Err e ≡ Ok ls → ⊥
err_not_ok e ls p = cc

ok_not_err : (r : Result (List Line) LexError) (ls : List Line) (e : LexError) → r ≡ Ok ls → r ≡ Err e → ⊥
ok_not_err r ls e p q = let z : Ok ls ≡ Err e = sym p ∙ q in cc

-- what is lexed has no fault, and the lines that it has
no_first_fault : (a b c : Option LexError) (ls : List Line) → a ≡ None → b ≡ None → c ≡ None → lines_unless (option_or a (option_or b c)) ls ≡ Ok ls
no_first_fault a b c ls p q r = ap (λ x. lines_unless (option_or x (option_or b c)) ls) p ∙ ap (λ x. lines_unless (option_or x c) ls) q ∙ ap (λ x. lines_unless x ls) r

pub lexes : (bytes : List ℕ) (ls : List Line) → HasLines bytes ls → HasNoLongLine bytes → lex Program bytes ≡ Ok ls
unfolding lex
lexes bytes ls h short =
    let rs = rows Program bytes in
    no_first_fault (byte_fault rs) (token_fault rs) (length_fault (logical_lines [] rs)) (logical_lines [] rs) h.no_byte_fault h.no_token_fault short ∙ ap Ok h.lines

abbrev AllNone : Option LexError → Option LexError → Option LexError → List Line → List Line → Type 0
AllNone a b c ls ms = (a ≡ None) × (b ≡ None) × (c ≡ None) × (ls ≡ ms)

all_none : (a b c : Option LexError) (ls ms : List Line) → lines_unless (option_or a (option_or b c)) ls ≡ Ok ms → AllNone a b c ls ms
all_none None None None ls ms e = (refl, refl, refl, cc)
all_none None None (Some x) ls ms e = absurd (err_not_ok x ms e)
all_none None (Some x) c ls ms e = absurd (err_not_ok x ms e)
all_none (Some x) b c ls ms e = absurd (err_not_ok x ms e)

lexed_by : (bytes : List ℕ) (ls : List Line) → lex Program bytes ≡ Ok ls → let rs = rows Program bytes in AllNone (byte_fault rs) (token_fault rs) (length_fault (logical_lines [] rs)) (logical_lines [] rs) ls
unfolding lex
lexed_by bytes ls e =
    let rs = rows Program bytes in
    all_none (byte_fault rs) (token_fault rs) (length_fault (logical_lines [] rs)) (logical_lines [] rs) ls e

pub has_lines : (bytes : List ℕ) (ls : List Line) → lex Program bytes ≡ Ok ls → HasLines bytes ls
has_lines bytes ls e = let h = lexed_by bytes ls e in record { no_byte_fault = h.0; no_token_fault = h.1; lines = h.3 }

pub has_no_long_line : (bytes : List ℕ) (ls : List Line) → lex Program bytes ≡ Ok ls → HasNoLongLine bytes
has_no_long_line bytes ls e = (lexed_by bytes ls e).2

pub one_program : NestingLaws → (bytes : List ℕ) (rs qs : List Routine) → Reads bytes rs → Reads bytes qs → rs ≡ qs
one_program laws bytes rs qs r q =
    let ls : r.lines ≡ q.lines = sym r.lexed.lines ∙ q.lexed.lines in
    let is = one_list q.lines r.items q.items (subst (λ l. AreItems l r.items) ls r.spelled) q.spelled in
    laws.one q.items rs qs (subst (λ i. AreRoutines i rs) is r.nested) q.nested

no_least : least [] ≡ None
unfolding least
no_least = refl

-- a text that spells a program within the limits isn't refused
pub not_refused : NestingLaws → (bytes : List ℕ) (rs : List Routine) (c : Cause) (line : ℕ) → IsProgram bytes rs → IsRefused bytes c line → ⊥
not_refused laws bytes rs c line p (by_lexing d m e) = ok_not_err (lex Program bytes) p.reads.lines (lex_error.Fault d m) (lexes bytes p.reads.lines p.reads.lexed p.short) e
not_refused laws bytes rs c line p (by_columns ls m e f) =
    let same = ok_lines (lex Program bytes) p.reads.lines ls (lexes bytes p.reads.lines p.reads.lexed p.short) e in
    not_both (indent_fault [] ls) m (laws.columns ls p.reads.items rs (subst (λ l. AreItems l p.reads.items) same p.reads.spelled) p.reads.nested) f
not_refused laws bytes rs c line p (by_item before l rest is e f s h) =
    let same = ok_lines (lex Program bytes) p.reads.lines (before ++ (l ∷ rest)) (lexes bytes p.reads.lines p.reads.lexed p.short) e in
    not_items before l rest p.reads.items h (subst (λ x. AreItems x p.reads.items) same p.reads.spelled)
not_refused laws bytes rs c line p (by_blocks ls is m e f s g) =
    let same = ok_lines (lex Program bytes) p.reads.lines ls (lexes bytes p.reads.lines p.reads.lexed p.short) e in
    let items = one_list ls p.reads.items is (subst (λ l. AreItems l p.reads.items) same p.reads.spelled) s in
    not_both (block_fault [] is) m (subst (λ i. block_fault [] i ≡ None) items (laws.blocks p.reads.items rs p.reads.nested)) g
not_refused laws bytes rs c line p (by_limits qs m q short g) =
    let same = one_program laws bytes rs qs p.reads q in
    not_both (least (limit_lines qs)) m (ap least (ap limit_lines (sym same) ∙ p.small) ∙ no_least) g

-- a text is refused for one cause, at one line
abbrev pub SameRefusal : Cause → ℕ → Cause → ℕ → Type 0
SameRefusal c m d n = (c ≡ d) × (m ≡ n)

same_line : (o : Option ℕ) (m n : ℕ) → o ≡ Some m → o ≡ Some n → m ≡ n
same_line o m n p q = let z : Some m ≡ Some n = sym p ∙ q in cc

same_fault : (r : Result (List Line) LexError) (c d : LexCause) (m n : ℕ) → r ≡ Err (lex_error.Fault c m) → r ≡ Err (lex_error.Fault d n) → (c ≡ d) × (m ≡ n)
same_fault r c d m n p q = let z : Err (lex_error.Fault c m) ≡ Err (lex_error.Fault d n) = sym p ∙ q in (cc, cc)

-- a text without long lines that reads as functions has no fault of lexing, of columns, of an item or of blocks
reads_no_lexing : (bytes : List ℕ) (rs : List Routine) (e : LexError) → Reads bytes rs → HasNoLongLine bytes → lex Program bytes ≡ Err e → ⊥
reads_no_lexing bytes rs e p short q = ok_not_err (lex Program bytes) p.lines e (lexes bytes p.lines p.lexed short) q

reads_no_columns : NestingLaws → (bytes : List ℕ) (rs : List Routine) (ls : List Line) (m : ℕ) → Reads bytes rs → HasNoLongLine bytes → lex Program bytes ≡ Ok ls → indent_fault [] ls ≡ Some m → ⊥
reads_no_columns laws bytes rs ls m p short e f =
    let same = ok_lines (lex Program bytes) p.lines ls (lexes bytes p.lines p.lexed short) e in
    not_both (indent_fault [] ls) m (laws.columns ls p.items rs (subst (λ l. AreItems l p.items) same p.spelled) p.nested) f

reads_no_item : (bytes : List ℕ) (rs : List Routine) (before : List Line) (l : Line) (rest : List Line) → Reads bytes rs → HasNoLongLine bytes → lex Program bytes ≡ Ok (before ++ (l ∷ rest)) → NotSpelled l → ⊥
reads_no_item bytes rs before l rest p short e h =
    let same = ok_lines (lex Program bytes) p.lines (before ++ (l ∷ rest)) (lexes bytes p.lines p.lexed short) e in
    not_items before l rest p.items h (subst (λ x. AreItems x p.items) same p.spelled)

reads_no_blocks : NestingLaws → (bytes : List ℕ) (rs : List Routine) (ls : List Line) (is : List ItemLine) (m : ℕ) → Reads bytes rs → HasNoLongLine bytes → lex Program bytes ≡ Ok ls → AreItems ls is → block_fault [] is ≡ Some m → ⊥
reads_no_blocks laws bytes rs ls is m p short e s g =
    let same = ok_lines (lex Program bytes) p.lines ls (lexes bytes p.lines p.lexed short) e in
    let items = one_list ls p.items is (subst (λ l. AreItems l p.items) same p.spelled) s in
    not_both (block_fault [] is) m (subst (λ i. block_fault [] i ≡ None) items (laws.blocks p.items rs p.nested)) g

-- each cause against those that come after it
lexing_against : (bytes : List ℕ) (c d : LexCause) (m n : ℕ) → lex Program bytes ≡ Err (lex_error.Fault c m) → lex Program bytes ≡ Err (lex_error.Fault d n) → SameRefusal (lexing_cause c) m (lexing_cause d) n
lexing_against bytes c d m n p q = let s = same_fault (lex Program bytes) c d m n p q in (ap lexing_cause s.0, s.1)

columns_against : (bytes : List ℕ) (ls ms : List Line) (m n : ℕ) → lex Program bytes ≡ Ok ls → indent_fault [] ls ≡ Some m → lex Program bytes ≡ Ok ms → indent_fault [] ms ≡ Some n → m ≡ n
columns_against bytes ls ms m n e f g h = same_line (indent_fault [] ms) m n (subst (λ l. indent_fault [] l ≡ Some m) (ok_lines (lex Program bytes) ls ms e g) f) h

columns_not : (bytes : List ℕ) (ls ms : List Line) (m : ℕ) → lex Program bytes ≡ Ok ls → indent_fault [] ls ≡ Some m → lex Program bytes ≡ Ok ms → indent_fault [] ms ≡ None → ⊥
columns_not bytes ls ms m e f g h = not_both (indent_fault [] ms) m h (subst (λ l. indent_fault [] l ≡ Some m) (ok_lines (lex Program bytes) ls ms e g) f)

item_not_blocks : (bytes : List ℕ) (before : List Line) (l : Line) (rest : List Line) (ls : List Line) (is : List ItemLine) → lex Program bytes ≡ Ok (before ++ (l ∷ rest)) → NotSpelled l → lex Program bytes ≡ Ok ls → AreItems ls is → ⊥
item_not_blocks bytes before l rest ls is e h g s = not_items before l rest is h (subst (λ x. AreItems x is) (ok_lines (lex Program bytes) ls (before ++ (l ∷ rest)) g e) s)

blocks_against : (bytes : List ℕ) (ls ms : List Line) (is js : List ItemLine) (m n : ℕ) → lex Program bytes ≡ Ok ls → AreItems ls is → block_fault [] is ≡ Some m → lex Program bytes ≡ Ok ms → AreItems ms js → block_fault [] js ≡ Some n → m ≡ n
blocks_against bytes ls ms is js m n e s f g t h =
    let items = one_list ms is js (subst (λ l. AreItems l is) (ok_lines (lex Program bytes) ls ms e g) s) t in
    same_line (block_fault [] js) m n (subst (λ i. block_fault [] i ≡ Some m) items f) h

limits_against : NestingLaws → (bytes : List ℕ) (rs qs : List Routine) (m n : ℕ) → Reads bytes rs → least (limit_lines rs) ≡ Some m → Reads bytes qs → least (limit_lines qs) ≡ Some n → m ≡ n
limits_against laws bytes rs qs m n r f q g = same_line (least (limit_lines qs)) m n (subst (λ x. least (limit_lines x) ≡ Some m) (one_program laws bytes rs qs r q) f) g

pub one_refusal : NestingLaws → (bytes : List ℕ) (c d : Cause) (m n : ℕ) → IsRefused bytes c m → IsRefused bytes d n → SameRefusal c m d n
one_refusal laws bytes c d m n (by_lexing x k e) (by_lexing y l f) = lexing_against bytes x y k l e f
one_refusal laws bytes c d m n (by_lexing x k e) (by_columns ls l f g) = absurd (ok_not_err (lex Program bytes) ls (lex_error.Fault x k) f e)
one_refusal laws bytes c d m n (by_lexing x k e) (by_item bs l rest is f g s h) = absurd (ok_not_err (lex Program bytes) (bs ++ (l ∷ rest)) (lex_error.Fault x k) f e)
one_refusal laws bytes c d m n (by_lexing x k e) (by_blocks ls is l f g s h) = absurd (ok_not_err (lex Program bytes) ls (lex_error.Fault x k) f e)
one_refusal laws bytes c d m n (by_lexing x k e) (by_limits rs l r short f) = absurd (reads_no_lexing bytes rs (lex_error.Fault x k) r short e)
one_refusal laws bytes c d m n (by_columns ls k e f) (by_lexing y l g) = absurd (ok_not_err (lex Program bytes) ls (lex_error.Fault y l) e g)
one_refusal laws bytes c d m n (by_columns ls k e f) (by_columns ms l g h) = (refl, columns_against bytes ls ms k l e f g h)
one_refusal laws bytes c d m n (by_columns ls k e f) (by_item bs l rest is g h s t) = absurd (columns_not bytes ls (bs ++ (l ∷ rest)) k e f g h)
one_refusal laws bytes c d m n (by_columns ls k e f) (by_blocks ms is l g h s t) = absurd (columns_not bytes ls ms k e f g h)
one_refusal laws bytes c d m n (by_columns ls k e f) (by_limits rs l r short g) = absurd (reads_no_columns laws bytes rs ls k r short e f)
one_refusal laws bytes c d m n (by_item bs k rest is e f s h) (by_lexing y l g) = absurd (ok_not_err (lex Program bytes) (bs ++ (k ∷ rest)) (lex_error.Fault y l) e g)
one_refusal laws bytes c d m n (by_item bs k rest is e f s h) (by_columns ls l g t) = absurd (columns_not bytes ls (bs ++ (k ∷ rest)) l g t e f)
one_refusal laws bytes c d m n (by_item bs k rest is e f s h) (by_item cs l us js g t v w) = (refl, one_unspelled bs k rest cs l us is js (ok_lines (lex Program bytes) (bs ++ (k ∷ rest)) (cs ++ (l ∷ us)) e g) s v h w)
one_refusal laws bytes c d m n (by_item bs k rest is e f s h) (by_blocks ls js l g t v w) = absurd (item_not_blocks bytes bs k rest ls js e h g v)
one_refusal laws bytes c d m n (by_item bs k rest is e f s h) (by_limits rs l r short g) = absurd (reads_no_item bytes rs bs k rest r short e h)
one_refusal laws bytes c d m n (by_blocks ls is k e f s h) (by_lexing y l g) = absurd (ok_not_err (lex Program bytes) ls (lex_error.Fault y l) e g)
one_refusal laws bytes c d m n (by_blocks ls is k e f s h) (by_columns ms l g t) = absurd (columns_not bytes ms ls l g t e f)
one_refusal laws bytes c d m n (by_blocks ls is k e f s h) (by_item bs l rest js g t v w) = absurd (item_not_blocks bytes bs l rest ls is g w e s)
one_refusal laws bytes c d m n (by_blocks ls is k e f s h) (by_blocks ms js l g t v w) = (refl, blocks_against bytes ls ms is js k l e s h g v w)
one_refusal laws bytes c d m n (by_blocks ls is k e f s h) (by_limits rs l r short g) = absurd (reads_no_blocks laws bytes rs ls is k r short e s h)
one_refusal laws bytes c d m n (by_limits rs k r short f) (by_lexing y l g) = absurd (reads_no_lexing bytes rs (lex_error.Fault y l) r short g)
one_refusal laws bytes c d m n (by_limits rs k r short f) (by_columns ls l g t) = absurd (reads_no_columns laws bytes rs ls l r short g t)
one_refusal laws bytes c d m n (by_limits rs k r short f) (by_item bs l rest is g t v w) = absurd (reads_no_item bytes rs bs l rest r short g w)
one_refusal laws bytes c d m n (by_limits rs k r short f) (by_blocks ls is l g t v w) = absurd (reads_no_blocks laws bytes rs ls is l r short g v w)
one_refusal laws bytes c d m n (by_limits rs k r short f) (by_limits qs l q other g) = (refl, limits_against laws bytes rs qs k l r f q g)

-- what is at fault where bytes and tokens aren't is the length of a line
third_fault : (a b c : Option LexError) (ls : List Line) (e : LexError) → a ≡ None → b ≡ None → lines_unless (option_or a (option_or b c)) ls ≡ Err e → c ≡ Some e
third_fault None None None ls e p q h = absurd (ok_not_err (Ok ls) ls e refl h)
third_fault None None (Some x) ls e p q h = let same : x ≡ e = cc in ap Some same
third_fault None (Some x) c ls e p q h = absurd (not_both (Some x) x q refl)
third_fault (Some x) b c ls e p q h = absurd (not_both (Some x) x p refl)

length_fault_by : (b : Bool) (line : ℕ) (o : Option LexError) (d : LexCause) (m : ℕ) → (o ≡ Some (lex_error.Fault d m) → d ≡ lex_cause.LongLine) → (if b then Some (lex_error.Fault lex_cause.LongLine line) else o) ≡ Some (lex_error.Fault d m) → d ≡ lex_cause.LongLine
length_fault_by true line o d m later h = cc
length_fault_by false line o d m later h = later h

is_long_line : (ls : List Line) (d : LexCause) (m : ℕ) → length_fault ls ≡ Some (lex_error.Fault d m) → d ≡ lex_cause.LongLine
unfolding length_fault
is_long_line [] d m h = let z : None ≡ Some (lex_error.Fault d m) = h in cc
is_long_line (l ∷ ls) d m h = length_fault_by (nat_lt 400 (length l.tokens)) l.line (length_fault ls) d m (is_long_line ls d m) h

lexing_limit : (bytes : List ℕ) (ls : List Line) (d : LexCause) (m : ℕ) → HasLines bytes ls → lex Program bytes ≡ Err (lex_error.Fault d m) → d ≡ lex_cause.LongLine
unfolding lex
lexing_limit bytes ls d m h e =
    let rs = rows Program bytes in
    is_long_line (logical_lines [] rs) d m (third_fault (byte_fault rs) (token_fault rs) (length_fault (logical_lines [] rs)) (logical_lines [] rs) (lex_error.Fault d m) h.no_byte_fault h.no_token_fault e)

pub only_limits : NestingLaws → (bytes : List ℕ) (rs : List Routine) (c : Cause) (line : ℕ) → Reads bytes rs → IsRefused bytes c line → c ≡ cause.Limit
only_limits laws bytes rs c line p (by_lexing d m e) = ap lexing_cause (lexing_limit bytes p.lines d m p.lexed e)
only_limits laws bytes rs c line p (by_columns ls m e f) = absurd (reads_no_columns laws bytes rs ls m p (has_no_long_line bytes ls e) e f)
only_limits laws bytes rs c line p (by_item bs l rest is e f s h) = absurd (reads_no_item bytes rs bs l rest p (has_no_long_line bytes (bs ++ (l ∷ rest)) e) e h)
only_limits laws bytes rs c line p (by_blocks ls is m e f s g) = absurd (reads_no_blocks laws bytes rs ls is m p (has_no_long_line bytes ls e) e s g)
only_limits laws bytes rs c line p (by_limits qs m q short g) = refl
