-- Numbers among those of lists, and texts in texts.
use Rattle.std.proofs.Common.{◌≡◌, ◌≤◌, Bool, false, List, length, map, take, not, refl, sym, ap, ◌∙◌, subst}
use Rattle.std.specs.declared.result.Result.{Result}
use Rattle.std.specs.declared.result.Result.TheVariants.{Ok}
use Rattle.mpy_tree.specs.declared.value.Value.{Value}
use Rattle.mpy_tree.specs.declared.value.Value.TheVariants as val
use Rattle.mpy_tree.specs.declared.operators.CmpOp.TheVariants.{Member, NotMember}
use Rattle.mpy_tree.specs.declared.outcome.Halt.{Halt}
use Rattle.mpy_tree.specs.Operations.{compare, has_number, is_part, member, opposite, truth}
use Rattle.bit_words.specs.Words.{int_of, nat_of}
use Rattle.sym_values.specs.declared.value.SymValue.{SymValue}
use Rattle.sym_values.specs.declared.value.SymValue.TheVariants as sym_value
use Rattle.sym_values.specs.Forms.{form_of, HasLength}
use Rattle.sym_values.specs.Reading.{IsOutcome, read, Reading, sure}
use Rattle.list_values.specs.Sequences.{IsWordFor, items_of, len_of, MayBeIn}
use Rattle.list_values.proofs.Meanings.{proper, value_is, words_of}

-- a number among those of a list
number_among : {B : Type 0} (f : B → Bool) (a : SymValue B) (word : List B) (r : Bool) (w : Value) → IsWordFor word a → read f a ≡ sure w
    → r ≡ has_number (int_of (map f word)) (map int_of (words_of f a)) → Ok r ≡ member (val.Int (int_of (map f word))) w
number_among f (sym_value.Int v) word r w h e k = absurd h
number_among f (sym_value.Bool b) word r w h e k = absurd h
number_among f (sym_value.List m xs) word r w h e k = ap Ok k ∙ ap (member (val.Int (int_of (map f word)))) (value_is f (sym_value.List m xs) w tt e)
number_among f (sym_value.Text m xs) word r w h e k = absurd h

pub number_member : {B : Type 0} (f : B → Bool) (x a : SymValue B) (word m : List B) (xs : List (List B)) (r : Bool) (v w : Value) → x ≡ sym_value.Int word → IsWordFor word a → m ≡ len_of a → xs ≡ items_of a
    → read f x ≡ sure v → read f a ≡ sure w → r ≡ has_number (int_of (map f word)) (map int_of (take (nat_of (map f m)) (map (map f) xs))) → Ok r ≡ member v w
number_member f x a word m xs r v w is alike digits words e k h =
    let number : val.Int (int_of (map f word)) ≡ v = ap (λ (i : Reading). i.value) (sym (ap (read f) is) ∙ e) in
    let whole = rw (digits, words) at h in
    number_among f a word r w alike k whole ∙ ap (λ (u : Value). member u w) number

-- a text in a text
text_in : {B : Type 0} (f : B → Bool) (x a : SymValue B) (r : Bool) (v w : Value) (m : List B) (xs : List (List B)) → x ≡ sym_value.Text m xs → form_of a ≡ form_of x → read f x ≡ sure v → read f a ≡ sure w
    → r ≡ is_part (map nat_of (words_of f x)) (map nat_of (words_of f a)) → Ok r ≡ member v w
text_in f (sym_value.Int u) a r v w m xs is alike e k h = absurd cc
text_in f (sym_value.Bool b) a r v w m xs is alike e k h = absurd cc
text_in f (sym_value.List n ys) a r v w m xs is alike e k h = absurd cc
text_in f (sym_value.Text n ys) (sym_value.Int u) r v w m xs is alike e k h = absurd cc
text_in f (sym_value.Text n ys) (sym_value.Bool b) r v w m xs is alike e k h = absurd cc
text_in f (sym_value.Text n ys) (sym_value.List l zs) r v w m xs is alike e k h = absurd cc
text_in f (sym_value.Text n ys) (sym_value.Text l zs) r v w m xs is alike e k h =
    ap Ok h ∙ ap (λ (u : Value). member u (val.Text (map nat_of (words_of f (sym_value.Text l zs))))) (value_is f (sym_value.Text n ys) v tt e)
    ∙ ap (member v) (value_is f (sym_value.Text l zs) w tt k)

pub text_member : {B : Type 0} (f : B → Bool) (x a : SymValue B) (m l n : List B) (xs ys zs : List (List B)) (r : Bool) (v w : Value) → x ≡ sym_value.Text m xs → form_of a ≡ form_of x
    → l ≡ len_of x → ys ≡ items_of x → n ≡ len_of a → zs ≡ items_of a → HasLength a → read f x ≡ sure v → read f a ≡ sure w
    → (nat_of (map f l) ≤ length ys → nat_of (map f n) ≤ length zs → r ≡ is_part (map nat_of (take (nat_of (map f l)) (map (map f) ys))) (map nat_of (take (nat_of (map f n)) (map (map f) zs))))
    → Ok r ≡ member v w
text_member f x a m l n xs ys zs r v w is alike left left_words right right_words sized e k h =
    let whole = rw (left, left_words, right, right_words) at h in
    let also : HasLength x = subst HasLength (sym is) tt in
    text_in f x a r v w m xs is alike e k (whole (proper f x v also e) (proper f a w sized k))

-- what may be in a text has its form
pub alike_text : {B : Type 0} (x a : SymValue B) (m : List B) (xs : List (List B)) → x ≡ sym_value.Text m xs → MayBeIn x a → form_of x ≡ form_of a
alike_text (sym_value.Int u) a m xs is h = absurd cc
alike_text (sym_value.Bool b) a m xs is h = absurd cc
alike_text (sym_value.List n ys) a m xs is h = absurd cc
alike_text (sym_value.Text n ys) (sym_value.Int u) m xs is h = absurd h
alike_text (sym_value.Text n ys) (sym_value.Bool b) m xs is h = absurd h
alike_text (sym_value.Text n ys) (sym_value.List l zs) m xs is h = absurd h
alike_text (sym_value.Text n ys) (sym_value.Text l zs) m xs is h = h

-- the outcomes
pub told_member : (fault r : Bool) (v w : Value) → fault ≡ false → Ok r ≡ member v w → IsOutcome fault (sure (val.Bool r)) (truth (compare Member v w))
told_member fault r v w e h = subst (λ (u : Result Bool Halt). IsOutcome fault (sure (val.Bool r)) (truth u)) h (e, refl)

pub told_absent : (fault r other : Bool) (v w : Value) → fault ≡ false → Ok r ≡ member v w → other ≡ not r → IsOutcome fault (sure (val.Bool other)) (truth (compare NotMember v w))
told_absent fault r other v w e h k =
    subst (λ (u : Result Bool Halt). IsOutcome fault (sure (val.Bool other)) (truth (opposite u))) h (e, ap (λ (b : Bool). sure (val.Bool b)) k)
