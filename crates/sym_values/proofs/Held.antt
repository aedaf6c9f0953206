-- What calls in turn leave of lists of bits and of values.
use Rattle.std.proofs.Common.{◌≡◌, ℕ, zero, suc, ◌+◌, Bool, true, false, List, [], ◌∷◌, ◌++◌, Some, map, cond, take, length, sym, ap, ◌∙◌, subst}
use Rattle.std.specs.Prelude.{slice_get}
use Rattle.std.proofs.lemmas.List.{map_push, take_more}
use Rattle.std.proofs.lemmas.List.Elements.{All-nil, All-push}
use Rattle.std.proofs.lemmas.Option.{slice_get_within, get_or_from_slice_get}
use Rattle.bit_words.specs.Logic.{Extends, OwnsAll, extends_trans, extends_keeps}
use Rattle.bit_words.specs.Later.{owned_later, read_later, owns_both}
use Rattle.sym_values.specs.declared.value.SymValue.TheVariants as sym
use Rattle.sym_values.specs.Owned.{list_len_owned, list_items_owned, text_len_owned, text_items_owned, truth_owned, word_owned, owns_alone}
use Rattle.sym_values.specs.declared.value.SymValue.{SymValue}
use Rattle.sym_values.specs.Forms.{ListForm, TextForm, bits_of, form_of, joined, lengths}
use Rattle.sym_values.specs.Later.{words_later}

pub take_read : {A : Type 0} (w : List A) (i : ℕ) (b : A) → slice_get w i ≡ Some b → take (i + 1) w ≡ take i w ++ b ∷ []
take_read w i b e = take_more w i b (slice_get_within w i b e) ∙ ap (λ y. take i w ++ y ∷ []) (get_or_from_slice_get w i b b e)

-- one thing more in a list that is read
pub pushed_read : {A C : Type 0} (f f' : A → C) (out out' : List A) (r : A) (so_far : List C) (one : C)
    → map f' out ≡ map f out → map f out ≡ so_far → f' r ≡ one → out' ≡ out ++ r ∷ [] → map f' out' ≡ so_far ++ one ∷ []
pushed_read f f' out out' r so_far one kept before now e =
    ap (map f') e ∙ map_push f' out r ∙ ap (λ w. w ++ f' r ∷ []) (kept ∙ before) ∙ ap (λ v. so_far ++ v ∷ []) now

-- and of one of two lists
pub choice_pushed : {A C : Type 0} (c : Bool) (f : A → C) (v v' w w' : List A) (a b : A) → v' ≡ v ++ a ∷ [] → w' ≡ w ++ b ∷ []
    → cond c (map f v') (map f w') ≡ cond c (map f v) (map f w) ++ cond c (f a) (f b) ∷ []
choice_pushed true f v v' w w' a b p q = ap (map f) p ∙ map_push f v a
choice_pushed false f v v' w w' a b p q = ap (map f) q ∙ map_push f w b

-- lists that are alike are alike at each place
pub same_at : {A C : Type 0} (f : A → C) (xs ys : List A) (i : ℕ) (x y : A) → map f ys ≡ map f xs → slice_get xs i ≡ Some x → slice_get ys i ≡ Some y → f y ≡ f x
same_at f [] ys i x y e p q = cc
same_at f (a ∷ xs) [] i x y e p q = cc
same_at f (a ∷ xs) (b ∷ ys) zero x y e p q = cc
same_at f (a ∷ xs) (b ∷ ys) (suc i) x y e p q = let tail : map f ys ≡ map f xs = cc in same_at f xs ys i x y tail p q

module _ {S B : Type 0} {owns : S → B → Type 0} where
  pub owns_none : {s : S} → OwnsAll owns s []
  owns_none {s} = record { each = All-nil (owns s) }

  pub owns_push : {s : S} {w v : List B} {b : B} → OwnsAll owns s w → owns s b → v ≡ w ++ b ∷ [] → OwnsAll owns s v
  owns_push {s} {w} {v} {b} h k e = subst (OwnsAll owns s) (sym e) (record { each = All-push (owns s) w b h.each k })

module _ {S B : Type 0} {owns : S → B → Type 0} {reads : S → List Bool → B → Bool} {count : S → ℕ} where
  pub owns_kept : {s t : S} {w : List B} → Extends owns reads count s t → OwnsAll owns s w → OwnsAll owns t w
  owns_kept p h = owned_later (extends_keeps p) h

  -- a list of bits reads as before
  pub reads_kept : {s t : S} {w : List B} → Extends owns reads count s t → OwnsAll owns s w → (vs : List Bool) → map (reads t vs) w ≡ map (reads s vs) w
  reads_kept p h vs = read_later (extends_keeps p) h vs

  pub words_kept : {s t : S} → Extends owns reads count s t → (ws : List (List B)) → OwnsAll owns s (joined ws) → (vs : List Bool) → map (map (reads t vs)) ws ≡ map (map (reads s vs)) ws
  words_kept p ws h vs = words_later (extends_keeps p) ws h vs

  pub list_items_kept : {s t : S} {x : SymValue B} {len : List B} {items : List (List B)} → Extends owns reads count s t → x ≡ sym.List len items → OwnsAll owns s (bits_of x) → (vs : List Bool) → map (map (reads t vs)) items ≡ map (map (reads s vs)) items
  list_items_kept {s} {t} {x} {len} {items} p e h vs = words_kept p items (list_items_owned h e) vs

  pub text_items_kept : {s t : S} {x : SymValue B} {len : List B} {items : List (List B)} → Extends owns reads count s t → x ≡ sym.Text len items → OwnsAll owns s (bits_of x) → (vs : List Bool) → map (map (reads t vs)) items ≡ map (map (reads s vs)) items
  text_items_kept {s} {t} {x} {len} {items} p e h vs = words_kept p items (text_items_owned h e) vs

-- what a call leaves of the bits that a state had, and the parts of a value
pub ruleset parts = (extends_trans, owns_none, owns_push, owns_kept, owns_both, owns_alone, word_owned, truth_owned, list_len_owned, list_items_owned, text_len_owned, text_items_owned)

-- one of two lists or texts, by their parts
pub choice_list : (t : Bool) (len a b : List Bool) (items c d : List (List Bool)) (x y : SymValue Bool) → len ≡ cond t a b → items ≡ cond t c d → x ≡ sym.List a c → y ≡ sym.List b d
    → sym.List len items ≡ cond t x y
choice_list true len a b items c d x y e f h k = cc
choice_list false len a b items c d x y e f h k = cc

pub choice_text : (t : Bool) (len a b : List Bool) (items c d : List (List Bool)) (x y : SymValue Bool) → len ≡ cond t a b → items ≡ cond t c d → x ≡ sym.Text a c → y ≡ sym.Text b d
    → sym.Text len items ≡ cond t x y
choice_text true len a b items c d x y e f h k = cc
choice_text false len a b items c d x y e f h k = cc

pub list_form : {B : Type 0} (len m : List B) (items xs : List (List B)) (y : SymValue B) → y ≡ sym.List m xs → length len ≡ length m → lengths items ≡ lengths xs → form_of (sym.List len items) ≡ form_of y
list_form len m items xs y e n h = let p : ListForm (length len) (lengths items) ≡ ListForm (length m) (lengths xs) = cc in p ∙ ap form_of (sym e)

pub text_form : {B : Type 0} (len m : List B) (items xs : List (List B)) (y : SymValue B) → y ≡ sym.Text m xs → length len ≡ length m → lengths items ≡ lengths xs → form_of (sym.Text len items) ≡ form_of y
text_form len m items xs y e n h = let p : TextForm (length len) (lengths items) ≡ TextForm (length m) (lengths xs) = cc in p ∙ ap form_of (sym e)
