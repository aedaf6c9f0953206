-- A value of any type within the bits of a printed one.
use Rattle.std.proofs.Common.{◌≡◌, ◌≤◌, ℕ, zero, suc, ◌+◌, ◌-◌, ◌*◌, ◌/◌, ◌%◌, subst, Bool, List, [], ◌∷◌, ◌++◌, length, map, take, drop, refl, sym, ap, ◌∙◌, arith, append_assoc, length-append, length-drop}
use Rattle.std.specs.Prelude.{nat_eq, replicate}
use Rattle.std.proofs.Math.Nat.{mul-le-mul_right}
use Rattle.std.proofs.Math.Seq.{take-add}
use Rattle.std.proofs.lemmas.List.{drop_at, length-map, length-replicate, length-take-le, map-append, take-append-drop, take_at}
use Rattle.mpy_tree.specs.declared.limits.Limits.{Limits}
use Rattle.mpy_tree.specs.declared.typing.Ty.{Ty}
use Rattle.mpy_tree.specs.declared.typing.Ty.TheVariants as ty
use Rattle.bit_words.specs.Later.{owns_both}
use Rattle.bit_words.specs.Logic.{OwnsAll}
use Rattle.bit_words.specs.Results.{IsWordIn}
use Rattle.bit_words.specs.Words.{nat_of}
use Rattle.sym_values.specs.declared.value.SymValue.{SymValue}
use Rattle.sym_values.specs.declared.value.SymValue.TheVariants as sym_value
use Rattle.sym_values.specs.Forms.{bits_of, form_for, form_of, joined, lengths}
use Rattle.sym_values.specs.Printed.{cut, kind_of, print_width, room, type_of_kind, value_within, word_spelled}
use Rattle.sym_values.specs.Reading.{map_bits, read, spelled}
use Rattle.sym_values.specs.Owned.{owns_alone}
use Rattle.sym_values.proofs.Cuts.{cut_back, cut_joined, cut_widths, joined_long}
use Rattle.sym_values.proofs.Held.{owns_none}

-- how many bits a value of a type has
pub room_is : {B : Type 0} (l : Limits) (t : Ty) (x : SymValue B) → form_of x ≡ form_for l t → length (bits_of x) ≡ room l t
room_is l ty.Int (sym_value.Int w) e = cc
room_is l ty.Bool (sym_value.Bool b) e = refl
room_is l ty.List (sym_value.List len items) e =
    let long : length len ≡ 5 = cc in
    let widths : lengths items ≡ replicate l.cap l.width = cc in
    omega (arith, length-append len (joined items), joined_long l.width l.cap items widths)
room_is l ty.Text (sym_value.Text len items) e =
    let long : length len ≡ 5 = cc in
    let widths : lengths items ≡ replicate l.cap 7 = cc in
    omega (arith, length-append len (joined items), joined_long 7 l.cap items widths)
room_is l t x e = absurd cc

-- a printed value has room for each type
pub room_fits : (l : Limits) (t : Ty) → 2 + room l t ≤ print_width l
room_fits l ty.Int =
    let some = l.cap_range.0 in
    let one : 1 * l.width ≤ l.cap * l.width = mul-le-mul_right l.width some in
    omega arith
room_fits l ty.Bool = omega arith
room_fits l ty.List = omega arith
room_fits l ty.Text = omega arith

-- a value is read off its bits, whatever follows these
pub within : (l : Limits) (t : Ty) (x : SymValue Bool) (rest : List Bool) → form_of x ≡ form_for l t → value_within l t (bits_of x ++ rest) ≡ x
within l ty.Int (sym_value.Int w) rest e = let long : length w ≡ l.width = cc in ap sym_value.Int (take_at w rest l.width long)
within l ty.Bool (sym_value.Bool b) rest e = refl
within l ty.List (sym_value.List len items) rest e =
    let long : length len ≡ 5 = cc in
    let widths : lengths items ≡ replicate l.cap l.width = cc in
    let split : (len ++ joined items) ++ rest ≡ len ++ (joined items ++ rest) = append_assoc len (joined items) rest in
    let first : take 5 ((len ++ joined items) ++ rest) ≡ len = ap (take 5) split ∙ take_at len (joined items ++ rest) 5 long in
    let second : drop 5 ((len ++ joined items) ++ rest) ≡ joined items ++ rest = ap (drop 5) split ∙ drop_at len (joined items ++ rest) 5 long in
    let words : cut l.width l.cap (joined items ++ rest) ≡ items = cut_back l.width l.cap items rest widths in
    cc
within l ty.Text (sym_value.Text len items) rest e =
    let long : length len ≡ 5 = cc in
    let widths : lengths items ≡ replicate l.cap 7 = cc in
    let split : (len ++ joined items) ++ rest ≡ len ++ (joined items ++ rest) = append_assoc len (joined items) rest in
    let first : take 5 ((len ++ joined items) ++ rest) ≡ len = ap (take 5) split ∙ take_at len (joined items ++ rest) 5 long in
    let second : drop 5 ((len ++ joined items) ++ rest) ≡ joined items ++ rest = ap (drop 5) split ∙ drop_at len (joined items ++ rest) 5 long in
    let words : cut 7 l.cap (joined items ++ rest) ≡ items = cut_back 7 l.cap items rest widths in
    cc
within l t x rest e = absurd cc

-- a value with other bits in the places of its own
module _ {B C : Type 0} (f : B → C) where
  joined_mapped : (ws : List (List B)) → joined (map (map f) ws) ≡ map f (joined ws)
  joined_mapped [] = refl
  joined_mapped (w ∷ ws) = ap (λ v. map f w ++ v) (joined_mapped ws) ∙ sym (map-append f w (joined ws))

  pub bits_mapped : (x : SymValue B) → bits_of (map_bits f x) ≡ map f (bits_of x)
  bits_mapped (sym_value.Int w) = refl
  bits_mapped (sym_value.Bool b) = refl
  bits_mapped (sym_value.List len items) = ap (λ v. map f len ++ v) (joined_mapped items) ∙ sym (map-append f len (joined items))
  bits_mapped (sym_value.Text len items) = ap (λ v. map f len ++ v) (joined_mapped items) ∙ sym (map-append f len (joined items))

  lengths_mapped : (ws : List (List B)) → lengths (map (map f) ws) ≡ lengths ws
  lengths_mapped [] = refl
  lengths_mapped (w ∷ ws) = let head : length (map f w) ≡ length w = length-map w f in let tail : lengths (map (map f) ws) ≡ lengths ws = lengths_mapped ws in cc

  pub form_mapped : (x : SymValue B) → form_of (map_bits f x) ≡ form_of x
  form_mapped (sym_value.Int w) = let e : length (map f w) ≡ length w = length-map w f in cc
  form_mapped (sym_value.Bool b) = refl
  form_mapped (sym_value.List len items) = let e : length (map f len) ≡ length len = length-map len f in let h : lengths (map (map f) items) ≡ lengths items = lengths_mapped items in cc
  form_mapped (sym_value.Text len items) = let e : length (map f len) ≡ length len = length-map len f in let h : lengths (map (map f) items) ≡ lengths items = lengths_mapped items in cc

-- the value that a list of bits begins with is the one within what they read as
pub within_read : {B : Type 0} (l : Limits) (t : Ty) (x : SymValue B) (bs : List B) (f : B → Bool) → form_of x ≡ form_for l t → bits_of x ≡ take (room l t) bs
    → map_bits f x ≡ value_within l t (map f bs)
within_read {B} l t x bs f e h =
    let whole : bits_of x ++ drop (room l t) bs ≡ bs = ap (λ v. v ++ drop (room l t) bs) h ∙ take-append-drop (room l t) bs in
    let parts : map f bs ≡ bits_of (map_bits f x) ++ map f (drop (room l t) bs) =
    ap (map f) (sym whole) ∙ map-append f (bits_of x) (drop (room l t) bs) ∙ ap (λ v. v ++ map f (drop (room l t) bs)) (sym (bits_mapped f x)) in
    sym (ap (value_within l t) parts ∙ within l t (map_bits f x) (map f (drop (room l t) bs)) (form_mapped f x ∙ e))

-- a value of a type that has the first of some bits
abbrev pub IsWithin : {B : Type 0} → Limits → Ty → SymValue B → List B → Type 0
IsWithin l t x bs = (form_of x ≡ form_for l t) × (bits_of x ≡ take (room l t) bs)

pub int_within : {B : Type 0} (l : Limits) (t : Ty) (w bs : List B) → t ≡ ty.Int → print_width l ≤ length bs + 2 → w ≡ take l.width bs → IsWithin l t (sym_value.Int w) bs
int_within l t w bs e h p =
    let fits = room_fits l ty.Int in
    let long : length w ≡ l.width = ap length p ∙ length-take-le l.width bs (omega arith) in
    rw e (cc, p)

pub list_within : {B : Type 0} (l : Limits) (t : Ty) (len : List B) (items : List (List B)) (bs : List B) → t ≡ ty.List → print_width l ≤ length bs + 2
    → len ≡ take 5 bs → items ≡ cut l.width l.cap (drop 5 bs) → IsWithin l t (sym_value.List len items) bs
list_within l t len items bs e h p q =
    let fits = room_fits l ty.List in
    let long : length len ≡ 5 = ap length p ∙ length-take-le 5 bs (omega arith) in
    let widths : lengths items ≡ replicate l.cap l.width = ap lengths q ∙ cut_widths l.width l.cap (drop 5 bs) (omega (arith, length-drop 5 bs)) in
    let joint : joined items ≡ take (l.cap * l.width) (drop 5 bs) = ap joined q ∙ cut_joined l.width l.cap (drop 5 bs) in
    let many : 5 + l.cap * l.width ≡ l.cap * l.width + 5 = omega arith in
    let whole : len ++ joined items ≡ take (l.cap * l.width + 5) bs = ap (λ v. v ++ joined items) p ∙ ap (λ v. take 5 bs ++ v) joint ∙ sym (take-add 5 (l.cap * l.width) bs) ∙ ap (λ k. take k bs) many in
    rw e (cc, whole)

pub text_within : {B : Type 0} (l : Limits) (t : Ty) (len : List B) (items : List (List B)) (bs : List B) → t ≡ ty.Text → print_width l ≤ length bs + 2
    → len ≡ take 5 bs → items ≡ cut 7 l.cap (drop 5 bs) → IsWithin l t (sym_value.Text len items) bs
text_within l t len items bs e h p q =
    let fits = room_fits l ty.Text in
    let long : length len ≡ 5 = ap length p ∙ length-take-le 5 bs (omega arith) in
    let widths : lengths items ≡ replicate l.cap 7 = ap lengths q ∙ cut_widths 7 l.cap (drop 5 bs) (omega (arith, length-drop 5 bs)) in
    let joint : joined items ≡ take (l.cap * 7) (drop 5 bs) = ap joined q ∙ cut_joined 7 l.cap (drop 5 bs) in
    let many : 5 + l.cap * 7 ≡ l.cap * 7 + 5 = omega arith in
    let whole : len ++ joined items ≡ take (l.cap * 7 + 5) bs = ap (λ v. v ++ joined items) p ∙ ap (λ v. take 5 bs ++ v) joint ∙ sym (take-add 5 (l.cap * 7) bs) ∙ ap (λ k. take k bs) many in
    rw e (cc, whole)

-- the number of a type in two bits
kind_back : (t : Ty) → type_of_kind (kind_of t) ≡ t
kind_back ty.Int = refl
kind_back ty.Bool = refl
kind_back ty.List = refl
kind_back ty.Text = refl

two_digits : (t : Ty) → nat_of (nat_eq (kind_of t % 2) 1 ∷ nat_eq (kind_of t / 2) 1 ∷ []) ≡ kind_of t
two_digits ty.Int = refl
two_digits ty.Bool = refl
two_digits ty.List = refl
two_digits ty.Text = refl

pub kind_digits : (t : Ty) (k : ℕ) (a b : Bool) → k ≡ kind_of t → a ≡ nat_eq (k % 2) 1 → b ≡ nat_eq (k / 2) 1 → nat_of (a ∷ b ∷ []) ≡ kind_of t
kind_digits t k a b e p q = rw (p, q, e) (two_digits t)

-- the word of a printed value: the number of its type, its bits, and whatever follows
pub word_front : {B : Type 0} (a b : B) (none one two v xs : List B) → none ≡ [] → one ≡ none ++ a ∷ [] → two ≡ one ++ b ∷ [] → v ≡ two ++ xs → v ≡ (a ∷ b ∷ []) ++ xs
word_front a b none one two v xs e p q h = h ∙ ap (λ u. u ++ xs) (q ∙ ap (λ u. u ++ b ∷ []) (p ∙ ap (λ u. u ++ a ∷ []) e))

pub word_long : {B : Type 0} (l : Limits) (t : Ty) (x : SymValue B) (a b : B) (w : List B) → form_of x ≡ form_for l t → w ≡ (a ∷ b ∷ []) ++ bits_of x → length w ≤ print_width l
word_long l t x a b w e h = omega (arith, ap length h, room_is l t x e, room_fits l t)

pub word_reads : {B : Type 0} (l : Limits) (t : Ty) (x : SymValue B) (rd : B → Bool) (a b : B) (v w rest : List B) → form_of x ≡ form_for l t
    → v ≡ (a ∷ b ∷ []) ++ bits_of x → w ≡ v ++ rest → nat_of (rd a ∷ rd b ∷ []) ≡ kind_of t → word_spelled l (map rd w) ≡ read rd x
word_reads l t x rd a b v w rest e p q k =
    let word : w ≡ a ∷ b ∷ (bits_of x ++ rest) = q ∙ ap (λ u. u ++ rest) p in
    let parts : map rd (bits_of x ++ rest) ≡ bits_of (map_bits rd x) ++ map rd rest = map-append rd (bits_of x) rest ∙ ap (λ u. u ++ map rd rest) (sym (bits_mapped rd x)) in
    ap (λ u. word_spelled l (map rd u)) word
    ∙ ap (λ n. spelled (value_within l (type_of_kind n) (map rd (bits_of x ++ rest)))) k
    ∙ ap (λ s. spelled (value_within l s (map rd (bits_of x ++ rest)))) (kind_back t)
    ∙ ap (λ u. spelled (value_within l t u)) parts
    ∙ ap spelled (within l t (map_bits rd x) (map rd rest) (form_mapped rd x ∙ e))

-- it belongs to a state, and has the width
owns_alike : {S B : Type 0} {owns : S → B → Type 0} {s : S} (n : ℕ) (b : B) → owns s b → OwnsAll owns s (replicate n b)
owns_alike zero b h = owns_none
owns_alike (suc n) b h = owns_both (owns_alone h) (owns_alike n b h)

pub word_made : {S B : Type 0} {owns : S → B → Type 0} {s : S} (l : Limits) (t : Ty) (x : SymValue B) (a b z : B) (n : ℕ) (v w : List B) → form_of x ≡ form_for l t
    → v ≡ (a ∷ b ∷ []) ++ bits_of x → n ≡ print_width l → w ≡ v ++ replicate (n - length v) z → owns s a → owns s b → owns s z → OwnsAll owns s (bits_of x) → IsWordIn owns s (print_width l) w
word_made {S} {B} {owns} {s} l t x a b z n v w e p k q ha hb hz h =
    let long = word_long l t x a b v e p in
    let parts : w ≡ (a ∷ b ∷ []) ++ bits_of x ++ replicate (n - length v) z = q ∙ ap (λ u. u ++ replicate (n - length v) z) p in
    let whole : OwnsAll owns s ((a ∷ b ∷ []) ++ bits_of x ++ replicate (n - length v) z) = owns_both (owns_both (owns_both (owns_alone ha) (owns_alone hb)) h) (owns_alike (n - length v) z hz) in
    record {
      owned = subst (OwnsAll owns s) (sym parts) whole;
      width = ap length q ∙ simp (length-append, length-replicate) (omega arith);
    }
