-- The messages of texts: one for each, piece by piece.
use Rattle.std.proofs.Common.{◌≡◌, ◌≢◌, ◌≤◌, ℕ, zero, suc, ◌-◌, ◌+◌, length, find, nat_eq, List, [], ◌∷◌, ◌++◌, take, drop}
use Rattle.std.proofs.Common.{Option, None, Some, Bool, true, false, cond, refl, sym, ap, subst, ◌∙◌, arith, get_or, ◌<◌, All, lit<, lit≤, length-drop, append_assoc}
use Rattle.std.specs.Cmp.Lexicographic.{pointwise}
use Rattle.std.proofs.lemmas.List.Elements.{All-more}
use Rattle.std.proofs.lemmas.List.{take_all}
use Rattle.std.specs.List.{starts_with}
use Rattle.std.proofs.lemmas.Bool.Decides.{Decides-eqb}
use Rattle.std.proofs.lemmas.Slice.Eq.{starts_is, strip_prefix_is}
use Rattle.feedback_text.specs.declared.holes.Hole.{Hole}
use Rattle.feedback_text.specs.declared.holes.Hole.TheVariants as hole
use Rattle.feedback_text.specs.Messages.{hole_text, BeginsNoHole, Fills, at_end, at_hole, at_byte}
use Rattle.feedback_text.specs.Messages.{hole_at, holes, filled, filled_behind, given, bytes_behind, FillsAlone}

-- a hole is filled, and then what stands behind it
pub filled_at_hole : (f : Hole → List ℕ) (h : Hole) (rest : List ℕ) → filled f (hole_text h ++ rest) ≡ f h ++ filled f rest
filled_at_hole f hole.Line rest = refl
filled_at_hole f hole.Old rest = refl
filled_at_hole f hole.New rest = refl
filled_at_hole f hole.Cost rest = refl

pub filled_hole : (f : Hole → List ℕ) (h : Hole) (text rest : List ℕ) → text ≡ hole_text h ++ rest → filled f text ≡ f h ++ filled f rest
filled_hole f h text rest e = ap (filled f) e ∙ filled_at_hole f h rest

passes : {A : Type 0} (p : A → Bool) (xs : List A) (x : A) → find p xs ≡ Some x → p x ≡ true
passes p [] x e = cc
passes p (y ∷ ys) x e =
    let P : Bool → Type 0 = λ b. p y ≡ b → cond b (Some y) (find p ys) ≡ Some x → p x ≡ true in
    (elim (p y) as P [ true ↦ λ is found. cc | false ↦ λ is found. passes p ys x found ]) refl e

-- the hole that is found begins the text
pub begins : (text : List ℕ) (h : Hole) → hole_at text ≡ Some h → text ≡ hole_text h ++ drop (length (hole_text h)) text
begins text h e = (starts_is Decides-eqb text (hole_text h) (starts_with nat_eq text (hole_text h)) refl).0 (passes (λ g. starts_with nat_eq text (hole_text g)) holes h e)

none_begins : (text : List ℕ) → BeginsNoHole text → (o : Option Hole) → hole_at text ≡ o → o ≡ None
none_begins text none None e = refl
none_begins text none (Some h) e = absurd (none h _ (begins text h e))

-- a byte that begins no hole stays
pub filled_at_byte : (f : Hole → List ℕ) (c : ℕ) (rest : List ℕ) → BeginsNoHole (c ∷ rest) → filled f (c ∷ rest) ≡ c ∷ filled f rest
filled_at_byte f c rest none =
    ap (λ o. given f c o ++ filled_behind f (bytes_behind o) rest) (none_begins (c ∷ rest) none (hole_at (c ∷ rest)) refl)

-- what fills a text is the message of the function
pub the_filled : (f : Hole → List ℕ) (text message : List ℕ) → Fills f text message → message ≡ filled f text
the_filled f _ _ at_end = refl
the_filled f text _ (at_hole h e inner) = ap (λ m. f h ++ m) (the_filled f _ _ inner) ∙ sym (filled_hole f h text _ e)
the_filled f _ _ (at_byte {c} {rest} none inner) = ap (λ m. c ∷ m) (the_filled f _ _ inner) ∙ sym (filled_at_byte f c rest none)

-- the same of a byte that was added, and what stands behind it in a slice
pub filled_past : (f : Hole → List ℕ) (text now new whole : List ℕ) (c d n : ℕ) → 1 ≤ length text → BeginsNoHole text → n ≡ length text - 1
    → new ≡ now ++ c ∷ [] → c ≡ get_or text 0 d → now ++ filled f text ≡ whole → new ++ filled f (take n (drop 1 text)) ≡ whole
filled_past f [] now new whole c d n h none at_n push is all = absurd (omega arith)
filled_past f (b ∷ rest) now new whole c d n h none at_n push is all =
    let e = filled_at_byte f b rest none in
    rw (push, is, take_all n rest (omega arith)) (append_assoc now (b ∷ []) (filled f rest) ∙ ap (λ m. now ++ m) (sym e) ∙ all)

abbrev pub IsNone : List ℕ → Hole → Type 0
IsNone text h = (rest : List ℕ) → text ≢ hole_text h ++ rest

pub one_more : (text word : List ℕ) (i : ℕ) (d : Hole) → i < 4 → All (IsNone text) (take i holes) → word ≡ hole_text (get_or holes i d)
    → pointwise nat_eq (take (length word) text) word ≡ false → All (IsNone text) (take (i + 1) holes)
one_more text word i d h all is differs =
    let P : List ℕ → Type 0 = λ w. (rest : List ℕ) → text ≢ w ++ rest in
    All-more (IsNone text) holes i d h all (subst P is (strip_prefix_is Decides-eqb text word None differs))

pub none_of_all : (text : List ℕ) (i : ℕ) → 4 ≤ i → All (IsNone text) (take i holes) → BeginsNoHole text
none_of_all text i h all =
    let each : All (IsNone text) holes = subst (All (IsNone text)) (take_all i holes h) all in
    λ g. (elim g as (IsNone text) [
      | hole.Line ↦ each 0 hole.Line (lit< tt)
      | hole.Old ↦ each 1 hole.Line (lit< tt)
      | hole.New ↦ each 2 hole.Line (lit< tt)
      | hole.Cost ↦ each 3 hole.Line (lit< tt)
    ])

found_at_hole : (g : Hole) (rest : List ℕ) → hole_at (hole_text g ++ rest) ≡ Some g
found_at_hole hole.Line rest = refl
found_at_hole hole.Old rest = refl
found_at_hole hole.New rest = refl
found_at_hole hole.Cost rest = refl

-- where none is found, none begins the text
none_there : (text : List ℕ) → hole_at text ≡ None → BeginsNoHole text
none_there text e g rest is = let found = ap hole_at is ∙ found_at_hole g rest in cc

has_bytes : (g : Hole) → 1 ≤ length (hole_text g)
has_bytes hole.Line = lit≤ tt
has_bytes hole.Old = lit≤ tt
has_bytes hole.New = lit≤ tt
has_bytes hole.Cost = lit≤ tt

step : (f : Hole → List ℕ) (n : ℕ) (c : ℕ) (rest : List ℕ) (o : Option Hole) → hole_at (c ∷ rest) ≡ o → length (c ∷ rest) ≤ suc n
    → ((text : List ℕ) → length text ≤ n → Fills f text (filled f text)) → Fills f (c ∷ rest) (filled f (c ∷ rest))
step f n c rest None e h shorter =
    let none = none_there (c ∷ rest) e in
    rw (filled_at_byte f c rest none) (at_byte none (shorter rest (omega arith)))
step f n c rest (Some g) e h shorter =
    let is = begins (c ∷ rest) g e in
    rw (filled_hole f g (c ∷ rest) _ is) (at_hole g is (shorter _ (omega (arith, has_bytes g, length-drop (length (hole_text g)) (c ∷ rest)))))

fills : (f : Hole → List ℕ) (n : ℕ) (text : List ℕ) → length text ≤ n → Fills f text (filled f text)
fills f n [] h = at_end
fills f zero (c ∷ rest) h = absurd (omega arith)
fills f (suc n) (c ∷ rest) h = step f n c rest (hole_at (c ∷ rest)) refl h (fills f n)

pub fills_alone : (f : Hole → List ℕ) (text : List ℕ) → FillsAlone f text
fills_alone f text message = (the_filled f text message, λ e. subst (Fills f text) (sym e) (fills f (length text) text (omega arith)))
