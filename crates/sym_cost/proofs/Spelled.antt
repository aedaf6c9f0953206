-- What bits spell.
use Rattle.std.proofs.Common.{◌≡◌, ◌∙◌, ℕ, zero, suc, ◌+◌, ◌-◌, ◌≤◌, min, max, Bool, true, false}
use Rattle.std.proofs.Common.{List, [], ◌∷◌, ◌++◌, replicate, length, length-append, map, ltb, pos}
use Rattle.std.proofs.Common.{ℤ, ◌+ℤ◌, refl, sym, ap, subst, arith}
use Rattle.std.proofs.Math.Dec.{leb-suc-zero}
use Rattle.std.proofs.lemmas.Bool.Decides.{nat_tests}
use Rattle.std.proofs.lemmas.List.{append-nil, length-map, length-replicate}
use Rattle.std.proofs.lemmas.List.{replicate-append-replicate}
use Rattle.bit_words.specs.Words.{Holds, fits, int_of}
use Rattle.sym_cost.specs.declared.notation.Notation.{Notation}
use Rattle.sym_cost.specs.declared.notation.Notation.TheVariants as by
use Rattle.sym_cost.specs.Notations.{HasRoom, HasWidth, Spells, counter}
use Rattle.sym_cost.proofs.Unary.{filled_counter}

nothing_counted : (bound : ℕ) → replicate bound false ≡ counter bound 0
nothing_counted zero = refl
nothing_counted (suc bound) =
    let e : suc bound ≡ bound + 1 = omega arith in
    ap (λ k. replicate k false) e ∙ sym (replicate-append-replicate bound 1 false)
    ∙ ap (λ v. v ++ false ∷ []) (nothing_counted bound)
    ∙ ap (λ d. counter bound 0 ++ d ∷ []) (sym (leb-suc-zero bound))

-- bits that are all false
pub spells_nothing : (form : Notation) (bits : List Bool) (width : ℕ) → HasWidth form width
    → bits ≡ replicate width false → Spells form bits 0
spells_nothing by.Binary bits width h e = ap int_of (e ∙ ap (λ k. replicate k false) h)
spells_nothing (by.Unary bound) bits width h e =
    let long : length bits ≡ width = ap length e ∙ length-replicate width false in (
      e ∙ nothing_counted width ∙ ap (λ k. counter k 0) (sym long),
      omega arith,
    )

-- and false bits behind others
padded_with : (form : Notation) (bits : List Bool) (more n : ℕ) → HasWidth form (length bits)
    → HasWidth form (length bits + more) → Spells form bits n
    → Spells form (bits ++ replicate more false) n
padded_with by.Binary bits more n h k x =
    let none : more ≡ 0 = omega (arith, h, k) in
    ap int_of (ap (λ j. bits ++ replicate j false) none ∙ append-nil bits) ∙ x
padded_with (by.Unary bound) bits more n h k x =
    let long : length (bits ++ replicate more false) ≡ length bits + more =
    length-append bits (replicate more false)
    ∙ ap (λ j. length bits + j) (length-replicate more false) in
    let few = x.1 in (
      ap (λ v. v ++ replicate more false) x.0
          ∙ filled_counter (length bits) more n (omega (arith, few, k))
          ∙ ap (λ j. counter j n) (sym long),
      omega (arith, few, long),
    )

pub padded_spelled : {B : Type 0} (rd : B → Bool) (form : Notation) (w : List B) (width n : ℕ)
    → HasWidth form (length w) → HasWidth form width → length w ≤ width
    → Spells form (map rd w) n
    → Spells form (map rd w ++ replicate (width - length w) false) n
padded_spelled rd form w width n h k less x =
    let long = length-map w rd in
    let whole : width ≡ length (map rd w) + (width - length w) = omega (arith, long, less) in
    padded_with form (map rd w) (width - length w) n (subst (HasWidth form) (sym long) h)
    (subst (HasWidth form) whole k) x

pub width_of_both : (form : Notation) (a b : ℕ) → HasWidth form a → HasWidth form b
    → HasWidth form (max a b)
width_of_both by.Binary a b h k = omega (arith, h, k)
width_of_both (by.Unary bound) a b h k = omega (arith, h, k)

small : (n : ℕ) → n ≤ 4096 → ltb n 8192 ≡ true
small n h = grind (arith, nat_tests)

-- a small number that fits is read
pub small_is : (r z : ℤ) (w n : ℕ) → w ≡ 14 → n ≤ 4096 → z ≡ pos n → Holds r w z → r ≡ pos n
small_is r z w n e h f k =
    let held : fits 14 (pos n) ≡ true → r ≡ pos n = rw (e, f) at k in held (small n h)

pub sum_is : (r a b : ℤ) (w m n : ℕ) → w ≡ 14 → m + n ≤ 4096 → a ≡ pos m → b ≡ pos n
    → Holds r w (a +ℤ b) → r ≡ pos (m + n)
sum_is r a b w m n e h f k held = small_is r (a +ℤ b) w (m + n) e h (λ i. f i +ℤ k i) held

pub room_below : (form : Notation) (m n : ℕ) → m ≤ n → HasRoom form n → HasRoom form m
room_below by.Binary m n h k = omega arith
room_below (by.Unary bound) m n h k = tt

-- a sum in binary
pub sum_spelled : (form : Notation) (a b r : List Bool) (w m n : ℕ) → form ≡ by.Binary
    → HasWidth form w → HasRoom form (m + n) → Spells form a m → Spells form b n
    → Holds (int_of r) w (int_of a +ℤ int_of b) → Spells form r (m + n)
sum_spelled by.Binary a b r w m n e k room x y held = sum_is (int_of r) (int_of a) (int_of b) w m n
    k room x y held
sum_spelled (by.Unary bound) a b r w m n e k room x y held = absurd cc

-- and of a given number
pub raised_spelled : (form : Notation) (own inner r : List Bool) (w cost n : ℕ) (z : ℤ)
    → form ≡ by.Binary → w ≡ 14 → HasRoom form (cost + n) → Spells form inner n
    → z ≡ pos (min cost 4096) → Holds (int_of own) 14 z
    → Holds (int_of r) w (int_of own +ℤ int_of inner) → Spells form r (cost + n)
raised_spelled by.Binary own inner r w cost n z e k room x f one held =
    let few : cost ≤ 4096 = omega arith in
    let least : min cost 4096 ≡ cost = omega arith in
    sum_is (int_of r) (int_of own) (int_of inner) w cost n k room (small_is (int_of own) z 14 cost
    refl few (f ∙ ap pos least) one) x held
raised_spelled (by.Unary bound) own inner r w cost n z e k room x f one held = absurd cc
