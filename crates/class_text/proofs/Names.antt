-- Names of a list: visible ASCII, so without the byte that ends a line.
use Rattle.std.proofs.Common.{◌≡◌, ◌≢◌, ℕ, zero, suc, ◌<◌, ◌≤◌, ◌==◌, true, false, not, ◌&&◌, nat_le, List, [], ◌∷◌, ◌++◌, length, get_or, refl, sym, ap, ◌∙◌, arith}
use Rattle.std.specs.List.{list_all}
use Rattle.std.specs.Str.{IsUtf8}
use Rattle.std.proofs.lemmas.Bool.{leb-true, ne_eqb}
use Rattle.std.proofs.lemmas.Str.{IsUtf8-from_ascii}
use Rattle.step_lines.specs.Lines.{lacks}
use Rattle.step_lines.proofs.Apart.{both, two, cut}
use Rattle.class_text.specs.Listings.{is_name, is_name_byte}

byte_range : (c : ℕ) → is_name_byte c ≡ true → (33 ≤ c) × (c ≤ 126)
byte_range c h =
    let r = both (nat_le 33 c) (nat_le c 126) h in
    (leb-true 33 c r.0, leb-true c 126 r.1)

visible : (name : List ℕ) → is_name name ≡ true → list_all is_name_byte name ≡ true
visible name h =
    let r = both (nat_le 1 (length name)) (nat_le (length name) 255 && list_all is_name_byte name) h in
    (both (nat_le (length name) 255) (list_all is_name_byte name) r.1).1

ascii : (name : List ℕ) → list_all is_name_byte name ≡ true → (i : ℕ) → get_or name i 0 < 128
ascii [] h i = omega arith
ascii (c ∷ cs) h zero = let r = byte_range c (both (is_name_byte c) (list_all is_name_byte cs) h).0 in omega (arith, r.1)
ascii (c ∷ cs) h (suc i) = ascii cs (both (is_name_byte c) (list_all is_name_byte cs) h).1 i

unended : (name : List ℕ) → list_all is_name_byte name ≡ true → lacks 10 name ≡ true
unended [] h = refl
unended (c ∷ cs) h =
    let r = both (is_name_byte c) (list_all is_name_byte cs) h in
    let low = (byte_range c r.0).0 in
    let differ : c ≢ 10 = omega (arith, low) in
    two (not (c == 10)) (lacks 10 cs) (ap not (ne_eqb c 10 differ)) (unended cs r.1)

pub name_utf8 : (name : List ℕ) → is_name name ≡ true → IsUtf8 name
name_utf8 name h = IsUtf8-from_ascii name (ascii name (visible name h))

pub name_lacks : (name : List ℕ) → is_name name ≡ true → lacks 10 name ≡ true
name_lacks name h = unended name (visible name h)

-- what stands up to the end of a line is no name, so that no name stands there
pub no_name : (text piece rest name more : List ℕ) → text ≡ piece ++ (10 ∷ rest) → lacks 10 piece ≡ true → is_name piece ≡ false
    → is_name name ≡ true → text ≡ name ++ (10 ∷ more) → ⊥
no_name text piece rest name more joined apart bad good e =
    let same = cut 10 piece name (10 ∷ rest) (10 ∷ more) apart (name_lacks name good) refl refl (sym joined ∙ e) in
    let is : is_name piece ≡ is_name name = ap is_name same.front in
    cc
