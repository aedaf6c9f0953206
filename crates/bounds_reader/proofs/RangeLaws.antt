-- What the ranges say of the numbers of a file.
use Rattle.std.proofs.Common.{◌≡◌, ◌≤◌, ◌+◌, ℕ, Bool, true, false, cond, List, [], ◌∷◌, map, length, Option, None, Some, refl, sym, ap, ◌∙◌, ℤ, pos, negsuc, arith}
use Rattle.std.specs.Prelude.{◌&&◌, ◌||◌, nat_abs, nat_le, int_le}
use Rattle.std.specs.List.{list_all}
use Rattle.std.proofs.lemmas.Bool.{false≢true, and_parts, and_from, or_parts, leb-true, leb-false, not-false}
use Rattle.std.proofs.lemmas.List.{length-map}
use Rattle.mpy_tree.specs.declared.limits.Limits.{Limits}
use Rattle.mpy_tree.specs.NameLengths.{is_long}
use Rattle.bounds_reader.specs.declared.params.Param.{Param}
use Rattle.bounds_reader.specs.Forms.{Form, int, bool, list, text, form_of}
use Rattle.bounds_reader.specs.Ranges.{are_numbers, are_lengths, is_alphabet, is_in_range, are_in_range}
use Rattle.bounds_reader.specs.Files.{On, ParamLine, BoundsFile, is_outside, param_range_fault, compare_range_fault, or_line, range_fault, param_limit_fault, limit_fault, SayLimits}
use Rattle.bounds_reader.specs.Views.{IsNatural, HasLengths, HaveLengths, IsWithin, MayCompare, AreWithin}

inside : (least most : ℕ) (z : ℤ) → is_outside least most z ≡ false → IsWithin least most z
inside least most (pos n) h =
    let both = and_parts (int_le (pos least) (pos n)) (int_le (pos n) (pos most)) (not-false _ h) in
    record { value = refl; least = leb-true least n both.0; most = leb-true n most both.1 }
inside least most (negsuc n) h = absurd (false≢true (sym h))

passed : (test : Bool) (line : ℕ) (others : Option ℕ) → cond test (Some line) others ≡ None → (test ≡ false) × (others ≡ None)
passed true line others e = absurd cc
passed false line others e = (refl, e)

none_of_both : (a b : Option ℕ) → or_line a b ≡ None → (a ≡ None) × (b ≡ None)
none_of_both None b e = (refl, e)
none_of_both (Some n) b e = absurd cc

compared_within : (o : Option (On ℤ)) → compare_range_fault o ≡ None → MayCompare o
compared_within None e = tt
compared_within (Some z) e = inside 1 8 z.value (passed (is_outside 1 8 z.value) z.line None e).0

-- no fault of the limits, of parameters and of what is compared
pub record NoRangeFault (f : BoundsFile) : Type 0 where
  pub width : is_outside 3 16 f.width.value ≡ false
  pub turns : is_outside 1 32 f.turns.value ≡ false
  pub depth : is_outside 1 8 f.depth.value ≡ false
  pub cap : is_outside 1 16 f.cap.value ≡ false
  pub params : param_range_fault (nat_abs f.width.value) (nat_abs f.cap.value) f.params ≡ None
  pub compared : compare_range_fault f.compared ≡ None

no_range_fault : (f : BoundsFile) → range_fault f ≡ None → NoRangeFault f
no_range_fault f e =
    let width = passed (is_outside 3 16 f.width.value) f.width.line _ e in
    let turns = passed (is_outside 1 32 f.turns.value) f.turns.line _ width.1 in
    let depth = passed (is_outside 1 8 f.depth.value) f.depth.line _ turns.1 in
    let cap = passed (is_outside 1 16 f.cap.value) f.cap.line _ depth.1 in
    let rest = none_of_both (param_range_fault (nat_abs f.width.value) (nat_abs f.cap.value) f.params) (compare_range_fault f.compared) cap.1 in
    record { width = width.0; turns = turns.0; depth = depth.0; cap = cap.0; params = rest.0; compared = rest.1 }

pub are_within : (f : BoundsFile) → range_fault f ≡ None → AreWithin f
are_within f e =
    let none = no_range_fault f e in
    record {
      width = inside 3 16 f.width.value none.width;
      turns = inside 1 32 f.turns.value none.turns;
      depth = inside 1 8 f.depth.value none.depth;
      cap = inside 1 16 f.cap.value none.cap;
      compared = compared_within f.compared none.compared;
    }

param_ranges : (f : BoundsFile) → range_fault f ≡ None → param_range_fault (nat_abs f.width.value) (nat_abs f.cap.value) f.params ≡ None
param_ranges f e = (no_range_fault f e).params

-- forms

lengths_natural : (cap : ℕ) (least most : ℤ) → are_lengths cap least most ≡ true → IsNatural least × IsNatural most
lengths_natural cap (negsuc n) most h = absurd (false≢true h)
lengths_natural cap (pos n) (pos m) h = (refl, refl)
lengths_natural cap (pos n) (negsuc m) h =
    let both = and_parts (int_le (pos 0) (pos n) && int_le (pos n) (negsuc m)) (int_le (negsuc m) (pos cap)) h in
    absurd (false≢true (and_parts (int_le (pos 0) (pos n)) (int_le (pos n) (negsuc m)) both.0).1)

form_lengths : (width cap : ℕ) (f : Form) → is_in_range width cap f ≡ true → HasLengths f
form_lengths width cap (int low high) h = tt
form_lengths width cap bool h = tt
form_lengths width cap (list least most low high) h =
    lengths_natural cap least most (and_parts (are_lengths cap least most) (are_numbers width low high) h).0
form_lengths width cap (text least most alphabet) h =
    lengths_natural cap least most (and_parts (are_lengths cap least most) (is_alphabet alphabet) h).0

none_out : (test : Bool) (line : ℕ) (others : Option ℕ) → cond test others (Some line) ≡ None → (test ≡ true) × (others ≡ None)
none_out true line others e = (refl, e)
none_out false line others e = absurd cc

all_lengths : (width cap : ℕ) (ps : List (On ParamLine)) → param_range_fault width cap ps ≡ None → HaveLengths ps
all_lengths width cap [] e = tt
all_lengths width cap (p ∷ ps) e =
    let first = none_out (is_in_range width cap p.value.form) p.line (param_range_fault width cap ps) e in
    (form_lengths width cap p.value.form first.0, all_lengths width cap ps first.1)

pub file_lengths : (f : BoundsFile) → range_fault f ≡ None → HaveLengths f.params
file_lengths f e = all_lengths (nat_abs f.width.value) (nat_abs f.cap.value) f.params (param_ranges f e)

all_in_range : (width cap : ℕ) (ps : List (On ParamLine)) → param_range_fault width cap ps ≡ None → list_all (is_in_range width cap) (map (λ p. p.value.form) ps) ≡ true
all_in_range width cap [] e = refl
all_in_range width cap (p ∷ ps) e =
    let first = none_out (is_in_range width cap p.value.form) p.line (param_range_fault width cap ps) e in
    and_from _ _ first.0 (all_in_range width cap ps first.1)

forms_of : (width cap : ℕ) (ps : List Param) → list_all (λ p. is_in_range width cap (form_of p)) ps ≡ list_all (is_in_range width cap) (map form_of ps)
forms_of width cap [] = refl
forms_of width cap (p ∷ ps) = ap (λ b. is_in_range width cap (form_of p) && b) (forms_of width cap ps)

same_natural : (n : ℕ) (z : ℤ) → z ≡ pos n → nat_abs z ≡ n
same_natural n z e = ap nat_abs e

-- parameters of a file whose numbers are in their ranges
pub params_in_range : (f : BoundsFile) (l : Limits) (ps : List Param) → range_fault f ≡ None → SayLimits f l → map form_of ps ≡ map (λ p. p.value.form) f.params → are_in_range l ps ≡ true
params_in_range f l ps e says same =
    let width = same_natural l.width f.width.value says.width in
    let cap = same_natural l.cap f.cap.value says.cap in
    forms_of l.width l.cap ps ∙ ap (list_all (is_in_range l.width l.cap)) same
    ∙ ap (λ w. list_all (is_in_range w l.cap) (map (λ p. p.value.form) f.params)) (sym width)
    ∙ ap (λ c. list_all (is_in_range (nat_abs f.width.value) c) (map (λ p. p.value.form) f.params)) (sym cap)
    ∙ all_in_range (nat_abs f.width.value) (nat_abs f.cap.value) f.params (param_ranges f e)

-- limits

few_from : (before : ℕ) (ps : List (On ParamLine)) → param_limit_fault before ps ≡ None → before ≤ 4 → before + length ps ≤ 4
few_from before [] e h = omega arith
few_from before (p ∷ ps) e h =
    let first = passed (nat_le 4 before || is_long p.value.name) p.line (param_limit_fault (before + 1) ps) e in
    let few = leb-false 4 before (or_parts (nat_le 4 before) (is_long p.value.name) first.0).0 in
    let more = few_from (before + 1) ps first.1 (omega arith) in
    omega (arith, more)

pub within_limits : (f : BoundsFile) → limit_fault f ≡ None → (is_long f.entry.value ≡ false) × (length f.params ≤ 4)
within_limits f e =
    let entry = passed (is_long f.entry.value) f.entry.line (param_limit_fault 0 f.params) e in
    let few = few_from 0 f.params entry.1 (omega arith) in
    (entry.0, omega (arith, few))

pub few_params : (f : BoundsFile) (ps : List Param) → limit_fault f ≡ None → map form_of ps ≡ map (λ p. p.value.form) f.params → length ps ≤ 4
few_params f ps e same =
    let few = (within_limits f e).1 in
    let len : length ps ≡ length f.params = sym (length-map ps form_of) ∙ ap length same ∙ length-map f.params (λ p. p.value.form) in
    omega (arith, few, len)
