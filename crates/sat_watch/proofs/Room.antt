-- How many entries a trail has.
use Rattle.std.proofs.Common.{◌≡◌, ◌∙◌, ◌+◌, ◌-◌, ◌<◌, ◌≤◌, Bool, ℕ, suc, true, false, not, List, [], ◌∷◌, length, Option, Some, None, arith, refl}
use Rattle.std.specs.Bool.{beq}
use Rattle.std.specs.List.{sum_by}
use Rattle.std.specs.Option.{option_map_or}
use Rattle.std.proofs.lemmas.List.Sums.{get_or-le-sum_by}
use Rattle.clause_base.specs.declared.lit.Lit.{Lit}
use Rattle.clause_base.specs.Formulas.{in_range}
use Rattle.clause_base.specs.Literals.{opposite}
use Rattle.sat_watch.specs.declared.trail.Entry.{Entry}
use Rattle.sat_watch.specs.Trails.{AreTrue, decided, is_open, literals_of, says, standing, value_at}
use Rattle.sat_watch.proofs.Ordered.{range_parts, unset_parts}

no_sign : (b p : Bool) → beq b p ≡ false → beq b (not p) ≡ false → ⊥
no_sign true true here there = cc
no_sign true false here there = cc
no_sign false true here there = cc
no_sign false false here there = cc

open_value : (value : Option Bool) (l : Lit) → says l value ≡ false → says (opposite l) value ≡ false → is_open value ≡ 1
open_value None l here there = refl
open_value (Some b) l here there = absurd (no_sign b l.positive here there)

-- where a variable has no value there is room for an entry
pub room_left : (values : List (Option Bool)) (es : List Entry) (l : Lit) → AreTrue values es → in_range (length values) l ≡ true → standing (literals_of es) l ≡ None → length es < length values
room_left values es l are range unset =
    let bounds = range_parts (length values) l range in
    let none = unset_parts (literals_of es) l unset in
    let low : 0 < l.var = bounds.0 in
    let high : l.var ≤ length values = bounds.1 in
    let one : is_open (value_at values l.var) ≡ 1 = open_value (value_at values l.var) l (are.agree l low high ∙ none.0) (are.agree (opposite l) low high ∙ none.1) in
    let least : is_open (value_at values l.var) ≤ sum_by is_open values = get_or-le-sum_by is_open values (l.var - 1) None (omega arith) in
    let counted : length es + sum_by is_open values ≡ length values = are.counted in
    omega arith

few_by : (older : List Entry) (l : Lit) (reason : Option ℕ) → length (decided older) ≤ length older → length (option_map_or (λ number. decided older) reason (l ∷ decided older)) ≤ suc (length older)
few_by older l (Some number) h = omega arith
few_by older l None h = omega arith

pub decided_few : (es : List Entry) → length (decided es) ≤ length es
decided_few [] = omega arith
decided_few (e ∷ older) = few_by older e.lit e.reason (decided_few older)
