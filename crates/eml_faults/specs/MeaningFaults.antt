-- Which rules mean nothing: by their metavariables, their primes, or the calls of their right
-- sides.
use Rattle.std.specs.Prelude.{ℕ, Bool, true, false, not, ◌&&◌, ◌||◌, ◌==◌, List, [], ◌∷◌, ◌++◌}
use Rattle.std.specs.Prelude.{length, Option, Some, None, if◌then◌else◌}
use Rattle.std.specs.List.{list_any}
use Rattle.mpy_tree.specs.declared.refusal.Cause.{Cause}
use Rattle.mpy_tree.specs.declared.refusal.Cause.TheVariants as cause
use Rattle.mpy_tree.specs.declared.builtins.Builtin.{Builtin}
use Rattle.mpy_tree.specs.Trees as kind
use Rattle.mpy_tree.specs.Values.{same_bytes}
use Rattle.mpy_tree.specs.Builtins.{builtin_of, takes}
use Rattle.choice_tree.specs.declared.rules.Meta.{Meta}
use Rattle.choice_tree.specs.declared.rules.Place.{Place}
use Rattle.choice_tree.specs.declared.rules.Place.TheVariants as place
use Rattle.choice_tree.specs.Templates.{Correction, Template, made, hole, exactly, has_prime}
use Rattle.choice_tree.specs.Drafts.{same_meta}
use Rattle.eml_faults.specs.declared.meanings.MeaningFault.{MeaningFault}
use Rattle.eml_match.specs.Parts.{template_list}
use Rattle.eml_faults.specs.Sides.{nodes, metas}

-- the target of a place is a metavariable too
abbrev pub target : Place → List Meta
target (place.Assign m) = m ∷ []
target (place.For m) = m ∷ []
target _ = []

-- those of the left side, the target among them
abbrev pub left_metas : Correction → List Meta
left_metas r = target r.place ++ metas r.left

-- one of them, primed or not
abbrev pub is_among : List Meta → Meta → Bool
is_among ms m = list_any (same_meta m) ms

-- a metavariable twice, primed or not
abbrev pub are_twice : List Meta → Bool
are_twice [] = false
are_twice (m ∷ ms) = is_among ms m || are_twice ms

-- the name of an earlier rule
abbrev pub is_named_before : List Correction → Correction → Bool
is_named_before before r = list_any (λ q. same_bytes r.name q.name) before

-- a metavariable twice in the left side, or the name of an earlier rule
abbrev pub is_twice : List Correction → Correction → Bool
is_twice before r = are_twice (left_metas r) || is_named_before before r

-- equal metavariables, both with a prime or both without one
abbrev pub equal_metas : Meta → Meta → Bool
equal_metas m n = same_meta m n && (if m.primed then n.primed else not n.primed)

-- equal places with equal targets
abbrev pub equal_places : Place → Place → Bool
equal_places place.Anywhere place.Anywhere = true
equal_places place.Return place.Return = true
equal_places (place.Assign m) (place.Assign n) = equal_metas m n
equal_places place.If place.If = true
equal_places place.While place.While = true
equal_places (place.For m) (place.For n) = equal_metas m n
equal_places _ _ = false

abbrev pub is_primed : Meta → Bool
is_primed m = m.primed

-- none of these, primed or not
abbrev pub is_strange : List Meta → Meta → Bool
is_strange ms m = not (is_among ms m)

-- A metavariable of the right side that isn't one of the left side, a prime in the left side, or
-- another place or target on the right.
abbrev pub is_unbound : Correction → Bool
is_unbound r =
    list_any (is_strange (left_metas r)) (metas r.right)
    || list_any is_primed (left_metas r) || not (equal_places r.place r.right_place)

-- a primed $c or $o
abbrev pub is_primed_operator : Meta → Bool
is_primed_operator m = m.primed && (m.letter == 99 || m.letter == 111)

-- a left side without a place that is one metavariable alone
abbrev pub is_bare : Place → Template → Bool
is_bare place.Anywhere (hole m) = true
is_bare _ _ = false

-- a prime in the right side, where the left side is one metavariable alone
abbrev pub has_stray_prime : Correction → Bool
has_stray_prime r = is_bare r.place r.left && has_prime r.right

abbrev pub is_misprimed : Correction → Bool
is_misprimed r = list_any is_primed_operator (metas r.right) || has_stray_prime r

abbrev pub is_no_builtin : Option Builtin → Bool
is_no_builtin None = true
is_no_builtin (Some b) = false

-- a builtin that doesn't take so many arguments
abbrev pub takes_others : Option Builtin → ℕ → Bool
takes_others None n = false
takes_others (Some b) n = not (takes b n)

-- a call of a name that is no builtin
abbrev pub is_unknown_call : Template → Bool
is_unknown_call (made (exactly (kind.Call f)) ps) = is_no_builtin (builtin_of f)
is_unknown_call _ = false

-- a call of a builtin with another number of arguments
abbrev pub is_miscall : Template → Bool
is_miscall (made (exactly (kind.Call f)) ps) =
    takes_others (builtin_of f) (length (template_list ps))
is_miscall _ = false

-- the cause by the calls among the nodes of a right side
abbrev pub call_cause : List Template → Option Cause
call_cause ps =
    if list_any is_unknown_call ps then Some cause.Name
    else if list_any is_miscall ps then Some cause.Arity
    else None

-- The first cause for which a rule behind others is refused.
abbrev pub meaning_cause : List Correction → Correction → Option Cause
meaning_cause before r =
    if is_twice before r then Some cause.RuleTwice
    else if is_unbound r then Some cause.RuleMeta
    else if is_misprimed r then Some cause.RulePrime
    else call_cause (nodes r.right)

-- the line of the rule with a cause
abbrev pub fault_or : Option Cause → ℕ → Option MeaningFault → Option MeaningFault
fault_or None line rest = rest
fault_or (Some c) line rest = Some (record { cause = c; line = line })

-- the first rule that has a cause, where others stand before
abbrev pub meaning_fault_behind : List Correction → List Correction → Option MeaningFault
meaning_fault_behind before [] = None
meaning_fault_behind before (r ∷ rs) =
    fault_or (meaning_cause before r) r.line (meaning_fault_behind (before ++ r ∷ []) rs)

abbrev pub meaning_fault : List Correction → Option MeaningFault
meaning_fault rs = meaning_fault_behind [] rs
