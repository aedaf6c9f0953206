-- How deep right sides are.
use Rattle.std.proofs.Common.{◌≡◌, ℕ, zero, suc, ◌+◌, ◌*◌, ◌<◌, ◌≤◌, max, length, get_or, List, []}
use Rattle.std.proofs.Common.{◌∷◌, Option, Some}
use Rattle.std.proofs.Common.{None, slice_get, ap, inl, inr, arith}
use Rattle.mpy_tree.specs.Trees.{Tree}
use Rattle.choice_tree.specs.declared.rules.Place.{Place}
use Rattle.choice_tree.specs.Matching.{Bindings}
use Rattle.choice_tree.specs.Rewriting.{In}
use Rattle.choice_tree.specs.Templates.{Template, Templates, made, hole, one_of, some_local}
use Rattle.choice_tree.specs.Templates.{no_templates, template_and, Correction}
use Rattle.eml_match.specs.MatchedRules.{MatchedRule, matched_of, and_matched, matched_from}
use Rattle.eml_match.specs.MatchedRules.{rule_matches}
use Rattle.eml_match.specs.Parts.{template_list, template_parts}
use Rattle.eml_match.specs.Resolutions.{depth, depths}
use Rattle.eml_instances.specs.declared.listing.Alternative.{Alternative}
use Rattle.eml_instances.specs.Alternatives.{AllAmong}
use Rattle.eml_rewrite.specs.Sides.{NoDeeper, deepest}

below_depths : (ps : Templates) (i : ℕ) (q : Template) → Some q ≡ slice_get (template_list ps) i
    → depth q ≤ depths ps
below_depths no_templates i q h = cc
below_depths (template_and p ps) zero q h = let e : q ≡ p = cc in rw e (omega arith)
below_depths (template_and p ps) (suc i) q h = let r = below_depths ps i q h in omega arith

pub part_depth : (p q : Template) (i : ℕ) → Some q ≡ slice_get (template_parts p) i
    → depth q < depth p
part_depth (made k ps) q i h = let r = below_depths ps i q h in omega arith
part_depth (hole m) q i h = cc
part_depth (one_of ps) q i h = cc
part_depth (some_local m) q i h = cc

in_more : (i : ℕ) (r : Correction) (b : Option Bindings) (ms : List MatchedRule) (m : MatchedRule)
    (d : ℕ) → (In m ms → depth m.right ≤ d) → In m (and_matched i r b ms)
    → depth m.right ≤ max (depth r.right) d
in_more i r None ms m d rest h = let k = rest h in omega arith
in_more i r (Some β) ms m d rest h = elim h [
  | inl e ↦ let s : m.right ≡ r.right = ap (λ x. x.right) e in rw s (omega arith)
  | inr later ↦ let k = rest later in omega arith
]

matched_depth : (here : Place → Option Bindings) (i : ℕ) (rules : List Correction) (t : Tree)
    (m : MatchedRule) → In m (matched_from here i rules t) → depth m.right ≤ deepest rules
matched_depth here i [] t m h = absurd h
matched_depth here i (r ∷ rs) t m h =
    in_more i r (rule_matches here r t) (matched_from here (suc i) rs t) m (deepest rs)
    (matched_depth here (suc i) rs t m) h

-- the rules that match are no deeper than the deepest
pub matched_not_deeper : (here : Place → Option Bindings) (rules : List Correction) (t : Tree)
    (ms : List MatchedRule) (xs : List Alternative) → ms ≡ matched_from here 0 rules t
    → AllAmong ms xs → NoDeeper (deepest rules) xs
matched_not_deeper here rules t ms [] e h = tt
matched_not_deeper here rules t ms (a ∷ xs) e h = (
  matched_depth here 0 rules t (matched_of a.matched.now) (rw e at h.0),
  matched_not_deeper here rules t ms xs e h.1,
)

-- What a step may take: a side of the depth of the deepest, three calls for each level of it, and
-- some calls round it.
abbrev pub reach : List Correction → ℕ → ℕ
reach rules steps = (3 * deepest rules + 12) * steps

pub one_step_less : (rules : List Correction) (steps less : ℕ) → steps ≡ suc less
    → reach rules steps ≡ reach rules less + (3 * deepest rules + 12)
one_step_less rules steps less e = rw e (grind arith)

pub alternative_depth : (most i : ℕ) (x : Alternative) (xs : List Alternative) → i < length xs
    → x ≡ get_or xs i x → NoDeeper most xs → depth (matched_of x.matched.now).right ≤ most
alternative_depth most i x [] h e d = absurd (omega arith)
alternative_depth most zero x (y ∷ xs) h e d = rw e d.0
alternative_depth most (suc i) x (y ∷ xs) h e d = alternative_depth most i x xs (omega arith) e d.1
