-- Going back to a level: why the clause that was learnt spares the decisions that stand.
use Rattle.std.proofs.Common.{◌≡◌, ℕ, ◌<◌, ◌≤◌, true, List, [], ◌∷◌, ◌++◌, length, Some, None, Option, refl, arith}
use Rattle.std.specs.Option.{option_map_or}
use Rattle.std.specs.Prelude.{nat_lt}
use Rattle.std.proofs.lemmas.Bool.{lt-ltb}
use Rattle.clause_base.specs.declared.lit.Lit.{Lit}
use Rattle.clause_base.specs.declared.clause.Clause.{Clause}
use Rattle.clause_base.specs.Literals.{opposite}
use Rattle.sat_watch.specs.declared.trail.Entry.{Entry}
use Rattle.sat_watch.specs.Trails.{IsLevelled, IsOrdered, decided, is_among, literals_of, up_to}
use Rattle.sat_watch.specs.Searching.{AreDecisions, IfDecided, IsUnitAt, Spares}
use Rattle.sat_watch.proofs.Ordered.{range_parts}
use Rattle.sat_watch.proofs.Members.{lit_of}
use Rattle.sat_watch.proofs.Backing.{either}
use Rattle.sat_watch.proofs.Deciding.{AreBelow, below, unset_var}

below_back : (v level : ℕ) (es : List Entry) → AreBelow v es → AreBelow v (up_to level es)
below_back v level [] h = tt
below_back v level (e ∷ older) h = either (AreBelow v) (nat_lt level e.level) (up_to level older) (e ∷ older) (below_back v level older h.1) h

pub more_by : (older : List Entry) (l : Lit) (reason : Option ℕ) → length (decided older) ≤ length (option_map_or (λ number. decided older) reason (l ∷ decided older))
more_by older l (Some number) = omega arith
more_by older l None = omega arith

longer : (newer rest : List Entry) → length (decided rest) ≤ length (decided (newer ++ rest))
longer [] rest = omega arith
longer (e ∷ newer) rest =
    let one : length (decided (newer ++ rest)) ≤ length (decided (e ∷ (newer ++ rest))) = more_by (newer ++ rest) e.lit e.reason in
    let others : length (decided rest) ≤ length (decided (newer ++ rest)) = longer newer rest in
    omega arith

level_of : (newer : List Entry) (x : Entry) (older : List Entry) → IsLevelled (newer ++ x ∷ older) → x.level ≡ length (decided (x ∷ older))
level_of [] x older h = h.0
level_of (e ∷ newer) x older h = level_of newer x older h.1

spare_by : (v : ℕ) (older : List Entry) (l m : Lit) (lits : List Lit) (reason : Option ℕ) → is_among m lits ≡ true → m.var ≡ v → IfDecided reason (l.var < v)
    → IfDecided reason (IsUnitAt l.var (literals_of older) lits → ⊥)
spare_by v older l m lits (Some number) here is less = tt
spare_by v older l m lits None here is less = λ unit. let most : m.var ≤ l.var = lit_of (λ k. k.var ≤ l.var) lits m unit.greatest here in absurd (omega arith)

-- a clause with a variable above those of all decisions
pub spares_below : (v : ℕ) (es : List Entry) (m : Lit) (lits : List Lit) → AreBelow v es → is_among m lits ≡ true → m.var ≡ v → Spares es lits
spares_below v [] m lits all here is = tt
spares_below v (e ∷ older) m lits all here is = (spare_by v older e.lit m lits e.reason here is all.0, spares_below v older m lits all.1 here is)

spares_top : (vars : ℕ) (known : List Clause) (level : ℕ) (lits : List Lit) (x : Entry) (older : List Entry) → IsOrdered vars (x ∷ older) → AreDecisions known (x ∷ older)
    → level < x.level → is_among (opposite x.lit) lits ≡ true → Spares (up_to level (x ∷ older)) lits
spares_top vars known level lits x older ordered decisions above here =
    let up : nat_lt level x.level ≡ true = lt-ltb level x.level above in
    let v : ℕ = x.lit.var in
    let all : AreBelow v older = below known older v (range_parts vars x.lit ordered.0).0 (unset_var (literals_of older) x.lit ordered.1) decisions.1 in
    let done : Spares (up_to level older) lits = spares_below v (up_to level older) (opposite x.lit) lits (below_back v level older all) here refl in
    rw up done

-- once the level of one of its decisions is left, the clause spares those that stand
pub spares : (vars : ℕ) (known : List Clause) (level : ℕ) (lits : List Lit) (newer : List Entry) (x : Entry) (older : List Entry) → IsOrdered vars (newer ++ x ∷ older)
    → AreDecisions known (newer ++ x ∷ older) → IsLevelled (newer ++ x ∷ older) → level < x.level → is_among (opposite x.lit) lits ≡ true → Spares (up_to level (newer ++ x ∷ older)) lits
spares vars known level lits [] x older ordered decisions levelled above here = spares_top vars known level lits x older ordered decisions above here
spares vars known level lits (e ∷ newer) x older ordered decisions levelled above here =
    let rest = spares vars known level lits newer x older ordered.2 decisions.1 levelled.1 above here in
    let mine : e.level ≡ length (decided (e ∷ (newer ++ x ∷ older))) = levelled.0 in
    let its : x.level ≡ length (decided (x ∷ older)) = level_of (e ∷ newer) x older levelled in
    let most : length (decided (x ∷ older)) ≤ length (decided (e ∷ (newer ++ x ∷ older))) = longer (e ∷ newer) (x ∷ older) in
    let up : nat_lt level e.level ≡ true = lt-ltb level e.level (omega arith) in
    rw up rest
