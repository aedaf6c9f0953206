-- Going back to a level keeps what holds of each entry.
use Rattle.std.proofs.Common.{◌≡◌, ◌∙◌, ◌<◌, ◌≤◌, Bool, ℕ, true, false, List, [], ◌∷◌, length, Option, Some, None, ap, arith, refl, subst, sym}
use Rattle.std.specs.Prelude.{if◌then◌else◌, nat_lt, MatchOption}
use Rattle.std.proofs.lemmas.Bool.{le-ltb, lt-ltb}
use Rattle.clause_base.specs.declared.clause.Clause.{Clause}
use Rattle.sat_watch.specs.declared.trail.Entry.{Entry}
use Rattle.sat_watch.specs.Trails.{IsLevelled, IsTrail, decided, up_to}
use Rattle.sat_watch.specs.Searching.{AreDecisions, Base, IsSearch, all_of}

pub either : {X : Type 0} → (P : X → Type 0) (b : Bool) (x y : X) → P x → P y → P (if b then x else y)
either P true x y p q = p
either P false x y p q = q

pub trail_back : (known : List Clause) (level : ℕ) (es : List Entry) → IsTrail known es → IsTrail known (up_to level es)
trail_back known level [] h = tt
trail_back known level (e ∷ older) h = either (IsTrail known) (nat_lt level e.level) (up_to level older) (e ∷ older) (trail_back known level older h.1) h

pub decisions_back : (known : List Clause) (level : ℕ) (es : List Entry) → AreDecisions known es → AreDecisions known (up_to level es)
decisions_back known level [] h = tt
decisions_back known level (e ∷ older) h = either (AreDecisions known) (nat_lt level e.level) (up_to level older) (e ∷ older) (decisions_back known level older h.1) h

pub search_back : (base : Base) (level : ℕ) (es : List Entry) → IsSearch (record { base = base; entries = es }) → IsSearch (record { base = base; entries = up_to level es })
search_back base level es search = record {
  trail = trail_back (all_of base) level es search.trail;
  decisions = decisions_back (all_of base) level es search.decisions;
}

-- the newest entry of a later level is taken away
pub back_step : (level : ℕ) (old new : List Entry) (newest : Option Entry) → IsLevelled old → level < length (decided old)
    → MatchOption newest (old ≡ []) (λ e. old ≡ e ∷ new) → up_to level new ≡ up_to level old
back_step level old new None levelled later none =
    let many : length (decided old) ≡ length (decided []) = ap (λ (es : List Entry). length (decided es)) none in
    absurd (omega arith)
back_step level old new (Some e) levelled later is =
    let all : IsLevelled (e ∷ new) = subst IsLevelled is levelled in
    let many : length (decided old) ≡ length (decided (e ∷ new)) = ap (λ (es : List Entry). length (decided es)) is in
    let own : e.level ≡ length (decided (e ∷ new)) = all.0 in
    let up : nat_lt level e.level ≡ true = lt-ltb level e.level (omega arith) in
    let gone : up_to level (e ∷ new) ≡ up_to level new = rw up refl in
    sym gone ∙ ap (up_to level) (sym is)

-- no entry has a later level
pub back_end : (level : ℕ) (es : List Entry) → IsLevelled es → length (decided es) ≤ level → up_to level es ≡ es
back_end level [] levelled early = refl
back_end level (e ∷ older) levelled early =
    let own : e.level ≡ length (decided (e ∷ older)) = levelled.0 in
    let stays : nat_lt level e.level ≡ false = le-ltb level e.level (omega arith) in
    rw stays refl
