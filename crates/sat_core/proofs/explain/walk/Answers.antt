use Rattle.std.proofs.Common.{◌≡◌, ◌∙◌, ◌-◌, ◌<◌, ◌≤◌, ◌++◌, ◌∷◌, [], ℕ, List, Bool, get_or, subst, ap, arith, false, None, reverse, take, length}
use Rattle.std.proofs.Math.Seq.{take-length}
use Rattle.std.proofs.lemmas.List.{reverse-append}
use Rattle.clause_base.specs.declared.lit.Lit.{Lit}
use Rattle.clause_base.specs.Literals.{opposite}
use Rattle.sat_watch.specs.declared.trail.Entry.{Entry}
use Rattle.sat_core.specs.Explaining.{IsWalked}
use Rattle.sat_watch.specs.Searching.{Base, all_of}
use Rattle.sat_watch.specs.Trails.{IsOrdered, Path}
use Rattle.sat_core.proofs.Walking.{IsWalk, older_read, walk_decided, walk_hint, walk_skip, walk_start, walked, wanted_at}
use Rattle.sat_core.proofs.explain.walk.Goals as goal

-- what indexing gives beyond the end
abbrev none : Entry
none = record { lit = record { var = 0; positive = false }; reason = None; level = 0 }

-- one entry and the older ones
split : (base : Base) (xs : List Entry) (i : ℕ) (wanted : List Bool) (hints : List ℕ) (lits : List Lit) (level : ℕ) → 0 < i → i ≤ length xs
    → IsWalk base.vars (all_of base) (reverse xs) (reverse (take i xs)) wanted hints lits level
    → IsWalk base.vars (all_of base) (reverse xs) (get_or xs (i - 1) none ∷ reverse (take (i - 1) xs)) wanted hints lits level
split base xs i wanted hints lits level some within walk =
    subst (λ (es : List Entry). IsWalk base.vars (all_of base) (reverse xs) es wanted hints lits level) (older_read xs i none some within) walk

ordered_here : (base : Base) (trail : Path) (xs : List Entry) → trail.vars ≡ base.vars → reverse xs ≡ trail.entries → IsOrdered trail.vars trail.entries → IsOrdered base.vars (reverse xs)
ordered_here base trail xs vars same ordered = rw (← vars, same) ordered

-- at the oldest entry the walk ends
ended : (base : Base) (entries xs : List Entry) (i : ℕ) (wanted : List Bool) (hints : List ℕ) (lits : List Lit) (level : ℕ) → i ≡ 0 → reverse xs ≡ entries → IsOrdered base.vars (reverse xs)
    → IsWalk base.vars (all_of base) (reverse xs) (reverse (take i xs)) wanted hints lits level → IsWalked base entries lits hints level
ended base entries xs i wanted hints lits level oldest same ordered walk =
    let all = subst (λ n. IsWalk base.vars (all_of base) (reverse xs) (reverse (take n xs)) wanted hints lits level) oldest walk in
    subst (λ (es : List Entry). IsWalked base es lits hints level) same (walked base (reverse xs) wanted hints lits level ordered all)

pub loop-i-init : goal.loop-i-init
loop-i-init c =
    let base = c.args.search.now.base in
    let xs = c.entries-entries.result.now in
    let same : reverse xs ≡ c.args.search.now.entries = c.entries-entries.ensures.value ∙ c.trail.ensures.entries in
    let ordered = ordered_here base c.trail.result.now xs c.trail.ensures.vars c.entries-entries.ensures.value c.entries-entries.ensures.ordered in
    let at = rw c.known-known.ensures at c.at.ensures.value in
    rw (take-length xs, c.in_ok-hints.ensures.items, c.new-lits.ensures)
    (walk_start base.vars (all_of base) (reverse xs) c.want.new.wanted c.args.conflict ordered (rw c.entries-entries.ensures.value c.entries-entries.ensures.levelled)
    (rw same c.trail.ensures.search.trail) (rw same c.requires.conflict)
    (wanted_at (all_of base) c.args.conflict c.at.result.now _ _ at c.as_slice.ensures c.want.ensures.more))

pub loop-i-preserved-then-not-wanted-entry : goal.loop-i-preserved-then-not-wanted-entry
loop-i-preserved-then-not-wanted-entry c =
    walk_skip _ _ _ _ _ _ _ _ _ c.if-not-wanted-entry.true (split _ _ c.loop-i.i _ _ _ _ c.loop-i-test.true c.loop-i.auto.i c.loop-i.invariant)

pub loop-i-preserved-in-Continue-branch-2 : goal.loop-i-preserved-in-Continue-branch-2
loop-i-preserved-in-Continue-branch-2 c =
    let base = c.args.search.now.base in
    let xs = c.entries-entries.result.now in
    let number : ℕ = c.in-Some.number in
    let ordered = ordered_here base c.trail.result.now xs c.trail.ensures.vars c.entries-entries.ensures.value c.entries-entries.ensures.ordered in
    let at = rw c.known-known.ensures at c.at-in-Some.ensures.value in
    let turned : reverse c.push.new.self.items ≡ number ∷ reverse c.loop-i.hints.items =
    ap reverse c.in_ok-push-in-Some.ensures.items ∙ reverse-append c.loop-i.hints.items (number ∷ []) in
    rw turned (walk_hint base.vars (all_of base) _ _ _ _ _ _ _ _ number ordered c.in-Some.is c.want-in-Some.ensures.kept
    (wanted_at (all_of base) number c.at-in-Some.result.now _ _ at c.as_slice-in-Some.ensures c.want-in-Some.ensures.more)
    (split _ xs c.loop-i.i _ _ _ _ c.loop-i-test.true c.loop-i.auto.i c.loop-i.invariant))

pub loop-i-preserved : goal.loop-i-preserved
loop-i-preserved c =
    let base = c.args.search.now.base in
    let xs = c.entries-entries.result.now in
    let e : Entry = get_or xs (c.loop-i.i - 1) none in
    let lits : List Lit = c.loop-i.lits in
    let added : c.push-in-None.new.self ≡ lits ++ opposite e.lit ∷ [] = c.in_ok-push-in-None.ensures.ok ∙ ap (λ (l : Lit). lits ++ l ∷ []) c.opposite.ensures in
    rw added (walk_decided base.vars (all_of base) _ _ e _ _ lits _ _ c.in-None.is c.level_after-level.ensures.either
    (λ unused. c.level_after-level.ensures.first (ap length (c.as_slice-in-None.ensures ∙ unused)))
    (split _ xs c.loop-i.i _ _ _ _ c.loop-i-test.true c.loop-i.auto.i c.loop-i.invariant))

pub returns : goal.returns
returns c =
    let base = c.args.search.now.base in
    let xs = c.entries-entries.result.now in
    let ordered = ordered_here base c.trail.result.now xs c.trail.ensures.vars c.entries-entries.ensures.value c.entries-entries.ensures.ordered in
    let oldest : c.loop-i.i ≡ 0 = omega (arith, c.loop-i-test.false) in
    rw c.reverse.ensures.items
    (ended base c.args.search.now.entries xs c.loop-i.i _ _ _ _ oldest (c.entries-entries.ensures.value ∙ c.trail.ensures.entries) ordered c.loop-i.invariant)
