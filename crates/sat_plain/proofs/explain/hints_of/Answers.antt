use Rattle.std.proofs.Common.{Option, ◌≡◌, ◌∙◌, ◌-◌, ◌<◌, ◌≤◌, ◌∷◌, [], ℕ, List, Bool, get_or, subst, ap, arith, false, None, reverse, take, length, inl, inr}
use Rattle.std.specs.Option.{is_some}
use Rattle.std.proofs.Math.Seq.{take-length}
use Rattle.std.proofs.lemmas.List.{reverse-append}
use Rattle.clause_base.specs.declared.clause.Clause.{Clause}
use Rattle.sat_plain.specs.declared.trail.Entry.{Entry}
use Rattle.clause_base.specs.Logs.{known_of}
use Rattle.sat_plain.proofs.Covered.{covered_at}
use Rattle.sat_plain.proofs.Explaining.{IsWalk, older_read, walk_end, walk_hint, walk_skip, walk_start, wanted_at}
use Rattle.sat_plain.proofs.Ordered.{entry_range}
use Rattle.sat_plain.proofs.explain.hints_of.Goals as goal

-- one entry and the older ones
split : (known : List Clause) (xs : List Entry) (i : ℕ) (wanted : List Bool) (hints : List ℕ) → 0 < i → i ≤ length xs
    → IsWalk known (reverse xs) (reverse (take i xs)) wanted hints → IsWalk known (reverse xs) (get_or xs (i - 1) (record { lit = record { var = 0; positive = false }; reason = None }) ∷ reverse (take (i - 1) xs)) wanted hints
split known xs i wanted hints some within walk = subst (λ (es : List Entry). IsWalk known (reverse xs) es wanted hints) (older_read xs i _ some within) walk

abbrev none : Entry
none = record { lit = record { var = 0; positive = false }; reason = None }

none_is : (reason : Option ℕ) → reason ≡ None → is_some reason ≡ false
none_is reason h = ap is_some h

pub want-requires : goal.want-requires
want-requires c = rw c.as_slice.ensures (covered_at _ (known_of c.args.clauses.now c.args.steps.now) (c.args.conflict - 1) c.clause_of-first.result.now c.clause_of-first.ensures c.requires.known)

pub loop-i-init : goal.loop-i-init
loop-i-init c =
    let known = known_of c.args.clauses.now c.args.steps.now in
    rw (take-length c.args.entries.now, c.in_ok-hints.ensures.items)
    (walk_start known (reverse c.args.entries.now) c.want.new.wanted c.args.conflict c.requires.trail c.requires.conflict
    (wanted_at known c.args.conflict c.clause_of-first.result.now _ _ c.clause_of-first.ensures c.as_slice.ensures c.want.ensures.more))

pub loop-i-preserved-in_default : goal.loop-i-preserved-in_default
loop-i-preserved-in_default c =
    walk_skip _ _ _ _ _ _ (inr (none_is _ c.in_default.is)) (split _ _ c.loop-i.i _ _ c.loop-i-test.true c.loop-i.auto.i c.loop-i.invariant)

pub overflow_sub-entry : goal.overflow_sub-entry
overflow_sub-entry c = (entry_range (length c.args.wanted.now) c.args.entries.now c.loop-i.i none c.requires.ordered c.loop-i-test.true c.loop-i.auto.i).0

pub bounds-wanted-entry : goal.bounds-wanted-entry
bounds-wanted-entry c =
    let range = entry_range (length c.args.wanted.now) c.args.entries.now c.loop-i.i none c.requires.ordered c.loop-i-test.true c.loop-i.auto.i in
    let some = range.0 in
    let most = range.1 in
    omega (arith, some, most, c.loop-i.auto.wanted, c.want.auto.wanted)

pub want-requires-then-wanted-entry : goal.want-requires-then-wanted-entry
want-requires-then-wanted-entry c =
    rw (c.as_slice-then-wanted-entry.ensures, c.loop-i.auto.wanted, c.want.auto.wanted)
    (covered_at _ (known_of c.args.clauses.now c.args.steps.now) (c.in-Some.number - 1) c.clause_of-clause.result.now c.clause_of-clause.ensures c.requires.known)

pub loop-i-preserved-in-Continue-branch-2 : goal.loop-i-preserved-in-Continue-branch-2
loop-i-preserved-in-Continue-branch-2 c =
    let known = known_of c.args.clauses.now c.args.steps.now in
    let turned : reverse c.push.new.self.items ≡ c.in-Some.number ∷ reverse c.loop-i.hints.items = ap reverse c.in_ok-push.ensures.items ∙ reverse-append c.loop-i.hints.items (c.in-Some.number ∷ []) in
    rw turned (walk_hint (length c.args.wanted.now) known _ _ _ _ _ _ c.in-Some.number c.requires.ordered c.in-Some.is c.want-then-wanted-entry.ensures.kept
    (wanted_at known c.in-Some.number c.clause_of-clause.result.now _ _ c.clause_of-clause.ensures c.as_slice-then-wanted-entry.ensures c.want-then-wanted-entry.ensures.more)
    (split _ _ c.loop-i.i _ _ c.loop-i-test.true c.loop-i.auto.i c.loop-i.invariant))

pub loop-i-preserved : goal.loop-i-preserved
loop-i-preserved c =
    walk_skip _ _ _ _ _ _ (inl c.if-wanted-entry.false) (split _ _ c.loop-i.i _ _ c.loop-i-test.true c.loop-i.auto.i c.loop-i.invariant)

pub returns-clause-good : goal.returns-clause-good
returns-clause-good c =
    let i : ℕ = c.loop-i.i in
    let zero_left : i ≡ 0 = omega (arith, c.loop-i-test.false) in
    let walk = subst (λ (n : ℕ). IsWalk (known_of c.args.clauses.now c.args.steps.now) (reverse c.args.entries.now) (reverse (take n c.args.entries.now)) c.loop-i.wanted (reverse c.loop-i.hints.items)) zero_left c.loop-i.invariant in
    rw c.reverse.ensures.items (walk_end _ _ _ _ walk)
