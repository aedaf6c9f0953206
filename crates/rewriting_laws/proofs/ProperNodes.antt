-- Proper nodes, and what a rewriting keeps of them.
use Rattle.std.proofs.Common.{◌≡◌, ◌⊎◌, ℕ, Bool, true, false, List, None, refl, sym, ap, inl}
use Rattle.std.proofs.Common.{inr, subst}
use Rattle.mpy_tree.specs.Trees as kind
use Rattle.mpy_tree.specs.Trees.{Kind, Tree, Trees, node, tree_and}
use Rattle.choice_tree.specs.Contexts.{Context, Setting, below, copies}
use Rattle.choice_tree.specs.Drafts.{Draft, Drafts, filled, filled_all}
use Rattle.choice_tree.specs.Matching.{is_expression, node_matches, only_if, same_kind}
use Rattle.choice_tree.specs.Rewriting.{Edit, Finishes, FinishesAll, RewritesAll, and_all, each}
use Rattle.choice_tree.specs.Rewriting.{finished, made, made_a_copy, none, rewritten}
use Rattle.choice_tree.specs.Templates.{NodeTemplate, exactly}
use Rattle.choice_tree.specs.Typing.{type_of}
use Rattle.mpy_round_trip.specs.Proper.{AreProperTrees, BeginsWithArm, HasParts, IsProperNode}
use Rattle.mpy_round_trip.specs.Proper.{IsProperTree, in_loop}
use Rattle.input_space.specs.ProperRules.{IsProperKind}
use Rattle.rewriting_laws.proofs.Becoming.{NodeBecomes, node_becomes}

-- A NODE OF AN EXPRESSION is proper over any parts, in a loop or not.

proper_node : (loop : Bool) (k : Kind) (ts : Trees) → IsProperKind k → IsProperNode loop k ts
proper_node loop (kind.Break line) ts h = absurd (let z : false ≡ true = h.0 in cc)
proper_node loop (kind.Continue line) ts h = absurd (let z : false ≡ true = h.0 in cc)
proper_node loop (kind.If line) ts h = absurd (let z : false ≡ true = h.0 in cc)
proper_node loop kind.Block ts h = absurd (let z : false ≡ true = h.0 in cc)
proper_node loop _ ts h = h.1

same_loop : (loop : Bool) (k : Kind) → is_expression k ≡ true → in_loop loop k ≡ loop
same_loop loop (kind.While line) h = absurd (let z : false ≡ true = h in cc)
same_loop loop (kind.For line x) h = absurd (let z : false ≡ true = h in cc)
same_loop loop _ h = refl

pub proper_over : (loop : Bool) (k : Kind) (ts : Trees) → IsProperKind k → AreProperTrees loop ts
    → IsProperTree loop (node k ts)
proper_over loop k ts h parts = (
  proper_node loop k ts h,
  subst (λ b. AreProperTrees b ts) (sym (same_loop loop k h.0)) parts,
)

-- A NODE THAT MATCHES stands in a loop where its parts do.

never_while : (k : Kind) (line : ℕ) → same_kind k (kind.While line) ≡ false
never_while (kind.Int n) line = refl
never_while _ line = refl

never_for : (k : Kind) (line : ℕ) (x : List ℕ) → same_kind k (kind.For line x) ≡ false
never_for (kind.Int n) line x = refl
never_for _ line x = refl

no_while : (k : NodeTemplate) (line : ℕ) → node_matches k (kind.While line) ≡ None
no_while (exactly k) line = ap only_if (never_while k line)
no_while _ line = refl

no_for : (k : NodeTemplate) (line : ℕ) (x : List ℕ) → node_matches k (kind.For line x) ≡ None
no_for (exactly k) line x = ap only_if (never_for k line x)
no_for _ line x = refl

pub loop_or_none : (loop : Bool) (k : NodeTemplate) (j : Kind)
    → (in_loop loop j ≡ loop) ⊎ (node_matches k j ≡ None)
loop_or_none loop k (kind.While line) = inr (no_while k line)
loop_or_none loop k (kind.For line x) = inr (no_for k line x)
loop_or_none loop k _ = inl refl

-- OTHER PARTS: a body keeps that it has parts, and an `if` that it begins with an arm.

pub over_others : (loop : Bool) (k : Kind) (ts us : Trees) → (HasParts ts → HasParts us)
    → (BeginsWithArm ts → BeginsWithArm us) → IsProperNode loop k ts → IsProperNode loop k us
over_others loop (kind.If line) ts us parts arm h = arm h
over_others loop kind.Block ts us parts arm h = parts h
over_others loop _ ts us parts arm h = h

arm_becomes : (g : Setting) (c : Context) (t u : Tree) (ts us : Trees)
    → (type_of c.scope t ≡ None → NodeBecomes g c t u) → BeginsWithArm (tree_and t ts)
    → BeginsWithArm (tree_and u us)
arm_becomes g c (node (kind.Arm line) ps) (node j qs) ts us becomes h =
    subst (λ k. BeginsWithArm (tree_and (node k qs) us)) (becomes refl).0 tt
arm_becomes g c (node _ ps) u ts us becomes h = absurd h

pub still_parts : {g : Setting} {k : Kind} {i line : ℕ} {c : Context} {ts us : Trees} {n : ℕ}
    {es : List Edit} → RewritesAll g k i line c ts us n es → HasParts ts → HasParts us
still_parts none h = h
still_parts (each r rs) h = tt

pub still_arm : {g : Setting} {k : Kind} {i line : ℕ} {c : Context} {ts us : Trees} {n : ℕ}
    {es : List Edit} → RewritesAll g k i line c ts us n es → BeginsWithArm ts → BeginsWithArm us
still_arm none h = h
still_arm {g} (each {k} {i} {c} {t} {t'} {ts} {ts'} r rs) h =
    arm_becomes g (below g k i c) t t' ts ts' (node_becomes r) h

-- of a draft

same_arm : (k : Kind) (ps qs ts us : Trees) → BeginsWithArm (tree_and (node k ps) ts)
    → BeginsWithArm (tree_and (node k qs) us)
same_arm (kind.Arm line) ps qs ts us h = tt
same_arm _ ps qs ts us h = absurd h

no_copy : (c : Context) (k : Kind) (ps ts : Trees) → copies c (node k ps) ≡ true
    → BeginsWithArm (tree_and (node k ps) ts) → ⊥
no_copy c (kind.Arm line) ps ts e h = let z : false ≡ true = e in cc
no_copy c _ ps ts e h = h

arm_finished : {g : Setting} {line : ℕ} {c : Context} {d : Draft} {u : Tree} {n : ℕ}
    {es : List Edit} (ts us : Trees) → Finishes g line c d u n es
    → BeginsWithArm (tree_and (filled d) ts) → BeginsWithArm (tree_and u us)
arm_finished ts us (made {k} {ds} {ts = qs} e all) h = same_arm k (filled_all ds) qs ts us h
arm_finished ts us (made_a_copy {c} {k} {ds} e) h = absurd (no_copy c k (filled_all ds) ts e h)
arm_finished {g} ts us (rewritten {c} {t} {t'} r) h =
    arm_becomes g c t t' ts us (node_becomes r) h

pub finished_parts : {g : Setting} {k : Kind} {i line : ℕ} {c : Context} {ds : Drafts}
    {us : Trees} {n : ℕ} {es : List Edit} → FinishesAll g k i line c ds us n es
    → HasParts (filled_all ds) → HasParts us
finished_parts finished h = h
finished_parts (and_all r rs) h = tt

pub finished_arm : {g : Setting} {k : Kind} {i line : ℕ} {c : Context} {ds : Drafts}
    {us : Trees} {n : ℕ} {es : List Edit} → FinishesAll g k i line c ds us n es
    → BeginsWithArm (filled_all ds) → BeginsWithArm us
finished_arm finished h = h
finished_arm (and_all {ds} {ts} r rs) h = arm_finished (filled_all ds) ts r h
