-- A rewriting of a proper program by proper rules is proper.
use Rattle.std.proofs.Common.{ℕ, Bool, false, List}
use Rattle.mpy_tree.specs.Syntax.{Routine}
use Rattle.mpy_tree.specs.Trees.{Kind, Tree, Trees}
use Rattle.choice_tree.specs.Contexts.{Context, Setting, Site, scope_in, site_below}
use Rattle.choice_tree.specs.Drafts.{Draft, Drafts, filled, filled_all, proposals}
use Rattle.choice_tree.specs.Matching.{with_place, without_place}
use Rattle.choice_tree.specs.Rewriting.{Edit, Finishes, FinishesAll, IsRewriting, Rewrites}
use Rattle.choice_tree.specs.Rewriting.{RewritesAll, and_all, copied, each, finished, kept, made}
use Rattle.choice_tree.specs.Rewriting.{made_a_copy, none, replaced, replaced_at, rewritten}
use Rattle.choice_tree.proofs.Lists.{each_in}
use Rattle.mpy_round_trip.specs.Proper.{AreProperTrees, IsProper, IsProperTree, in_loop}
use Rattle.input_space.specs.ProperRules.{AreProperRules}
use Rattle.rewriting_laws.proofs.ProperDrafts.{MakesProper, anywhere_proper, placed_proper}
use Rattle.rewriting_laws.proofs.ProperDrafts.{proposed_proper}
use Rattle.rewriting_laws.proofs.ProperNames.{HasNames, HasTarget, names_below, names_in}
use Rattle.rewriting_laws.proofs.ProperNames.{target_below}
use Rattle.rewriting_laws.proofs.ProperNodes.{finished_arm, finished_parts, over_others}
use Rattle.rewriting_laws.proofs.ProperNodes.{still_arm, still_parts}

module _ (g : Setting) (rules : AreProperRules g.rules)
    (names : (i : ℕ) → HasNames (scope_in g i)) where
  mutual
    still_proper : {site : Site} {line : ℕ} {c : Context} {t u : Tree} {n : ℕ}
        {es : List Edit} (loop : Bool) → Rewrites g site line c t u n es → HasNames c.scope
        → HasTarget site → IsProperTree loop t → IsProperTree loop u
    still_proper loop (kept {k} {ts} {ts'} e all) here target h = (
      over_others loop k ts ts' (still_parts all) (still_arm all) h.0,
      all_still_proper (in_loop loop k) all here (target_below loop k ts h.0) h.1,
    )
    still_proper loop (copied e) here target h = (tt, (h, tt))
    still_proper loop (replaced {c} {t} p i fin same) here target h =
        let drafts =
        proposed_proper loop without_place (anywhere_proper loop) c.scope here t 0 g.rules rules
        h in
        draft_still_proper loop fin here
        (each_in (λ q. MakesProper loop q.draft) (proposals without_place c.scope g.rules t) p
        drafts i)
    still_proper loop (replaced_at {site} {c} {t} p i fin same) here target h =
        let drafts =
        proposed_proper loop (with_place site) (placed_proper loop site target) c.scope here t 0
        g.rules rules h in
        draft_still_proper loop fin here
        (each_in (λ q. MakesProper loop q.draft) (proposals (with_place site) c.scope g.rules t)
        p drafts i)

    all_still_proper : {k : Kind} {i line : ℕ} {c : Context} {ts us : Trees} {n : ℕ}
        {es : List Edit} (loop : Bool) → RewritesAll g k i line c ts us n es
        → HasNames c.scope → HasTarget (site_below k) → AreProperTrees loop ts
        → AreProperTrees loop us
    all_still_proper loop none here target h = tt
    all_still_proper loop (each {k} {i} {c} r rs) here target h = (
      still_proper loop r (names_below g k i c names here) target h.0,
      all_still_proper loop rs here target h.1,
    )

    draft_still_proper : {line : ℕ} {c : Context} {d : Draft} {u : Tree} {n : ℕ}
        {es : List Edit} (loop : Bool) → Finishes g line c d u n es → HasNames c.scope
        → IsProperTree loop (filled d) → IsProperTree loop u
    draft_still_proper loop (made {k} {ds} {ts} e all) here h = (
      over_others loop k (filled_all ds) ts (finished_parts all) (finished_arm all) h.0,
      drafts_still_proper (in_loop loop k) all here h.1,
    )
    draft_still_proper loop (made_a_copy e) here h = (tt, (h, tt))
    draft_still_proper loop (rewritten r) here h = still_proper loop r here tt h

    drafts_still_proper : {k : Kind} {i line : ℕ} {c : Context} {ds : Drafts} {us : Trees}
        {n : ℕ} {es : List Edit} (loop : Bool) → FinishesAll g k i line c ds us n es
        → HasNames c.scope → AreProperTrees loop (filled_all ds) → AreProperTrees loop us
    drafts_still_proper loop finished here h = tt
    drafts_still_proper loop (and_all {k} {i} {c} r rs) here h = (
      draft_still_proper loop r (names_below g k i c names here) h.0,
      drafts_still_proper loop rs here h.1,
    )

pub rewritings_proper : (g : Setting) (p : List Routine) (n : ℕ) (es : List Edit)
    → AreProperRules g.rules → IsProper g.program → IsRewriting g g.program p n es → IsProper p
rewritings_proper g p n es rules proper becomes =
    let names = names_in g proper in
    still_proper g rules names false becomes (names 0) tt proper
