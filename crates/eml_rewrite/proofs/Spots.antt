-- Places that are one but for their sharing.
use Rattle.std.proofs.Common.{◌≡◌, ℕ, ap, subst}
use Rattle.mpy_types.specs.declared.known.Known as known
use Rattle.choice_tree.specs.Contexts.{Setting, Context}
use Rattle.choice_tree.specs.RuleViews.{corrections_of}
use Rattle.eml_rewrite.specs.declared.sharing.Sharing.{Sharing}
use Rattle.eml_rewrite.specs.declared.spot.Spot.{Spot}
use Rattle.eml_rewrite.specs.Sides.{deepest}
use Rattle.eml_rewrite.specs.Spots.{setting_at, context_at, sharing_of}
use Rattle.eml_rewrite.proofs.Depths.{reach}

module _ {K : Type 0} {G : known.Ghosts K} (s s' : Spot K G) (x : Sharing)
    (e : s' ≡ record s { sharing = x }) where
  -- what holds there holds with the other sharing
  pub with_its_sharing : (P : Setting → ℕ → Context → Type 0)
      → P (setting_at s') s'.steps (context_at s')
      → P (setting_at s) s.steps
      (record { scope = (context_at s).scope; sharing = sharing_of x })
  with_its_sharing P h = subst (λ (r : Spot K G). P (setting_at r) r.steps (context_at r)) e h

  -- the rules and the steps are the same
  pub same_reach : reach (corrections_of s'.rules.now) s'.steps
      ≡ reach (corrections_of s.rules.now) s.steps
  same_reach = ap (λ (r : Spot K G). reach (corrections_of r.rules.now) r.steps) e

  pub same_deepest : deepest (corrections_of s'.rules.now) ≡ deepest (corrections_of s.rules.now)
  same_deepest = ap (λ (r : Spot K G). deepest (corrections_of r.rules.now)) e

  pub same_scope : (context_at s').scope ≡ (context_at s).scope
  same_scope = ap (λ (r : Spot K G). (context_at r).scope) e
