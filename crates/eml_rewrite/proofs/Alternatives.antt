-- What is made where there are alternatives, and where there is none.
use Rattle.std.proofs.Common.{◌≡◌, ℕ, suc, ◌<◌, List, [], ◌∷◌, map, filter, length, ap, sym}
use Rattle.std.proofs.Common.{subst, ◌∙◌, arith}
use Rattle.mpy_tree.specs.Trees.{Tree}
use Rattle.choice_tree.specs.Contexts.{Setting, Site, Context, Sharing, inside, sharing_inside}
use Rattle.choice_tree.specs.Drafts.{Proposal}
use Rattle.choice_tree.specs.Growing.{alternatives, base_grown, grown, is_alternative, members}
use Rattle.choice_tree.specs.Growing.{picked}
use Rattle.choice_tree.specs.Matching.{Bindings, here}
use Rattle.choice_tree.specs.Templates.{Template}
use Rattle.choice_tree.specs.Typing.{Scope}
use Rattle.choice_tree.specs.WeightedTrees.{pick, size}
use Rattle.eml_match.proofs.Proposing.{propose_from}
use Rattle.eml_match.specs.MatchedRules.{MatchedRule, matched_by, proposals_by}
use Rattle.eml_match.specs.Resolutions.{Locals, count}
use Rattle.eml_rewrite.proofs.Sizes.{more_members}

abbrev typed_of : Context → Tree → List MatchedRule → List Proposal
typed_of c t ms = filter (is_alternative c.scope t) (proposals_by c.scope ms)

pub listed : (g : Setting) (site : Site) (c : Context) (t : Tree) (ms : List MatchedRule)
    → ms ≡ matched_by (here site) g.rules t → typed_of c t ms ≡ alternatives g (here site) c t
listed g site c t ms e =
    ap (typed_of c t) e
    ∙ ap (filter (is_alternative c.scope t)) (sym (propose_from (here site) c.scope 0 g.rules t))

pub too_many : (g : Setting) (steps f : ℕ) (site : Site) (c : Context) (t : Tree)
    (ms : List MatchedRule) (left : ℕ) → steps ≡ suc f → ms ≡ matched_by (here site) g.rules t
    → left < length (filter (is_alternative c.scope t) (proposals_by c.scope ms))
    → left < size (grown g steps site c t)
too_many g steps f site c t ms left s e h =
    subst (λ n. left < size (grown g n site c t)) (sym s)
    (more_members g f site c t left
    (subst (λ ps. left < length ps) (listed g site c t ms e) h))

pub none_found : {X : Type 0} (g : Setting) (steps f : ℕ) (site : Site) (c : Context) (t : Tree)
    (ms : List MatchedRule) (seen : X → Proposal) (xs : List X) → steps ≡ suc f
    → ms ≡ matched_by (here site) g.rules t
    → map seen xs ≡ filter (is_alternative c.scope t) (proposals_by c.scope ms) → length xs ≡ 0
    → base_grown g (grown g f) site c t ≡ grown g steps site c t
none_found g steps f site c t ms seen [] s e h none =
    ap (λ ps. picked (base_grown g (grown g f) site c t) (members g (grown g f) (inside c) ps))
    (h ∙ listed g site c t ms e)
    ∙ ap (λ n. grown g n site c t) (sym s)
none_found g steps f site c t ms seen (x ∷ xs) s e h none = absurd (omega arith)

pub some_found : {X : Type 0} (g : Setting) (steps f : ℕ) (site : Site) (c : Context) (t : Tree)
    (ms : List MatchedRule) (seen : X → Proposal) (xs : List X) → steps ≡ suc f
    → ms ≡ matched_by (here site) g.rules t
    → map seen xs ≡ filter (is_alternative c.scope t) (proposals_by c.scope ms) → 0 < length xs
    → pick 0 (base_grown g (grown g f) site c t) (members g (grown g f) (inside c) (map seen xs))
    ≡ grown g steps site c t
some_found g steps f site c t ms seen [] s e h some = absurd (omega arith)
some_found g steps f site c t ms seen (x ∷ xs) s e h some =
    ap (λ ps. picked (base_grown g (grown g f) site c t) (members g (grown g f) (inside c) ps))
    (h ∙ listed g site c t ms e)
    ∙ ap (λ n. grown g n site c t) (sym s)

-- where an alternative stands
pub inside_is : (σ : Scope) (s t : Sharing) → t ≡ sharing_inside s
    → inside (record { scope = σ; sharing = s }) ≡ record { scope = σ; sharing = t }
inside_is σ s t e = λ i. record { scope = σ; sharing = sym e i }

pub same_count : (p : Template) (n : ℕ) (L M : Locals) (β γ : Bindings) → L ≡ M → β ≡ γ
    → n < count p M γ → n < count p L β
same_count p n L M β γ l b h = subst (λ K. n < count p K β) (sym l)
    (subst (λ δ. n < count p M δ) (sym b) h)
