-- What the rules make of a term, its weighted tree gives.
use Rattle.std.proofs.Common.{◌≡◌, ℕ, zero, suc, ◌+◌, ◌≤◌, Bool, true, false}
use Rattle.std.proofs.Common.{if◌then◌else◌, List, [], ◌∷◌, Option, refl, sym, ap, ◌∙◌, inl}
use Rattle.std.proofs.Common.{inr, arith}
use Rattle.mpy_tree.specs.Trees.{Kind, Tree, Trees, node}
use Rattle.choice_tree.specs.Templates.{KeepPrimes}
use Rattle.choice_tree.specs.declared.rules.Place.{Place}
use Rattle.choice_tree.specs.Typing.{type_of, same_type, copy_of}
use Rattle.choice_tree.specs.Contexts.{Setting, Site, elsewhere}
use Rattle.choice_tree.specs.Contexts.{Context, site_below}
use Rattle.choice_tree.specs.Contexts.{inside, copies}
use Rattle.choice_tree.specs.Matching.{Bindings, without_place, with_place}
use Rattle.choice_tree.specs.Drafts.{Draft, Drafts, as_is, filled}
use Rattle.choice_tree.specs.Drafts.{Proposal, proposals}
use Rattle.choice_tree.specs.Rewriting.{Edit, In, written, edit, Rewrites, RewritesAll}
use Rattle.choice_tree.specs.Rewriting.{Finishes, FinishesAll, kept, copied, replaced, replaced_at}
use Rattle.choice_tree.specs.Rewriting.{none, each, made, made_a_copy, rewritten, finished, and_all}
use Rattle.choice_tree.specs.Growing.{Growing, is_alternative, alternatives, parts_grown}
use Rattle.choice_tree.specs.Growing.{node_grown, draft_grown, drafts_grown, members}
use Rattle.choice_tree.specs.Growing.{grown, steps, steps_in}
use Rattle.choice_tree.proofs.Giving.{Gives, GivesAll, GivesOther, lifted_given}
use Rattle.choice_tree.proofs.Giving.{picked_base, picked_other}
use Rattle.choice_tree.proofs.Lists.{each_in, in_filter}
use Rattle.choice_tree.proofs.Types.{type_finished}
use Rattle.choice_tree.proofs.Sound.{node_based, grown_based, none_elsewhere}
use Rattle.choice_tree.proofs.Within.{Within, WithinAll, alternatives_within, placed_within}

-- one step more where rules with a place are tried
abbrev pub extra : Site → ℕ
extra elsewhere = 0
extra _ = 1

pub extra_most : (site : Site) → extra site ≤ 1
extra_most elsewhere = omega arith
extra_most _ = omega arith

-- a choice by a test that is known
by_true : {A : Type 0} (P : A → Type 0) (b : Bool) (x y : A) → b ≡ true → P x
    → P (if b then x else y)
by_true P true x y e p = p
by_true P false x y e p = cc

by_false : {A : Type 0} (P : A → Type 0) (b : Bool) (x y : A) → b ≡ false → P y
    → P (if b then x else y)
by_false P true x y e p = cc
by_false P false x y e p = p

-- a member of the list is given
member_given : (g : Setting) (grow : Growing) (c : Context) (ps : List Proposal) (p : Proposal)
    (line : ℕ) (old t : Tree) (n : ℕ) (es : List Edit)
    → In p ps → Gives (draft_grown g grow p.draft c) line t n es
    → GivesOther (members g grow c ps) line old t (p.cost + n)
    (record { line = line; rule = p.rule; old = old; new = t } ∷ es)
member_given g grow c [] p line old t n es i h = absurd i
member_given g grow c (q ∷ ps) p line old t n es i h = elim i [
  | inl same ↦ inl (
    record { cost = n; edits = es },
    (λ j. (same j).cost + n),
    (λ j. record { line = line; rule = (same j).rule; old = old; new = t } ∷ es),
    rw same at h,
  )
  | inr later ↦ inr (member_given g grow c ps p line old t n es later h)
]

-- a proposal of the term's type is an alternative
listed : (g : Setting) (here : Place → Option Bindings) (line : ℕ) (c : Context) (t : Tree)
    (p : Proposal) (t' : Tree) (n : ℕ) (es : List Edit) → In p (proposals here c.scope g.rules t)
    → Finishes g line (inside c) p.draft t' n es
    → same_type (type_of c.scope t') (type_of c.scope t) ≡ true → In p (alternatives g here c t)
listed g here line c t p t' n es i fin h =
    in_filter (is_alternative c.scope t) (proposals here c.scope g.rules t) p i
    (ap (λ u. same_type u (type_of c.scope t)) (sym (type_finished fin)) ∙ h)

-- with the rules without a place alone, and then at its site
from_elsewhere : (g : Setting) (site : Site) (f line : ℕ) (c : Context) (t t' : Tree) (n : ℕ)
    (es : List Edit)
    → ((h : ℕ) → steps t ≤ suc h → Gives (grown g (suc h) elsewhere c t) line t' n es)
    → steps t + extra site ≤ f → Gives (grown g f site c t) line t' n es
from_elsewhere g elsewhere zero line c (node k ts) t' n es all s = absurd (omega arith)
from_elsewhere g elsewhere (suc f) line c t t' n es all s = all f (omega arith)
from_elsewhere g _ zero line c (node k ts) t' n es all s = absurd (omega arith)
from_elsewhere g _ (suc zero) line c (node k ts) t' n es all s = absurd (omega arith)
from_elsewhere g site (suc (suc f)) line c t t' n es all s =
    picked_base (grown g (suc f) elsewhere c t)
    (members g (grown g (suc f)) (inside c) (alternatives g (with_place site) c t)) line t' n es
    (all f (omega arith))

-- a member by a rule with the site's place
at_site : (g : Setting) (site : Site) (line : ℕ) (c : Context) (t t' : Tree) (n : ℕ)
    (es : List Edit) (p : Proposal) → In p (proposals (with_place site) c.scope g.rules t)
    → Finishes g line (inside c) p.draft t' n es
    → same_type (type_of c.scope t') (type_of c.scope t) ≡ true → (f : ℕ) → steps t + extra site ≤ f
    → ((h : ℕ) → steps t ≤ h
    → Gives (draft_grown g (grown g h) p.draft (inside c)) line t' n es)
    → Gives (grown g f site c t) line t' (p.cost + n) (edit g line c p.rule t t' ∷ es)
at_site g elsewhere line c t t' n es p i fin typed f s finishes =
    absurd (none_elsewhere c.scope t 0 g.rules p i)
at_site g _ line c (node k ts) t' n es p i fin typed zero s finishes = absurd (omega arith)
at_site g site line c t t' n es p i fin typed (suc f) s finishes =
    picked_other (grown g f elsewhere c t)
    (members g (grown g f) (inside c) (alternatives g (with_place site) c t)) line t'
    (p.cost + n) (edit g line c p.rule t t' ∷ es)
    (rw (grown_based g f elsewhere c t)
    (member_given g (grown g f) (inside c) (alternatives g (with_place site) c t) p line
    (written g t c) t' n es
    (listed g (with_place site) line c t p t' n es i fin typed)
    (finishes f (omega arith))))

mutual
  pub complete : {g : Setting} {site : Site} {line : ℕ} {c : Context} {t t' : Tree} {n : ℕ}
      {es : List Edit} → Rewrites g site line c t t' n es → KeepPrimes g.rules → (f : ℕ)
      → steps t + extra site ≤ f → Gives (grown g f site c t) line t' n es
  complete {g} (kept {site} {line} {c} {k} {ts} {ts'} {n} {es} e all) keeps f s =
      from_elsewhere g site f line c (node k ts) (node k ts') n es
      (λ h w. picked_base (node_grown g (grown g h) c (node k ts))
      (members g (grown g h) (inside c) (alternatives g without_place c (node k ts))) line
      (node k ts') n es
      (by_false (λ u. Gives u line (node k ts') n es) (copies c (node k ts)) _ _ e
      (ts', refl, all_complete all keeps h (omega arith)))) s
  complete {g} (copied {site} {line} {c} {k} {ts} e) keeps f s =
      from_elsewhere g site f line c (node k ts) (copy_of (node k ts)) 0 []
      (λ h w. picked_base (node_grown g (grown g h) c (node k ts))
      (members g (grown g h) (inside c) (alternatives g without_place c (node k ts))) line
      (copy_of (node k ts)) 0 []
      (by_true (λ u. Gives u line (copy_of (node k ts)) 0 []) (copies c (node k ts)) _ _ e
      (lifted_given (copy_of (node k ts)) line))) s
  complete {g} (replaced {site} {line} {c} {t} {t'} {n} {es} p i fin typed) keeps f s =
      from_elsewhere g site f line c t t' (p.cost + n) (edit g line c p.rule t t' ∷ es)
      (λ h w. picked_other (node_grown g (grown g h) c t)
      (members g (grown g h) (inside c) (alternatives g without_place c t)) line t' (p.cost + n)
      (edit g line c p.rule t t' ∷ es)
      (rw (node_based g (grown g h) (grown_based g h) c t)
      (member_given g (grown g h) (inside c) (alternatives g without_place c t) p line
      (written g t c) t' n es
      (listed g without_place line c t p t' n es i fin typed)
      (finish fin keeps h (each_in (λ q. Within h q.draft)
      (proposals without_place c.scope g.rules t) p
      (alternatives_within h c.scope g.rules t keeps w) i))))) s
  complete {g} (replaced_at {site} {line} {c} {t} {t'} {n} {es} p i fin typed) keeps f s =
      at_site g site line c t t' n es p i fin typed f s
      (λ h w. finish fin keeps h
      (each_in (λ q. Within h q.draft) (proposals (with_place site) c.scope g.rules t) p
      (placed_within h site c.scope g.rules t w) i))

  all_complete : {g : Setting} {k : Kind} {i line : ℕ} {c : Context} {ts ts' : Trees} {n : ℕ}
      {es : List Edit} → RewritesAll g k i line c ts ts' n es → KeepPrimes g.rules → (f : ℕ)
      → steps_in ts + 1 ≤ f → GivesAll (parts_grown g (grown g f) ts k i c) line ts' n es
  all_complete none keeps f s = (refl, refl, refl)
  all_complete (each {k} {i} {line} {c} {t} {t'} {ts} {ts'} {n} {m} {es} {fs} r rs) keeps f s =
      let e = extra_most (site_below k) in (
        record { tree = t'; trees = ts'; cost = n; costs = m; edits = es; more = fs },
        refl,
        refl,
        refl,
        complete r keeps f (omega arith),
        all_complete rs keeps f (omega arith),
      )

  finish : {g : Setting} {line : ℕ} {c : Context} {d : Draft} {t : Tree} {n : ℕ} {es : List Edit}
      → Finishes g line c d t n es → KeepPrimes g.rules → (f : ℕ) → Within f d
      → Gives (draft_grown g (grown g f) d c) line t n es
  finish {g} (made {line} {c} {k} {ds} {ts} {n} {es} e all) keeps f w =
      by_false (λ u. Gives u line (node k ts) n es) (copies c (filled (as_is k ds))) _ _ e
      (ts, refl, finish_all all keeps f w)
  finish {g} (made_a_copy {line} {c} {k} {ds} e) keeps f w =
      by_true (λ u. Gives u line (copy_of (filled (as_is k ds))) 0 [])
      (copies c (filled (as_is k ds))) _ _ e (lifted_given (copy_of (filled (as_is k ds))) line)
  finish (rewritten r) keeps f w = complete r keeps f (omega arith)

  finish_all : {g : Setting} {k : Kind} {i line : ℕ} {c : Context} {ds : Drafts} {ts : Trees}
      {n : ℕ} {es : List Edit} → FinishesAll g k i line c ds ts n es → KeepPrimes g.rules → (f : ℕ)
      → WithinAll f ds → GivesAll (drafts_grown g (grown g f) ds k i c) line ts n es
  finish_all finished keeps f w = (refl, refl, refl)
  finish_all (and_all {k} {i} {line} {c} {d} {t} {ds} {ts} {n} {m} {es} {fs} r rs) keeps f w = (
    record { tree = t; trees = ts; cost = n; costs = m; edits = es; more = fs },
    refl,
    refl,
    refl,
    finish r keeps f w.0,
    finish_all rs keeps f w.1,
  )
