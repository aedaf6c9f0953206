-- The members of a pick, one after another.
use Rattle.std.proofs.Common.{◌≡◌, ℕ, suc, zero, ◌+◌, ◌<◌, ◌≤◌, List, [], ◌∷◌, ◌++◌, map, length}
use Rattle.std.proofs.Common.{get_or}
use Rattle.std.proofs.Common.{drop, drop-cons, Result, Ok, Err, IsErr, IsErrAnd, refl, ap}
use Rattle.std.proofs.Common.{sym, ◌∙◌, arith, Vec}
use Rattle.std.proofs.lemmas.List.{map-append}
use Rattle.std.specs.declared.alloc.Global.{Global}
use Rattle.choice_tree.specs.Contexts.{Setting, Context}
use Rattle.choice_tree.specs.Drafts.{Proposal}
use Rattle.choice_tree.specs.Growing.{Growing, draft_grown, members}
use Rattle.choice_tree.specs.WeightedTrees.{Weighted, Weighteds, Others, size, picks, numbered}
use Rattle.choice_tree.specs.WeightedTrees.{no_others, other_and, numbered_others, picks_in_others}
use Rattle.choice_tree.specs.WeightedTrees.{other_sizes}
use Rattle.choice_tree.specs.declared.tree.WExpr.TheFolds.{fold-roll-Others}
use Rattle.choice_tree.specs.declared.tree.WExpr.{WExpr}
use Rattle.choice_tree.specs.declared.tree.Other.{Other, roll-Other}
use Rattle.choice_tree.specs.declared.tree.Others.{roll-Others}
use Rattle.choice_tree.specs.WeightedViews as views
use Rattle.choice_tree.specs.WeightedViews.{Member, member_seen, weighted_of, others_of, wexpr_step}
use Rattle.choice_tree.specs.WeightedViews.{other_step, others_step, wexprs_step}
use Rattle.choice_tree.proofs.Opening.{member_is}
use Rattle.eml_rewrite.specs.declared.counter.Counter.{Counter}
use Rattle.eml_rewrite.specs.declared.error.RewriteError.{RewriteError}
use Rattle.eml_rewrite.specs.declared.error.RewriteError.TheVariants as stop
use Rattle.eml_rewrite.specs.Building.{Took, Built, BuiltOthers}

abbrev pub append_others : Others → Others → Others
append_others no_others more = more
append_others (other_and rule cost w os) more = other_and rule cost w (append_others os more)

append_none : (os : Others) → append_others os no_others ≡ os
append_none no_others = refl
append_none (other_and rule cost w os) = ap (other_and rule cost w) (append_none os)

append_push : (ms : List Member) (m : Member) (more : Others)
    → append_others (views.members (ms ++ m ∷ [])) more
    ≡ append_others (views.members ms) (other_and m.rule m.cost m.tree more)
append_push [] m more = refl
append_push (x ∷ ms) m more = ap (other_and x.rule x.cost x.tree) (append_push ms m more)

-- of all members some are built, and the others are left
pub record AreOthers (all left : Others) (built : List Member) (start now : Counter) : Type 0 where
  pub trees :
      numbered_others all start.next
      ≡ append_others (views.members built) (numbered_others left now.next)
  pub next : start.next + picks_in_others all ≡ now.next + picks_in_others left
  pub size : start.left + other_sizes left ≡ now.left + other_sizes all

pub no_member_built : (all : Others) (start : Counter) → AreOthers all all [] start start
no_member_built all start = record { trees = refl; next = refl; size = refl }

member_built : (all rest : Others) (rule cost : ℕ) (w : Weighted) (m : Member)
    (built more : List Member) (start now later : Counter)
    → AreOthers all (other_and rule cost w rest) built start now
    → m ≡ record { rule = rule; cost = cost; tree = numbered w now.next }
    → Took now later (picks w) (size w) → more ≡ built ++ m ∷ []
    → AreOthers all rest more start later
member_built all rest rule cost w m built more start now later h e b put =
    let next : now.next + picks w ≡ later.next = sym b.next in
    let first = h.next in
    let taken = b.left in
    let left = h.size in
    record {
      trees =
          h.trees
          ∙ (λ i. append_others (views.members built)
          (other_and rule cost (numbered w now.next) (numbered_others rest (next i))))
          ∙ (λ i. append_others (views.members built)
          (other_and (sym e i).rule (sym e i).cost (sym e i).tree
          (numbered_others rest later.next)))
          ∙ sym (append_push built m (numbered_others rest later.next))
          ∙ ap (λ xs. append_others (views.members xs) (numbered_others rest later.next)) (sym put);
      next = omega arith;
      size = omega arith;
    }

members_built : (all : Others) (built : List Member) (start now : Counter)
    → AreOthers all no_others built start now
    → (views.members built ≡ numbered_others all start.next)
    × Took start now (picks_in_others all) (other_sizes all)
members_built all built start now h =
    let next = h.next in
    let left = h.size in (
      sym (h.trees ∙ append_none (views.members built)),
      record { next = omega arith; left = omega arith },
    )

member_fails : {A B : Type 0} (seen : A → Weighted) (view : B → Others) (e : RewriteError)
    (all rest : Others) (rule cost : ℕ) (w : Weighted) (built : List Member)
    (start now later : Counter) → AreOthers all (other_and rule cost w rest) built start now
    → Built seen (Err e) w now later → BuiltOthers view (Err e) all start later
member_fails seen view stop.Large all rest rule cost w built start now later h b =
    let left = h.size in omega arith
member_fails seen view stop.NoMemory all rest rule cost w built start now later h b = tt

-- the members of a list of alternatives of which those in front are built
abbrev pub FrontMembers : {X : Type 0} → Setting → Growing → Context → (X → Proposal) → List X → ℕ
    → List Member → Counter → Counter → Type 0
FrontMembers g grow c f xs i built start now =
    AreOthers (members g grow c (map f xs)) (members g grow c (map f (drop i xs))) built start now

one_left : {X : Type 0} (xs : List X) (i : ℕ) (x : X) → i < length xs → x ≡ get_or xs i x
    → drop i xs ≡ x ∷ drop (suc i) xs
one_left xs i x h e = rw (drop-cons xs i x, ← e) refl

none_left : {X : Type 0} (xs : List X) (i : ℕ) → length xs ≤ i → drop i xs ≡ []
none_left [] zero h = refl
none_left [] (suc i) h = refl
none_left (x ∷ xs) zero h = absurd (omega arith)
none_left (x ∷ xs) (suc i) h = none_left xs i (omega arith)

pub front_member : {X : Type 0} (g : Setting) (grow : Growing) (c : Context) (f : X → Proposal)
    (xs : List X) (i j : ℕ) (x : X) (o : Other) (w : WExpr) (items more : List Other)
    (start now later : Counter) → j ≡ suc i → i < length xs
    → x ≡ get_or xs i x → FrontMembers g grow c f xs i (map member_seen items) start now
    → o ≡ roll-Other (record { rule = (f x).rule; cost = (f x).cost; tree = w })
    → (weighted_of w ≡ numbered (draft_grown g grow (f x).draft c) now.next)
    × Took now later (picks (draft_grown g grow (f x).draft c))
    (size (draft_grown g grow (f x).draft c))
    → more ≡ items ++ o ∷ []
    → FrontMembers g grow c f xs j (map member_seen more) start later
front_member g grow c f xs i j x o w items more start now later s h e front is b put =
    let seen : member_seen o ≡ record {
      rule = (f x).rule;
      cost = (f x).cost;
      tree = numbered (draft_grown g grow (f x).draft c) now.next;
    } =
    ap member_seen is
    ∙ member_is (roll-Other (record { rule = (f x).rule; cost = (f x).cost; tree = w }))
    ∙ (λ k. record { rule = (f x).rule; cost = (f x).cost; tree = b.0 k }) in
    rw s
    (member_built (members g grow c (map f xs)) (members g grow c (map f (drop (suc i) xs)))
    (f x).rule (f x).cost (draft_grown g grow (f x).draft c) (member_seen o)
    (map member_seen items) (map member_seen more) start now later
    (rw (one_left xs i x h e) at front) seen b.1
    (ap (map member_seen) put ∙ map-append member_seen items (o ∷ [])))

pub front_members_end : {X : Type 0} (g : Setting) (grow : Growing) (c : Context)
    (f : X → Proposal) (xs : List X) (i : ℕ) (built : List Member) (start now : Counter)
    → length xs ≤ i → FrontMembers g grow c f xs i built start now
    → (views.members built ≡ numbered_others (members g grow c (map f xs)) start.next)
    × Took start now (picks_in_others (members g grow c (map f xs)))
    (other_sizes (members g grow c (map f xs)))
front_members_end g grow c f xs i built start now h front =
    members_built (members g grow c (map f xs)) built start now
    (rw (none_left xs i h) at front)

pub front_member_fails : {A B X : Type 0} (seen : A → Weighted) (view : B → Others)
    (r : Result B RewriteError) (e : RewriteError) (g : Setting) (grow : Growing) (c : Context)
    (f : X → Proposal) (xs : List X) (i : ℕ) (x : X) (built : List Member)
    (start now later : Counter) → IsErr r × IsErrAnd r (λ y. y ≡ e) → i < length xs
    → x ≡ get_or xs i x → FrontMembers g grow c f xs i built start now
    → Built seen (Err e) (draft_grown g grow (f x).draft c) now later
    → BuiltOthers view r (members g grow c (map f xs)) start later
front_member_fails seen view (Ok a) e g grow c f xs i x built start now later failed h is front b =
    absurd (failed.1)
front_member_fails seen view (Err y) e g grow c f xs i x built start now later failed h is front b =
    rw failed.1
    (member_fails seen view e (members g grow c (map f xs))
    (members g grow c (map f (drop (suc i) xs))) (f x).rule (f x).cost
    (draft_grown g grow (f x).draft c) built start now later
    (rw (one_left xs i x h is) at front) b)

pub others_are : (items : Vec Other Global)
    → others_of (roll-Others (record { items = items }))
    ≡ views.members (map member_seen items.items)
others_are items =
    fold-roll-Others Weighted Member Others Weighteds wexpr_step other_step others_step wexprs_step
    (record { items = items })
