-- Programs that are one but for their expressions, each of which is a rewriting of the other's.
use Rattle.std.proofs.Common.{◌≡◌, ℕ, suc, List, [], ◌∷◌, ◌++◌}
use Rattle.std.specs.Prelude.{⊤}
use Rattle.mpy_tree.specs.declared.operators.ArithOp.{ArithOp}
use Rattle.mpy_tree.specs.Shapes.{shape}
use Rattle.mpy_tree.specs.Sites.{Site, asks, does, in_arms, in_last, inside, site_terms, sites}
use Rattle.mpy_tree.specs.Syntax.{Action, Block, Branches, MaybeBlock, Routine, Term, a_block}
use Rattle.mpy_tree.specs.Syntax.{a_term, arm, arm_and, at, end, no_arms, no_block, no_term, step}
use Rattle.mpy_tree.specs.Syntax as ast
use Rattle.choice_tree.specs.Contexts.{Context, Setting, Sharing, apart, scope_in, shared}
use Rattle.choice_tree.specs.Typing.{Scope}
use Rattle.rewriting_laws.proofs.Becoming.{Becomes}

abbrev pub place_in : Scope → Sharing → Context
place_in σ s = record { scope = σ; sharing = s }

-- the whole expression of `v = e`, a `return` or a `for`, and any other expression of a statement
abbrev pub Whole : Setting → Scope → Term → Term → Type 0
Whole g σ e f = Becomes g (place_in σ shared) (shape e) (shape f)

abbrev pub Part : Setting → Scope → Term → Term → Type 0
Part g σ e f = Becomes g (place_in σ apart) (shape e) (shape f)

mutual
  pub data AlikeAct (g : Setting) (σ : Scope) : Action → Action → Type 0 where
    assign : {x : List ℕ} {e f : Term} → Whole g σ e f
        → AlikeAct g σ (ast.Assign x e) (ast.Assign x f)
    augment : {x : List ℕ} {op : ArithOp} {e f : Term} → Part g σ e f
        → AlikeAct g σ (ast.Augment x op e) (ast.Augment x op f)
    put : {x : List ℕ} {i j e f : Term} → Part g σ i j → Part g σ e f
        → AlikeAct g σ (ast.Put x i e) (ast.Put x j f)
    augment_at : {x : List ℕ} {op : ArithOp} {i j e f : Term} → Part g σ i j → Part g σ e f
        → AlikeAct g σ (ast.AugmentAt x i op e) (ast.AugmentAt x j op f)
    append : {x : List ℕ} {e f : Term} → Part g σ e f
        → AlikeAct g σ (ast.Append x e) (ast.Append x f)
    print : {e f : Term} → Part g σ e f → AlikeAct g σ (ast.Print e) (ast.Print f)
    give_none : AlikeAct g σ (ast.Return no_term) (ast.Return no_term)
    give : {e f : Term} → Whole g σ e f
        → AlikeAct g σ (ast.Return (a_term e)) (ast.Return (a_term f))
    pass : AlikeAct g σ ast.Pass ast.Pass
    leave : AlikeAct g σ ast.Break ast.Break
    go_on : AlikeAct g σ ast.Continue ast.Continue
    branch : {xs ys : Branches} {l m : MaybeBlock} → AlikeArms g σ xs ys → AlikeLast g σ l m
        → AlikeAct g σ (ast.If xs l) (ast.If ys m)
    repeat : {e f : Term} {a b : Block} → Part g σ e f → AlikeBlock g σ a b
        → AlikeAct g σ (ast.While e a) (ast.While f b)
    go_over : {x : List ℕ} {e f : Term} {a b : Block} → Whole g σ e f → AlikeBlock g σ a b
        → AlikeAct g σ (ast.For x e a) (ast.For x f b)

  pub data AlikeBlock (g : Setting) (σ : Scope) : Block → Block → Type 0 where
    done : AlikeBlock g σ end end
    next : {line : ℕ} {x y : Action} {a b : Block} → AlikeAct g σ x y → AlikeBlock g σ a b
        → AlikeBlock g σ (step (at line x) a) (step (at line y) b)

  pub data AlikeArms (g : Setting) (σ : Scope) : Branches → Branches → Type 0 where
    no_arm : AlikeArms g σ no_arms no_arms
    one_arm : {line : ℕ} {e f : Term} {a b : Block} {xs ys : Branches} → Part g σ e f
        → AlikeBlock g σ a b → AlikeArms g σ xs ys
        → AlikeArms g σ (arm_and (arm line e a) xs) (arm_and (arm line f b) ys)

  pub data AlikeLast (g : Setting) (σ : Scope) : MaybeBlock → MaybeBlock → Type 0 where
    no_last : AlikeLast g σ no_block no_block
    last : {a b : Block} → AlikeBlock g σ a b → AlikeLast g σ (a_block a) (a_block b)

pub data AlikeSite (g : Setting) (σ : Scope) : Site → Site → Type 0 where
  both_do : {line : ℕ} {x y : Action} → AlikeAct g σ x y
      → AlikeSite g σ (does line x) (does line y)
  both_ask : {line : ℕ} {e f : Term} → Part g σ e f → AlikeSite g σ (asks line e) (asks line f)

pub data AlikeSites (g : Setting) (σ : Scope) : List Site → List Site → Type 0 where
  nowhere : AlikeSites g σ [] []
  there : {s t : Site} {ss ts : List Site} → AlikeSite g σ s t → AlikeSites g σ ss ts
      → AlikeSites g σ (s ∷ ss) (t ∷ ts)

-- functions of one head
pub record AlikeRoutine (g : Setting) (i : ℕ) (r q : Routine) : Type 0 where
  pub line : q.line ≡ r.line
  pub name : q.name ≡ r.name
  pub params : q.params ≡ r.params
  pub body : AlikeBlock g (scope_in g i) r.body q.body

-- those from the number i on
abbrev pub AlikeFrom : Setting → ℕ → List Routine → List Routine → Type 0
AlikeFrom g i [] [] = ⊤
AlikeFrom g i (r ∷ rs) (q ∷ qs) = AlikeRoutine g i r q × AlikeFrom g (suc i) rs qs
AlikeFrom g i _ _ = ⊥

both_alike : {g : Setting} {σ : Scope} {ss ts us vs : List Site} → AlikeSites g σ ss ts
    → AlikeSites g σ us vs → AlikeSites g σ (ss ++ us) (ts ++ vs)
both_alike nowhere h = h
both_alike (there s ss) h = there s (both_alike ss h)

-- their flat lists of statements
mutual
  pub sites_alike : {g : Setting} {σ : Scope} {a b : Block} → AlikeBlock g σ a b
      → AlikeSites g σ (sites a) (sites b)
  sites_alike done = nowhere
  sites_alike (next x a) = there (both_do x) (both_alike (inside_alike x) (sites_alike a))

  inside_alike : {g : Setting} {σ : Scope} {x y : Action} → AlikeAct g σ x y
      → AlikeSites g σ (inside x) (inside y)
  inside_alike (assign e) = nowhere
  inside_alike (augment e) = nowhere
  inside_alike (put i e) = nowhere
  inside_alike (augment_at i e) = nowhere
  inside_alike (append e) = nowhere
  inside_alike (print e) = nowhere
  inside_alike give_none = nowhere
  inside_alike (give e) = nowhere
  inside_alike pass = nowhere
  inside_alike leave = nowhere
  inside_alike go_on = nowhere
  inside_alike (branch xs l) = both_alike (arms_alike xs) (last_alike l)
  inside_alike (repeat e a) = sites_alike a
  inside_alike (go_over e a) = sites_alike a

  arms_alike : {g : Setting} {σ : Scope} {xs ys : Branches} → AlikeArms g σ xs ys
      → AlikeSites g σ (in_arms xs) (in_arms ys)
  arms_alike no_arm = nowhere
  arms_alike (one_arm e a xs) = there (both_ask e) (both_alike (sites_alike a) (arms_alike xs))

  last_alike : {g : Setting} {σ : Scope} {l m : MaybeBlock} → AlikeLast g σ l m
      → AlikeSites g σ (in_last l) (in_last m)
  last_alike no_last = nowhere
  last_alike (last a) = sites_alike a

-- the expressions of a statement, wherever they stand in it
abbrev pub Anywhere : Setting → Scope → Term → Term → Type 0
Anywhere g σ e f = (s : Sharing) × Becomes g (place_in σ s) (shape e) (shape f)

abbrev pub AlikeTerms : Setting → Scope → List Term → List Term → Type 0
AlikeTerms g σ [] [] = ⊤
AlikeTerms g σ (e ∷ es) (f ∷ fs) = Anywhere g σ e f × AlikeTerms g σ es fs
AlikeTerms g σ _ _ = ⊥

pub terms_alike : {g : Setting} {σ : Scope} {s t : Site} → AlikeSite g σ s t
    → AlikeTerms g σ (site_terms s) (site_terms t)
terms_alike (both_do (assign e)) = ((shared, e), tt)
terms_alike (both_do (augment e)) = ((apart, e), tt)
terms_alike (both_do (put i e)) = ((apart, i), ((apart, e), tt))
terms_alike (both_do (augment_at i e)) = ((apart, i), ((apart, e), tt))
terms_alike (both_do (append e)) = ((apart, e), tt)
terms_alike (both_do (print e)) = ((apart, e), tt)
terms_alike (both_do give_none) = tt
terms_alike (both_do (give e)) = ((shared, e), tt)
terms_alike (both_do pass) = tt
terms_alike (both_do leave) = tt
terms_alike (both_do go_on) = tt
terms_alike (both_do (branch xs l)) = tt
terms_alike (both_do (repeat e a)) = ((apart, e), tt)
terms_alike (both_do (go_over e a)) = ((shared, e), tt)
terms_alike (both_ask e) = ((apart, e), tt)
