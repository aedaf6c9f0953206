-- The weighted trees of functions and of programs.
use Rattle.std.proofs.Common.{◌≡◌, ℕ, suc, ◌+◌, ◌≤◌, List, [], ◌∷◌, map, Result, Ok, Err}
use Rattle.std.proofs.Common.{IsErr}
use Rattle.std.proofs.Common.{IsErrAnd, refl, ap, sym, subst, ◌∙◌, arith}
use Rattle.mpy_tree.specs.declared.tree.Func.{Func}
use Rattle.mpy_tree.specs.Syntax.{Routine}
use Rattle.mpy_tree.specs.View.{routine_of}
use Rattle.mpy_tree.specs.SetTypes.{FactSet}
use Rattle.mpy_tree.specs.Shapes.{block_shape, routine_shape, routine_shapes}
use Rattle.mpy_tree.specs.Trees as kind
use Rattle.choice_tree.specs.declared.rules.Rules.{Rules}
use Rattle.choice_tree.specs.RuleViews.{corrections_of}
use Rattle.choice_tree.specs.declared.tree.WFunc.{WFunc}
use Rattle.choice_tree.specs.declared.tree.WFuncs.{WFuncs}
use Rattle.choice_tree.specs.declared.tree.WProg.{WProg}
use Rattle.choice_tree.specs.Contexts.{Setting, Context, elsewhere, scope_in, apart, outermost}
use Rattle.choice_tree.specs.Templates.{KeepPrimes}
use Rattle.choice_tree.specs.Growing.{parts_grown, steps_in, weighted_program}
use Rattle.choice_tree.specs.StatementViews.{weighted_body, weighted_func, weighted_prog}
use Rattle.choice_tree.specs.WeightedTrees.{Weighted, Weighteds, Others, plainly, pick, no_weighted}
use Rattle.choice_tree.specs.WeightedTrees.{weighted_and, no_others, other_and, numbered, picks}
use Rattle.choice_tree.specs.WeightedTrees.{numbered_all, numbered_others, size, sizes}
use Rattle.choice_tree.specs.WeightedTrees.{other_sizes}
use Rattle.choice_tree.specs.WeightedViews.{one, weighteds}
use Rattle.eml_rewrite.specs.declared.counter.Counter.{Counter}
use Rattle.eml_rewrite.specs.declared.error.RewriteError.{RewriteError}
use Rattle.eml_rewrite.specs.declared.error.RewriteError.TheVariants as stop
use Rattle.eml_rewrite.specs.Building.{Took, Built, BuiltAll}
use Rattle.eml_rewrite.specs.Programs.{AreWithin, IsRewritten, funcs_grown, setting_of}
use Rattle.eml_rewrite.specs.Statements.{apart_in, body_grown, fully_grown}
use Rattle.eml_rewrite.proofs.Appending.{each_from}
use Rattle.eml_rewrite.proofs.FullyGrown.{parts_enough, statement_grown, statement_is}
use Rattle.eml_rewrite.proofs.Trunks.{body_is}

-- a function, over its body
pub routine_is : (g : Setting) → KeepPrimes g.rules → (c : Context) (r : Routine)
    → fully_grown g elsewhere (apart_in c) (routine_shape r)
    ≡ plainly (kind.Function r.line r.name r.params) (one (body_grown g c r.body))
routine_is g keeps c r =
    statement_is g keeps elsewhere (apart_in c) (kind.Function r.line r.name r.params)
    (kind.one (block_shape r.body)) refl
    ∙ ap (λ b. plainly (kind.Function r.line r.name r.params) (one b))
    (body_is g keeps elsewhere c (apart_in c) r.body refl)

abbrev pub func_tree : Setting → ℕ → Func → Weighted
func_tree g i f =
    fully_grown g elsewhere (record { scope = scope_in g i; sharing = apart })
    (routine_shape (routine_of f))

funcs_from : (g : Setting) (i : ℕ) (fs : List Func)
    → parts_grown g (fully_grown g) (routine_shapes (map routine_of fs)) kind.Program i (outermost
    g)
    ≡ each_from (func_tree g) i fs
funcs_from g i [] = refl
funcs_from g i (f ∷ fs) = ap (weighted_and (func_tree g i f)) (funcs_from g (suc i) fs)

pub funcs_each : (g : Setting) (fs : List Func)
    → funcs_grown g (map routine_of fs) ≡ each_from (func_tree g) 0 fs
funcs_each g fs = funcs_from g 0 fs

-- numbers change no size
mutual
  size_numbered : (w : Weighted) (n : ℕ) → size (numbered w n) ≡ size w
  size_numbered (plainly k ws) n = let r = sizes_numbered ws n in omega arith
  size_numbered (pick number base os) n =
      let a = size_numbered base (suc n) in
      let b = others_numbered os (suc n + picks base) in
      omega arith

  sizes_numbered : (ws : Weighteds) (n : ℕ) → sizes (numbered_all ws n) ≡ sizes ws
  sizes_numbered no_weighted n = refl
  sizes_numbered (weighted_and w ws) n =
      let a = size_numbered w n in
      let b = sizes_numbered ws (n + picks w) in
      omega arith

  others_numbered : (os : Others) (n : ℕ) → other_sizes (numbered_others os n) ≡ other_sizes os
  others_numbered no_others n = refl
  others_numbered (other_and rule cost w os) n =
      let a = size_numbered w n in
      let b = others_numbered os (n + picks w) in
      omega arith

-- a program, over its functions
program_is : (g : Setting) → KeepPrimes g.rules → (s : List Routine)
    → weighted_program g s ≡ plainly kind.Program (numbered_all (funcs_grown g s) 0)
program_is g keeps s =
    let ts = routine_shapes s in
    ap (λ w. numbered w 0)
    (statement_grown g (suc (steps_in ts)) (outermost g) kind.Program ts refl
    ∙ ap (plainly kind.Program)
    (parts_enough g keeps (suc (steps_in ts)) ts kind.Program 0 (outermost g) (omega arith)))

program_size : (g : Setting) → KeepPrimes g.rules → (s : List Routine)
    → size (weighted_program g s) ≡ sizes (funcs_grown g s)
program_size g keeps s =
    let r = sizes_numbered (funcs_grown g s) 0 in
    ap size (program_is g keeps s) ∙ omega arith

pub rewritten : (g : Setting) → KeepPrimes g.rules → (s : List Routine) (w : WProg)
    → AreWithin (Ok w.funcs) 1000000 (funcs_grown g s) → IsRewritten (Ok w) (weighted_program g s)
rewritten g keeps s w b =
    let same : weighted_prog w ≡ weighted_program g s =
    ap (plainly kind.Program) b.0 ∙ sym (program_is g keeps s) in
    let few = b.1 in
    let all = program_size g keeps s in
    let small : size (weighted_program g s) ≤ 1000000 = omega arith in
    (same, subst (λ x. size x ≤ 1000000) (sym same) small)

not_rewritten : (g : Setting) → KeepPrimes g.rules → (s : List Routine) (e : RewriteError)
    → AreWithin (Err e) 1000000 (funcs_grown g s) → IsRewritten (Err e) (weighted_program g s)
not_rewritten g keeps s stop.Large b = let all = program_size g keeps s in omega arith
not_rewritten g keeps s stop.NoMemory b = tt

pub rewriting_stops : (r : Result WProg RewriteError) (g : Setting) → KeepPrimes g.rules
    → (s : List Routine) (e : RewriteError) → IsErr r × IsErrAnd r (λ y. y ≡ e)
    → AreWithin (Err e) 1000000 (funcs_grown g s) → IsRewritten r (weighted_program g s)
rewriting_stops (Ok w) g keeps s e f b = absurd (f.1)
rewriting_stops (Err y) g keeps s e f b = rw f.1 (not_rewritten g keeps s e b)

-- those that were built
pub built_within : (r : Result WFuncs RewriteError) (trees : Weighteds) (most : ℕ)
    (old new : Counter) → old.next ≡ 0 → old.left ≡ most
    → BuiltAll (λ (r : WFuncs). weighteds (map weighted_func r.items.items)) r trees old new
    → AreWithin r most trees
built_within (Ok w) trees most old new n l b =
    let left = b.1.left in (b.0 ∙ ap (numbered_all trees) n, omega arith)
built_within (Err stop.Large) trees most old new n l b = omega arith
built_within (Err stop.NoMemory) trees most old new n l b = tt

-- a function, from its body
pub func_built : (g : Setting) → KeepPrimes g.rules → (c : Context) (r : Routine) (w : WFunc)
    (old new : Counter)
    → (weighted_body w.body ≡ numbered (body_grown g c r.body) old.next)
    × Took old new (picks (body_grown g c r.body)) (size (body_grown g c r.body))
    → weighted_func w ≡ plainly (kind.Function r.line r.name r.params) (one (weighted_body w.body))
    → (weighted_func w ≡ numbered (fully_grown g elsewhere (apart_in c) (routine_shape r)) old.next)
    × Took old new (picks (fully_grown g elsewhere (apart_in c) (routine_shape r)))
    (size (fully_grown g elsewhere (apart_in c) (routine_shape r)))
func_built g keeps c r w old new b e =
    let next = b.1.next in
    let left = b.1.left in
    rw (routine_is g keeps c r) (
      e ∙ ap (λ x. plainly (kind.Function r.line r.name r.params) (one x)) b.0,
      record { next = omega arith; left = omega arith },
    )

func_fails : {A B : Type 0} (seen : A → Weighted) (view : B → Weighted) (e : RewriteError)
    (g : Setting) → KeepPrimes g.rules → (c : Context) (r : Routine) (old new : Counter)
    → Built seen (Err e) (body_grown g c r.body) old new
    → Built view (Err e) (fully_grown g elsewhere (apart_in c) (routine_shape r)) old new
func_fails seen view stop.Large g keeps c r old new b = rw (routine_is g keeps c r) (omega arith)
func_fails seen view stop.NoMemory g keeps c r old new b = tt

pub func_stops : {A B : Type 0} (seen : A → Weighted) (view : B → Weighted)
    (r : Result B RewriteError) (e : RewriteError) (g : Setting) → KeepPrimes g.rules
    → (c : Context) (f : Routine) (old new : Counter) → IsErr r × IsErrAnd r (λ y. y ≡ e)
    → Built seen (Err e) (body_grown g c f.body) old new
    → Built view r (fully_grown g elsewhere (apart_in c) (routine_shape f)) old new
func_stops seen view (Ok a) e g keeps c f old new failed b = absurd (failed.1)
func_stops seen view (Err y) e g keeps c f old new failed b =
    rw failed.1 (func_fails seen view e g keeps c f old new b)

-- the same of the functions that the code reads
pub rewritten_in : (facts : FactSet) (rules : Rules) (fs gs : List Func) → fs ≡ gs
    → KeepPrimes (corrections_of rules) → (w : WProg)
    → AreWithin (Ok w.funcs) 1000000 (funcs_grown (setting_of facts rules fs) (map routine_of fs))
    → IsRewritten (Ok w) (weighted_program (setting_of facts rules gs) (map routine_of gs))
rewritten_in facts rules fs gs same keeps w b =
    subst (λ hs. IsRewritten (Ok w)
    (weighted_program (setting_of facts rules hs) (map routine_of hs))) same
    (rewritten (setting_of facts rules fs) keeps (map routine_of fs) w b)

pub stops_in : (r : Result WProg RewriteError) (facts : FactSet) (rules : Rules)
    (fs gs : List Func) → fs ≡ gs → KeepPrimes (corrections_of rules) → (e : RewriteError)
    → IsErr r × IsErrAnd r (λ y. y ≡ e)
    → AreWithin (Err e) 1000000 (funcs_grown (setting_of facts rules fs) (map routine_of fs))
    → IsRewritten r (weighted_program (setting_of facts rules gs) (map routine_of gs))
stops_in r facts rules fs gs same keeps e f b =
    subst (λ hs. IsRewritten r (weighted_program (setting_of facts rules hs) (map routine_of hs)))
    same
    (rewriting_stops r (setting_of facts rules fs) keeps (map routine_of fs) e f b)
