-- The weighted trees of functions are no smaller than those of their lines together.
use Rattle.std.proofs.Common.{◌≡◌, ℕ, suc, ◌+◌, ◌≤◌, List, ◌++◌, map, ap, sym, ◌∙◌}
use Rattle.std.proofs.Common.{arith}
use Rattle.std.specs.List.{sum_by}
use Rattle.std.proofs.lemmas.List.Sums.{sum_by-append, sum_by-cons}
use Rattle.mpy_tree.specs.Syntax as ast
use Rattle.mpy_tree.specs.Syntax.{at, Action, Block, end, step, MaybeBlock, no_block, a_block, arm}
use Rattle.mpy_tree.specs.Syntax.{Branches, no_arms, arm_and, no_term, a_term, Routine}
use Rattle.mpy_tree.specs.Shapes.{routine_shape, shape, statement_shapes}
use Rattle.mpy_tree.specs.Sites.{asks, does, in_arms, in_last, inside, sites}
use Rattle.mpy_tree.specs.Trees as kind
use Rattle.mpy_tree.specs.Trees.{Tree}
use Rattle.mpy_scopes.specs.declared.nodes.Site.{Site as Seen}
use Rattle.mpy_scopes.specs.Seen.{site_of}
use Rattle.choice_tree.specs.Contexts.{Setting, Site, elsewhere, at_return, at_assign, at_if}
use Rattle.choice_tree.specs.Contexts.{at_while, at_for, Context, Sharing, apart, sharing_inside}
use Rattle.choice_tree.specs.Contexts.{inside as within}
use Rattle.choice_tree.specs.Drafts.{proposals}
use Rattle.choice_tree.specs.Growing.{alternatives, grown, is_alternative, members, parts_grown}
use Rattle.choice_tree.specs.Growing.{picked, steps}
use Rattle.choice_tree.specs.Matching.{here, with_place}
use Rattle.choice_tree.specs.Templates.{KeepPrimes}
use Rattle.choice_tree.specs.WeightedTrees.{Weighteds, size, sizes}
use Rattle.choice_tree.proofs.Within.{Within, placed_within}
use Rattle.eml_rewrite.specs.LeastSizes.{action_least, least_size, line_least, others_least}
use Rattle.eml_rewrite.specs.LeastSizes.{placed_least}
use Rattle.eml_rewrite.specs.Statements.{action_grown, apart_in, arms_grown, fully_grown}
use Rattle.eml_rewrite.specs.Statements.{last_grown, shared_at}
use Rattle.eml_rewrite.proofs.LeastSizes.{each_filtered, least_below, mapped_sum, picked_counted}
use Rattle.eml_rewrite.proofs.Programs.{routine_is}
use Rattle.eml_rewrite.proofs.Trunks.{arm_is, statement_grown_is}

-- at a place, by one step more than without the rules of the place
step_counted : (g : Setting) → KeepPrimes g.rules → (site : Site) (c : Context) (t : Tree) (n : ℕ)
    → n ≤ least_size g c.scope t
    → n + others_least (least_size g c.scope) (alternatives g (with_place site) c t)
    ≤ size (picked (grown g (steps t) elsewhere c t)
    (members g (grown g (steps t)) (within c) (alternatives g (with_place site) c t)))
step_counted g keeps site c t n h =
    let σ = c.scope in
    let f = steps t in
    let few = least_below g keeps σ f in
    let base = few t c.sharing (omega arith) in
    picked_counted g σ (least_size g σ) (grown g f) f few (grown g f elsewhere c t) n
    (alternatives g (with_place site) c t) (sharing_inside c.sharing) (omega arith)
    (each_filtered (λ p. Within f p.draft) (is_alternative σ t)
    (proposals (with_place site) σ g.rules t)
    (placed_within f site σ g.rules t (omega arith)))

-- a whole expression without a place, and with one
whole_counted : (g : Setting) → KeepPrimes g.rules → (c : Context) (s : Sharing) (t : Tree)
    → least_size g c.scope t
    ≤ size (fully_grown g elsewhere (record { scope = c.scope; sharing = s }) t)
whole_counted g keeps c s t = least_below g keeps c.scope (steps t + 1) t s (omega arith)

abbrev HasPlace : Site → Type 0
HasPlace elsewhere = ⊥
HasPlace _ = Unit {0}

more_steps : (g : Setting) → KeepPrimes g.rules → (site : Site) (c : Context) (t : Tree)
    → HasPlace site
    → least_size g c.scope t
    + others_least (least_size g c.scope) (alternatives g (here site) c t)
    ≤ size (grown g (suc (steps t)) site c t)
more_steps g keeps elsewhere c t h = absurd h
more_steps g keeps at_return c t h = step_counted g keeps at_return c t _ (omega arith)
more_steps g keeps (at_assign x) c t h = step_counted g keeps (at_assign x) c t _ (omega arith)
more_steps g keeps at_if c t h = step_counted g keeps at_if c t _ (omega arith)
more_steps g keeps at_while c t h = step_counted g keeps at_while c t _ (omega arith)
more_steps g keeps (at_for x) c t h = step_counted g keeps (at_for x) c t _ (omega arith)

placed_counted : (g : Setting) → KeepPrimes g.rules → (c : Context) (site : Site) (s : Sharing)
    (t : Tree) → HasPlace site
    → placed_least g c site t
    ≤ size (fully_grown g site (record { scope = c.scope; sharing = s }) t)
placed_counted g keeps c site s t h =
    let more : steps t + 1 ≡ suc (steps t) = omega arith in
    rw more (more_steps g keeps site (record { scope = c.scope; sharing = s }) t h)

module _ (g : Setting) (keeps : KeepPrimes g.rules) (c : Context) where
  mutual
    body_counted : (b : Block) (i : ℕ)
        → sum_by (line_least g c) (sites b)
        ≤ sizes (parts_grown g (fully_grown g) (statement_shapes b) kind.Block i (apart_in c))
    body_counted end i = omega arith
    body_counted (step (at line act) rest) i =
        let one = line_least g c in
        let sum = sum_by-cons one (does line act) (inside act ++ sites rest) in
        let both = sum_by-append one (inside act) (sites rest) in
        let first = action_counted act line in
        let is = ap size (statement_grown_is g keeps c (at line act)) in
        let more = body_counted rest (suc i) in
        omega arith

    action_counted : (a : Action) (line : ℕ)
        → action_least g c a
        + sum_by (line_least g c) (inside a)
        ≤ size (action_grown g c a line)
    action_counted (ast.Assign x e) line = let w = placed_counted g keeps c (at_assign x) (shared_at (at_assign x)) (shape e) tt in omega arith
    action_counted (ast.Augment x op e) line = let w = whole_counted g keeps c apart (shape e) in omega arith
    action_counted (ast.Put x i e) line =
        let v = whole_counted g keeps c apart (shape i) in
        let w = whole_counted g keeps c apart (shape e) in
        omega arith
    action_counted (ast.AugmentAt x i op e) line =
        let v = whole_counted g keeps c apart (shape i) in
        let w = whole_counted g keeps c apart (shape e) in
        omega arith
    action_counted (ast.Append x e) line = let w = whole_counted g keeps c apart (shape e) in omega arith
    action_counted (ast.Print e) line = let w = whole_counted g keeps c apart (shape e) in omega arith
    action_counted (ast.Return no_term) line = omega arith
    action_counted (ast.Return (a_term e)) line = let w = placed_counted g keeps c at_return (shared_at at_return) (shape e) tt in omega arith
    action_counted ast.Pass line = omega arith
    action_counted ast.Break line = omega arith
    action_counted ast.Continue line = omega arith
    action_counted (ast.If arms last) line =
        let one = line_least g c in
        let both = sum_by-append one (in_arms arms) (in_last last) in
        let first = arms_counted arms (last_grown g c last) in
        let second = last_counted last in
        omega arith
    action_counted (ast.While e body) line =
        let w = placed_counted g keeps c at_while (shared_at at_while) (shape e) tt in
        let more = body_counted body 0 in
        omega arith
    action_counted (ast.For x e body) line =
        let w = placed_counted g keeps c (at_for x) (shared_at (at_for x)) (shape e) tt in
        let more = body_counted body 0 in
        omega arith

    arms_counted : (bs : Branches) (rest : Weighteds)
        → sum_by (line_least g c) (in_arms bs) + sizes rest
        ≤ sizes (arms_grown g c bs rest)
    arms_counted no_arms rest = omega arith
    arms_counted (arm_and (arm line e body) bs) rest =
        let one = line_least g c in
        let sum = sum_by-cons one (asks line e) (sites body ++ in_arms bs) in
        let both = sum_by-append one (sites body) (in_arms bs) in
        let w = placed_counted g keeps c at_if (shared_at at_if) (shape e) tt in
        let first = body_counted body 0 in
        let is = ap size (arm_is g keeps c (arm line e body)) in
        let more = arms_counted bs rest in
        omega arith

    last_counted : (b : MaybeBlock)
        → sum_by (line_least g c) (in_last b) ≤ sizes (last_grown g c b)
    last_counted no_block = omega arith
    last_counted (a_block body) = let more = body_counted body 0 in omega arith

  func_counted : (r : Routine)
      → sum_by (line_least g c) (sites r.body)
      ≤ size (fully_grown g elsewhere (apart_in c) (routine_shape r))
  func_counted r =
      let is = ap size (routine_is g keeps c r) in
      let more = body_counted r.body 0 in
      omega arith

  -- from the lines that the code lists
  pub lines_counted : (r : Routine) (xs : List Seen) (n : ℕ) → map site_of xs ≡ sites r.body
      → n ≤ sum_by (λ x. line_least g c (site_of x)) xs
      → n ≤ size (fully_grown g elsewhere (apart_in c) (routine_shape r))
  lines_counted r xs n lines h =
      let one = line_least g c in
      let same = sym (mapped_sum one site_of xs) ∙ ap (sum_by one) lines in
      let all = func_counted r in
      omega arith
