-- Programs that differ in their lines alone pass the limits alike.
use Rattle.std.proofs.Common.{◌≡◌, ℕ, suc, ◌+◌, ◌-◌, min, Bool, true, false, List, [], ◌∷◌, ◌++◌, length, map, take, drop, flat_map, refl, ap, sym, ◌∙◌, arith, length-append}
use Rattle.std.proofs.lemmas.List.{length-map, length-take, length-drop}
use Rattle.mpy_tree.specs.Syntax.{at, Action, Block, end, step, MaybeBlock, no_block, a_block, arm, Branches, no_arms, arm_and, Routine}
use Rattle.mpy_tree.specs.Syntax as ast
use Rattle.mpy_tree.specs.Equality.{block_without_lines, action_without_lines, arms_without_lines, else_without_lines, without_lines}
use Rattle.mpy_limits.specs.Limits.{line_if, too_deep, deeper, block_lines, action_lines, arms_lines, last_lines, statements, statements_in, statements_of, statements_last, is_large_header, routine_lines, limit_lines}

joined : {A B : Type 0} (xs ys : List A) (us vs : List B) → length xs ≡ length us → length ys ≡ length vs → length (xs ++ ys) ≡ length (us ++ vs)
joined xs ys us vs h k = length-append xs ys ∙ ap (λ n. n + length ys) h ∙ ap (λ n. length us + n) k ∙ sym (length-append us vs)

line_if_length : (b : Bool) (m n : ℕ) → length (line_if b m) ≡ length (line_if b n)
line_if_length true m n = refl
line_if_length false m n = refl

too_deep_length : (d : ℕ) (b : Block) → length (too_deep d (block_without_lines b)) ≡ length (too_deep d b)
too_deep_length d end = refl
too_deep_length d (step (at line act) rest) = line_if_length _ 0 line

mutual
  block_length : (d : ℕ) (b : Block) → length (block_lines d (block_without_lines b)) ≡ length (block_lines d b)
  block_length d end = refl
  block_length d (step (at line act) rest) = joined _ _ _ _ (action_length d line act) (block_length d rest)

  action_length : (d line : ℕ) (act : Action) → length (action_lines d 0 (action_without_lines act)) ≡ length (action_lines d line act)
  action_length d line (ast.Assign x e) = line_if_length _ 0 line
  action_length d line (ast.Augment x op e) = line_if_length _ 0 line
  action_length d line (ast.Put x i e) = line_if_length _ 0 line
  action_length d line (ast.AugmentAt x i op e) = line_if_length _ 0 line
  action_length d line (ast.Append x e) = line_if_length _ 0 line
  action_length d line (ast.Print e) = line_if_length _ 0 line
  action_length d line (ast.Return e) = line_if_length _ 0 line
  action_length d line ast.Pass = refl
  action_length d line ast.Break = refl
  action_length d line ast.Continue = refl
  action_length d line (ast.If arms last) = joined _ _ _ _ (arms_length d arms) (last_length d last)
  action_length d line (ast.While e body) = joined _ _ _ _ (joined _ _ _ _ (line_if_length _ 0 line) (too_deep_length (deeper d) body)) (block_length (deeper d) body)
  action_length d line (ast.For x e body) = joined _ _ _ _ (joined _ _ _ _ (line_if_length _ 0 line) (too_deep_length (deeper d) body)) (block_length (deeper d) body)

  arms_length : (d : ℕ) (arms : Branches) → length (arms_lines d (arms_without_lines arms)) ≡ length (arms_lines d arms)
  arms_length d no_arms = refl
  arms_length d (arm_and (arm line e body) rest) = joined _ _ _ _ (joined _ _ _ _ (joined _ _ _ _ (line_if_length _ 0 line) (too_deep_length (deeper d) body)) (block_length (deeper d) body)) (arms_length d rest)

  last_length : (d : ℕ) (last : MaybeBlock) → length (last_lines d (else_without_lines last)) ≡ length (last_lines d last)
  last_length d no_block = refl
  last_length d (a_block body) = joined _ _ _ _ (too_deep_length (deeper d) body) (block_length (deeper d) body)

mutual
  statements_length : (b : Block) → length (statements (block_without_lines b)) ≡ length (statements b)
  statements_length end = refl
  statements_length (step (at line act) rest) = ap suc (joined _ _ _ _ (within_length act) (statements_length rest))

  within_length : (act : Action) → length (statements_in (action_without_lines act)) ≡ length (statements_in act)
  within_length (ast.If arms last) = joined _ _ _ _ (arms_statements_length arms) (last_statements_length last)
  within_length (ast.While e body) = statements_length body
  within_length (ast.For x e body) = statements_length body
  within_length _ = refl

  arms_statements_length : (arms : Branches) → length (statements_of (arms_without_lines arms)) ≡ length (statements_of arms)
  arms_statements_length no_arms = refl
  arms_statements_length (arm_and (arm line e body) rest) = joined _ _ _ _ (statements_length body) (arms_statements_length rest)

  last_statements_length : (last : MaybeBlock) → length (statements_last (else_without_lines last)) ≡ length (statements_last last)
  last_statements_length no_block = refl
  last_statements_length (a_block body) = statements_length body

routine_length : (r : Routine) → length (routine_lines (without_lines r)) ≡ length (routine_lines r)
routine_length r = joined _ _ _ _ (line_if_length (is_large_header r) 0 r.line) (block_length 1 r.body)

each_length : (f : Routine → List ℕ) → ((r : Routine) → length (f (without_lines r)) ≡ length (f r)) → (rs : List Routine) → length (flat_map f (map without_lines rs)) ≡ length (flat_map f rs)
each_length f h [] = refl
each_length f h (r ∷ rs) = joined _ _ _ _ (h r) (each_length f h rs)

taken : {A B : Type 0} (m n : ℕ) (xs : List A) (ys : List B) → length xs ≡ length ys → length (take m (drop n xs)) ≡ length (take m (drop n ys))
taken m n xs ys h = length-take m (drop n xs) ∙ ap (min m) (length-drop n xs ∙ ap (λ l. l - n) h ∙ sym (length-drop n ys)) ∙ sym (length-take m (drop n ys))

limits_length : (rs : List Routine) → length (limit_lines (map without_lines rs)) ≡ length (limit_lines rs)
limits_length rs =
    joined _ _ _ _ (joined _ _ _ _
    (length-map (take 1 (drop 8 (map without_lines rs))) (λ r. r.line) ∙ taken 1 8 (map without_lines rs) rs (length-map rs without_lines) ∙ sym (length-map (take 1 (drop 8 rs)) (λ r. r.line)))
    (taken 1 200 _ _ (each_length (λ r. statements r.body) (λ r. statements_length r.body) rs)))
    (each_length routine_lines routine_length rs)

nothing : (xs : List ℕ) → length xs ≡ 0 → xs ≡ []
nothing [] h = refl
nothing (x ∷ xs) h = absurd (omega arith)

pub within_limits : (qs rs : List Routine) → map without_lines qs ≡ map without_lines rs → limit_lines rs ≡ [] → limit_lines qs ≡ []
within_limits qs rs same h = nothing (limit_lines qs) (sym (limits_length qs) ∙ ap (λ l. length (limit_lines l)) same ∙ limits_length rs ∙ ap length h)
