-- What is read leaves fewer terminals.
use Rattle.std.proofs.Common.{ℕ, zero, suc, ◌<◌, ◌≤◌, List, [], ◌∷◌, length, Option, Some, None, IfSome, arith}
use Rattle.mpy_tree.specs.declared.levels.Level.{Level}
use Rattle.mpy_tree.specs.declared.levels.Level.TheVariants as level
use Rattle.mpy_expressions.specs.Forms.{Forms}
use Rattle.mpy_expressions.specs.declared.words.Word.TheVariants as word
use Rattle.mpy_expressions.specs.declared.terminals.Terminal.{Terminal}
use Rattle.mpy_expressions.specs.declared.terminals.Terminal.TheVariants as terminal
use Rattle.mpy_expressions.specs.declared.terms.Bracket.{Bracket}
use Rattle.mpy_expressions.specs.declared.terms.Bracket.TheVariants as bracket
use Rattle.mpy_tree.specs.Levels.{above}
use Rattle.mpy_expressions.specs.Joints.{joint_at}
use Rattle.mpy_tree.specs.Options.{◌>>=◌}
use Rattle.mpy_expressions.specs.Reading.{Reader, or_else, behind_if, behind_else, behind_not, behind_minus, behind_power, behind_bracket, behind_closing_bracket, behind_paren, behind_closing_paren, behind_closing_brace, behind_colon, behind_comma, comparison_at, operator_at, comparator_at, set, joint_before, joined, conditional_tail, with_conditional_tail, joint_tail, with_joints, comparison_tail, with_comparison, power_tail, with_power, suffixed, second_end, last_end, behind_index, in_brackets, suffix_at, with_suffixes, closed, some_elements, elements, arguments, name_or_call, parenthesized, atom, prefixed, at_level, read_within}

-- what holds of all that is found holds of what is found from it
pub if_bound : {A B : Type 0} (o : Option A) (f : A → Option B) (Q : A → Type 0) (P : B → Type 0) → IfSome o Q → ((a : A) → Q a → IfSome (f a) P) → IfSome (o >>= f) P
if_bound None f Q P h g = tt
if_bound (Some a) f Q P h g = g a h

pub weaker : {A : Type 0} (o : Option A) (P Q : A → Type 0) → IfSome o P → ((a : A) → P a → Q a) → IfSome o Q
weaker None P Q h g = tt
weaker (Some a) P Q h g = g a h

-- what holds whichever way it goes on
pub either_way : {A B : Type 0} (o : Option A) (f : A → Option B) (d : Option B) (Q : A → Type 0) (P : B → Type 0) → IfSome o Q → ((a : A) → Q a → IfSome (f a) P) → IfSome d P → IfSome (elim o [ Some a ↦ f a | None ↦ d ]) P
either_way None f d Q P h g e = e
either_way (Some a) f d Q P h g e = g a h

-- nothing is asked of what is found
pub any : {A : Type 0} (o : Option A) → IfSome o (λ a. Unit {0})
any None = tt
any (Some a) = tt

-- a word that is passed
abbrev pub Passes : {X : Type 0} → (List (Terminal X) → Option (List (Terminal X))) → Type 0
Passes {X} b = (ts : List (Terminal X)) → IfSome (b ts) (λ rest. length rest < length ts)

pub pass_if : {X : Type 0} → Passes {X = X} behind_if
pass_if (terminal.Word word.If ∷ ts) = omega arith
pass_if _ = tt

pub pass_else : {X : Type 0} → Passes {X = X} behind_else
pass_else (terminal.Word word.Else ∷ ts) = omega arith
pass_else _ = tt

pub pass_not : {X : Type 0} → Passes {X = X} behind_not
pass_not (terminal.Word word.Not ∷ ts) = omega arith
pass_not _ = tt

pub pass_minus : {X : Type 0} → Passes {X = X} behind_minus
pass_minus (terminal.Word word.Minus ∷ ts) = omega arith
pass_minus _ = tt

pub pass_power : {X : Type 0} → Passes {X = X} behind_power
pass_power (terminal.Word word.DoubleStar ∷ ts) = omega arith
pass_power _ = tt

pub pass_bracket : {X : Type 0} → Passes {X = X} behind_bracket
pass_bracket (terminal.Word word.LeftBracket ∷ ts) = omega arith
pass_bracket _ = tt

pub pass_closing_bracket : {X : Type 0} → Passes {X = X} behind_closing_bracket
pass_closing_bracket (terminal.Word word.RightBracket ∷ ts) = omega arith
pass_closing_bracket _ = tt

pub pass_paren : {X : Type 0} → Passes {X = X} behind_paren
pass_paren (terminal.Word word.LeftParen ∷ ts) = omega arith
pass_paren _ = tt

pub pass_closing_paren : {X : Type 0} → Passes {X = X} behind_closing_paren
pass_closing_paren (terminal.Word word.RightParen ∷ ts) = omega arith
pass_closing_paren _ = tt

pub pass_closing_brace : {X : Type 0} → Passes {X = X} behind_closing_brace
pass_closing_brace (terminal.Word word.RightBrace ∷ ts) = omega arith
pass_closing_brace _ = tt

pub pass_colon : {X : Type 0} → Passes {X = X} behind_colon
pass_colon (terminal.Word word.Colon ∷ ts) = omega arith
pass_colon _ = tt

pub pass_comma : {X : Type 0} → Passes {X = X} behind_comma
pass_comma (terminal.Word word.Comma ∷ ts) = omega arith
pass_comma _ = tt

pub pass_comparison : {X : Type 0} → (ts : List (Terminal X)) → IfSome (comparison_at ts) (λ c. length c.1 < length ts)
pass_comparison (terminal.Word word.Equal ∷ ts) = omega arith
pass_comparison (terminal.Word word.NotEqual ∷ ts) = omega arith
pass_comparison (terminal.Word word.Less ∷ ts) = omega arith
pass_comparison (terminal.Word word.LessEqual ∷ ts) = omega arith
pass_comparison (terminal.Word word.Greater ∷ ts) = omega arith
pass_comparison (terminal.Word word.GreaterEqual ∷ ts) = omega arith
pass_comparison (terminal.Word word.In ∷ ts) = omega arith
pass_comparison (terminal.Word word.Not ∷ terminal.Word word.In ∷ ts) = omega arith
pass_comparison _ = tt

pass_operator : {X T : Type 0} (forms : Forms X T) → (k : Level) (x : X) (ts : List (Terminal X)) → IfSome (operator_at forms k x ts) (λ j. length j.1 ≤ length ts)
pass_operator forms level.Sum x ts = if_bound (forms.Operator x) (λ f. Some (f, ts)) (λ f. Unit {0}) _ (any (forms.Operator x)) (λ f u. omega arith)
pass_operator forms _ x ts = tt

pub pass_joint : {X T : Type 0} (forms : Forms X T) → (k : Level) (ts : List (Terminal X)) → IfSome (joint_before forms k ts) (λ j. length j.1 < length ts)
pass_joint forms k (terminal.Word w ∷ ts) = if_bound (joint_at k w) (λ j. Some (joined forms j, ts)) (λ j. Unit {0}) (λ j. length j.1 < length (terminal.Word w ∷ ts)) (any (joint_at k w)) (λ j u. omega arith)
pass_joint forms k (terminal.Operator x ∷ ts) = weaker (operator_at forms k x ts) (λ j. length j.1 ≤ length ts) _ (pass_operator forms k x ts) (λ j p. omega arith)
pass_joint forms k _ = tt

pub pass_comparator : {X T : Type 0} (forms : Forms X T) → (ts : List (Terminal X)) → IfSome (comparator_at forms ts) (λ c. length c.1 < length ts)
pass_comparator forms (terminal.Comparator x ∷ ts) = if_bound (forms.Comparator x) (λ f. Some (f, ts)) (λ f. Unit {0}) _ (any (forms.Comparator x)) (λ f u. omega arith)
pass_comparator forms (terminal.Word w ∷ ts) = if_bound (comparison_at (terminal.Word w ∷ ts)) _ (λ c. length c.1 < length (terminal.Word w ∷ ts)) _ (pass_comparison (terminal.Word w ∷ ts)) (λ c p. p)
pass_comparator forms [] = tt
pass_comparator forms (terminal.Name x ∷ ts) = tt
pass_comparator forms (terminal.Number n ∷ ts) = tt
pass_comparator forms (terminal.Text cs ∷ ts) = tt
pass_comparator forms (terminal.Special x ∷ ts) = tt
pass_comparator forms (terminal.Operator x ∷ ts) = tt
pass_comparator forms (terminal.Other ∷ ts) = tt

pub pass_closed : {X : Type 0} → (b : Bracket) → Passes {X = X} (closed b)
pass_closed bracket.Round ts = pass_closing_paren ts
pass_closed bracket.Square ts = pass_closing_bracket ts
pass_closed bracket.Curly ts = pass_closing_brace ts

abbrev pub Shortens : {X T : Type 0} → Reader X T → Type 0
Shortens {X} {T} r = (k : Level) (ts : List (Terminal X)) → IfSome (r k ts) (λ x. length x.1 < length ts)

-- what is found, or what was there before
pub with_tail : {A C : Type 0} (o : Option C) (f : C → A) (a : A) (Q : C → Type 0) (P : A → Type 0) → IfSome o Q → ((c : C) → Q c → P (f c)) → P a → P (or_else (o >>= λ c. Some (f c)) a)
with_tail None f a Q P h g p = p
with_tail (Some c) f a Q P h g p = g c h

pub conditional_tail_short : {X T : Type 0} → (r : Reader X T) → Shortens r → (ts : List (Terminal X)) → IfSome (conditional_tail r ts) (λ c. length c.2 < length ts)
conditional_tail_short r h ts =
    if_bound (behind_if ts) _ (λ rest. length rest < length ts) _ (pass_if ts) (λ at_test p.
    if_bound (r level.Disjunction at_test) _ (λ t. length t.1 < length at_test) _ (h level.Disjunction at_test) (λ t q.
    if_bound (behind_else t.1) _ (λ rest. length rest < length t.1) _ (pass_else t.1) (λ at_no u.
    if_bound (r level.Conditional at_no) _ (λ b. length b.1 < length at_no) _ (h level.Conditional at_no) (λ b v. omega arith))))

pub with_conditional_tail_short : {X T : Type 0} (forms : Forms X T) → (r : Reader X T) → Shortens r → (a : T × List (Terminal X)) → length (with_conditional_tail forms r a).1 ≤ length a.1
with_conditional_tail_short forms r h a = with_tail (conditional_tail r a.1) _ a (λ c. length c.2 < length a.1) (λ x. length x.1 ≤ length a.1) (conditional_tail_short r h a.1) (λ c q. omega arith) (omega arith)

pub joint_tail_short : {X T : Type 0} (forms : Forms X T) → (r : Reader X T) → Shortens r → (k : Level) (ts : List (Terminal X)) → IfSome (joint_tail forms r k ts) (λ j. length j.2 < length ts)
joint_tail_short forms r h k ts =
    if_bound (joint_before forms k ts) _ (λ j. length j.1 < length ts) _ (pass_joint forms k ts) (λ j p.
    if_bound (r (above k) j.1) _ (λ b. length b.1 < length j.1) _ (h (above k) j.1) (λ b q. omega arith))

pub with_joints_short : {X T : Type 0} (forms : Forms X T) → (r : Reader X T) → Shortens r → (k : Level) (n : ℕ) (a : T × List (Terminal X)) → length (with_joints forms r k n a).1 ≤ length a.1
with_joints_short forms r h k zero a = omega arith
with_joints_short forms r h k (suc n) a = with_tail (joint_tail forms r k a.1) _ a (λ j. length j.2 < length a.1) (λ x. length x.1 ≤ length a.1) (joint_tail_short forms r h k a.1) (λ j q. let e = with_joints_short forms r h k n (j.0 a.0 j.1, j.2) in omega arith) (omega arith)

pub comparison_tail_short : {X T : Type 0} (forms : Forms X T) → (r : Reader X T) → Shortens r → (ts : List (Terminal X)) → IfSome (comparison_tail forms r ts) (λ c. length c.2 < length ts)
comparison_tail_short forms r h ts =
    if_bound (comparator_at forms ts) _ (λ op. length op.1 < length ts) _ (pass_comparator forms ts) (λ op p.
    if_bound (r level.Sum op.1) _ (λ b. length b.1 < length op.1) _ (h level.Sum op.1) (λ b q. omega arith))

pub with_comparison_short : {X T : Type 0} (forms : Forms X T) → (r : Reader X T) → Shortens r → (a : T × List (Terminal X)) → length (with_comparison forms r a).1 ≤ length a.1
with_comparison_short forms r h a = with_tail (comparison_tail forms r a.1) _ a (λ c. length c.2 < length a.1) (λ x. length x.1 ≤ length a.1) (comparison_tail_short forms r h a.1) (λ c q. omega arith) (omega arith)

pub power_tail_short : {X T : Type 0} → (r : Reader X T) → Shortens r → (ts : List (Terminal X)) → IfSome (power_tail r ts) (λ c. length c.1 < length ts)
power_tail_short r h ts = if_bound (behind_power ts) _ (λ rest. length rest < length ts) _ (pass_power ts) (λ rest p. weaker (r level.Unary rest) _ _ (h level.Unary rest) (λ b q. omega arith))

pub with_power_short : {X T : Type 0} (forms : Forms X T) → (r : Reader X T) → Shortens r → (a : T × List (Terminal X)) → length (with_power forms r a).1 ≤ length a.1
with_power_short forms r h a = with_tail (power_tail r a.1) _ a (λ c. length c.1 < length a.1) (λ x. length x.1 ≤ length a.1) (power_tail_short r h a.1) (λ c q. omega arith) (omega arith)

pub second_end_short : {X T : Type 0} → (r : Reader X T) → Shortens r → (ts : List (Terminal X)) → IfSome (second_end r ts) (λ s. length s.1 < length ts)
second_end_short r h ts = either_way (behind_closing_bracket ts) _ _ _ _ (pass_closing_bracket ts) (λ rest p. p)
    (if_bound (r level.Conditional ts) _ (λ e. length e.1 < length ts) _ (h level.Conditional ts) (λ e p.
    if_bound (behind_closing_bracket e.1) _ (λ rest. length rest < length e.1) _ (pass_closing_bracket e.1) (λ rest q. omega arith)))

pub last_end_short : {X T : Type 0} → (r : Reader X T) → Shortens r → (from : Option T) (ts : List (Terminal X)) → IfSome (last_end r from ts) (λ s. length s.1 < length ts)
last_end_short r h from ts = if_bound (second_end r ts) _ (λ to. length to.1 < length ts) _ (second_end_short r h ts) (λ to p. p)

pub behind_index_short : {X T : Type 0} → (r : Reader X T) → Shortens r → (i : T) (ts : List (Terminal X)) → IfSome (behind_index r i ts) (λ s. length s.1 < length ts)
behind_index_short r h i ts = either_way (behind_closing_bracket ts) _ _ _ _ (pass_closing_bracket ts) (λ rest p. p)
    (if_bound (behind_colon ts) _ (λ rest. length rest < length ts) _ (pass_colon ts) (λ rest p. weaker (last_end r (Some i) rest) _ _ (last_end_short r h (Some i) rest) (λ s q. omega arith)))

pub in_brackets_short : {X T : Type 0} → (r : Reader X T) → Shortens r → (ts : List (Terminal X)) → IfSome (in_brackets r ts) (λ s. length s.1 < length ts)
in_brackets_short r h ts = either_way (behind_colon ts) _ _ _ _ (pass_colon ts) (λ rest p. weaker (last_end r None rest) _ _ (last_end_short r h None rest) (λ s q. omega arith))
    (if_bound (r level.Conditional ts) _ (λ e. length e.1 < length ts) _ (h level.Conditional ts) (λ e p. weaker (behind_index r e.0 e.1) _ _ (behind_index_short r h e.0 e.1) (λ s q. omega arith)))

pub suffix_at_short : {X T : Type 0} → (r : Reader X T) → Shortens r → (ts : List (Terminal X)) → IfSome (suffix_at r ts) (λ s. length s.1 < length ts)
suffix_at_short r h ts = if_bound (behind_bracket ts) _ (λ rest. length rest < length ts) _ (pass_bracket ts) (λ rest p. weaker (in_brackets r rest) _ _ (in_brackets_short r h rest) (λ s q. omega arith))

pub with_suffixes_short : {X T : Type 0} (forms : Forms X T) → (r : Reader X T) → Shortens r → (n : ℕ) (v : T × List (Terminal X)) → length (with_suffixes forms r n v).1 ≤ length v.1
with_suffixes_short forms r h zero v = omega arith
with_suffixes_short forms r h (suc n) v = with_tail (suffix_at r v.1) _ v (λ s. length s.1 < length v.1) (λ x. length x.1 ≤ length v.1) (suffix_at_short r h v.1) (λ s q. let e = with_suffixes_short forms r h n (suffixed forms v.0 s.0, s.1) in omega arith) (omega arith)

pub some_elements_short : {X T : Type 0} → (r : Reader X T) → Shortens r → (b : Bracket) (n : ℕ) (ts : List (Terminal X)) → IfSome (some_elements r b n ts) (λ es. length es.1 < length ts)
some_elements_short r h b zero ts = tt
some_elements_short r h b (suc n) ts =
    if_bound (r level.Conditional ts) _ (λ e. length e.1 < length ts) _ (h level.Conditional ts) (λ e p.
    either_way (closed b e.1) _ _ _ _ (pass_closed b e.1) (λ rest q. omega arith)
    (if_bound (behind_comma e.1) _ (λ rest. length rest < length e.1) _ (pass_comma e.1) (λ next q.
    if_bound (some_elements r b n next) _ (λ es. length es.1 < length next) _ (some_elements_short r h b n next) (λ es u. omega arith))))

pub elements_short : {X T : Type 0} → (r : Reader X T) → Shortens r → (b : Bracket) (ts : List (Terminal X)) → IfSome (elements r b ts) (λ es. length es.1 < length ts)
elements_short r h b ts = either_way (closed b ts) _ _ _ _ (pass_closed b ts) (λ rest p. p) (some_elements_short r h b (length ts) ts)

pub arguments_short : {X T : Type 0} → (r : Reader X T) → Shortens r → (ts : List (Terminal X)) → IfSome (arguments r ts) (λ es. length es.1 < length ts)
arguments_short r h ts = if_bound (behind_paren ts) _ (λ rest. length rest < length ts) _ (pass_paren ts) (λ rest p. weaker (elements r bracket.Round rest) _ _ (elements_short r h bracket.Round rest) (λ es q. omega arith))

pub name_or_call_short : {X T : Type 0} (forms : Forms X T) → (r : Reader X T) → Shortens r → (x : List ℕ) (ts : List (Terminal X)) → length (name_or_call forms r x ts).1 ≤ length ts
name_or_call_short {X} {T} forms r h x ts = let a : T × List (Terminal X) = (forms.Name x, ts) in with_tail (arguments r ts) _ a (λ es. length es.1 < length ts) (λ y. length y.1 ≤ length ts) (arguments_short r h ts) (λ es q. omega arith) (omega arith)

pub parenthesized_short : {X T : Type 0} → (r : Reader X T) → Shortens r → (ts : List (Terminal X)) → IfSome (parenthesized r ts) (λ x. length x.1 < length ts)
parenthesized_short r h ts =
    if_bound (r level.Conditional ts) _ (λ e. length e.1 < length ts) _ (h level.Conditional ts) (λ e p.
    if_bound (behind_closing_paren e.1) _ (λ rest. length rest < length e.1) _ (pass_closing_paren e.1) (λ rest q. omega arith))

pub set_short : {X T : Type 0} (forms : Forms X T) → (r : Reader X T) → Shortens r → (ts : List (Terminal X)) → IfSome (set forms r ts) (λ x. length x.1 < length ts)
set_short forms r h ts =
    if_bound (elements r bracket.Curly ts) _ (λ es. length es.1 < length ts) _ (elements_short r h bracket.Curly ts) (λ es p.
    if_bound (forms.Set es.0) (λ e. Some (e, es.1)) (λ e. Unit {0}) _ (any (forms.Set es.0)) (λ e u. p))

pub atom_short : {X T : Type 0} (forms : Forms X T) → (r : Reader X T) → Shortens r → (ts : List (Terminal X)) → IfSome (atom forms r ts) (λ x. length x.1 < length ts)
atom_short forms r h (terminal.Number n ∷ ts) = omega arith
atom_short forms r h (terminal.Text cs ∷ ts) = omega arith
atom_short forms r h (terminal.Word word.True ∷ ts) = omega arith
atom_short forms r h (terminal.Word word.False ∷ ts) = omega arith
atom_short forms r h (terminal.Special x ∷ ts) = if_bound (forms.Hole x) (λ e. Some (e, ts)) (λ e. Unit {0}) _ (any (forms.Hole x)) (λ e u. omega arith)
atom_short forms r h (terminal.Name x ∷ ts) = let e = name_or_call_short forms r h x ts in omega arith
atom_short forms r h (terminal.Word word.LeftBracket ∷ ts) = if_bound (elements r bracket.Square ts) _ (λ es. length es.1 < length ts) _ (elements_short r h bracket.Square ts) (λ es p. omega arith)
atom_short forms r h (terminal.Word word.LeftBrace ∷ ts) = weaker (set forms r ts) _ _ (set_short forms r h ts) (λ x p. omega arith)
atom_short forms r h (terminal.Word word.LeftParen ∷ ts) = weaker (parenthesized r ts) _ _ (parenthesized_short r h ts) (λ x p. omega arith)
atom_short forms r h _ = tt

pub prefixed_short : {X T : Type 0} → (r : Reader X T) → Shortens r → (k : Level) (b : List (Terminal X) → Option (List (Terminal X))) (f : T → T) → Passes b → (ts : List (Terminal X)) → IfSome (prefixed r k b f ts) (λ x. length x.1 < length ts)
prefixed_short r h k b f p ts = either_way (b ts) _ _ _ _ (p ts) (λ rest q. if_bound (r k rest) _ (λ e. length e.1 < length rest) _ (h k rest) (λ e u. omega arith)) (h (above k) ts)

pub at_level_short : {X T : Type 0} (forms : Forms X T) → (r : Reader X T) → Shortens r → Shortens (at_level forms r)
at_level_short forms r h level.Conditional ts = if_bound (r level.Disjunction ts) _ (λ a. length a.1 < length ts) _ (h level.Disjunction ts) (λ a p. let e = with_conditional_tail_short forms r h a in omega arith)
at_level_short forms r h level.Disjunction ts = if_bound (r level.Conjunction ts) _ (λ a. length a.1 < length ts) _ (h level.Conjunction ts) (λ a p. let e = with_joints_short forms r h level.Disjunction (length a.1) a in omega arith)
at_level_short forms r h level.Conjunction ts = if_bound (r level.Negation ts) _ (λ a. length a.1 < length ts) _ (h level.Negation ts) (λ a p. let e = with_joints_short forms r h level.Conjunction (length a.1) a in omega arith)
at_level_short forms r h level.Negation ts = prefixed_short r h level.Negation behind_not forms.Not pass_not ts
at_level_short forms r h level.Comparison ts = if_bound (r level.Sum ts) _ (λ a. length a.1 < length ts) _ (h level.Sum ts) (λ a p. let e = with_comparison_short forms r h a in omega arith)
at_level_short forms r h level.Sum ts = if_bound (r level.Product ts) _ (λ a. length a.1 < length ts) _ (h level.Product ts) (λ a p. let e = with_joints_short forms r h level.Sum (length a.1) a in omega arith)
at_level_short forms r h level.Product ts = if_bound (r level.Unary ts) _ (λ a. length a.1 < length ts) _ (h level.Unary ts) (λ a p. let e = with_joints_short forms r h level.Product (length a.1) a in omega arith)
at_level_short forms r h level.Unary ts = prefixed_short r h level.Unary behind_minus forms.Neg pass_minus ts
at_level_short forms r h level.Power ts = if_bound (r level.Postfix ts) _ (λ a. length a.1 < length ts) _ (h level.Postfix ts) (λ a p. let e = with_power_short forms r h a in omega arith)
at_level_short forms r h level.Postfix ts = if_bound (r level.Atom ts) _ (λ a. length a.1 < length ts) _ (h level.Atom ts) (λ a p. let e = with_suffixes_short forms r h (length a.1) a in omega arith)
at_level_short forms r h level.Atom ts = atom_short forms r h ts

pub read_within_short : {X T : Type 0} (forms : Forms X T) → (n : ℕ) → Shortens (read_within forms n)
read_within_short forms zero k ts = tt
read_within_short forms (suc n) k ts = at_level_short forms (read_within forms n) (read_within_short forms n) k ts
