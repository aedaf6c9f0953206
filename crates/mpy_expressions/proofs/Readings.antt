-- Reading doesn't depend on how many steps it may take, as long as they are enough.
use Rattle.std.proofs.Common.{◌≡◌, ℕ, zero, suc, ◌+◌, ◌*◌, ◌<◌, ◌≤◌, List, [], ◌∷◌, length, Option, Some, None, IfSome, refl, ap, sym, ◌∙◌, arith}
use Rattle.mpy_tree.specs.declared.operators.ArithOp.TheVariants.{Power}
use Rattle.mpy_tree.specs.declared.levels.Level.{Level}
use Rattle.mpy_tree.specs.declared.levels.Level.TheVariants as level
use Rattle.mpy_expressions.specs.Forms.{Forms}
use Rattle.mpy_expressions.specs.declared.words.Word.TheVariants as word
use Rattle.mpy_expressions.specs.declared.terminals.Terminal.{Terminal}
use Rattle.mpy_expressions.specs.declared.terminals.Terminal.TheVariants as terminal
use Rattle.mpy_expressions.specs.declared.terms.Bracket.{Bracket}
use Rattle.mpy_expressions.specs.declared.terms.Bracket.TheVariants as bracket
use Rattle.mpy_tree.specs.Levels.{above}
use Rattle.mpy_tree.specs.Options.{◌>>=◌}
use Rattle.mpy_expressions.specs.Reading.{Reader, or_else, behind_if, behind_else, behind_not, behind_minus, behind_power, behind_bracket, behind_closing_bracket, behind_paren, behind_closing_paren, behind_colon, behind_comma, comparator_at, joint_before, conditional_tail, joint_tail, with_joints, comparison_tail, power_tail, Suffix, by_ends, suffixed, second_end, last_end, behind_index, in_brackets, suffix_at, with_suffixes, closed, some_elements, elements, arguments, name_or_call, atom, prefixed, at_level, read_within, reading, steps, levels_above}
use Rattle.mpy_expressions.proofs.Shorter.{Shortens, Passes, pass_if, pass_else, pass_not, pass_minus, pass_power, pass_bracket, pass_closing_bracket, pass_paren, pass_colon, pass_comma, pass_comparator, pass_joint, pass_closed, joint_tail_short, suffix_at_short, read_within_short}

-- two that go on alike from all that is found
pub same_bound : {A B : Type 0} (o : Option A) (f g : A → Option B) (Q : A → Type 0) → IfSome o Q → ((a : A) → Q a → f a ≡ g a) → (o >>= f) ≡ (o >>= g)
same_bound None f g Q h e = refl
same_bound (Some a) f g Q h e = e a h

pub step_same : {A B : Type 0} (o p : Option A) (f g : A → Option B) (Q : A → Type 0) → o ≡ p → IfSome o Q → ((a : A) → Q a → f a ≡ g a) → (o >>= f) ≡ (p >>= g)
step_same o p f g Q e h each = same_bound o f g Q h each ∙ ap (λ x. x >>= g) e

-- the same step, and then alike
pub then_same : {A B : Type 0} (o : Option A) (f g : A → Option B) (Q : A → Type 0) → IfSome o Q → ((a : A) → Q a → f a ≡ g a) → (o >>= f) ≡ (o >>= g)
then_same = same_bound

-- readers that agree on lists shorter than n
abbrev pub AgreeBelow : {X T : Type 0} → ℕ → Reader X T → Reader X T → Type 0
AgreeBelow {X} {T} n r s = (k : Level) (ts : List (Terminal X)) → length ts < n → r k ts ≡ s k ts

conditional_tail_same : {X T : Type 0} → (r s : Reader X T) → Shortens r → (n : ℕ) → AgreeBelow n r s → (ts : List (Terminal X)) → length ts ≤ n → conditional_tail r ts ≡ conditional_tail s ts
conditional_tail_same r s h n agree ts within =
    same_bound (behind_if ts) _ _ (λ rest. length rest < length ts) (pass_if ts) (λ at_test p.
    step_same (r level.Disjunction at_test) (s level.Disjunction at_test) _ _ (λ t. length t.1 < length at_test) (agree level.Disjunction at_test (omega arith)) (h level.Disjunction at_test) (λ t q.
    same_bound (behind_else t.1) _ _ (λ rest. length rest < length t.1) (pass_else t.1) (λ at_no u.
    step_same (r level.Conditional at_no) (s level.Conditional at_no) _ _ (λ b. length b.1 < length at_no) (agree level.Conditional at_no (omega arith)) (h level.Conditional at_no) (λ b v. refl))))

joint_tail_same : {X T : Type 0} (forms : Forms X T) → (r s : Reader X T) → Shortens r → (n : ℕ) → AgreeBelow n r s → (k : Level) (ts : List (Terminal X)) → length ts ≤ n → joint_tail forms r k ts ≡ joint_tail forms s k ts
joint_tail_same forms r s h n agree k ts within =
    same_bound (joint_before forms k ts) _ _ (λ j. length j.1 < length ts) (pass_joint forms k ts) (λ j p.
    step_same (r (above k) j.1) (s (above k) j.1) _ _ (λ b. length b.1 < length j.1) (agree (above k) j.1 (omega arith)) (h (above k) j.1) (λ b q. refl))

with_joints_same : {X T : Type 0} (forms : Forms X T) → (r s : Reader X T) → Shortens r → (n : ℕ) → AgreeBelow n r s → (k : Level) (m : ℕ) (a : T × List (Terminal X)) → length a.1 ≤ n → with_joints forms r k m a ≡ with_joints forms s k m a
with_joints_same forms r s h n agree k zero a within = refl
with_joints_same forms r s h n agree k (suc m) a within =
    ap (λ o. or_else o a) (step_same (joint_tail forms r k a.1) (joint_tail forms s k a.1) _ _ (λ j. length j.2 < length a.1) (joint_tail_same forms r s h n agree k a.1 within) (joint_tail_short forms r h k a.1)
    (λ j p. ap Some (with_joints_same forms r s h n agree k m (j.0 a.0 j.1, j.2) (omega arith))))

comparison_tail_same : {X T : Type 0} (forms : Forms X T) → (r s : Reader X T) → Shortens r → (n : ℕ) → AgreeBelow n r s → (ts : List (Terminal X)) → length ts ≤ n → comparison_tail forms r ts ≡ comparison_tail forms s ts
comparison_tail_same forms r s h n agree ts within =
    same_bound (comparator_at forms ts) _ _ (λ op. length op.1 < length ts) (pass_comparator forms ts) (λ op p.
    step_same (r level.Sum op.1) (s level.Sum op.1) _ _ (λ b. length b.1 < length op.1) (agree level.Sum op.1 (omega arith)) (h level.Sum op.1) (λ b q. refl))

power_tail_same : {X T : Type 0} → (r s : Reader X T) → Shortens r → (n : ℕ) → AgreeBelow n r s → (ts : List (Terminal X)) → length ts ≤ n → power_tail r ts ≡ power_tail s ts
power_tail_same r s h n agree ts within = same_bound (behind_power ts) _ _ (λ rest. length rest < length ts) (pass_power ts) (λ rest p. agree level.Unary rest (omega arith))

either_same : {A B : Type 0} (o : Option A) (f g : A → Option B) (d e : Option B) (Q : A → Type 0) → IfSome o Q → ((a : A) → Q a → f a ≡ g a) → d ≡ e → ◌≡◌ {A = Option B} (elim o [ Some a ↦ f a | None ↦ d ]) (elim o [ Some a ↦ g a | None ↦ e ])
either_same None f g d e Q h each same = same
either_same (Some a) f g d e Q h each same = each a h

second_end_same : {X T : Type 0} → (r s : Reader X T) → Shortens r → (n : ℕ) → AgreeBelow n r s → (ts : List (Terminal X)) → length ts < n → second_end r ts ≡ second_end s ts
second_end_same r s h n agree ts within = either_same (behind_closing_bracket ts) _ _ _ _ _ (pass_closing_bracket ts) (λ rest p. refl)
    (step_same (r level.Conditional ts) (s level.Conditional ts) _ _ (λ e. length e.1 < length ts) (agree level.Conditional ts within) (h level.Conditional ts) (λ e p. refl))

last_end_same : {X T : Type 0} → (r s : Reader X T) → Shortens r → (n : ℕ) → AgreeBelow n r s → (from : Option T) (ts : List (Terminal X)) → length ts < n → last_end r from ts ≡ last_end s from ts
last_end_same r s h n agree from ts within = ap (λ o. o >>= λ to. Some (by_ends from to.0, to.1)) (second_end_same r s h n agree ts within)

behind_index_same : {X T : Type 0} → (r s : Reader X T) → Shortens r → (n : ℕ) → AgreeBelow n r s → (i : T) (ts : List (Terminal X)) → length ts < n → behind_index r i ts ≡ behind_index s i ts
behind_index_same r s h n agree i ts within = either_same (behind_closing_bracket ts) _ _ _ _ _ (pass_closing_bracket ts) (λ rest p. refl)
    (same_bound (behind_colon ts) _ _ (λ rest. length rest < length ts) (pass_colon ts) (λ rest p. last_end_same r s h n agree (Some i) rest (omega arith)))

in_brackets_same : {X T : Type 0} → (r s : Reader X T) → Shortens r → (n : ℕ) → AgreeBelow n r s → (ts : List (Terminal X)) → length ts < n → in_brackets r ts ≡ in_brackets s ts
in_brackets_same r s h n agree ts within = either_same (behind_colon ts) _ _ _ _ (λ rest. length rest < length ts) (pass_colon ts) (λ rest p. last_end_same r s h n agree None rest (omega arith))
    (step_same (r level.Conditional ts) (s level.Conditional ts) _ _ (λ e. length e.1 < length ts) (agree level.Conditional ts within) (h level.Conditional ts) (λ e p. behind_index_same r s h n agree e.0 e.1 (omega arith)))

suffix_at_same : {X T : Type 0} → (r s : Reader X T) → Shortens r → (n : ℕ) → AgreeBelow n r s → (ts : List (Terminal X)) → length ts ≤ n → suffix_at r ts ≡ suffix_at s ts
suffix_at_same r s h n agree ts within = same_bound (behind_bracket ts) _ _ (λ rest. length rest < length ts) (pass_bracket ts) (λ rest p. in_brackets_same r s h n agree rest (omega arith))

with_suffixes_same : {X T : Type 0} (forms : Forms X T) → (r s : Reader X T) → Shortens r → (n : ℕ) → AgreeBelow n r s → (m : ℕ) (v : T × List (Terminal X)) → length v.1 ≤ n → with_suffixes forms r m v ≡ with_suffixes forms s m v
with_suffixes_same forms r s h n agree zero v within = refl
with_suffixes_same forms r s h n agree (suc m) v within =
    ap (λ o. or_else o v) (step_same (suffix_at r v.1) (suffix_at s v.1) _ _ (λ x. length x.1 < length v.1) (suffix_at_same r s h n agree v.1 within) (suffix_at_short r h v.1)
    (λ x p. ap Some (with_suffixes_same forms r s h n agree m (suffixed forms v.0 x.0, x.1) (omega arith))))

some_elements_same : {X T : Type 0} → (r s : Reader X T) → Shortens r → (n : ℕ) → AgreeBelow n r s → (b : Bracket) (m : ℕ) (ts : List (Terminal X)) → length ts < n → some_elements r b m ts ≡ some_elements s b m ts
some_elements_same r s h n agree b zero ts within = refl
some_elements_same r s h n agree b (suc m) ts within =
    step_same (r level.Conditional ts) (s level.Conditional ts) _ _ (λ e. length e.1 < length ts) (agree level.Conditional ts within) (h level.Conditional ts) (λ e p.
    either_same (closed b e.1) _ _ _ _ _ (pass_closed b e.1) (λ rest q. refl)
    (same_bound (behind_comma e.1) _ _ (λ rest. length rest < length e.1) (pass_comma e.1) (λ next q.
    ap (λ o. o >>= λ es. Some ((e.0 ∷ es.0), es.1)) (some_elements_same r s h n agree b m next (omega arith)))))

elements_same : {X T : Type 0} → (r s : Reader X T) → Shortens r → (n : ℕ) → AgreeBelow n r s → (b : Bracket) (ts : List (Terminal X)) → length ts < n → elements r b ts ≡ elements s b ts
elements_same r s h n agree b ts within = either_same (closed b ts) _ _ _ _ _ (pass_closed b ts) (λ rest p. refl) (some_elements_same r s h n agree b (length ts) ts within)

arguments_same : {X T : Type 0} → (r s : Reader X T) → Shortens r → (n : ℕ) → AgreeBelow n r s → (ts : List (Terminal X)) → length ts ≤ n → arguments r ts ≡ arguments s ts
arguments_same r s h n agree ts within = same_bound (behind_paren ts) _ _ (λ rest. length rest < length ts) (pass_paren ts) (λ rest p. elements_same r s h n agree bracket.Round rest (omega arith))

name_or_call_same : {X T : Type 0} (forms : Forms X T) → (r s : Reader X T) → Shortens r → (n : ℕ) → AgreeBelow n r s → (x : List ℕ) (ts : List (Terminal X)) → length ts ≤ n → name_or_call forms r x ts ≡ name_or_call forms s x ts
name_or_call_same forms r s h n agree x ts within = ap (λ o. or_else (o >>= λ es. Some (forms.Call x es.0, es.1)) (forms.Name x, ts)) (arguments_same r s h n agree ts within)

atom_same : {X T : Type 0} (forms : Forms X T) → (r s : Reader X T) → Shortens r → (ts : List (Terminal X)) → AgreeBelow (length ts) r s → atom forms r ts ≡ atom forms s ts
atom_same forms r s h (terminal.Number n ∷ ts) agree = refl
atom_same forms r s h (terminal.Text cs ∷ ts) agree = refl
atom_same forms r s h (terminal.Word word.True ∷ ts) agree = refl
atom_same forms r s h (terminal.Word word.False ∷ ts) agree = refl
atom_same forms r s h (terminal.Special x ∷ ts) agree = refl
atom_same forms r s h (terminal.Name x ∷ ts) agree = ap Some (name_or_call_same forms r s h _ agree x ts (omega arith))
atom_same forms r s h (terminal.Word word.LeftBracket ∷ ts) agree = ap (λ o. o >>= λ es. Some (forms.List es.0, es.1)) (elements_same r s h _ agree bracket.Square ts (omega arith))
atom_same forms r s h (terminal.Word word.LeftBrace ∷ ts) agree = ap (λ o. o >>= λ es. forms.Set es.0 >>= λ e. Some (e, es.1)) (elements_same r s h _ agree bracket.Curly ts (omega arith))
atom_same forms r s h (terminal.Word word.LeftParen ∷ ts) agree = ap (λ o. o >>= λ e. behind_closing_paren e.1 >>= λ rest. Some (e.0, rest)) (agree level.Conditional ts (omega arith))
atom_same forms r s h _ agree = refl

prefixed_same : {X T : Type 0} → (r s : Reader X T) → (k : Level) (b : List (Terminal X) → Option (List (Terminal X))) (f : T → T) → Passes b → (ts : List (Terminal X)) → AgreeBelow (length ts) r s → r (above k) ts ≡ s (above k) ts → prefixed r k b f ts ≡ prefixed s k b f ts
prefixed_same r s k b f p ts agree e = either_same (b ts) _ _ _ _ (λ rest. length rest < length ts) (p ts) (λ rest q. ap (λ o. o >>= λ x. Some (f x.0, x.1)) (agree k rest q)) e

-- reading at a level looks at the level above, and at shorter lists
at_level_same : {X T : Type 0} (forms : Forms X T) → (r s : Reader X T) → Shortens r → (k : Level) (ts : List (Terminal X)) → AgreeBelow (length ts) r s → (levels_above (above k) < levels_above k → r (above k) ts ≡ s (above k) ts) → at_level forms r k ts ≡ at_level forms s k ts
at_level_same forms r s h level.Conditional ts agree next = step_same (r level.Disjunction ts) (s level.Disjunction ts) _ _ (λ a. length a.1 < length ts) (next (omega arith)) (h level.Disjunction ts) (λ a p. ap (λ o. Some (or_else (o >>= λ c. Some (forms.Cond c.0 a.0 c.1, c.2)) a)) (conditional_tail_same r s h _ agree a.1 (omega arith)))
at_level_same forms r s h level.Disjunction ts agree next = step_same (r level.Conjunction ts) (s level.Conjunction ts) _ _ (λ a. length a.1 < length ts) (next (omega arith)) (h level.Conjunction ts) (λ a p. ap Some (with_joints_same forms r s h _ agree level.Disjunction (length a.1) a (omega arith)))
at_level_same forms r s h level.Conjunction ts agree next = step_same (r level.Negation ts) (s level.Negation ts) _ _ (λ a. length a.1 < length ts) (next (omega arith)) (h level.Negation ts) (λ a p. ap Some (with_joints_same forms r s h _ agree level.Conjunction (length a.1) a (omega arith)))
at_level_same forms r s h level.Negation ts agree next = prefixed_same r s level.Negation behind_not forms.Not pass_not ts agree (next (omega arith))
at_level_same forms r s h level.Comparison ts agree next = step_same (r level.Sum ts) (s level.Sum ts) _ _ (λ a. length a.1 < length ts) (next (omega arith)) (h level.Sum ts) (λ a p. ap (λ o. Some (or_else (o >>= λ c. Some (c.0 a.0 c.1, c.2)) a)) (comparison_tail_same forms r s h _ agree a.1 (omega arith)))
at_level_same forms r s h level.Sum ts agree next = step_same (r level.Product ts) (s level.Product ts) _ _ (λ a. length a.1 < length ts) (next (omega arith)) (h level.Product ts) (λ a p. ap Some (with_joints_same forms r s h _ agree level.Sum (length a.1) a (omega arith)))
at_level_same forms r s h level.Product ts agree next = step_same (r level.Unary ts) (s level.Unary ts) _ _ (λ a. length a.1 < length ts) (next (omega arith)) (h level.Unary ts) (λ a p. ap Some (with_joints_same forms r s h _ agree level.Product (length a.1) a (omega arith)))
at_level_same forms r s h level.Unary ts agree next = prefixed_same r s level.Unary behind_minus forms.Neg pass_minus ts agree (next (omega arith))
at_level_same forms r s h level.Power ts agree next = step_same (r level.Postfix ts) (s level.Postfix ts) _ _ (λ a. length a.1 < length ts) (next (omega arith)) (h level.Postfix ts) (λ a p. ap (λ o. Some (or_else (o >>= λ b. Some (forms.Arith Power a.0 b.0, b.1)) a)) (power_tail_same r s h _ agree a.1 (omega arith)))
at_level_same forms r s h level.Postfix ts agree next = step_same (r level.Atom ts) (s level.Atom ts) _ _ (λ a. length a.1 < length ts) (next (omega arith)) (h level.Atom ts) (λ a p. ap Some (with_suffixes_same forms r s h _ agree (length a.1) a (omega arith)))
at_level_same forms r s h level.Atom ts agree next = atom_same forms r s h ts agree

most : (m : Level) → levels_above m ≤ 10
most level.Conditional = omega arith
most level.Disjunction = omega arith
most level.Conjunction = omega arith
most level.Negation = omega arith
most level.Comparison = omega arith
most level.Sum = omega arith
most level.Product = omega arith
most level.Unary = omega arith
most level.Power = omega arith
most level.Postfix = omega arith
most level.Atom = omega arith

-- two numbers of steps that are both enough
enough : {X T : Type 0} (forms : Forms X T) → (n m : ℕ) (k : Level) (ts : List (Terminal X)) → steps k ts ≤ n → steps k ts ≤ m → read_within forms n k ts ≡ read_within forms m k ts
enough forms zero m k ts p q = absurd (omega arith)
enough forms (suc n) zero k ts p q = absurd (omega arith)
enough forms (suc n) (suc m) k ts p q = at_level_same forms (read_within forms n) (read_within forms m) (read_within_short forms n) k ts
    (λ j us h. let e = most j in enough forms n m j us (omega arith) (omega arith))
    (λ h. enough forms n m (above k) ts (omega arith) (omega arith))

-- what is read leaves fewer terminals
pub reading_short : {X T : Type 0} (forms : Forms X T) → Shortens (reading forms)
unfolding reading
reading_short forms k ts = read_within_short forms (steps k ts) k ts

-- reading at a level goes by reading the parts
pub reading_step : {X T : Type 0} (forms : Forms X T) → (k : Level) (ts : List (Terminal X)) → reading forms k ts ≡ at_level forms (reading forms) k ts
unfolding reading
reading_step forms k ts = at_level_same forms (read_within forms (11 * length ts + levels_above k)) (reading forms) (read_within_short forms (11 * length ts + levels_above k)) k ts
    (λ j us h. let e = most j in enough forms (11 * length ts + levels_above k) (steps j us) j us (omega arith) (omega arith))
    (λ h. enough forms (11 * length ts + levels_above k) (steps (above k) ts) (above k) ts (omega arith) (omega arith))

-- as many turns as there are terminals are enough
with_joints_enough : {X T : Type 0} (forms : Forms X T) → (r : Reader X T) → Shortens r → (k : Level) (n m : ℕ) (e : T) (ts : List (Terminal X)) → length ts ≤ n → length ts ≤ m → with_joints forms r k n (e, ts) ≡ with_joints forms r k m (e, ts)
with_joints_enough forms r h k zero zero e ts p q = refl
with_joints_enough forms r h k zero (suc m) e [] p q = refl
with_joints_enough forms r h k zero (suc m) e (t ∷ ts) p q = absurd (omega arith)
with_joints_enough forms r h k (suc n) zero e [] p q = refl
with_joints_enough forms r h k (suc n) zero e (t ∷ ts) p q = absurd (omega arith)
with_joints_enough forms r h k (suc n) (suc m) e ts p q = ap (λ o. or_else o (e, ts)) (same_bound (joint_tail forms r k ts) _ _ (λ j. length j.2 < length ts) (joint_tail_short forms r h k ts)
    (λ j u. ap Some (with_joints_enough forms r h k n m (j.0 e j.1) j.2 (omega arith) (omega arith))))

with_suffixes_enough : {X T : Type 0} (forms : Forms X T) → (r : Reader X T) → Shortens r → (n m : ℕ) (e : T) (ts : List (Terminal X)) → length ts ≤ n → length ts ≤ m → with_suffixes forms r n (e, ts) ≡ with_suffixes forms r m (e, ts)
with_suffixes_enough forms r h zero zero e ts p q = refl
with_suffixes_enough forms r h zero (suc m) e [] p q = refl
with_suffixes_enough forms r h zero (suc m) e (t ∷ ts) p q = absurd (omega arith)
with_suffixes_enough forms r h (suc n) zero e [] p q = refl
with_suffixes_enough forms r h (suc n) zero e (t ∷ ts) p q = absurd (omega arith)
with_suffixes_enough forms r h (suc n) (suc m) e ts p q = ap (λ o. or_else o (e, ts)) (same_bound (suffix_at r ts) _ _ (λ x. length x.1 < length ts) (suffix_at_short r h ts)
    (λ x u. ap Some (with_suffixes_enough forms r h n m (suffixed forms e x.0) x.1 (omega arith) (omega arith))))

pub nothing_in_nothing : {X : Type 0} → {A : Type 0} (o : Option (A × List (Terminal X))) → IfSome o (λ x. length x.1 < 0) → o ≡ None
nothing_in_nothing None h = refl
nothing_in_nothing (Some x) h = absurd (omega arith)

no_elements : {X T : Type 0} → (r : Reader X T) → Shortens r → (b : Bracket) (n : ℕ) → some_elements r b n [] ≡ None
no_elements r h b zero = refl
no_elements r h b (suc n) = ap (λ o. o >>= λ e. elim (closed b e.1) [ Some rest ↦ Some ((e.0 ∷ []), rest) | None ↦ (behind_comma e.1 >>= λ next. some_elements r b n next >>= λ es. Some ((e.0 ∷ es.0), es.1)) ]) (nothing_in_nothing (r level.Conditional []) (h level.Conditional []))

some_elements_enough : {X T : Type 0} → (r : Reader X T) → Shortens r → (b : Bracket) (n m : ℕ) (ts : List (Terminal X)) → length ts ≤ n → length ts ≤ m → some_elements r b n ts ≡ some_elements r b m ts
some_elements_enough r h b zero zero ts p q = refl
some_elements_enough r h b zero (suc m) [] p q = sym (no_elements r h b (suc m))
some_elements_enough r h b zero (suc m) (t ∷ ts) p q = absurd (omega arith)
some_elements_enough r h b (suc n) zero [] p q = no_elements r h b (suc n)
some_elements_enough r h b (suc n) zero (t ∷ ts) p q = absurd (omega arith)
some_elements_enough r h b (suc n) (suc m) ts p q =
    same_bound (r level.Conditional ts) _ _ (λ e. length e.1 < length ts) (h level.Conditional ts) (λ e u.
    either_same (closed b e.1) _ _ _ _ _ (pass_closed b e.1) (λ rest v. refl)
    (same_bound (behind_comma e.1) _ _ (λ rest. length rest < length e.1) (pass_comma e.1) (λ next v.
    ap (λ o. o >>= λ es. Some ((e.0 ∷ es.0), es.1)) (some_elements_enough r h b n m next (omega arith) (omega arith)))))

-- one more turn of joints, if there is one
pub more_joints : {X T : Type 0} (forms : Forms X T) → (k : Level) (e : T) (ts : List (Terminal X)) → with_joints forms (reading forms) k (length ts) (e, ts) ≡ or_else (joint_tail forms (reading forms) k ts >>= λ j. Some (with_joints forms (reading forms) k (length j.2) (j.0 e j.1, j.2))) (e, ts)
more_joints forms k e ts = with_joints_enough forms (reading forms) (reading_short forms) k (length ts) (suc (length ts)) e ts (omega arith) (omega arith)
    ∙ ap (λ o. or_else o (e, ts)) (same_bound (joint_tail forms (reading forms) k ts) _ _ (λ j. length j.2 < length ts) (joint_tail_short forms (reading forms) (reading_short forms) k ts)
    (λ j u. ap Some (with_joints_enough forms (reading forms) (reading_short forms) k (length ts) (length j.2) (j.0 e j.1) j.2 (omega arith) (omega arith))))

pub more_suffixes : {X T : Type 0} (forms : Forms X T) → (e : T) (ts : List (Terminal X)) → with_suffixes forms (reading forms) (length ts) (e, ts) ≡ or_else (suffix_at (reading forms) ts >>= λ x. Some (with_suffixes forms (reading forms) (length x.1) (suffixed forms e x.0, x.1))) (e, ts)
more_suffixes forms e ts = with_suffixes_enough forms (reading forms) (reading_short forms) (length ts) (suc (length ts)) e ts (omega arith) (omega arith)
    ∙ ap (λ o. or_else o (e, ts)) (same_bound (suffix_at (reading forms) ts) _ _ (λ x. length x.1 < length ts) (suffix_at_short (reading forms) (reading_short forms) ts)
    (λ x u. ap Some (with_suffixes_enough forms (reading forms) (reading_short forms) (length ts) (length x.1) (suffixed forms e x.0) x.1 (omega arith) (omega arith))))

pub more_elements : {X T : Type 0} (forms : Forms X T) → (b : Bracket) (ts : List (Terminal X)) → some_elements (reading forms) b (length ts) ts ≡ (reading forms level.Conditional ts >>= λ e. elim (closed b e.1) [ Some rest ↦ Some ((e.0 ∷ []), rest) | None ↦ (behind_comma e.1 >>= λ next. some_elements (reading forms) b (length next) next >>= λ es. Some ((e.0 ∷ es.0), es.1)) ])
more_elements forms b ts = some_elements_enough (reading forms) (reading_short forms) b (length ts) (suc (length ts)) ts (omega arith) (omega arith)
    ∙ same_bound (reading forms level.Conditional ts) _ _ (λ e. length e.1 < length ts) (reading_short forms level.Conditional ts) (λ e u.
    either_same (closed b e.1) _ _ _ _ _ (pass_closed b e.1) (λ rest v. refl)
    (same_bound (behind_comma e.1) _ _ (λ rest. length rest < length e.1) (pass_comma e.1) (λ next v.
    ap (λ o. o >>= λ es. Some ((e.0 ∷ es.0), es.1)) (some_elements_enough (reading forms) (reading_short forms) b (length ts) (length next) next (omega arith) (omega arith)))))

-- a turn of the loop over joints
pub joint_turn : {X T : Type 0} (forms : Forms X T) → (k : Level) (e : T) (ts : List (Terminal X)) (f : T → T → T) (b : T) (us : List (Terminal X)) → joint_tail forms (reading forms) k ts ≡ Some (f, b, us) → with_joints forms (reading forms) k (length ts) (e, ts) ≡ with_joints forms (reading forms) k (length us) (f e b, us)
joint_turn forms k e ts f b us h = more_joints forms k e ts ∙ ap (λ o. or_else (o >>= λ x. Some (with_joints forms (reading forms) k (length x.2) (x.0 e x.1, x.2))) (e, ts)) h

-- and over suffixes
pub suffix_turn : {X T : Type 0} (forms : Forms X T) → (e : T) (ts : List (Terminal X)) (s : (Suffix T)) (us : List (Terminal X)) → suffix_at (reading forms) ts ≡ Some (s, us) → with_suffixes forms (reading forms) (length ts) (e, ts) ≡ with_suffixes forms (reading forms) (length us) (suffixed forms e s, us)
suffix_turn forms e ts s us h = more_suffixes forms e ts ∙ ap (λ o. or_else (o >>= λ x. Some (with_suffixes forms (reading forms) (length x.1) (suffixed forms e x.0, x.1))) (e, ts)) h

-- and over elements: the last of them, one that others follow, and one that neither is
pub last_element : {X T : Type 0} (forms : Forms X T) → (b : Bracket) (ts : List (Terminal X)) (e : T) (us rest : List (Terminal X)) → reading forms level.Conditional ts ≡ Some (e, us) → closed b us ≡ Some rest → some_elements (reading forms) b (length ts) ts ≡ Some ((e ∷ []), rest)
last_element {X} {T} forms b ts e us rest h k = more_elements forms b ts ∙ ap (λ o. o >>= λ x. elim (closed b x.1) [ Some r ↦ Some ((x.0 ∷ []), r) | None ↦ (behind_comma x.1 >>= λ next. some_elements (reading forms) b (length next) next >>= λ es. Some ((x.0 ∷ es.0), es.1)) ]) h
    ∙ ap (λ o. elim o as (λ _. Option (List T × List (Terminal X))) [ Some r ↦ Some ((e ∷ []), r) | None ↦ (behind_comma us >>= λ next. some_elements (reading forms) b (length next) next >>= λ es. Some ((e ∷ es.0), es.1)) ]) k

pub next_element : {X T : Type 0} (forms : Forms X T) → (b : Bracket) (ts : List (Terminal X)) (e : T) (us : List (Terminal X)) → reading forms level.Conditional ts ≡ Some (e, us) → closed b us ≡ None → some_elements (reading forms) b (length ts) ts ≡ (behind_comma us >>= λ next. some_elements (reading forms) b (length next) next >>= λ es. Some ((e ∷ es.0), es.1))
next_element {X} {T} forms b ts e us h k = more_elements forms b ts ∙ ap (λ o. o >>= λ x. elim (closed b x.1) [ Some r ↦ Some ((x.0 ∷ []), r) | None ↦ (behind_comma x.1 >>= λ next. some_elements (reading forms) b (length next) next >>= λ es. Some ((x.0 ∷ es.0), es.1)) ]) h
    ∙ ap (λ o. elim o as (λ _. Option (List T × List (Terminal X))) [ Some r ↦ Some ((e ∷ []), r) | None ↦ (behind_comma us >>= λ next. some_elements (reading forms) b (length next) next >>= λ es. Some ((e ∷ es.0), es.1)) ]) k

pub no_element : {X T : Type 0} (forms : Forms X T) → (b : Bracket) (ts : List (Terminal X)) → reading forms level.Conditional ts ≡ None → some_elements (reading forms) b (length ts) ts ≡ None
no_element forms b ts h = more_elements forms b ts ∙ ap (λ o. o >>= λ x. elim (closed b x.1) [ Some r ↦ Some ((x.0 ∷ []), r) | None ↦ (behind_comma x.1 >>= λ next. some_elements (reading forms) b (length next) next >>= λ es. Some ((x.0 ∷ es.0), es.1)) ]) h
