-- Where a reading stops: nothing in front goes on with it, and with some words none begins.
use Rattle.std.proofs.Common.{◌≡◌, ℕ, zero, suc, ◌<◌, ◌≤◌, List, [], ◌∷◌, length, Option, Some, None, IfSome, refl, ap, sym, ◌∙◌, arith}
use Rattle.mpy_tree.specs.declared.levels.Level.{Level}
use Rattle.mpy_tree.specs.declared.levels.Level.TheVariants as level
use Rattle.mpy_expressions.specs.Forms.{Forms}
use Rattle.mpy_expressions.specs.declared.words.Word.{Word}
use Rattle.mpy_expressions.specs.declared.words.Word.TheVariants as word
use Rattle.mpy_expressions.specs.declared.terminals.Terminal.{Terminal}
use Rattle.mpy_expressions.specs.declared.terminals.Terminal.TheVariants as terminal
use Rattle.mpy_expressions.specs.declared.terms.Bracket.{Bracket}
use Rattle.mpy_expressions.specs.declared.terms.Bracket.TheVariants as bracket
use Rattle.mpy_tree.specs.Levels.{above}
use Rattle.mpy_expressions.specs.Joints.{joint_at}
use Rattle.mpy_tree.specs.Options.{◌>>=◌}
use Rattle.mpy_expressions.specs.Reading.{or_else, behind_if, behind_not, behind_minus, behind_power, behind_closing_bracket, behind_closing_paren, behind_closing_brace, behind_colon, comparison_at, operator_at, comparator_at, joint_before, with_conditional_tail, joint_tail, with_joints, with_comparison, with_power, suffixed, suffix_at, with_suffixes, closed, arguments, atom, reading, levels_above}
use Rattle.mpy_expressions.proofs.Readings.{reading_step}

-- the level at which a word goes on with what stands left of it
abbrev pub goes_on : Word → Option Level
goes_on word.If = Some level.Conditional
goes_on word.Or = Some level.Disjunction
goes_on word.And = Some level.Conjunction
goes_on word.Equal = Some level.Comparison
goes_on word.NotEqual = Some level.Comparison
goes_on word.Less = Some level.Comparison
goes_on word.LessEqual = Some level.Comparison
goes_on word.Greater = Some level.Comparison
goes_on word.GreaterEqual = Some level.Comparison
goes_on word.In = Some level.Comparison
goes_on word.Not = Some level.Comparison
goes_on word.Plus = Some level.Sum
goes_on word.Minus = Some level.Sum
goes_on word.Star = Some level.Product
goes_on word.DoubleSlash = Some level.Product
goes_on word.Percent = Some level.Product
goes_on word.DoubleStar = Some level.Power
goes_on word.LeftBracket = Some level.Postfix
goes_on word.LeftParen = Some level.Atom
goes_on _ = None

abbrev pub stops_at : Level → Option Level → Type 0
stops_at k None = Unit {0}
stops_at k (Some m) = levels_above k < levels_above m

-- nothing in front goes on with an expression of the level
abbrev pub Stops : {X : Type 0} → Level → List (Terminal X) → Type 0
Stops k (terminal.Word w ∷ ts) = stops_at k (goes_on w)
Stops k (terminal.Operator x ∷ ts) = levels_above k < levels_above level.Sum
Stops k (terminal.Comparator x ∷ ts) = levels_above k < levels_above level.Comparison
Stops k _ = Unit {0}

stops_more : (k m : Level) (o : Option Level) → levels_above m ≤ levels_above k → stops_at k o → stops_at m o
stops_more k m None le h = tt
stops_more k m (Some n) le h = omega arith

Stops-more : {X : Type 0} → (k m : Level) (ts : List (Terminal X)) → levels_above m ≤ levels_above k → Stops k ts → Stops m ts
Stops-more k m [] le h = tt
Stops-more k m (terminal.Word w ∷ ts) le h = stops_more k m (goes_on w) le h
Stops-more k m (terminal.Name x ∷ ts) le h = tt
Stops-more k m (terminal.Number n ∷ ts) le h = tt
Stops-more k m (terminal.Text cs ∷ ts) le h = tt
Stops-more k m (terminal.Other ∷ ts) le h = tt
Stops-more k m (terminal.Special x ∷ ts) le h = tt
Stops-more k m (terminal.Operator x ∷ ts) le h = omega arith
Stops-more k m (terminal.Comparator x ∷ ts) le h = omega arith

above_le : (k : Level) → levels_above (above k) ≤ levels_above k
above_le level.Conditional = omega arith
above_le level.Disjunction = omega arith
above_le level.Conjunction = omega arith
above_le level.Negation = omega arith
above_le level.Comparison = omega arith
above_le level.Sum = omega arith
above_le level.Product = omega arith
above_le level.Unary = omega arith
above_le level.Power = omega arith
above_le level.Postfix = omega arith
above_le level.Atom = omega arith

pub Stops-above : {X : Type 0} → (k : Level) (ts : List (Terminal X)) → Stops k ts → Stops (above k) ts
Stops-above k ts h = Stops-more k (above k) ts (above_le k) h

-- no word goes on at the level of a minus alone
stops_unary : (w : Word) → stops_at level.Power (goes_on w) → stops_at level.Unary (goes_on w)
stops_unary word.If h = omega arith
stops_unary word.Or h = omega arith
stops_unary word.And h = omega arith
stops_unary word.Equal h = omega arith
stops_unary word.NotEqual h = omega arith
stops_unary word.Less h = omega arith
stops_unary word.LessEqual h = omega arith
stops_unary word.Greater h = omega arith
stops_unary word.GreaterEqual h = omega arith
stops_unary word.In h = omega arith
stops_unary word.Not h = omega arith
stops_unary word.Plus h = omega arith
stops_unary word.Minus h = omega arith
stops_unary word.Star h = omega arith
stops_unary word.DoubleSlash h = omega arith
stops_unary word.Percent h = omega arith
stops_unary word.DoubleStar h = absurd (omega arith)
stops_unary word.LeftBracket h = absurd (omega arith)
stops_unary word.LeftParen h = absurd (omega arith)
stops_unary _ h = tt

pub Stops-unary : {X : Type 0} → (ts : List (Terminal X)) → Stops level.Power ts → Stops level.Unary ts
Stops-unary (terminal.Word w ∷ ts) h = stops_unary w h
Stops-unary [] h = tt
Stops-unary (terminal.Name x ∷ ts) h = tt
Stops-unary (terminal.Number n ∷ ts) h = tt
Stops-unary (terminal.Text cs ∷ ts) h = tt
Stops-unary (terminal.Other ∷ ts) h = tt
Stops-unary (terminal.Special x ∷ ts) h = tt
Stops-unary (terminal.Operator x ∷ ts) h = omega arith
Stops-unary (terminal.Comparator x ∷ ts) h = omega arith

-- where it stops there is no tail
pub no_if : {X : Type 0} → (ts : List (Terminal X)) → Stops level.Conditional ts → behind_if ts ≡ None
no_if (terminal.Word word.If ∷ ts) h = absurd (omega arith)
no_if _ h = refl

no_disjunction : (w : Word) → stops_at level.Disjunction (goes_on w) → joint_at level.Disjunction w ≡ None
no_disjunction word.Or h = absurd (omega arith)
no_disjunction _ h = refl

no_conjunction : (w : Word) → stops_at level.Conjunction (goes_on w) → joint_at level.Conjunction w ≡ None
no_conjunction word.And h = absurd (omega arith)
no_conjunction _ h = refl

no_sum : (w : Word) → stops_at level.Sum (goes_on w) → joint_at level.Sum w ≡ None
no_sum word.Plus h = absurd (omega arith)
no_sum word.Minus h = absurd (omega arith)
no_sum _ h = refl

no_product : (w : Word) → stops_at level.Product (goes_on w) → joint_at level.Product w ≡ None
no_product word.Star h = absurd (omega arith)
no_product word.DoubleSlash h = absurd (omega arith)
no_product word.Percent h = absurd (omega arith)
no_product _ h = refl

no_joint_at : (k : Level) (w : Word) → stops_at k (goes_on w) → joint_at k w ≡ None
no_joint_at level.Disjunction w h = no_disjunction w h
no_joint_at level.Conjunction w h = no_conjunction w h
no_joint_at level.Sum w h = no_sum w h
no_joint_at level.Product w h = no_product w h
no_joint_at _ w h = refl

no_joint_before : {X T : Type 0} (forms : Forms X T) → (k : Level) (w : Word) (ts : List (Terminal X)) → joint_at k w ≡ None → joint_before forms k (terminal.Word w ∷ ts) ≡ None
no_joint_before forms k w ts h = rw h

no_operator : {X T : Type 0} (forms : Forms X T) → (k : Level) (x : X) (ts : List (Terminal X)) → levels_above k < levels_above level.Sum → operator_at forms k x ts ≡ None
no_operator forms level.Sum x ts h = absurd (omega arith)
no_operator forms _ x ts h = refl

no_joint_tail : {X T : Type 0} (forms : Forms X T) → (k : Level) (ts : List (Terminal X)) → joint_before forms k ts ≡ None → joint_tail forms (reading forms) k ts ≡ None
no_joint_tail forms k ts h = rw h

no_joint : {X T : Type 0} (forms : Forms X T) → (k : Level) (ts : List (Terminal X)) → Stops k ts → joint_tail forms (reading forms) k ts ≡ None
no_joint forms k (terminal.Word w ∷ ts) h = no_joint_tail forms k (terminal.Word w ∷ ts) (no_joint_before forms k w ts (no_joint_at k w h))
no_joint forms k [] h = refl
no_joint forms k (terminal.Name x ∷ ts) h = refl
no_joint forms k (terminal.Number n ∷ ts) h = refl
no_joint forms k (terminal.Text cs ∷ ts) h = refl
no_joint forms k (terminal.Other ∷ ts) h = refl
no_joint forms k (terminal.Special x ∷ ts) h = refl
no_joint forms k (terminal.Operator x ∷ ts) h = no_joint_tail forms k (terminal.Operator x ∷ ts) (no_operator forms k x ts h)
no_joint forms k (terminal.Comparator x ∷ ts) h = refl

pub no_more_joints : {X T : Type 0} (forms : Forms X T) → (k : Level) (n : ℕ) (e : T) (ts : List (Terminal X)) → Stops k ts → with_joints forms (reading forms) k n (e, ts) ≡ (e, ts)
no_more_joints forms k zero e ts h = refl
no_more_joints forms k (suc n) e ts h = ap (λ o. or_else (o >>= λ j. Some (with_joints forms (reading forms) k n (j.0 e j.1, j.2))) (e, ts)) (no_joint forms k ts h)

no_comparison : {X : Type 0} → (ts : List (Terminal X)) → Stops level.Comparison ts → comparison_at ts ≡ None
no_comparison (terminal.Word word.Equal ∷ ts) h = absurd (omega arith)
no_comparison (terminal.Word word.NotEqual ∷ ts) h = absurd (omega arith)
no_comparison (terminal.Word word.Less ∷ ts) h = absurd (omega arith)
no_comparison (terminal.Word word.LessEqual ∷ ts) h = absurd (omega arith)
no_comparison (terminal.Word word.Greater ∷ ts) h = absurd (omega arith)
no_comparison (terminal.Word word.GreaterEqual ∷ ts) h = absurd (omega arith)
no_comparison (terminal.Word word.In ∷ ts) h = absurd (omega arith)
no_comparison (terminal.Word word.Not ∷ ts) h = absurd (omega arith)
no_comparison _ h = refl

no_comparator_word : {X T : Type 0} (forms : Forms X T) → (w : Word) (ts : List (Terminal X)) → comparison_at (terminal.Word w ∷ ts) ≡ None → comparator_at forms (terminal.Word w ∷ ts) ≡ None
no_comparator_word forms w ts h = ap (λ o. o >>= λ c. Some (forms.Cmp c.0, c.1)) h

pub no_comparator : {X T : Type 0} (forms : Forms X T) → (ts : List (Terminal X)) → Stops level.Comparison ts → comparator_at forms ts ≡ None
no_comparator forms (terminal.Comparator x ∷ ts) h = absurd (omega arith)
no_comparator forms (terminal.Word w ∷ ts) h = no_comparator_word forms w ts (no_comparison (terminal.Word w ∷ ts) h)
no_comparator forms [] h = refl
no_comparator forms (terminal.Name x ∷ ts) h = refl
no_comparator forms (terminal.Number n ∷ ts) h = refl
no_comparator forms (terminal.Text cs ∷ ts) h = refl
no_comparator forms (terminal.Special x ∷ ts) h = refl
no_comparator forms (terminal.Operator x ∷ ts) h = refl
no_comparator forms (terminal.Other ∷ ts) h = refl

pub no_power : {X : Type 0} → (ts : List (Terminal X)) → Stops level.Power ts → behind_power ts ≡ None
no_power (terminal.Word word.DoubleStar ∷ ts) h = absurd (omega arith)
no_power _ h = refl

no_suffix : {X T : Type 0} (forms : Forms X T) → (ts : List (Terminal X)) → Stops level.Postfix ts → suffix_at (reading forms) ts ≡ None
no_suffix forms (terminal.Word word.LeftBracket ∷ ts) h = absurd (omega arith)
no_suffix forms _ h = refl

pub no_more_suffixes : {X T : Type 0} (forms : Forms X T) → (n : ℕ) (e : T) (ts : List (Terminal X)) → Stops level.Postfix ts → with_suffixes forms (reading forms) n (e, ts) ≡ (e, ts)
no_more_suffixes forms zero e ts h = refl
no_more_suffixes forms (suc n) e ts h = ap (λ o. or_else (o >>= λ s. Some (with_suffixes forms (reading forms) n (suffixed forms e s.0, s.1))) (e, ts)) (no_suffix forms ts h)

pub no_arguments : {X T : Type 0} (forms : Forms X T) → (ts : List (Terminal X)) → Stops level.Atom ts → arguments (reading forms) ts ≡ None
no_arguments forms (terminal.Word word.LeftParen ∷ ts) h = absurd (omega arith)
no_arguments forms _ h = refl

-- A word with which no expression begins: nothing is read at a level above Negation where it is `not`, above Unary where it is a minus, and at no level where it is another.
abbrev no_atom : {X T : Type 0} (forms : Forms X T) → Word → Type 0
no_atom {X} {T} forms w = (ts : List (Terminal X)) → atom forms (reading forms) (terminal.Word w ∷ ts) ≡ None

no_atom_reading : {X T : Type 0} (forms : Forms X T) → (w : Word) → no_atom forms w → (ts : List (Terminal X)) → reading forms level.Atom (terminal.Word w ∷ ts) ≡ None
no_atom_reading forms w h ts = reading_step forms level.Atom (terminal.Word w ∷ ts) ∙ h ts

no_postfix_reading : {X T : Type 0} (forms : Forms X T) → (w : Word) → no_atom forms w → (ts : List (Terminal X)) → reading forms level.Postfix (terminal.Word w ∷ ts) ≡ None
no_postfix_reading forms w h ts = reading_step forms level.Postfix (terminal.Word w ∷ ts) ∙ ap (λ o. o >>= λ a. Some (with_suffixes forms (reading forms) (length a.1) a)) (no_atom_reading forms w h ts)

no_power_reading : {X T : Type 0} (forms : Forms X T) → (w : Word) → no_atom forms w → (ts : List (Terminal X)) → reading forms level.Power (terminal.Word w ∷ ts) ≡ None
no_power_reading forms w h ts = reading_step forms level.Power (terminal.Word w ∷ ts) ∙ ap (λ o. o >>= λ a. Some (with_power forms (reading forms) a)) (no_postfix_reading forms w h ts)

no_unary_reading : {X T : Type 0} (forms : Forms X T) → (w : Word) → no_atom forms w → ((ts : List (Terminal X)) → behind_minus (terminal.Word w ∷ ts) ≡ None) → (ts : List (Terminal X)) → reading forms level.Unary (terminal.Word w ∷ ts) ≡ None
no_unary_reading {X} {T} forms w h m ts = reading_step forms level.Unary (terminal.Word w ∷ ts)
    ∙ ap (λ o. elim o as (λ _. Option (T × List (Terminal X))) [ Some rest ↦ (reading forms level.Unary rest >>= λ e. Some (forms.Neg e.0, e.1)) | None ↦ reading forms level.Power (terminal.Word w ∷ ts) ]) (m ts)
    ∙ no_power_reading forms w h ts

no_product_reading : {X T : Type 0} (forms : Forms X T) → (w : Word) → no_atom forms w → ((ts : List (Terminal X)) → behind_minus (terminal.Word w ∷ ts) ≡ None) → (ts : List (Terminal X)) → reading forms level.Product (terminal.Word w ∷ ts) ≡ None
no_product_reading forms w h m ts = reading_step forms level.Product (terminal.Word w ∷ ts) ∙ ap (λ o. o >>= λ a. Some (with_joints forms (reading forms) level.Product (length a.1) a)) (no_unary_reading forms w h m ts)

no_sum_reading : {X T : Type 0} (forms : Forms X T) → (w : Word) → no_atom forms w → ((ts : List (Terminal X)) → behind_minus (terminal.Word w ∷ ts) ≡ None) → (ts : List (Terminal X)) → reading forms level.Sum (terminal.Word w ∷ ts) ≡ None
no_sum_reading forms w h m ts = reading_step forms level.Sum (terminal.Word w ∷ ts) ∙ ap (λ o. o >>= λ a. Some (with_joints forms (reading forms) level.Sum (length a.1) a)) (no_product_reading forms w h m ts)

no_comparison_reading : {X T : Type 0} (forms : Forms X T) → (w : Word) → no_atom forms w → ((ts : List (Terminal X)) → behind_minus (terminal.Word w ∷ ts) ≡ None) → (ts : List (Terminal X)) → reading forms level.Comparison (terminal.Word w ∷ ts) ≡ None
no_comparison_reading forms w h m ts = reading_step forms level.Comparison (terminal.Word w ∷ ts) ∙ ap (λ o. o >>= λ a. Some (with_comparison forms (reading forms) a)) (no_sum_reading forms w h m ts)

no_reading : {X T : Type 0} (forms : Forms X T) → (w : Word) → no_atom forms w → ((ts : List (Terminal X)) → behind_minus (terminal.Word w ∷ ts) ≡ None) → ((ts : List (Terminal X)) → behind_not (terminal.Word w ∷ ts) ≡ None) → (ts : List (Terminal X)) → reading forms level.Conditional (terminal.Word w ∷ ts) ≡ None
no_reading {X} {T} forms w h m n ts =
    (reading_step forms) level.Conditional (terminal.Word w ∷ ts) ∙ ap (λ o. o >>= λ a. Some (with_conditional_tail forms (reading forms) a))
    (reading_step forms level.Disjunction (terminal.Word w ∷ ts) ∙ ap (λ o. o >>= λ a. Some (with_joints forms (reading forms) level.Disjunction (length a.1) a))
    (reading_step forms level.Conjunction (terminal.Word w ∷ ts) ∙ ap (λ o. o >>= λ a. Some (with_joints forms (reading forms) level.Conjunction (length a.1) a))
    (reading_step forms level.Negation (terminal.Word w ∷ ts)
    ∙ ap (λ o. elim o as (λ _. Option (T × List (Terminal X))) [ Some rest ↦ (reading forms level.Negation rest >>= λ e. Some (forms.Not e.0, e.1)) | None ↦ reading forms level.Comparison (terminal.Word w ∷ ts) ]) (n ts)
    ∙ no_comparison_reading forms w h m ts)))

-- what is read doesn't begin with such a word
pub not_first : {X T : Type 0} (forms : Forms X T) → (b : List (Terminal X) → Option (List (Terminal X))) (k : Level) (ts : List (Terminal X)) (x : T × List (Terminal X)) → IfSome (b ts) (λ rest. reading forms k ts ≡ None) → reading forms k ts ≡ Some x → b ts ≡ None
not_first {X} {T} forms b k ts x h e = by (b ts) refl h
  where
    by : (o : Option (List (Terminal X))) → b ts ≡ o → IfSome o (λ rest. reading forms k ts ≡ None) → b ts ≡ None
    by None p q = p
    by (Some rest) p q = absurd (let z : None ≡ Some x = sym q ∙ e in cc)

pub never_not : {X T : Type 0} (forms : Forms X T) → (ts : List (Terminal X)) → IfSome (behind_not ts) (λ rest. reading forms level.Comparison ts ≡ None)
never_not forms (terminal.Word word.Not ∷ ts) = no_comparison_reading forms word.Not (λ us. refl) (λ us. refl) ts
never_not forms _ = tt

pub never_minus : {X T : Type 0} (forms : Forms X T) → (ts : List (Terminal X)) → IfSome (behind_minus ts) (λ rest. reading forms level.Power ts ≡ None)
never_minus forms (terminal.Word word.Minus ∷ ts) = no_power_reading forms word.Minus (λ us. refl) ts
never_minus forms _ = tt

pub never_colon : {X T : Type 0} (forms : Forms X T) → (ts : List (Terminal X)) → IfSome (behind_colon ts) (λ rest. reading forms level.Conditional ts ≡ None)
never_colon forms (terminal.Word word.Colon ∷ ts) = no_reading forms word.Colon (λ us. refl) (λ us. refl) (λ us. refl) ts
never_colon forms _ = tt

pub never_closing_bracket : {X T : Type 0} (forms : Forms X T) → (ts : List (Terminal X)) → IfSome (behind_closing_bracket ts) (λ rest. reading forms level.Conditional ts ≡ None)
never_closing_bracket forms (terminal.Word word.RightBracket ∷ ts) = no_reading forms word.RightBracket (λ us. refl) (λ us. refl) (λ us. refl) ts
never_closing_bracket forms _ = tt

never_closing_paren : {X T : Type 0} (forms : Forms X T) → (ts : List (Terminal X)) → IfSome (behind_closing_paren ts) (λ rest. reading forms level.Conditional ts ≡ None)
never_closing_paren forms (terminal.Word word.RightParen ∷ ts) = no_reading forms word.RightParen (λ us. refl) (λ us. refl) (λ us. refl) ts
never_closing_paren forms _ = tt

never_closing_brace : {X T : Type 0} (forms : Forms X T) → (ts : List (Terminal X)) → IfSome (behind_closing_brace ts) (λ rest. reading forms level.Conditional ts ≡ None)
never_closing_brace forms (terminal.Word word.RightBrace ∷ ts) = no_reading forms word.RightBrace (λ us. refl) (λ us. refl) (λ us. refl) ts
never_closing_brace forms _ = tt

pub never_closed : {X T : Type 0} (forms : Forms X T) → (b : Bracket) (ts : List (Terminal X)) → IfSome (closed b ts) (λ rest. reading forms level.Conditional ts ≡ None)
never_closed forms bracket.Round ts = never_closing_paren forms ts
never_closed forms bracket.Square ts = never_closing_bracket forms ts
never_closed forms bracket.Curly ts = never_closing_brace forms ts
