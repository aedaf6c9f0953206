-- What small programs and their rewritings share, computed.
use Rattle.std.proofs.Common.{◌≡◌, ℕ, ◌==◌, if◌then◌else◌, List, [], ◌∷◌, Some, None, refl}
use Rattle.std.proofs.Common.{false}
use Rattle.mpy_tree.specs.declared.operators.ArithOp.TheVariants as arith
use Rattle.mpy_tree.specs.declared.typing.Slot.TheVariants as slot
use Rattle.mpy_tree.specs.declared.typing.Ty.TheVariants as ty
use Rattle.mpy_tree.specs.Rules.{Slots}
use Rattle.mpy_tree.specs.Shapes.{program_shape}
use Rattle.mpy_tree.specs.Sharing.{shared}
use Rattle.mpy_tree.specs.Syntax.{Routine, Term, a_term, at, end, no_term, no_terms, step, term_and}
use Rattle.mpy_tree.specs.Syntax as ast
use Rattle.mpy_tree.specs.Trees as kind
use Rattle.mpy_tree.specs.Trees.{Tree}
use Rattle.choice_tree.specs.Contexts.{setting_with}
use Rattle.choice_tree.specs.declared.rules.Meta.{Meta}
use Rattle.choice_tree.specs.declared.rules.Place.TheVariants as place
use Rattle.choice_tree.specs.Growing.{weighted_program}
use Rattle.choice_tree.specs.Selections.{plain}
use Rattle.choice_tree.specs.Templates.{Correction, Template, exactly, hole, made, no_templates}
use Rattle.choice_tree.specs.Templates.{one_arith, template_and}

abbrev name_u : List ℕ
name_u = 117 ∷ []

abbrev name_v : List ℕ
name_v = 118 ∷ []

-- u and v are lists, and each function gives a number
abbrev types : Slots
types i (slot.Local (c ∷ [])) = if c == 117 then Some ty.List
    else if c == 118 then Some ty.List else None
types i (slot.Local y) = None
types i slot.Result = Some ty.Int

abbrev rule : Template → Template → Correction
rule left right =
    record {
      line = 1;
      name = [];
      cost = 1;
      place = place.Anywhere;
      left = left;
      right_place = place.Anywhere;
      right = right;
      say = None;
    }

-- the rule is taken where it can be taken first
abbrev first : ℕ → ℕ
first p = if p == 0 then 1 else 0

abbrev rewritten : Correction → List Routine → Tree
rewritten r s =
    plain first (weighted_program (setting_with (r ∷ []) s types) s)

-- def f(v): u = e
abbrev assigning : Term → List Routine
assigning e =
    record {
      line = 1;
      name = 102 ∷ [];
      params = name_v ∷ [];
      body = step (at 2 (ast.Assign name_u e)) end;
    } ∷ []

abbrev v : Term
v = ast.Name name_v

abbrev sum : Term
sum = ast.Arith arith.Add v (ast.List no_terms)

abbrev copy : Term
copy = ast.Slice v no_term no_term

abbrev metavariable : Meta
metavariable = record { letter = 97; digit = None; primed = false }

-- $a + [] => $a
abbrev left_alone : Correction
left_alone =
    rule
    (made (one_arith (arith.Add ∷ []))
    (template_and (hole metavariable)
    (template_and (made (exactly kind.List) no_templates) no_templates)))
    (hole metavariable)

sum_unshared : shared types (assigning sum) ≡ []
sum_unshared = refl

-- The rule writes a copy. With the bare name the two would share.
sum_rewritten : rewritten left_alone (assigning sum) ≡ program_shape (assigning copy)
sum_rewritten = refl

copy_unshared : shared types (assigning copy) ≡ []
copy_unshared = refl

bare_shared : shared types (assigning v) ≡ 2 ∷ []
bare_shared = refl

-- def NAME(v): v.append(1), return 0; def f(v): return e
abbrev changing : List ℕ → Term → List Routine
changing name e =
    record {
      line = 1;
      name = name;
      params = name_v ∷ [];
      body = step (at 2 (ast.Append name_v (ast.Int 1)))
          (step (at 3 (ast.Return (a_term (ast.Int 0)))) end);
    } ∷ record {
      line = 4;
      name = 102 ∷ [];
      params = name_v ∷ [];
      body = step (at 5 (ast.Return (a_term e))) end;
    } ∷ []

abbrev calling : List ℕ → Term → Term
calling name e = ast.Call name (term_and e no_terms)

-- 7 => NAME(e)
abbrev called : List ℕ → Template → Correction
called name e =
    rule (made (exactly (kind.Int 7)) no_templates)
    (made (exactly (kind.Call name)) (template_and e no_templates))

-- A rule that calls a function of the program makes it a function that is called.
abbrev g : List ℕ
g = 103 ∷ []

abbrev g_called : Correction
g_called = called g (made (exactly kind.List) no_templates)

uncalled_unshared : shared types (changing g (ast.Int 7)) ≡ []
uncalled_unshared = refl

call_rewritten : rewritten g_called (changing g (ast.Int 7))
    ≡ program_shape (changing g (calling g (ast.List no_terms)))
call_rewritten = refl

called_shared : shared types (changing g (calling g (ast.List no_terms))) ≡ 2 ∷ []
called_shared = refl

-- So does one that calls a builtin, where a function has its name.
abbrev absolute : List ℕ
absolute = 97 ∷ 98 ∷ 115 ∷ []

abbrev absolute_called : Correction
absolute_called = called absolute (made (exactly (kind.Int 7)) no_templates)

builtin_unshared : shared types (changing absolute (ast.Int 7)) ≡ []
builtin_unshared = refl

builtin_rewritten : rewritten absolute_called (changing absolute (ast.Int 7))
    ≡ program_shape (changing absolute (calling absolute (ast.Int 7)))
builtin_rewritten = refl

builtin_shared : shared types (changing absolute (calling absolute (ast.Int 7))) ≡ 2 ∷ []
builtin_shared = refl
