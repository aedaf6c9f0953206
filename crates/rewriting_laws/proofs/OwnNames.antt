-- A program without a fault of names has no function of a builtin's name.
use Rattle.std.proofs.Common.{◌≡◌, ℕ, Bool, true, false, ◌||◌, List, [], ◌∷◌, ◌++◌, Option, Some}
use Rattle.std.proofs.Common.{None, if◌then◌else◌, refl, is_some}
use Rattle.std.specs.Prelude.{⊤}
use Rattle.std.proofs.lemmas.Bool.{or_parts}
use Rattle.mpy_tree.specs.declared.builtins.Builtin.{Builtin}
use Rattle.mpy_tree.specs.declared.refusal.Cause.TheVariants as cause
use Rattle.mpy_tree.specs.Builtins.{builtin_of}
use Rattle.mpy_tree.specs.Faults.{names_fault}
use Rattle.mpy_tree.specs.Leasts.{least}
use Rattle.mpy_tree.specs.Locals.{is_among, locals}
use Rattle.mpy_tree.specs.Names.{arity_lines, has_name_fault, has_twice, header_lines, is_builtin}
use Rattle.mpy_tree.specs.Names.{is_print, is_taken, lines_of, name_lines, name_lines_from}
use Rattle.mpy_tree.specs.Sites.{sites}
use Rattle.mpy_tree.specs.Syntax.{Routine}
use Rattle.mpy_tree.proofs.Leasts.{none_least}
use Rattle.mpy_type_laws.proofs.Nothing.{nil_left, nil_right, not_earlier}

abbrev pub OwnNames : List Routine → Type 0
OwnNames [] = ⊤
OwnNames (r ∷ rs) = (builtin_of r.name ≡ None) × OwnNames rs

unlisted : (b : Bool) (line : ℕ) → (if b then line ∷ [] else []) ≡ [] → b ≡ false
unlisted false line h = refl
unlisted true line h = cc

not_builtin : (o : Option Builtin) → is_some o ≡ false → o ≡ None
not_builtin None h = refl
not_builtin (Some b) h = cc

own_name : (f : List ℕ) (a c : Bool) (line : ℕ)
    → (if a || is_taken f || c then line ∷ [] else []) ≡ [] → builtin_of f ≡ None
own_name f a c line h =
    let all = or_parts (a || is_taken f) c (unlisted (a || is_taken f || c) line h) in
    let taken = (or_parts a (is_taken f) all.0).1 in
    not_builtin (builtin_of f) (or_parts (is_builtin f) (is_print f) taken).0

own_from : (p : List Routine) (before : List (List ℕ)) (rs : List Routine)
    → name_lines_from p before rs ≡ [] → OwnNames rs
own_from p before [] h = tt
own_from p before (r ∷ rs) h =
    let head = header_lines before r in
    let body = lines_of (has_name_fault p (locals r)) (sites r.body) in
    let rest = name_lines_from p (before ++ r.name ∷ []) rs in (
      own_name r.name (is_among before r.name) (has_twice r.params) r.line
          (nil_left head body (nil_left (head ++ body) rest h)),
      own_from p (before ++ r.name ∷ []) rs (nil_right (head ++ body) rest h),
    )

pub no_name_lines : (p : List Routine) → names_fault p ≡ None → name_lines p ≡ []
no_name_lines p h =
    none_least (name_lines p) (not_earlier (least (name_lines p)) (least (arity_lines p)) h)

pub own_names : (p : List Routine) → names_fault p ≡ None → OwnNames p
own_names p h = own_from p [] p (no_name_lines p h)
