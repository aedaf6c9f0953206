-- What is read of the printed text of a proper program.
use Rattle.std.proofs.Common.{◌≡◌, ℕ, List, [], map, Result, Ok, Err, IfOk, IfErr, refl, ap, sym, subst, ◌∙◌}
use Rattle.mpy_tree.specs.declared.refusal.Cause.{Cause}
use Rattle.mpy_tree.specs.declared.refusal.Cause.TheVariants as cause
use Rattle.mpy_tree.specs.declared.tree.Prog.{Prog}
use Rattle.mpy_tree.specs.Equality.{without_lines}
use Rattle.mpy_tree.specs.Printing.{program_text}
use Rattle.mpy_tree.specs.Syntax.{Routine}
use Rattle.mpy_tree.specs.View.{routines_of}
use Rattle.mpy_parser.specs.declared.read_error.ReadError.{ReadError}
use Rattle.mpy_parser.specs.declared.read_error.ReadError.TheVariants as read_error
use Rattle.mpy_limits.specs.Limits.{limit_lines}
use Rattle.mpy_parser.specs.ProgramLaws.{OneProgram, NotReadAndRefused, RefusedForALimit}
use Rattle.mpy_parser.specs.Programs.{Reads, IsProgram, IsRefused, IsAnswered, HasNoLongLine}
use Rattle.mpy_round_trip.specs.Proper.{IsProper}
use Rattle.mpy_round_trip.specs.RoundTrip.{AreSame, SpelledByNoOther}
use Rattle.mpy_round_trip.proofs.ReadBack.{read_back, program_back}

pub no_other : OneProgram → SpelledByNoOther
no_other one rs qs p reads =
    let b = read_back rs p in
    ap (map without_lines) (one (program_text rs) qs b.routines reads b.reads) ∙ b.same

-- a program that is read is the one that was printed
pub read_same : (rs : List Routine) (text : List ℕ) (r : Result Prog ReadError) → OneProgram → text ≡ program_text rs → IfOk r (λ q. IsProgram text (routines_of q)) → IsProper rs → IfOk r (λ q. AreSame (routines_of q) rs)
read_same rs text (Ok q) one e h p = no_other one rs (routines_of q) p (subst (λ t. Reads t (routines_of q)) e h.reads)
read_same rs text (Err x) one e h p = tt

-- within the limits nothing is refused
pub read_within_limits : (rs : List Routine) (text : List ℕ) (r : Result Prog ReadError) → NotReadAndRefused → text ≡ program_text rs → IfErr r (IsAnswered text) → IsProper rs → HasNoLongLine (program_text rs) → limit_lines rs ≡ [] → IfErr r (λ x. x ≡ read_error.NoMemory)
read_within_limits rs text (Ok q) apart e h p short small = tt
read_within_limits rs text (Err read_error.NoMemory) apart e h p short small = refl
read_within_limits rs text (Err (read_error.Fault c line)) apart e h p short small =
    let b = program_back rs p short small in
    absurd (apart (program_text rs) b.0 c line b.1 (subst (λ t. IsRefused t c line) e h))

-- and a refusal is for a limit
pub refused_for_limits : (rs : List Routine) (text : List ℕ) (r : Result Prog ReadError) → RefusedForALimit → text ≡ program_text rs → IfErr r (IsAnswered text) → IsProper rs → IfErr r (λ x. (c : Cause) (line : ℕ) → x ≡ read_error.Fault c line → c ≡ cause.Limit)
refused_for_limits rs text (Ok q) limit e h p = tt
refused_for_limits rs text (Err read_error.NoMemory) limit e h p = λ c line same. cc
refused_for_limits rs text (Err (read_error.Fault d m)) limit e h p = λ c line same.
    let b = read_back rs p in
    let one : d ≡ c = cc in
    sym one ∙ limit (program_text rs) b.routines d m b.reads (subst (λ t. IsRefused t d m) e h)
