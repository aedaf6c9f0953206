-- On which line a case stands.
use Rattle.std.proofs.Common.{◌≡◌, ℕ, ◌+◌, ◌-◌, ◌<◌, List, [], ◌∷◌, ◌++◌, length, slice_get, Option, MatchOption, IsSomeAnd, sym, ap, ◌∙◌, subst, arith}
use Rattle.std.proofs.lemmas.Option.{slice_get_within}
use Rattle.std.proofs.lemmas.Slice.Zip.{AllZip-long, AllZip-right}
use Rattle.input_space.specs.declared.case.Case.{Case}
use Rattle.input_space.proofs.Blocks.{get_left, get_right}
use Rattle.cert_text.specs.Certificates.{case_line, front_lines, sessions_lines}
use Rattle.cert_text.specs.CertLaws.{CaseByLine}
use Rattle.cert_text.specs.LineForms.{SpellsCaseLine, last_line}

pub case_by_line : CaseByLine
case_by_line lines c place x s some here =
    let k : ℕ = place - 1 in
    let front : List (List ℕ) = front_lines c.claim c.selection in
    let behind : List (List ℕ) = sessions_lines c.sessions ++ last_line ∷ [] in
    let found : IsSomeAnd (slice_get s.case_lines k) (λ line. SpellsCaseLine line x) =
    subst (λ (o : Option Case). MatchOption o (Unit {0}) (λ y. IsSomeAnd (slice_get s.case_lines k) (λ line. SpellsCaseLine line y))) here
    (AllZip-right SpellsCaseLine s.case_lines c.cases s.cases k) in
    let within : k < length s.case_lines = omega (arith, slice_get_within c.cases k x here, AllZip-long SpellsCaseLine s.case_lines c.cases s.cases) in
    let number : length front + place - 1 ≡ length front + k = omega (arith, some) in
    let at : slice_get lines (case_line c place - 1) ≡ slice_get s.case_lines k =
    ap (λ (ls : List (List ℕ)). slice_get ls (length front + place - 1)) s.written
    ∙ ap (slice_get (front ++ (s.case_lines ++ behind))) number
    ∙ get_right front (s.case_lines ++ behind) k
    ∙ get_left s.case_lines behind k within in
    subst (λ (o : Option (List ℕ)). IsSomeAnd o (λ line. SpellsCaseLine line x)) (sym at) found
