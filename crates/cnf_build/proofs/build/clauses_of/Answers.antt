use Rattle.std.proofs.Common.{◌≡◌, ◌∙◌, ap, sym, arith, take, ◌++◌, ◌∷◌, [], List, length, length-take, ◌+◌, ℕ, true}
use Rattle.std.proofs.lemmas.List.{take_more, take_all}
use Rattle.std.proofs.lemmas.Option.{get_or_from_slice_get}
use Rattle.bit_graph.specs.declared.gate.Gate.{Gate}
use Rattle.clause_base.specs.declared.lit.Lit.{Lit}
use Rattle.cnf_build.specs.Gates.{clauses_from, gate_clauses, literal_of}
use Rattle.cnf_build.proofs.Whole.{clauses_push}
use Rattle.cnf_build.proofs.build.clauses_of.Goals as goal

pub loop-k-preserved : goal.loop-k-preserved
loop-k-preserved c =
    let n = c.variables-variables.result in
    let k = c.loop-k.k in
    let gates = c.args.g.now.gates in
    let first : List Lit = record { var = 1; positive = true } ∷ [] in
    let short : 0 + length (take k gates) ≡ k = omega (arith, length-take {A = Gate}) in
    let more : take (k + 1) gates ≡ take k gates ++ c.gate.result ∷ [] =
    take_more gates k c.gate.result (omega arith) ∙ ap (λ (x : Gate). take k gates ++ x ∷ []) (get_or_from_slice_get gates k c.gate.result c.gate.result c.gate.ensures) in
    c.in_ok-push_gate.ensures ∙ ap (λ (w : List (List Lit)). w ++ gate_clauses n k c.gate.result) c.loop-k.invariant
    ∙ ap (λ (j : ℕ). first ∷ (clauses_from n 0 (take k gates) ++ gate_clauses n j c.gate.result)) (sym short)
    ∙ ap (λ (w : List (List Lit)). first ∷ w) (sym (clauses_push n 0 (take k gates) c.gate.result))
    ∙ ap (λ (w : List Gate). first ∷ clauses_from n 0 w) (sym more)

pub returns : goal.returns
returns c =
    let gates = c.args.g.now.gates in
    let n = c.variables-variables.result in
    let first : List Lit = record { var = 1; positive = true } ∷ [] in
    let all : take c.loop-k.k gates ≡ gates = take_all c.loop-k.k gates (omega arith) in
    c.in_ok-push_one-2.ensures ∙ ap (λ (w : List (List Lit)). w ++ (c.literal.result ∷ []) ∷ []) c.loop-k.invariant
    ∙ ap (λ (w : List Gate). first ∷ (clauses_from n 0 w ++ (c.literal.result ∷ []) ∷ [])) all
    ∙ ap (λ (l : Lit). first ∷ (clauses_from n 0 gates ++ (l ∷ []) ∷ [])) c.literal.ensures.value
    ∙ ap (λ (m : ℕ). first ∷ (clauses_from m 0 gates ++ (literal_of m c.args.goal ∷ []) ∷ [])) c.variables-variables.ensures
