use Rattle.std.proofs.Common.{◌≡◌, ℕ, true, take}
use Rattle.clause_base.specs.declared.lit.Lit.{Lit}
use Rattle.sat_plain.specs.Trails.{is_among, is_wanted}
use Rattle.sat_plain.proofs.explain.want.Given as goal

abbrev pub invariant-loop-lit : goal.invariant-loop-lit
invariant-loop-lit l = record {
  kept : (v : ℕ) → is_wanted l.fn.wanted v ≡ true → is_wanted l.wanted v ≡ true;
  more : (x : Lit) → is_among x (take l.lit-index l.lits) ≡ true → is_wanted l.wanted x.var ≡ true;
}
