use Rattle.std.proofs.Common.{◌∷◌, ◌++◌, [], filter_map, refl, ap, ◌∙◌}
use Rattle.dimacs_text.specs.Tidy.{literals_of, tidied}
use Rattle.dimacs_text.proofs.DraftsGrow.{end_grows}
use Rattle.dimacs_text.proofs.draft.Draft.with_end.Goals as goal

pub returns : goal.returns
returns c = end_grows c.args.self _ (record {
  vars = refl;
  count = refl;
  done = refl;
  pending = c.new.ensures;
  kept = c.in_ok-clauses.ensures.kept ∙ ap (λ t. literals_of c.args.self.clauses ++ filter_map tidied (t ∷ [])) c.as_slice.ensures;
})
