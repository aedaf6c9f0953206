use Rattle.std.proofs.Common.{sym, ◌∙◌, ap, subst, ◌≤◌, [], ◌∷◌, ◌++◌, option_map, IfSome}
use Rattle.std.proofs.lemmas.List.Elements.{All-append, All-cons, All-nil}
use Rattle.mpy_tree.specs.Printable.{ArePrintable}
use Rattle.mpy_lexer.specs.TextLiterals.{characters}
use Rattle.mpy_lexer.proofs.Characters.{one_more, all_found}
use Rattle.mpy_lexer.proofs.text_literals.characters.Goals as goal

pub loop-character-preserved : goal.loop-character-preserved
loop-character-preserved c = record {
  so_far = c.loop-character.invariant.so_far
      ∙ one_more c.args.quote c.loop-character.rest.now c.loop-character.found.items c.in-Some.character c.in-Some.behind.now (sym c.character_at.ensures.same ∙ ap (option_map (λ x. (x.0, x.1.now))) c.in-Some.is)
      ∙ ap (λ xs. option_map (λ cs. xs ++ cs) (characters c.args.quote c.in-Some.behind.now)) (sym c.in_ok-push.ensures.items);
  printable = let one = subst (λ o. IfSome o (λ x. (32 ≤ x.0) × (x.0 ≤ 126))) c.in-Some.is c.character_at.ensures.printable in
      subst ArePrintable (sym c.in_ok-push.ensures.items) (All-append (λ d. (32 ≤ d) × (d ≤ 126)) c.loop-character.found.items (c.in-Some.character ∷ []) c.loop-character.invariant.printable (All-cons (λ d. (32 ≤ d) × (d ≤ 126)) c.in-Some.character [] one (All-nil (λ d. (32 ≤ d) × (d ≤ 126)))));
}

pub returns-then-is_last-clause-same : goal.returns-then-is_last-clause-same
returns-then-is_last-clause-same c = sym (c.loop-character.invariant.so_far
    ∙ all_found c.args.quote c.loop-character.rest.now c.loop-character.found.items (sym c.character_at.ensures.same ∙ ap (option_map (λ x. (x.0, x.1.now))) c.in_default.is) (sym c.is_last.ensures ∙ c.if-is_last.true))
