-- What is told after a question.
use Rattle.std.proofs.Common.{◌≡◌, ◌+◌, Bool, true, false, List, [], ◌∷◌, ◌++◌, map}
use Rattle.std.proofs.Common.{sym, ap, ◌∙◌, Some, append-nil}
use Rattle.std.specs.Prelude.{option_map, if◌then◌else◌}
use Rattle.std.proofs.lemmas.List.{map_push}
use Rattle.choice_tree.specs.declared.selection.Choice.{Choice}
use Rattle.cegis_loop.specs.State.{Told, Open, Refuted}
use Rattle.input_space.specs.declared.session.Query.{Query}
use Rattle.input_space.specs.declared.session.Session.{Session}
use Rattle.input_space.specs.Sessions.{is_refuted, question_of, told_of}

told_by : (b : Bool) (x : Session) → is_refuted x.log.steps ≡ b
    → told_of x ≡ (if b then Refuted (question_of x.query) else Open (question_of x.query))
told_by b x e =
    ap (λ c. if c then Refuted (question_of x.query) else Open (question_of x.query)) e

pub told_open : (x : Session) (q : Query) → x.query ≡ q → is_refuted x.log.steps ≡ false
    → told_of x ≡ Open (question_of q)
told_open x q e h = told_by false x h ∙ ap (λ r. Open (question_of r)) e

pub told_refuted : (x : Session) (q : Query) → x.query ≡ q → is_refuted x.log.steps ≡ true
    → told_of x ≡ Refuted (question_of q)
told_refuted x q e h = told_by true x h ∙ ap (λ r. Refuted (question_of r)) e

-- a session more tells a question more
pub told_more : (xs : List Session) (x : Session) (t : Told (List Choice)) → told_of x ≡ t
    → Some (map told_of (xs ++ x ∷ []))
    ≡ option_map (λ asked. asked ++ t ∷ []) (Some (map told_of xs))
told_more xs x t e =
    ap Some (map_push told_of xs x ∙ ap (λ u. map told_of xs ++ u ∷ []) e)

pub told_as_before : (xs : List Session)
    → Some (map told_of xs) ≡ option_map (λ asked. asked ++ []) (Some (map told_of xs))
told_as_before xs = ap Some (sym (append-nil (map told_of xs)))
