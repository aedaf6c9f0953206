use Rattle.std.proofs.Common.{◌≡◌, ◌<◌, ◌≤◌, ◌++◌, ◌∷◌, [], ap, ◌∙◌, sym, subst, arith}
use Rattle.choice_tree.specs.Choices.{Rises}
use Rattle.cert_text.specs.Limits.{is_choice}
use Rattle.cert_text.specs.LineForms.{choice_text}
use Rattle.step_lines.proofs.Apart.{is_not_nil}
use Rattle.step_lines.proofs.Rows.{Words, one_word_more}
use Rattle.cert_text.proofs.ListsRead.{no_choice, no_choice_word, no_rise}
use Rattle.cert_text.proofs.Rising.{behind_picks, picks_more, rises_more}
use Rattle.cert_text.proofs.choices.choices.Goals as goal

pub returns-in_default : goal.returns-in_default
returns-in_default c = λ x s. no_choice_word c.args.text.now c.words.found.items c.words.rest.now c.words.invariant.words x s (is_not_nil c.words.rest.now c.if-is_empty.ensures) c.in_default.ensures.none

pub returns-in_default-choice : goal.returns-in_default-choice
returns-in_default-choice c = λ x s.
    (let e = c.in-Some.ensures in
    no_choice c.args.text.now c.words.found.items c.words.rest.now c.words.invariant.words x s c.in-Some.word.piece.now c.in-Some.word.rest.now e.joined e.piece e.rest c.in_default-choice.ensures)

pub returns-then-from-least : goal.returns-then-from-least
returns-then-from-least c = λ x s.
    (let e = c.in-Some.ensures in
    let low : c.in-Some-choice.next.pick < behind_picks 0 c.words.found.items = omega (arith, c.if-from-least.true, c.from.ensures, c.words.invariant.least) in
    no_rise c.args.text.now c.words.found.items c.words.rest.now c.words.invariant.words x s c.in-Some.word.piece.now c.in-Some.word.rest.now e.joined e.piece e.rest c.in-Some-choice.next c.in-Some-choice.ensures low)

pub words-preserved : goal.words-preserved
words-preserved c =
    let e = c.in-Some.ensures in
    let xs = c.words.found.items in
    let x = c.in-Some-choice.next in
    let items : c.push.new.self.items ≡ xs ++ x ∷ [] = c.in_ok-push.ensures.items in
    let low : behind_picks 0 xs ≤ x.pick = omega (arith, c.if-from-least.false, c.from.ensures, c.words.invariant.least) in
    let more = one_word_more choice_text is_choice c.args.text.now xs c.words.rest.now c.in-Some.word.piece.now c.in-Some.word.rest.now x c.words.invariant.words e.joined e.rest c.in-Some-choice.ensures.written c.in-Some-choice.ensures.kept in
    let picks = ap (behind_picks 0) items ∙ picks_more 0 xs x in
    record {
      words = subst (λ ys. Words choice_text is_choice c.args.text.now ys c.in-Some.word.rest.now) (sym items) more;
      rising = subst (Rises 0) (sym items) (rises_more 0 xs x c.words.invariant.rising low);
      least = omega (arith, c.from-least.ensures, picks);
    }
