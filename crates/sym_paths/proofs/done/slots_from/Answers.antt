use Rattle.std.proofs.Common.{◌≡◌, ◌≤◌, ◌∙◌, ◌++◌, [], ◌∷◌, ap, arith, drop, length, map, max}
use Rattle.std.proofs.Common.{subst, sym}
use Rattle.std.specs.List.{All}
use Rattle.std.proofs.lemmas.List.{append-nil, drop_all, map_push}
use Rattle.std.proofs.lemmas.List.Elements.{All-nil, All-push}
use Rattle.mpy_tree.specs.declared.typing.Ty.TheVariants as ty
use Rattle.sym_values.specs.Printed.{room}
use Rattle.sym_paths.proofs.Kept.{any_word, behind_more}
use Rattle.sym_paths.proofs.Telling.{slot_word}
use Rattle.sym_paths.proofs.done.slots_from.Goals as goal

pub loop-i-init : goal.loop-i-init
loop-i-init g c = record {
  words = ap (λ w. map slot_word w ++ drop 1 c.args.kept.now) c.new-all.ensures;
  kinds = rw c.new-all.ensures (All-nil _);
}

pub slot_from-requires : goal.slot_from-requires
slot_from-requires g c =
    let slots = c.args.slots.now in
    let l = slots.limits in (
      max (room l ty.List) (room l ty.Text),
      any_word l slots.prints c.args.kept.now c.loop-i.i c.at.result.now c.requires.forms_are
          c.loop-i.auto.i c.at.ensures,
    )

pub loop-i-preserved : goal.loop-i-preserved
loop-i-preserved g c =
    let kept = c.args.kept.now in
    let all = c.loop-i.all in
    let slot = c.in_ok-slot.slot in
    let pushed = c.in_ok-push.ensures.ok in
    let words = ap (map slot_word) pushed ∙ map_push slot_word all slot
    ∙ ap (λ x. map slot_word all ++ x ∷ []) (sym c.in_ok-slot.ensures.word) in
    record {
      words = behind_more kept (map slot_word all) _ (drop 1 kept) c.loop-i.i c.at.result.now
          c.loop-i.invariant.words c.at.ensures words;
      kinds = subst (All (λ s. length s.kind ≡ 2)) (sym pushed)
          (All-push (λ s. length s.kind ≡ 2) all slot c.loop-i.invariant.kinds
          c.in_ok-slot.ensures.kind);
    }

pub returns-clause-words : goal.returns-clause-words
returns-clause-words g c =
    let kept = c.args.kept.now in
    let words = map slot_word c.loop-i.all in
    let past : length kept ≤ c.loop-i.i = omega arith in
    sym (append-nil words) ∙ ap (λ w. words ++ w) (sym (drop_all c.loop-i.i kept past))
    ∙ c.loop-i.invariant.words

pub returns-clause-kinds : goal.returns-clause-kinds
returns-clause-kinds g c = c.loop-i.invariant.kinds
