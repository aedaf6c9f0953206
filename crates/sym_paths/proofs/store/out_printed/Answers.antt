use Rattle.std.proofs.Common.{◌∙◌, [], ◌∷◌, ap, arith, sym}
use Rattle.bit_words.specs.Logic.{extends_keeps, extends_trans}
use Rattle.sym_values.specs.Later.{value_in_later, value_later}
use Rattle.sym_values.specs.Reading.{read, spelled}
use Rattle.sym_values.specs.Results.{IsValueIn}
use Rattle.sym_paths.specs.Paths.{way, gone_way, reached}
use Rattle.sym_paths.specs.Sides.{leads_fine}
use Rattle.sym_paths.specs.Storing.{kept_there, outcome_fault, print_drops, print_shows}
use Rattle.sym_paths.specs.Storing.{printed_is, printing}
use Rattle.sym_paths.proofs.Keeping.{keeps_all, keeps_none}
use Rattle.sym_paths.proofs.store.out_printed.Goals as goal

pub returns-then-slots-eq0-clause-value : goal.returns-then-slots-eq0-clause-value
returns-then-slots-eq0-clause-value g c vs o k line at h =
    let start = g.L.Logic.reads c.args.g.now vs in
    let slots = c.args.slots.now in
    let path = c.args.path in
    let outcome = c.args.outcome.now in
    let most = slots.limits.prints in
    let here = rw (c.not-fine.ensures.value vs) at (c.in_ok-here.ensures.value vs) in
    let lead = leads_fine _ (gone_way slots (way start path ∷ [])) o (start outcome.fault) k at
    (λ s e. outcome_fault (start outcome.fault) (read start outcome.value) (k s) (h s e)) here in
    let drops = print_drops o k most line
    (λ s e. sym (kept_there slots (way start path) s (at ∙ ap reached e))
    ∙ keeps_none slots path start c.requires.held c.if-slots-eq0.true) in
    c.in_ok-out.ensures.value vs (printing o k most line) (lead ∙ ap reached (sym drops))
    ∙ print_shows o k most line

pub keep_printed-requires : goal.keep_printed-requires
keep_printed-requires g c =
    let given = c.requires.outcome in
    let step = extends_keeps c.narrow.ensures.extends in
    let value : IsValueIn g.L.Logic.owns c.args.g.now _ c.args.outcome.now.value =
    record { owned = given.1.owned; form = given.1.form } in
    record {
      held = c.in_ok-here.ensures.held;
      each = c.requires.each;
      keeps = keeps_all c.args.slots.now c.requires.keeps c.if-slots-eq0.false;
      some = omega arith;
      value = (given.0, value_in_later step value);
    }

pub returns-clause-extends : goal.returns-clause-extends
returns-clause-extends g c =
    extends_trans c.narrow.ensures.extends c.keep_printed.ensures.extends

pub returns-clause-value : goal.returns-clause-value
returns-clause-value g c vs o k line at h =
    let start = g.L.Logic.reads c.args.g.now vs in
    let slots = c.args.slots.now in
    let outcome = c.args.outcome.now in
    let most = slots.limits.prints in
    let step = extends_keeps c.narrow.ensures.extends in
    let here = rw (c.not-fine.ensures.value vs) at (c.in_ok-here.ensures.value vs) in
    let same = ap spelled (value_later step outcome.value c.requires.outcome.1.owned vs) in
    let kept = c.in_ok-kept.ensures in
    let done = printed_is _ _ _ o (start outcome.fault) (read start outcome.value) k most line at
    here h (λ s v p q. kept.value vs s v line p (same ∙ q)) (kept.none vs) in
    c.in_ok-out-2.ensures.value vs (printing o k most line) done ∙ print_shows o k most line
