use Rattle.std.proofs.Common.{ap}
use Rattle.std.specs.declared.result.Result.TheVariants.{Ok}
use Rattle.mpy_tree.specs.Running.{Done}
use Rattle.mpy_tree.specs.declared.outcome.Halted.{Halted}
use Rattle.bit_words.specs.Logic.{extends_keeps}
use Rattle.sym_values.specs.DoneLater.{done_in_later, done_later}
use Rattle.sym_values.proofs.Ends.{and_decides, as_another, done_alike}
use Rattle.sym_values.proofs.alike.ends_alike.Goals as goal

pub same_printed-requires-clause-first : goal.same_printed-requires-clause-first
same_printed-requires-clause-first g c = done_in_later (extends_keeps c.same_value.ensures.extends) c.requires.first

pub same_printed-requires-clause-second : goal.same_printed-requires-clause-second
same_printed-requires-clause-second g c = done_in_later (extends_keeps c.same_value.ensures.extends) c.requires.second

pub returns-clause-value : goal.returns-clause-value
returns-clause-value g c vs x y h k =
    let reads = g.L.Logic.reads in
    let keeps = extends_keeps c.same_value.ensures.extends in
    let two = c.same_printed.ensures.extends in
    let value = c.in_ok-value.ensures.value vs x.value y.value h.1 k.1 in
    let printed = c.in_ok-printed.ensures.value vs x y (done_later c.args.a.now keeps c.requires.first vs {E = Halted} (Ok x) h) (done_later c.args.b.now keeps c.requires.second vs {E = Halted} (Ok y) k) in
    let kept = two.same c.in_ok-value.value c.in_ok-value.ensures.owned vs in
    let both = and_decides (reads c.same_printed.new.g vs c.in_ok-value.value) (reads c.same_printed.new.g vs c.in_ok-printed.printed) (reads c.and.new.self vs c.in_ok-alike.alike)
    (as_another (reads c.same_printed.new.g vs c.in_ok-value.value) (reads c.same_value.new.g vs c.in_ok-value.value) kept value) (λ e. printed) (c.in_ok-alike.ensures.value vs) in
    (λ e. let parts = both.0 e in done_alike x y parts.0 parts.1, λ e. both.1 (ap (λ (d : Done). d.value) e, ap (λ (d : Done). d.printed) e))
