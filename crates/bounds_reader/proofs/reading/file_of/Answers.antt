use Rattle.std.proofs.Common.{◌≡◌, ◌+◌, map, take, drop, length, refl, sym, subst, ◌∙◌, arith}
use Rattle.std.proofs.lemmas.List.{map_more, take_all, length-map}
use Rattle.bounds_reader.specs.Files.{HasSyntaxFault}
use Rattle.bounds_reader.proofs.FileLaws.{IsFileOf, start_file, file_more, line_unexpected, lines_missing, cut_at, length_front}
use Rattle.bounds_reader.proofs.reading.file_of.Goals as goal

pub loop-i-init : goal.loop-i-init
loop-i-init c = start_file c.new-file.result c.new-file.ensures.due c.new-file.ensures.empty c.new-file.ensures.uncompared

pub loop-i-preserved : goal.loop-i-preserved
loop-i-preserved c =
    let i = c.loop-i.i in
    let lines = c.args.lines.now in
    let front : length (map (λ x. x.now) (take i lines)) ≡ i = length_front (λ x. x.now) lines i (omega arith) in
    subst (λ ls. IsFileOf ls c.take.new.self) (sym (map_more (λ x. x.now) lines i _ c.loop-i-test.true))
    (file_more (map (λ x. x.now) (take i lines)) (i + 1) _ c.loop-i.file c.take.new.self c.loop-i.invariant (omega (arith, front)) (rw c.if-not-branch.false at c.in_ok-take.ensures))

pub returns-then-not-branch-clause-misspelled : goal.returns-then-not-branch-clause-misspelled
returns-then-not-branch-clause-misspelled c =
    let i = c.loop-i.i in
    let lines = c.args.lines.now in
    let front : length (map (λ x. x.now) (take i lines)) ≡ i = length_front (λ x. x.now) lines i (omega arith) in (
      refl,
      line_unexpected (map (λ x. x.now) lines) (map (λ x. x.now) (take i lines)) _ (map (λ x. x.now) (drop (i + 1) lines)) (i + 1) c.loop-i.file
          (cut_at (λ x. x.now) lines i _ c.loop-i-test.true) c.loop-i.invariant (omega (arith, front)) (rw c.if-not-branch.true at c.in_ok-take.ensures),
    )

pub returns-else-is_whole-clause-misspelled : goal.returns-else-is_whole-clause-misspelled
returns-else-is_whole-clause-misspelled c =
    let i = c.loop-i.i in
    let lines = c.args.lines.now in
    let all = take_all i lines c.loop-i-test.false in
    let so_far : IsFileOf (map (λ x. x.now) lines) c.loop-i.file = subst (λ xs. IsFileOf (map (λ x. x.now) xs) c.loop-i.file) all c.loop-i.invariant in (
      refl,
      subst (λ n. HasSyntaxFault (map (λ x. x.now) lines) (n + 1)) (length-map lines (λ x. x.now))
          (lines_missing (map (λ x. x.now) lines) c.loop-i.file so_far (sym c.is_whole.ensures ∙ c.if-is_whole.false)),
    )
