-- The words ask for one class, and for none where they have another form.
use Rattle.std.proofs.Common.{ℕ, List, codes, map, subst}
use Rattle.std.specs.String.{string_bytes}
use Rattle.grade_io.specs.Devices.{devices}
use Rattle.grade_io.specs.Words.{refusal_line}
use Rattle.mpy_tree.specs.Refusals.{refusal_text}
use Rattle.class_run.specs.declared.status.ClassStatus.TheVariants as status
use Rattle.source_files.specs.Files.{sources_of}
use Rattle.source_files.specs.Texts.{IsTooLong, Tells}
use Rattle.class_run.specs.Claims.{AreTold, IsDone, IsSaid}
use Rattle.class_run.specs.Classes.{files_of, word_of}
use Rattle.class_run.specs.Ends.{Ends}
use Rattle.class_run.specs.Says.{Says}
use Rattle.class_core.specs.Gradings.{class_of}
use Rattle.class_core.specs.Requests.{words_of}
use Rattle.class_core.specs.Words.{Asks, ClassWords}
use Rattle.class_core.proofs.FiveWords.{one_asked}
use Rattle.class_core.proofs.top.class_top.Goals as goal

pub returns-in-Some-clause-ends : goal.returns-in-Some-clause-ends
returns-in-Some-clause-ends g c = λ w asks.
    let mine = words_of c.in-Some.words in
    let found : Asks (map string_bytes c.args.words.now.items) mine = rw c.deref.ensures.value at c.in-Some.ensures.found in
    subst (λ v. Ends (class_of v) (devices (g.S.Shelf.seen c.args.shelf.now) (g.K.Sink.seen c.args.out.now)) (devices (g.S.Shelf.seen c.run_class.new.shelf) (g.K.Sink.seen c.run_class.new.out)) c.run_class.result)
    (one_asked (map string_bytes c.args.words.now.items) mine w found asks) c.run_class.ensures.ends

pub returns-in-Some-clause-no_form : goal.returns-in-Some-clause-no_form
returns-in-Some-clause-no_form g c = λ none.
    let found : Asks (map string_bytes c.args.words.now.items) (words_of c.in-Some.words) = rw c.deref.ensures.value at c.in-Some.ensures.found in
    absurd (none (words_of c.in-Some.words) found)

pub returns-in-Some-clause-untouched : goal.returns-in-Some-clause-untouched
returns-in-Some-clause-untouched g c = λ none.
    let found : Asks (map string_bytes c.args.words.now.items) (words_of c.in-Some.words) = rw c.deref.ensures.value at c.in-Some.ensures.found in
    absurd (none (words_of c.in-Some.words) found)

pub returns-in-Some-clause-done : goal.returns-in-Some-clause-done
returns-in-Some-clause-done g c = λ w t list names asks told listed.
    let mine = words_of c.in-Some.words in
    let found : Asks (map string_bytes c.args.words.now.items) mine = rw c.deref.ensures.value at c.in-Some.ensures.found in
    let before = devices (g.S.Shelf.seen c.args.shelf.now) (g.K.Sink.seen c.args.out.now) in
    let after = devices (g.S.Shelf.seen c.run_class.new.shelf) (g.K.Sink.seen c.run_class.new.out) in
    subst (λ (v : ClassWords). AreTold (class_of v).files (g.S.Shelf.seen c.args.shelf.now) t list → IsDone (class_of v) t names before after c.run_class.result)
    (one_asked (map string_bytes c.args.words.now.items) mine w found asks) (λ h. c.run_class.ensures.done t list names h listed) told

pub returns-in-Some-clause-no_list : goal.returns-in-Some-clause-no_list
returns-in-Some-clause-no_list g c = λ w t list line asks told stops.
    let mine = words_of c.in-Some.words in
    let found : Asks (map string_bytes c.args.words.now.items) mine = rw c.deref.ensures.value at c.in-Some.ensures.found in
    let before = devices (g.S.Shelf.seen c.args.shelf.now) (g.K.Sink.seen c.args.out.now) in
    let after = devices (g.S.Shelf.seen c.run_class.new.shelf) (g.K.Sink.seen c.run_class.new.out) in
    subst (λ (v : ClassWords). AreTold (class_of v).files (g.S.Shelf.seen c.args.shelf.now) t list
    → IsSaid (refusal_line v.list line (codes "Listing")) status.Refused before after c.run_class.result)
    (one_asked (map string_bytes c.args.words.now.items) mine w found asks) (λ h. c.run_class.ensures.no_list t list line h stops) told

pub returns-in-Some-clause-long : goal.returns-in-Some-clause-long
returns-in-Some-clause-long g c = λ w ts r asks tells long.
    let mine = words_of c.in-Some.words in
    let found : Asks (map string_bytes c.args.words.now.items) mine = rw c.deref.ensures.value at c.in-Some.ensures.found in
    let before = devices (g.S.Shelf.seen c.args.shelf.now) (g.K.Sink.seen c.args.out.now) in
    let after = devices (g.S.Shelf.seen c.run_class.new.shelf) (g.K.Sink.seen c.run_class.new.out) in
    subst (λ (v : ClassWords). Tells (g.S.Shelf.seen c.args.shelf.now) (files_of (class_of v).files) ts → IsTooLong (sources_of (files_of (class_of v).files)) ts r
    → IsSaid (refusal_text (word_of (class_of v).files r.source) r) status.Refused before after c.run_class.result)
    (one_asked (map string_bytes c.args.words.now.items) mine w found asks) (λ a b. c.run_class.ensures.long ts r a b) tells long

pub returns-in-None-clause-no_form : goal.returns-in-None-clause-no_form
returns-in-None-clause-no_form g c = λ none.
    subst (λ (t : List ℕ). Says t status.Usage (g.K.Sink.seen c.args.out.now) (g.K.Sink.seen c.say.new.out) c.say.result) c.as_bytes.ensures.value c.say.ensures
