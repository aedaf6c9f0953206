-- what was found is written, and what follows from that
use Rattle.grade_io.specs.Devices.{devices}
use Rattle.class_run.specs.Ends.{Ends}
use Rattle.class_run.specs.Views.{class_with}
use Rattle.class_run.proofs.Claiming.{done, long_refused, no_list}
use Rattle.class_run.proofs.Ending.{ends_so}
use Rattle.class_run.proofs.run.run_class.Goals as goal

pub returns : goal.returns
returns g c =
    let class = class_with c.args.files.now (g.G.Grader.tells c.args.grader.now) in
    let before = devices (g.S.Shelf.seen c.args.shelf.now) (g.K.Sink.seen c.args.out.now) in
    let after = devices (g.S.Shelf.seen c.find_entries-found.new.shelf) (g.K.Sink.seen c.tell.new.out) in
    let laws = c.one_listing.ensures in
    let ends : Ends class before after c.tell.result =
    ends_so class before after c.find_entries-found.result c.tell.result c.find_entries-found.ensures.found c.tell.ensures in
    record {
      ends = ends;
      calls = c.find_entries-found.ensures.calls;
      left = c.find_entries-found.ensures.left;
      done = λ t list names told listed. done class before after laws.list laws.stop laws.apart t list told names listed c.tell.result ends;
      no_list = λ t list line told stops. no_list class before after laws.list laws.stop laws.apart t list told line stops c.tell.result ends;
      long = λ ts r tells long. long_refused class before after laws.list laws.stop laws.apart ts r tells long c.tell.result ends;
    }
