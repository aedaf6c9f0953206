-- How a class ends, from what was found of it and what was written.
use Rattle.std.proofs.Common.{◌≡◌, sym, ap, subst, inl, inr, Ok, Err, map}
use Rattle.grade_io.specs.Devices.{Devices, SinkState}
use Rattle.file_commands.specs.Ends.{IsSilent}
use Rattle.class_text.specs.EntryViews.{entry_of}
use Rattle.class_run.specs.declared.status.ClassStatus.{ClassStatus}
use Rattle.class_run.specs.declared.status.ClassStatus.TheVariants as status
use Rattle.class_run.specs.declared.stop.ClassStop.TheVariants as class
use Rattle.class_run.specs.Classes.{Class}
use Rattle.class_run.specs.Ends.{Ends, EndsBySaying}
use Rattle.class_run.specs.Outcomes.{Outcome, Graded, LongFile, NoList, Comes, status_of, text_of}
use Rattle.class_run.specs.Says.{Says}
use Rattle.class_run.specs.Stops.{Found, IsFound, IsTold}

no_read : (o : Outcome) → status.ReadFailed ≡ status_of o → ⊥
no_read (Graded xs) e = cc
no_read (LongFile r) e = cc
no_read (NoList line) e = cc

no_usage : (o : Outcome) → status.Usage ≡ status_of o → ⊥
no_usage (Graded xs) e = cc
no_usage (LongFile r) e = cc
no_usage (NoList line) e = cc

silent : (before after : SinkState) → after ≡ before → IsSilent before after
silent before after same = record { written = ap (λ (x : SinkState). x.written) same; still = ap (λ (x : SinkState). x.faults) same }

module _ (c : Class) (before after : Devices) where
  saying : (o : Outcome) (s : ClassStatus) → Comes c before.shelf after.shelf o → Says (text_of c.files o) (status_of o) before.sink after.sink s → EndsBySaying c before after s
  saying o s comes says = record { outcome = o; comes = comes; says = says }

  said : (o : Outcome) (s : ClassStatus) → Comes c before.shelf after.shelf o → Says (text_of c.files o) (status_of o) before.sink after.sink s → Ends c before after s
  said o status.Done comes says = saying o status.Done comes says
  said o status.Refused comes says = saying o status.Refused comes says
  said o status.ReadFailed comes says = absurd (no_read o says.0)
  said o status.WriteFailed comes says = saying o status.WriteFailed comes says
  said o status.NoMemory comes says = inr (saying o status.NoMemory comes says)
  said o status.Usage comes says = absurd (no_usage o says.0)

  pub ends_so : (found : Found) (s : ClassStatus) → IsFound c found before.shelf after.shelf → IsTold c.files found before.sink after.sink s → Ends c before after s
  ends_so (Ok v) s is told = said (Graded (map entry_of v.items)) s is told
  ends_so (Err (class.LongFile r)) s is told = said (LongFile r) s is told
  ends_so (Err (class.NoList line)) s is told = said (NoList line) s is told
  ends_so (Err class.Failed) s is told =
      subst (Ends c before after) (sym told.0) (record { rose = is.rose; calls = is.calls; silent = silent before.sink after.sink told.1 })
  ends_so (Err class.NoMemory) s is told =
      subst (Ends c before after) (sym told.0) (inl (record { well = is; silent = silent before.sink after.sink told.1 }))
