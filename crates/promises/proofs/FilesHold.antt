-- The statements of `specs/Files.antt` together.
use Prim.Native.Nat.{ℕ}
use mathlib.Core.Path.{◌≡◌, refl, sym, ◌∙◌}
use mathlib.Core.Bool.{Bool, or-false}
use mathlib.Core.List.{List}
use lib.ListN.{length}
use borrow.Author.Tests.{ne_eqb}
use Rattle.gtid_sets.specs.Set.{has}
use Rattle.resume_set_laws.proofs.AnyRun.{Keeps, EachKeeps, tells-from}
use Rattle.binlog.specs.Run.{Done, did, fails}
use Rattle.binlog_reader.specs.Does.{Judged, does}
use Rattle.binlog_reader.specs.Step.{Stepped, said_at, begins_at, begin_answers}
use Rattle.binlog_reader.specs.declared.Said.{Said}
use Rattle.binlog_reader.specs.declared.Said.TheVariants.{MoreWanted, Ended, Event, Refused}
use Rattle.binlog_laws.specs.Files.{file_comes}
use Rattle.binlog_laws.proofs.OneEvent.{event-grows}
use Rattle.binlog_laws.proofs.LoopLaws.{begin-stands, drives-hears}
use Rattle.binlog_laws.proofs.Onward as steps
use Rattle.binlog_laws.proofs.Tells.{files-tell}
use Rattle.binlog_laws.proofs.Again.{files-again}
use Rattle.abi.specs.FlatBinlog.{said_numbers, flat_step, flat_buffer}
use Rattle.abi.proofs.FlatBinlogLaws.{no_reader, kept-told}
use Rattle.abi.proofs.FlatBinlogBack.{keeps-back}
use Rattle.promises.specs.SetFaults.{SetFault}
use Rattle.promises.specs.Exact.{RefusesExactly}
use Rattle.promises.specs.Files.{TurnBytes, refusal_in, ArchiveReads, Files}
use Rattle.promises.proofs.SetsExact.{set-exact}
use Rattle.promises.proofs.FileEvents.{events-judged}
use Rattle.promises.proofs.FileReads.{reads-files}
use Rattle.promises.proofs.FileSteps.{steps-refuse}

-- demand 3, of events however they came
each_keeps : (room : ℕ) → EachKeeps TurnBytes (file_comes room)
each_keeps room set s t lent ok = go (does room set t.type t.body) refl
  where
    go : (d : Done (List ℕ) Judged) → does room set t.type t.body ≡ d → Keeps (file_comes room) set s t
    go (did j next) h =
        let g = event-grows room set s t.type t.body j next lent ok h in
        record { next = g.grown; lent = rw h g.lent; members = λ k n. rw h (g.members k n) }
    go (fails r n) h = record { next = s; lent = rw h lent; members = λ k n. rw h (sym (or-false (has s k n))) }

begin-exactly : (set : List ℕ) (checksums : Bool) → RefusesExactly (refusal_in (begin_answers set checksums).said) (SetFault set)
begin-exactly set checksums = set-exact (λ l. refusal_in (said_at (begins_at l))) set refl (λ s. refl)

-- the archive's reader

refusal-said : (said : Said) → (said_numbers said).refusal ≡ refusal_in said
refusal-said MoreWanted = refl
refusal-said Ended = refl
refusal-said (Event t type n) = refl
refusal-said (Refused r n) = refl

no_buffer : (bs buffer : List ℕ) (s : Stepped) → (length bs ≡ 48 → ⊥) → flat_buffer bs buffer s ≡ buffer
unfolding flat_buffer
no_buffer bs buffer s other = rw (ne_eqb (length bs) 48 other)

archive-reads : ArchiveReads
archive-reads = record {
  no_reader = λ bs a other. let (says, keeps) = no_reader bs other a in (sym says, sym keeps);
  untouched = no_buffer;
  says = λ bs a long. sym (kept-told bs long a a (flat_step a) (said_numbers a.said).refusal refl (refl, refl)).0 ∙ refusal-said a.said;
  back = λ bs a long left have len. (keeps-back a bs long (record { left-fits = left; have-fits = have; len-fits = len })).1;
}

pub files : Files
files = record {
  events = events-judged;
  reads = reads-files;
  tells = files-tell;
  again = files-again;
  events_tell = λ room. tells-from TurnBytes (file_comes room) (each_keeps room);
  begin = begin-exactly;
  begins = begin-stands;
  loop = drives-hears;
  refuses = steps-refuse;
  onward = steps.onward;
  archive = archive-reads;
}
