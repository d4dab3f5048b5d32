-- A reader with its lent bytes stands for a place and a set after the end was named too.
use Prim.Native.Nat.{ℕ}
use mathlib.Core.Path.{◌≡◌, refl, ap, ◌∙◌}
use mathlib.Core.Bool.{false}
use mathlib.Core.List.{List, [], ◌∷◌}
use Rattle.binlog.specs.Place.{Place, opening, heading, inside, passing, whole, ended, stopped}
use Rattle.binlog.specs.Run.{end_of}
use Rattle.binlog.specs.Walk.{is_whole}
use Rattle.binlog.specs.declared.Phase.{Phase}
use Rattle.binlog.specs.declared.Phase.TheVariants as phase
use Rattle.binlog.proofs.EndLaws.{end-place-room}
use Rattle.binlog_reader.specs.Step.{said_in, end_answers_of}
use Rattle.binlog_reader.specs.declared.Said.{Said}
use Rattle.binlog_reader.specs.declared.Answer.{Answer}
use Rattle.binlog_laws.specs.Loop.{Lending, EndsTo, events_said}
use Rattle.binlog_laws.proofs.Standing.{StandsAt}

end-between : (p : Place) → is_whole p ≡ false → is_whole (end_of p) ≡ false
end-between (opening n) h = refl
end-between (heading []) h = refl
end-between (heading (b ∷ came)) h = refl
end-between (inside type n came) h = refl
end-between (passing n) h = refl
end-between (whole type body) h = h
end-between ended h = refl
end-between (stopped r n) h = refl

pub quiet-in : (p : Phase) (said : List Said) → events_said (said_in p ∷ said) ≡ events_said said
quiet-in (phase.Opening n) said = refl
quiet-in (phase.Header have) said = refl
quiet-in (phase.Body type left have) said = refl
quiet-in (phase.Skip left) said = refl
quiet-in (phase.Whole type have) said = refl
quiet-in phase.Ended said = refl
quiet-in (phase.Stopped r n) said = refl

pub end-stands : (room t : ℕ) (m m' : Lending) (r : Answer) (p : Place) (kept : List ℕ) → StandsAt room t m p kept → EndsTo m r m'
    → StandsAt room t m' (end_of p) kept
end-stands room t m m' r p kept s to =
    let is : m' ≡ record { reader = (end_answers_of m.reader).reader; work = m.work; set = m.set; spare = m.spare } = to.is ∙ rw to.answers in
    rw is (record {
      trails = s.trails;
      between = end-between p s.between;
      stands = end-place-room m.reader.phase m.work s.work ∙ ap end_of s.stands;
      front = s.front;
      work = s.work;
      rooms = s.rooms;
    })
