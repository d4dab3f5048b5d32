-- Wrong choices between two sets are shut out.
use Prim.Native.Nat.{ℕ}
use mathlib.Core.Path.{◌≡◌, refl, sym, ap, ◌∙◌}
use mathlib.Core.List.{List, []}
use native.Mathlib.Omega.{arith}
use Rattle.misc.specs.declared.refusal.Refusal.{Refusal}
use Rattle.misc.specs.Refusal.{diverged}
use Rattle.misc.specs.Parse.{many, bytes_at, byte_at}
use Rattle.misc.specs.Body.{body_limit}
use Rattle.misc.specs.Le.{le_of, le_bytes, le_at}
use Rattle.misc.specs.Output.{output_of, answer_of}
use Rattle.packets.specs.Gno.{gno_top}
use Rattle.packets.proofs.Keys.{same_self}
use Rattle.previous_gtids_event.specs.Entry.{uuid_of, tag_of}
use Rattle.previous_gtids_event.specs.Previous.{tag_at, key_at, head_at, interval_at, entry_at, says_tagged, says_count, previous}
use Rattle.previous_gtids_event.specs.Rewrite.{intervals_bytes, entry_bytes, entries_bytes, any_tag, header_bytes, body_bytes}
use Rattle.gtid_sets.specs.Limits.{max_entries, max_intervals, max_of_entry, judged, limits}
use Rattle.gtid_sets.specs.Lent.{lent_set, SetLaid}
use Rattle.two_sets.specs.Answers.{which_answers}
use Rattle.two_sets.specs.declared.Choice.{Choice}
use Rattle.two_sets.specs.declared.Choice.TheVariants.{First, Second}
use Rattle.std.specs.Prelude.{Result, Ok, Err}
use Rattle.promises.specs.Heads.{HeadAnswer, ChoosesExactly, HandedBack, HandsExactly}
use Rattle.shut_out.specs.WrongOnes.{alone, first_of_two, longer_one, wants_more, second_of_equal, wants_common, equal_elsewhere}
use Rattle.promises.proofs.SetsExact.{apart}
use Rattle.promises.proofs.TwoSetsHold.{none-fine}
use Rattle.promises.proofs.HeadsHold.{chooses-exactly}

abbrev empty : List ℕ
empty = body_bytes []

-- what `which` comes to, and the wrong ones
record Computed : Type 0 where
  -- the empty set is in {1}, and not the other way round
  only-second : which_answers empty (alone 1) ≡ Ok Second
  first_said : first_of_two empty (alone 1) ≡ Ok First
  -- {1} and {2} have as many bytes
  neither : which_answers (alone 1) (alone 2) ≡ Err diverged
  as_long : longer_one (alone 1) (alone 2) ≡ Ok First
  -- equal sets, and empty ones
  equal : which_answers (alone 1) (alone 1) ≡ Ok First
  second-said : second_of_equal (alone 1) (alone 1) ≡ Ok Second
  both-empty : which_answers empty empty ≡ Ok First
  no_more : wants_more empty empty ≡ Err diverged
  -- {1} and the empty set
  one-empty : which_answers (alone 1) empty ≡ Ok First
  none-common : wants_common (alone 1) empty ≡ Err diverged

computed : Computed
unfolding output_of answer_of many bytes_at byte_at body_limit le_of le_bytes le_at gno_top uuid_of tag_of tag_at key_at head_at interval_at entry_at says_tagged says_count
    previous intervals_bytes entry_bytes entries_bytes any_tag header_bytes body_bytes max_entries max_intervals max_of_entry judged limits lent_set
computed = record {
  only-second = refl;
  first_said = refl;
  neither = refl;
  as_long = refl;
  equal = refl;
  second-said = refl;
  both-empty = refl;
  no_more = refl;
  one-empty = refl;
  none-common = refl;
}

-- a call that answers exactly by the cases answers as `which` does
module _ {f : List ℕ → List ℕ → Result Choice Refusal} (exactly : ChoosesExactly f) (first second : List ℕ) where
  says-ours : {r : Result Choice Refusal} → f first second ≡ r → which_answers first second ≡ r
  says-ours {r} e = (chooses-exactly first second r).1 ((exactly first second r).0 e)

pub first-of-two-out : ChoosesExactly first_of_two → ⊥
first-of-two-out exactly =
    let e : Ok Second ≡ Ok First = sym computed.only-second ∙ says-ours exactly empty (alone 1) computed.first_said in
    apart cc

pub longer-one-out : ChoosesExactly longer_one → ⊥
longer-one-out exactly =
    let e : Err diverged ≡ Ok First = sym computed.neither ∙ says-ours exactly (alone 1) (alone 2) computed.as_long in
    apart cc

pub wants-more-out : ChoosesExactly wants_more → ⊥
wants-more-out exactly =
    let e : Ok First ≡ Err diverged = sym computed.both-empty ∙ says-ours exactly empty empty computed.no_more in
    apart cc

pub second-of-equal-out : ChoosesExactly second_of_equal → ⊥
second-of-equal-out exactly =
    let e : Ok First ≡ Ok Second = sym computed.equal ∙ says-ours exactly (alone 1) (alone 1) computed.second-said in
    apart cc

pub wants-common-out : ChoosesExactly wants_common → ⊥
wants-common-out exactly =
    let e : Ok First ≡ Err diverged = sym computed.one-empty ∙ says-ours exactly (alone 1) empty computed.none-common in
    apart cc

-- the same bytes in two places
pub equal-elsewhere-out : HandsExactly equal_elsewhere → ⊥
equal-elsewhere-out exactly =
    let laid : SetLaid empty [] = record { written = refl; formed = tt; keyed = tt; limited = none-fine } in
    let (_, stands) = (exactly empty empty (0, 0) (0, 1) empty (0, 0)).1 (HandedBack.first (HeadAnswer.first laid laid (λ k n here. here))) in
    let elsewhere : ◌≡◌ {A = ℕ × ℕ} (0, 1) (0, 0) = rw (same_self empty) at stands in
    let differs : ◌≡◌ {A = ℕ} 1 0 = ap (λ (p : ℕ × ℕ). p.1) elsewhere in
    absurd (omega arith)
