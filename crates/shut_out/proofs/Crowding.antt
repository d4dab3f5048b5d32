-- Offers to an entry that has as many intervals as one may have: an id that stands apart is 17, one that joins two is taken. Wrong offers are
-- shut out by that.
use Prim.Native.Nat.{ℕ, zero, suc, ◌+◌, ◌≤◌}
use mathlib.Core.Path.{◌≡◌, refl, sym, ap, ◌∙◌}
use mathlib.Core.Bool.{false}
use mathlib.Core.List.{List, [], ◌∷◌}
use native.Mathlib.Omega.{arith}
use lib.ListN.{length, replicate, length-replicate}
use Rattle.misc.specs.declared.refusal.WriteError.TheVariants.{Refused}
use Rattle.misc.specs.Refusal.{full, crowded}
use Rattle.misc.specs.Parse.{Bytes, parsed, bytes_at, byte_at}
use Rattle.misc.specs.Body.{body_limit}
use Rattle.misc.specs.Le.{le_of, le_at}
use Rattle.packets.specs.Gno.{gno_top}
use Rattle.packets.specs.Key.{Key}
use Rattle.previous_gtids_event.specs.Entry.{Entry}
use Rattle.previous_gtids_event.specs.Rewrite.{body_bytes}
use Rattle.gtid_event_read.specs.Untagged.{opening_at, untagged}
use Rattle.gtid_event_read.specs.Seen.{untagged_seen}
use Rattle.gtid_event_read.specs.Read as read
use Rattle.gtid_event_read.specs.Read.{seen}
use Rattle.gtid_sets.specs.Set.{has, add}
use Rattle.gtid_sets.specs.Limits.{fine, limits, longest_set, EntryOver, max_entries, max_intervals, max_of_entry, judged}
use Rattle.gtid_sets.specs.Lent.{GoodKeys}
use Rattle.gtid_sets.proofs.LentLaws.{longest, good-join}
use Rattle.resume_set.specs.Answers.{event_of}
use Rattle.resume_set.specs.declared.Offered.TheVariants.{Taken}
use Rattle.resume_set_laws.specs.History.{Turn, Offering}
use Rattle.resume_set_laws.specs.Ours.{ours}
use Rattle.std.specs.Prelude.{Ok, Err}
use Rattle.promises.specs.SetFaults.{Names, Accepts, OfferFault, OfferAnswer}
use Rattle.promises.specs.Exact.{OffersExactly}
use Rattle.shut_out.specs.WrongOnes.{renumbered, says_full, as_taken, says_taken, crowded_early}
use Rattle.promises.proofs.LimitsExact.{entry_limit}
use Rattle.promises.proofs.AtLimits.{spread, uuids-good, entry_full, entry-full}
use Rattle.promises.proofs.Demand2.{records-mean}
use Rattle.promises.proofs.SetsExact.{apart, offers-exactly}
use Rattle.shut_out.proofs.ShutOut.{body_of, body_of-bytes, small-1, named, laid-1, offer}

abbrev zeros : Key
zeros = replicate 16 0

new : has entry_full zeros 1 ≡ false
unfolding spread
new = refl

over-one-entry : EntryOver 1024 (add zeros 1 entry_full)
unfolding spread max_entries max_intervals max_of_entry judged limits
over-one-entry = (entry_limit (add zeros 1 entry_full)).0 refl

named-1 : Names 33 (body_of 1) (named 1)
named-1 = record { present = replicate 12 false; used = 25; laid = laid-1; named = λ is. omega arith; sent = λ is. absurd (omega arith) }

-- gno 1, which stands apart, is 17 there, whatever the output
crowded-fault : (room : ℕ) → OfferFault (body_bytes entry_full) 33 (body_of 1) room 17 0
unfolding gno_top
crowded-fault room = OfferFault.crowded_entry {e = named 1} entry-full named-1 refl new over-one-entry

pub refuses-crowded : (f : Offering) → OffersExactly f → f.answers (body_bytes entry_full) (offer 1 48) ≡ Err (Refused crowded)
refuses-crowded f exactly =
    ((exactly (body_bytes entry_full) (offer 1 48) (Err (Refused crowded)) (offer 1 48).out (body_of-bytes 1 small-1)).1
    (OfferAnswer.refused (crowded-fault _))).0

-- ---- gno 4, between the first two, joins them: it is taken, where there is room

between : has entry_full zeros 4 ≡ false
unfolding spread
between = refl

small-4 : Bytes (4 ∷ [])
small-4 zero = omega arith
small-4 (suc i) = omega arith

read-4 : seen 33 (body_of 4) ≡ parsed (untagged_seen (named 4)) 25
unfolding seen body_limit untagged opening_at byte_at bytes_at le_at le_of
read-4 = refl

named-4 : Names 33 (body_of 4) (named 4)
named-4 = record {
  present = replicate 12 false;
  used = 25;
  laid = (records-mean 33 (body_of 4) (untagged_seen (named 4)) 25 (body_of-bytes 4 small-4)).0 read-4;
  named = λ is. omega arith;
  sent = λ is. absurd (omega arith);
}

pub joined : List Entry
joined = add zeros 4 entry_full

joined-fine : limits joined ≡ fine
unfolding joined spread max_entries max_intervals max_of_entry judged limits
joined-fine = refl

takes : Accepts entry_full 33 (body_of 4) Taken joined
unfolding gno_top joined
takes = Accepts.taken {e = named 4} named-4 refl between joined-fine

abbrev roomy : Turn
roomy = record { type = 33; body = body_of 4; out = replicate longest_set 0 }

joined-keyed : GoodKeys joined
unfolding joined
joined-keyed = let good = uuids-good 0 (spread 1024 3 1 ∷ []) in good-join zeros 4 5 entry_full good.0 good

pub takes-joined : (f : Offering) → OffersExactly f → f.answers (body_bytes entry_full) roomy ≡ Ok (Taken (length (body_bytes joined)))
takes-joined f exactly =
    let room : length (body_bytes joined) ≤ length roomy.out =
    omega (arith, longest joined joined-keyed joined-fine, length-replicate {A = ℕ} longest_set 0) in
    ((exactly (body_bytes entry_full) roomy (Ok (Taken (length (body_bytes joined)))) _ (body_of-bytes 4 small-4)).1
    (OfferAnswer.accepted entry-full takes room)).0

-- ---- wrong offers

-- one that says 16 to gno 1
pub says-full-out : OffersExactly says_full → ⊥
says-full-out exactly =
    let two : Err (Refused full) ≡ Err (Refused crowded) =
    sym (ap (renumbered crowded full) (refuses-crowded ours offers-exactly)) ∙ refuses-crowded says_full exactly in
    apart cc

-- one that says "taken"
pub says-taken-out : OffersExactly says_taken → ⊥
says-taken-out exactly =
    let size : ℕ = length (body_bytes entry_full) + 16 in
    let two : Ok (Taken size) ≡ Err (Refused crowded) =
    sym (ap (as_taken size) (refuses-crowded ours offers-exactly)) ∙ refuses-crowded says_taken exactly in
    apart cc

-- one that says 17 to gno 4
early-says : crowded_early.answers (body_bytes entry_full) roomy ≡ Err (Refused crowded)
unfolding event_of read.named seen body_limit untagged opening_at byte_at bytes_at le_at le_of
early-says = refl

pub crowded-early-out : OffersExactly crowded_early → ⊥
crowded-early-out exactly =
    let two : Ok (Taken (length (body_bytes joined))) ≡ Err (Refused crowded) = sym (takes-joined crowded_early exactly) ∙ early-says in
    apart cc
