-- Wrong reports are shut out, and an offer whose answers don't count what it adds.
use Prim.Native.Nat.{ℕ, ◌*◌, ◌-◌, ◌^◌}
use mathlib.Core.Path.{◌≡◌, refl, ap}
use mathlib.Core.List.{List, [], ◌∷◌}
use native.Mathlib.Omega.{arith}
use lib.ListN.{length, replicate}
use Rattle.misc.specs.Parse.{many, bytes_at, byte_at}
use Rattle.misc.specs.Body.{body_limit}
use Rattle.misc.specs.Le.{le_of, le_bytes, le_at}
use Rattle.misc.specs.Output.{output_of}
use Rattle.packets.specs.Gno.{gno_top}
use Rattle.previous_gtids_event.specs.Entry.{uuid_of, tag_of}
use Rattle.previous_gtids_event.specs.Previous.{tag_at, key_at, head_at, interval_at, entry_at, says_tagged, says_count, previous}
use Rattle.previous_gtids_event.specs.Rewrite.{intervals_bytes, entry_bytes, entries_bytes, any_tag, header_bytes, body_bytes}
use Rattle.gtid_sets.specs.Limits.{max_entries, max_intervals, max_of_entry, judged, limits}
use Rattle.gtid_sets.specs.Lent.{form, lent_set}
use Rattle.gtid_sets.specs.Total.{total}
use Rattle.gtid_sets.proofs.LentLaws.{lent_is}
use Rattle.report.specs.Report.{high_word, low_word, max_sets}
use Rattle.report.specs.declared.Line.{Line}
use Rattle.resume_set_laws.specs.History.{kept_all, Turn, comes_to, lent_number, CountsTaken}
use Rattle.promises.specs.Reports.{lent_sum, no_numbers, AddAnswer, ReportsExactly, our_report}
use Rattle.shut_out.specs.WrongOnes.{copies_its_set, alone, all_numbers, loses_carry, counts_once, counts_refused, forgets_refused, reads_on, tells_no_numbers}
use Rattle.promises.proofs.ReportsHold.{report-holds}

-- what the sums and answers come to
record Computed : Type 0 where
  -- three sets of 2^63 - 2 ids pass 2^64
  thrice : lent_sum total (all_numbers ∷ all_numbers ∷ all_numbers ∷ []) ≡ 3 * (2 ^ 63 - 2)
  carry-lost : (loses_carry.sums (all_numbers ∷ all_numbers ∷ all_numbers ∷ [])).high ≡ 0
  -- {1} twice
  twice : lent_sum length (alone 1 ∷ alone 1 ∷ []) ≡ 2
  once : (counts_once.sums (alone 1 ∷ alone 1 ∷ [])).entries ≡ 1
  -- no bytes at all
  refused : lent_sum length ([] ∷ []) ≡ 0
  counted : (counts_refused.sums ([] ∷ [])).entries ≡ 1
  forgotten : (forgets_refused.answers (replicate 64 []) (alone 1)).refusal ≡ 0
  -- {1} has one entry
  one : (our_report.answers [] (alone 1)).entries ≡ 1
  read : (reads_on.answers (replicate 64 []) []).refusal ≡ 14

computed : Computed
unfolding many bytes_at byte_at body_limit le_of le_bytes le_at gno_top uuid_of tag_of tag_at key_at head_at interval_at entry_at says_tagged says_count previous
    intervals_bytes entry_bytes entries_bytes any_tag header_bytes body_bytes max_entries max_intervals max_of_entry judged limits lent_set high_word low_word max_sets
computed = record {
  thrice = refl;
  carry-lost = refl;
  twice = refl;
  once = refl;
  refused = refl;
  counted = refl;
  forgotten = refl;
  one = refl;
  read = refl;
}

pub loses-carry-out : ReportsExactly loses_carry → ⊥
loses-carry-out h =
    let sets = all_numbers ∷ all_numbers ∷ all_numbers ∷ [] in
    omega (arith, h.sum_ids sets (omega arith), h.words sets (omega arith), computed.thrice, computed.carry-lost)

pub counts-once-out : ReportsExactly counts_once → ⊥
counts-once-out h = omega (arith, h.sum_entries (alone 1 ∷ alone 1 ∷ []) (omega arith), computed.twice, computed.once)

pub counts-refused-out : ReportsExactly counts_refused → ⊥
counts-refused-out h = omega (arith, h.sum_entries ([] ∷ []) (omega arith), computed.refused, computed.counted)

-- behind 64 of whatever, 11
eleven : (set : List ℕ) → AddAnswer (replicate 64 []) set (no_numbers 11)
eleven set = AddAnswer.full (omega arith)

pub forgets-refused-out : ReportsExactly forgets_refused → ⊥
forgets-refused-out h =
    omega (arith, ap (λ (l : Line). l.refusal) ((h.answers (replicate 64 []) (alone 1) (no_numbers 11)).1 (eleven (alone 1))), computed.forgotten)

pub reads-on-out : ReportsExactly reads_on → ⊥
reads-on-out h = omega (arith, ap (λ (l : Line). l.refusal) ((h.answers (replicate 64 []) [] (no_numbers 11)).1 (eleven [])), computed.read)

pub tells-no-numbers-out : ReportsExactly tells_no_numbers → ⊥
tells-no-numbers-out h =
    let right = (report-holds.answers [] (alone 1) (our_report.answers [] (alone 1))).0 refl in
    omega (arith, ap (λ (l : Line). l.entries) ((h.answers [] (alone 1) (our_report.answers [] (alone 1))).1 right), computed.one)

-- ---- an offer that says "taken" and adds nothing

abbrev nothing : Turn
nothing = record { type = 0; body = []; out = replicate 8 0 }

empty-lent : lent_set (body_bytes []) ≡ form []
unfolding many bytes_at byte_at body_limit le_of le_bytes le_at says_tagged says_count previous entries_bytes any_tag header_bytes body_bytes max_entries max_intervals
    judged limits lent_set
empty-lent = refl

copied : lent_number total (lent_set (kept_all (comes_to copies_its_set) (body_bytes []) (nothing ∷ []))) ≡ 0
unfolding many bytes_at byte_at body_limit le_of le_bytes le_at says_tagged says_count previous entries_bytes any_tag header_bytes body_bytes max_entries max_intervals
    judged limits lent_set output_of
copied = refl

pub copies-uncounted-out : CountsTaken copies_its_set → ⊥
copies-uncounted-out h = omega (arith, h (body_bytes []) [] (nothing ∷ []) (lent_is (body_bytes []) [] empty-lent) ((λ i. omega arith), tt), copied)
